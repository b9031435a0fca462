use Rattle.std.proofs.Common.{◌≡◌, ◌<◌, ℕ, sym, ◌∙◌, ap, arith}
use Rattle.sig_types.proofs.Lists.{eq-true}
use Rattle.sig_tables.specs.declared.plan.Plan.{Plan}
use Rattle.sig_tables.specs.declared.tables.Tables.{Tables}
use Rattle.sig_tables.specs.Slots.{cycle_time, window}
use Rattle.sig_tables.specs.Plan.{plan_of}
use Rattle.sig_tables.specs.Counting.{Correction, next_counter}
use Rattle.sig_tables.specs.Counters.{correction_of, counters_since}
use Rattle.sig_tables.specs.Looking.{last_frame}
use Rattle.coord_count.specs.Limits.{correction_in}
use Rattle.tick_context.proofs.Counted.{step-version, window-within}
use Rattle.tick_context.proofs.Steps.{coord-step, coord-defined}
use Rattle.tick_context.proofs.context.TickContext.counter_on.Goals as goal

pub returns-then-counter-self : goal.returns-then-counter-self
returns-then-counter-self c = record {
  counter = λ past n k s b e.
      let step = coord-step past n e in
      let counts = s n step in
      c.next.ensures.next (counters_since n past.version past.moments) counts.stands
      ∙ ap (λ (x : Correction). next_counter x (counters_since n past.version past.moments) c.args.target)
      (ap (λ (x : Plan). correction_in x c.of.result) (b.plan ∙ ap (λ (t : Tables). plan_of t n) (sym k.tables)) ∙ c.of.ensures.corrects n
      ∙ ap (λ (t : Tables). correction_of t n) k.tables)
      ∙ ap (λ (v : ℕ). next_counter (correction_of past.tables n) (counters_since n v past.moments) c.args.target)
      (sym (eq-true (last_frame past.moments).version past.version (step-version n past.version past.moments step)));
  within = λ past n k s b e.
      let is_cycle : c.args.self.now.active_pattern.plan.cycle ≡ cycle_time past.tables n = ap (λ (x : Plan). x.cycle) b.plan in
      let is_window : c.args.self.now.active_pattern.plan.window ≡ window past.tables n = ap (λ (x : Plan). x.window) b.plan in
      let few : window past.tables n < cycle_time past.tables n = window-within past.tables n (coord-defined past n e) in
      let below : c.next.result < c.args.self.now.active_pattern.plan.cycle = c.next.ensures.within (omega arith) in
      omega arith;
}

pub returns-else-counter-self : goal.returns-else-counter-self
returns-else-counter-self c = record {
  counter = λ past n k s b e.
      let is_cycle : c.args.self.now.active_pattern.plan.cycle ≡ cycle_time past.tables n = ap (λ (x : Plan). x.cycle) b.plan in
      let within = (s n (coord-step past n e)).within in
      let kept = c.counter.ensures.kept in
      absurd (omega arith);
  within = λ past n k s b e.
      let is_cycle : c.args.self.now.active_pattern.plan.cycle ≡ cycle_time past.tables n = ap (λ (x : Plan). x.cycle) b.plan in
      let within = (s n (coord-step past n e)).within in
      let kept = c.counter.ensures.kept in
      absurd (omega arith);
}
