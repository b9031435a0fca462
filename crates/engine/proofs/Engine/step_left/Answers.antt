use Rattle.std.proofs.Common.{◌≡◌, ◌<◌, ◌+◌, ℕ, refl, sym, ◌∙◌, ap, arith, subst, inl, inr}
use Rattle.sig_types.specs.declared.frame.Frame.{Frame}
use Rattle.sig_tables.specs.declared.tables.Tables.{Tables}
use Rattle.sig_tables.specs.Slots.{is_defined, cycle_time}
use Rattle.sig_tables.specs.Seen.{frame_seen, moment_seen}
use Rattle.tick_context.proofs.InStep.{backup-left}
use Rattle.engine.proofs.Engine.step_left.Goals as goal

pub returns-else-not-is_over-clause-left : goal.returns-else-not-is_over-clause-left
returns-else-not-is_over-clause-left g c = λ past k keeps b fresh even some within.
    let mine : c.command.result ≡ (moment_seen past).command = c.command.ensures.command past keeps.context.unit_commands ∙ rw fresh.commanded refl in
    let command : (moment_seen past).command ≡ c.args.pattern = sym mine ∙ omega arith in
    let counter : c.args.self.now.context.frame.counter ≡ (frame_seen past).counter = ap (λ (f : Frame). f.counter) keeps.context.frame in
    let clock : c.args.self.now.context.unit_commands.clock ≡ (moment_seen past).clock = keeps.context.unit_commands.clock ∙ rw fresh.clock_set refl in
    let enough : 0 < c.counter_left.result = omega (arith, some, within) in
    let ticks : c.ticks.result ≡ (moment_seen past).number = c.ticks.ensures.ticks ∙ keeps.context.unit_commands.ticks in
    record {
      defined = ap (λ (t : Tables). is_defined t c.args.pattern) (sym keeps.context.tables) ∙ (sym c.is_defined.ensures ∙ c.if-not-is_defined.false);
      command = command;
      backup = backup-left c.args.self.now.context.unit_commands c.args.self.now.context.tables past k c.args.pattern keeps.context.unit_commands keeps.context.tables fresh command
          (sym c.is_defined.ensures ∙ c.if-not-is_defined.false) even;
      day = omega (arith, clock, even.clock);
      gain = sym keeps.context.unit_commands.gain ∙ even.gain;
      lose = sym keeps.context.unit_commands.lose ∙ even.lose;
      cycle = subst (λ (x : ℕ). x + k < cycle_time past.tables c.args.pattern) counter (c.counter_left.ensures.cycle past c.args.pattern k b some within);
      even = elim (c.counter_left.ensures.even past c.args.pattern keeps.context b fresh enough) [
        | inl late ↦ inl (omega (arith, late, counter))
        | inr on ↦ inr (on ∙ counter)
      ];
      unasked = λ number later. c.is_over.ensures.over past past.tables c.args.pattern number keeps.context.requests c.if-not-is_over.false
          (omega (arith, ticks, later));
    }
