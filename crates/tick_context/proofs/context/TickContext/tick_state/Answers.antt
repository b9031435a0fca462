use Rattle.std.proofs.Common.{◌≡◌, ◌+◌, ℕ, sym, ◌∙◌, ap, subst}
use Rattle.sig_types.specs.declared.frame.Mode.{Mode}
use Rattle.sig_types.specs.Phases.{is_in}
use Rattle.sig_tables.specs.declared.tables.Tables.{Tables}
use Rattle.sig_tables.specs.Clock.{clock_now, target_in}
use Rattle.sig_tables.specs.Counters.{counter_in}
use Rattle.sig_tables.specs.Priority.{active_in}
use Rattle.sig_tables.specs.Modes.{stage_of}
use Rattle.sig_tables.specs.Goals.{goal_in, lesser_times}
use Rattle.sig_tables.specs.TickState.{ring_turn_of}
use Rattle.sig_tables.specs.Layout.{Has}
use Rattle.sig_tables.specs.Seen.{mode_seen, moment_seen}
use Rattle.prio_queue.specs.Places.{some_number}
use Rattle.tick_context.proofs.Binds.{of-ticks}
use Rattle.tick_context.proofs.context.TickContext.tick_state.Goals as goal

pub returns : goal.returns
returns c = record {
  tick_state = λ past k s b m e.
      let clock : c.clock_now-clock.result ≡ clock_now past = c.clock_now-clock.ensures.clock past k.unit_commands in
      let target : c.target-target.result ≡ target_in past.tables (mode_seen past) (clock_now past) =
      c.target-target.ensures.target past k b ∙ ap (λ (x : Mode). target_in past.tables x c.clock_now-clock.result) m
      ∙ ap (target_in past.tables (mode_seen past)) clock in
      record {
        clock = clock;
        command = e;
        mode = m;
        goal = subst (λ (x : Mode). Has c.goal-goal.result (is_in (goal_in past.tables x))) m (c.goal-goal.ensures.goal past k b);
        ring_turn = c.ring_turn_of.ensures past.tables past.moments (sym k.frame) k.layout.starts_up (c.goal-goal.ensures.goal past k b)
            ∙ ap (ring_turn_of past.tables past.moments) m;
        lesser = of-ticks _ _ c.lesser.ensures ∙ ap (λ (t : Tables). lesser_times t (stage_of c.args.mode)) k.tables
            ∙ ap (λ (x : Mode). lesser_times past.tables (stage_of x)) m;
        counter = c.counter.ensures.counter past k s b m
            ∙ ap (λ (x : Mode). counter_in past.tables x c.target-target.result past.moments) m
            ∙ ap (λ (n : ℕ). counter_in past.tables (mode_seen past) n past.moments) target;
        within = λ n is. c.counter.ensures.within past n k s b m (m ∙ is);
        target = target;
        active = c.active_request.ensures.active past k b
            ∙ ap (λ (x : Mode). some_number (active_in past.tables x ((moment_seen past).number + 1) past.asked)) m;
      };
  of_day = c.clock_now-clock.ensures.of_day;
}
