use Rattle.std.proofs.Common.{◌+◌, sym, ◌∙◌, ap}
use Rattle.std.proofs.lemmas.Bool.{false≢true}
use Rattle.sig_types.specs.declared.frame.Mode.{Mode}
use Rattle.sig_types.specs.Phases.{is_in}
use Rattle.sig_tables.specs.Modes.{stage_of}
use Rattle.sig_tables.specs.Goals.{goal_in, lesser_times}
use Rattle.sig_tables.specs.Priority.{active_in}
use Rattle.sig_tables.specs.Seen.{mode_seen, moment_seen}
use Rattle.prio_queue.specs.Places.{some_number}
use Rattle.tick_context.specs.Modes.{is_free}
use Rattle.tick_context.proofs.Again.{rings-ring_turn, no-counter, no-target}
use Rattle.engine.proofs.ticking.free_tick_state.Goals as goal

pub returns-clause-tick_state : goal.returns-clause-tick_state
returns-clause-tick_state c = λ past was mode e at. record {
  clock = at;
  command = e;
  mode = sym mode;
  goal = λ p h. c.empty.ensures.has p ∙ sym (ap (λ (m : Mode). is_in (goal_in past.tables m) p) mode);
  ring_turn = sym (rings-ring_turn past.tables past.moments (mode_seen past) was mode);
  lesser = sym (ap (λ (m : Mode). lesser_times past.tables (stage_of m)) mode);
  counter = sym (no-counter past mode);
  within = λ n f. absurd (false≢true (sym (ap is_free f) ∙ ap is_free mode));
  target = sym (no-target past mode);
  active = sym (ap (λ (m : Mode). some_number (active_in past.tables m ((moment_seen past).number + 1) past.asked)) mode);
}
