use Rattle.std.proofs.Common.{subst}
use Rattle.sig_types.specs.declared.frame.Mode.{Mode}
use Rattle.tick_context.specs.Binds.{IsBound}
use Rattle.engine.specs.Runs.{Runs}
use Rattle.engine.proofs.Engine.tick_in_any.Goals as goal

pub returns-clause-given : goal.returns-clause-given
returns-clause-given g c = λ past k command.
    let mode = c.mode-mode.ensures.mode past k command in
    let kept = c.follow.ensures.keeps past k in
    let bound = c.follow.ensures.bound past k mode in
    let runs : Runs g.M.Memory.remembers c.follow.new.self c.tick_state-tick_state.result past = record {
      keeps = kept;
      tick_state = c.tick_state-tick_state.ensures.tick_state past kept.context (c.count.ensures.counts past kept.memory) bound mode command;
      bound = subst (λ (m : Mode). IsBound c.follow.new.self.context.active_pattern past.tables m) mode bound;
    } in
    c.go_on.ensures.given past runs (c.tick_inputs-tick_inputs.ensures.sees past runs)

pub returns-clause-keeps : goal.returns-clause-keeps
returns-clause-keeps g c = λ past k command.
    let mode = c.mode-mode.ensures.mode past k command in
    let kept = c.follow.ensures.keeps past k in
    let bound = c.follow.ensures.bound past k mode in
    let runs : Runs g.M.Memory.remembers c.follow.new.self c.tick_state-tick_state.result past = record {
      keeps = kept;
      tick_state = c.tick_state-tick_state.ensures.tick_state past kept.context (c.count.ensures.counts past kept.memory) bound mode command;
      bound = subst (λ (m : Mode). IsBound c.follow.new.self.context.active_pattern past.tables m) mode bound;
    } in
    c.go_on.ensures.keeps past runs (c.tick_inputs-tick_inputs.ensures.sees past runs)
