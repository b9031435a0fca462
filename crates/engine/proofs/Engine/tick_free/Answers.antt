use Rattle.std.proofs.Common.{sym, ◌∙◌, subst}
use Rattle.sig_types.specs.declared.frame.Mode.{Mode}
use Rattle.tick_context.specs.Binds.{IsBound}
use Rattle.engine.specs.Runs.{Runs}
use Rattle.engine.proofs.Engine.tick_free.Goals as goal

pub returns-then-is_at_rest-clause-given : goal.returns-then-is_at_rest-clause-given
returns-then-is_at_rest-clause-given g c = λ past k was mode e.
    c.rest.ensures.again ∙ k.context.frame
    ∙ sym (c.is_at_rest.ensures.repeats past k was mode (c.free_demand-demand.ensures.demand past k) c.if-is_at_rest.true).again

pub returns-then-is_at_rest-clause-keeps : goal.returns-then-is_at_rest-clause-keeps
returns-then-is_at_rest-clause-keeps g c = λ past k was mode beside e.
    let demand = c.free_demand-demand.ensures.demand past k in
    c.rest.ensures.keeps past k beside e (sym demand ∙ c.is_at_rest.ensures.demand c.if-is_at_rest.true)
    (c.is_at_rest.ensures.repeats past k was mode demand c.if-is_at_rest.true)

pub returns-then-is_plain-clause-given : goal.returns-then-is_plain-clause-given
returns-then-is_plain-clause-given g c = λ past k was mode e.
    let sees = c.free_tick_inputs-tick_inputs.ensures.sees past k mode (c.free_demand-demand.ensures.demand past k) in
    c.repeat.ensures.again ∙ k.context.frame ∙ sym (c.is_plain.ensures.repeats past k sees was mode c.if-is_plain.true).again

pub returns-then-is_plain-clause-keeps : goal.returns-then-is_plain-clause-keeps
returns-then-is_plain-clause-keeps g c = λ past k was mode beside e.
    let sees = c.free_tick_inputs-tick_inputs.ensures.sees past k mode (c.free_demand-demand.ensures.demand past k) in
    c.repeat.ensures.keeps past k beside e (c.clock_now-clock.ensures.clock past k.context.unit_commands) sees.quiet sees.opposed
    (c.is_plain.ensures.repeats past k sees was mode c.if-is_plain.true)

pub returns-then-repeats-clause-given : goal.returns-then-repeats-clause-given
returns-then-repeats-clause-given g c = λ past k was mode e.
    let runs : Runs g.M.Memory.remembers c.args.self.now c.free_tick_state-tick_state.result past = record {
      keeps = k;
      tick_state = c.free_tick_state-tick_state.ensures.tick_state past was mode e (c.clock_now-clock.ensures.clock past k.context.unit_commands);
      bound = subst (λ (m : Mode). IsBound c.args.self.now.context.active_pattern past.tables m) (sym mode) tt;
    } in
    let sees = c.free_tick_inputs-tick_inputs.ensures.sees past k mode (c.free_demand-demand.ensures.demand past k) in
    c.repeat-then-repeats.ensures.again ∙ k.context.frame ∙ sym (c.repeats.ensures.repeats past runs sees was mode c.if-repeats.true).again

pub returns-then-repeats-clause-keeps : goal.returns-then-repeats-clause-keeps
returns-then-repeats-clause-keeps g c = λ past k was mode beside e.
    let runs : Runs g.M.Memory.remembers c.args.self.now c.free_tick_state-tick_state.result past = record {
      keeps = k;
      tick_state = c.free_tick_state-tick_state.ensures.tick_state past was mode e (c.clock_now-clock.ensures.clock past k.context.unit_commands);
      bound = subst (λ (m : Mode). IsBound c.args.self.now.context.active_pattern past.tables m) (sym mode) tt;
    } in
    let sees = c.free_tick_inputs-tick_inputs.ensures.sees past k mode (c.free_demand-demand.ensures.demand past k) in
    c.repeat-then-repeats.ensures.keeps past k beside e (c.clock_now-clock.ensures.clock past k.context.unit_commands) sees.quiet sees.opposed
    (c.repeats.ensures.repeats past runs sees was mode c.if-repeats.true)

pub returns-clause-given : goal.returns-clause-given
returns-clause-given g c = λ past k was mode e.
    let runs : Runs g.M.Memory.remembers c.args.self.now c.free_tick_state-tick_state.result past = record {
      keeps = k;
      tick_state = c.free_tick_state-tick_state.ensures.tick_state past was mode e (c.clock_now-clock.ensures.clock past k.context.unit_commands);
      bound = subst (λ (m : Mode). IsBound c.args.self.now.context.active_pattern past.tables m) (sym mode) tt;
    } in
    let sees = c.free_tick_inputs-tick_inputs.ensures.sees past k mode (c.free_demand-demand.ensures.demand past k) in
    c.go_on.ensures.given past runs sees

pub returns-clause-keeps : goal.returns-clause-keeps
returns-clause-keeps g c = λ past k was mode beside e.
    let runs : Runs g.M.Memory.remembers c.args.self.now c.free_tick_state-tick_state.result past = record {
      keeps = k;
      tick_state = c.free_tick_state-tick_state.ensures.tick_state past was mode e (c.clock_now-clock.ensures.clock past k.context.unit_commands);
      bound = subst (λ (m : Mode). IsBound c.args.self.now.context.active_pattern past.tables m) (sym mode) tt;
    } in
    let sees = c.free_tick_inputs-tick_inputs.ensures.sees past k mode (c.free_demand-demand.ensures.demand past k) in
    c.go_on.ensures.keeps past runs sees
