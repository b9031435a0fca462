use Rattle.std.proofs.Common.{ℕ, sym, subst}
use Rattle.sig_types.specs.declared.frame.Mode.{Mode}
use Rattle.sig_tables.specs.declared.tables.Tables.{Tables}
use Rattle.sig_tables.specs.Past.{Past}
use Rattle.sig_tables.specs.Decide.{past_at}
use Rattle.tick_context.specs.declared.context.TickContext.{TickContext}
use Rattle.tick_context.specs.Even.{IsEven}
use Rattle.tick_context.specs.Strides.{ticks_more}
use Rattle.tick_context.proofs.Striding.{more-past}
use Rattle.engine.specs.EngineStands.{EngineKeeps}
use Rattle.engine.proofs.Passed.{nothing, passed, told-after, beside-of}
use Rattle.engine.proofs.Engine.pass.Goals as goal

pub returns-clause-stands : goal.returns-clause-stands
returns-clause-stands g c = λ h k bound sees l.
    let past : Past = past_at h in
    let n : ℕ = c.args.ticks in
    let mode : Mode = c.args.self.now.context.frame.mode in
    let even : IsEven c.args.self.now.context.unit_commands past.tables n =
    subst (λ (t : Tables). IsEven c.args.self.now.context.unit_commands t n) k.context.tables c.requires.even in
    let told : EngineKeeps nothing (passed n c.args.self.now c.pass-2.new.self.unit_commands) (past_at (ticks_more n h)) =
    subst (λ (p : Past). EngineKeeps nothing (passed n c.args.self.now c.pass-2.new.self.unit_commands) p) (sym (more-past n h))
    (told-after n mode c.args.self.now c.pass-2.new.self.unit_commands past c.requires.some c.pass-2.ensures.unit_commands
    (beside-of g.M.Memory.remembers c.args.self.now past k) l c.requires.idle bound even even.few) in
    let memory = c.pass.ensures.remembers h k.memory k.context sees l in
    subst (λ (x : TickContext). EngineKeeps g.M.Memory.remembers (record c.args.self.now { context = x; memory = c.pass.new.self }) (past_at (ticks_more n h)))
    (sym c.pass-2.ensures.passed) (record { context = told.context; memory = memory; shown = told.shown; walking = told.walking; signalling = told.signalling })
