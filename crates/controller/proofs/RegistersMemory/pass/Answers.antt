use Rattle.std.proofs.Common.{◌≡◌, Bool, true, false, refl, sym, ◌∙◌, subst}
use Rattle.sig_types.specs.declared.frame.Mode.{Mode}
use Rattle.sig_tables.specs.Past.{Past}
use Rattle.sig_tables.specs.Decide.{past_at}
use Rattle.tick_context.specs.Modes.{is_coord}
use Rattle.tick_context.specs.Strides.{ticks_more}
use Rattle.tick_context.proofs.Striding.{more-past}
use Rattle.tick_context.proofs.Passed.{after}
use Rattle.controller.specs.declared.Registers.{Registers}
use Rattle.controller.specs.Registers.{RegistersStand}
use Rattle.controller.proofs.Passed.{passed, passed-of, keeps-after}
use Rattle.controller.proofs.RegistersMemory.pass.Goals as goal

pub returns-then-is_coord-clause-remembers : goal.returns-then-is_coord-clause-remembers
returns-then-is_coord-clause-remembers c = λ h k x looks l.
    let past : Past = past_at h in
    let mode : Mode = c.args.context.now.frame.mode in
    let coord : is_coord mode ≡ true = sym c.is_coord.ensures ∙ c.if-is_coord.true in
    let kept : RegistersStand (passed (is_coord mode) c.args.ticks c.args.self.now) (after c.args.ticks past) =
    keeps-after c.args.ticks mode c.args.self.now c.args.tick_inputs.now past c.requires.some k l looks
    (record { steady = c.requires.ready.steady; clear = c.requires.ready.clear }) in
    let now : RegistersStand (passed true c.args.ticks c.args.self.now) (past_at (ticks_more c.args.ticks h)) =
    subst (λ (p : Past). RegistersStand (passed true c.args.ticks c.args.self.now) p) (sym (more-past c.args.ticks h))
    (subst (λ (b : Bool). RegistersStand (passed b c.args.ticks c.args.self.now) (after c.args.ticks past)) coord kept) in
    subst (λ (r : Registers). RegistersStand r (past_at (ticks_more c.args.ticks h)))
    (sym (passed-of true c.args.ticks c.args.self.now _ _ _ _ c.pass.ensures.passed c.pass-2.ensures.passed c.pass-3.ensures.passed c.pass-then-is_coord.ensures.passed)) now

pub returns-else-is_coord-clause-remembers : goal.returns-else-is_coord-clause-remembers
returns-else-is_coord-clause-remembers c = λ h k x looks l.
    let past : Past = past_at h in
    let mode : Mode = c.args.context.now.frame.mode in
    let coord : is_coord mode ≡ false = sym c.is_coord.ensures ∙ c.if-is_coord.false in
    let kept : RegistersStand (passed (is_coord mode) c.args.ticks c.args.self.now) (after c.args.ticks past) =
    keeps-after c.args.ticks mode c.args.self.now c.args.tick_inputs.now past c.requires.some k l looks
    (record { steady = c.requires.ready.steady; clear = c.requires.ready.clear }) in
    let now : RegistersStand (passed false c.args.ticks c.args.self.now) (past_at (ticks_more c.args.ticks h)) =
    subst (λ (p : Past). RegistersStand (passed false c.args.ticks c.args.self.now) p) (sym (more-past c.args.ticks h))
    (subst (λ (b : Bool). RegistersStand (passed b c.args.ticks c.args.self.now) (after c.args.ticks past)) coord kept) in
    subst (λ (r : Registers). RegistersStand r (past_at (ticks_more c.args.ticks h)))
    (sym (passed-of false c.args.ticks c.args.self.now _ _ _ _ c.pass.ensures.passed c.pass-2.ensures.passed c.pass-3.ensures.passed refl)) now
