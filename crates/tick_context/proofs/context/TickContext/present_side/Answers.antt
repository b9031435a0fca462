use Rattle.std.proofs.Common.{◌≡◌, ◌==◌, ℕ, false, inr, sym, ◌∙◌, ap, arith, if◌then◌else◌}
use Rattle.sig_types.specs.declared.frame.Frame.{Frame}
use Rattle.sig_types.specs.Phases.{is_phase}
use Rattle.sig_types.specs.Colour.{on_in}
use Rattle.sig_tables.specs.Sides.{are_of_one_side}
use Rattle.sig_tables.proofs.Below.{phase-is, no-phase}
use Rattle.sig_tables.proofs.Heads.{of-no-side-first}
use Rattle.tick_context.proofs.context.TickContext.present_side.Goals as goal
use Rattle.tick_context.proofs.context.TickContext.present_side.Goals.{else-phase-ne0-via-then-phase-ne0+else-phase-le16, else-phase-ne0-via-else-phase-ne0}

pub returns-then-phase-le16 : goal.returns-then-phase-le16
returns-then-phase-le16 c = λ past keeps p e.
    keeps.layout.side c.present_phase-phase.result (phase-is c.present_phase-phase.result (omega arith) c.if-phase-le16.true) p e
    ∙ ap (λ (s : ℕ). are_of_one_side past.tables s p)
    (c.present_phase-phase.ensures ∙ ap (λ (f : Frame). if on_in f 1 == 0 then on_in f 2 else on_in f 1) keeps.frame)

pub returns-else-phase-ne0 : goal.returns-else-phase-ne0
returns-else-phase-ne0 c =
    let none : is_phase c.present_phase-phase.result ≡ false = elim c.else-phase-ne0.branch [
      | else-phase-ne0-via-then-phase-ne0+else-phase-le16 w ↦ no-phase c.present_phase-phase.result (inr w.if-phase-le16.false)
      | else-phase-ne0-via-else-phase-ne0 w ↦ rw w.if-phase-ne0.false
    ]
    in
    λ past keeps p e.
    c.empty.ensures.has p ∙ sym (of-no-side-first past.tables c.present_phase-phase.result p none)
    ∙ ap (λ (s : ℕ). are_of_one_side past.tables s p)
    (c.present_phase-phase.ensures ∙ ap (λ (f : Frame). if on_in f 1 == 0 then on_in f 2 else on_in f 1) keeps.frame)
