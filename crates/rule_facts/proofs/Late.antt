-- Where a coordinated phase is Red at local zero, the frame does not keep to its plan.
use Rattle.std.proofs.Common.{◌≡◌, true, refl, sym, ◌∙◌, ap}
use Rattle.sig_types.specs.declared.frame.Colour.TheVariants.{Green, Red}
use Rattle.sig_tables.specs.declared.tables.Tables.{Tables}
use Rattle.sig_tables.specs.Standard.{std8, standard}
use Rattle.sig_tables.specs.Slots.{is_coordinated}
use Rattle.sig_tables.specs.Past.{Moment}
use Rattle.tick_laws.specs.InStep.{Coordinated}
use Rattle.tick_laws.proofs.Choices.{differs}
use Rattle.rule_facts.specs.Needed.{slow_clearance}
use Rattle.rule_facts.specs.BrokenPlans.{Brief, brief, long_revert}

pub late-fails : (t : Tables) (m : Moment) (b : Brief) → brief m ≡ b → b.counter ≡ 0 → b.two ≡ Red → is_coordinated t 1 2 ≡ true → ¬ Coordinated t 1 m
late-fails t m b e zero red held c =
    differs Red Green refl (sym red ∙ sym (ap (λ (x : Brief). x.two) e) ∙ (c.zero (ap (λ (x : Brief). x.counter) e ∙ zero)).held 2 held)

pub long-revert-held : is_coordinated long_revert 1 2 ≡ true
unfolding long_revert std8 standard
long-revert-held = refl

pub slow-clearance-held : is_coordinated slow_clearance 1 2 ≡ true
unfolding slow_clearance std8 standard
slow-clearance-held = refl
