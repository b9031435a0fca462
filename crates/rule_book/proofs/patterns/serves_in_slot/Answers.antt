use Rattle.std.proofs.Common.{◌≡◌, ◌∙◌, ◌+◌, ◌-◌, ◌==◌, ℕ, true, false, List, get_or, ap, sym, refl, arith}
use Rattle.sig_tables.specs.declared.plan.Slot.{Slot}
use Rattle.sig_tables.specs.declared.tables.SplitEntry.{SplitEntry}
use Rattle.sig_tables.specs.declared.tables.Tables.{Tables}
use Rattle.sig_tables.specs.Tables.{is_enabled}
use Rattle.sig_tables.specs.Cells.{missing_entry}
use Rattle.sig_tables.specs.Slots.{split_entry, slot_start, least_service, leaves_room, is_omitted}
use Rattle.sig_tables.proofs.Below.{phase-is}
use Rattle.rule_book.proofs.Windows.{served-tells, differs}
use Rattle.rule_book.proofs.patterns.serves_in_slot.Goals as goal

added : (a a' b b' : ℕ) → a ≡ a' → b ≡ b' → a + b ≡ a' + b'
added a a' b b' e f = rw (e, f) refl

pub returns-then-not-has : goal.returns-then-not-has
returns-then-not-has c =
    let off : is_enabled c.args.tables.now c.args.phase ≡ false =
    sym (c.requires.reads.lists.enabled c.args.phase (phase-is c.args.phase (omega arith) (omega arith))) ∙ sym c.has.ensures.has ∙ c.if-not-has.true in
    rw off refl

pub returns : goal.returns
returns c =
    let t : Tables = c.args.tables.now in
    let n : ℕ = c.args.pattern in
    let p : ℕ = c.args.phase in
    let on : is_enabled t p ≡ true =
    sym (c.requires.reads.lists.enabled p (phase-is p (omega arith) (omega arith))) ∙ sym c.has.ensures.has ∙ c.if-not-has.false in
    let entry : c.entry_in.result ≡ split_entry t n p =
    c.entry_in.ensures ∙ ap (λ (xs : List SplitEntry). get_or xs (p - 1) missing_entry) c.entries.ensures.entries in
    let held : ((split_entry t n p).coordinated == 1) ≡ false =
    ap (λ (e : SplitEntry). e.coordinated == 1) (sym entry) ∙ differs c.entry_in.result.coordinated 1 c.if-entry_in-eq1.false in
    c.leaves_room.ensures t n p c.requires.slot c.clearance.ensures.time
    ∙ ap (leaves_room t n p) (added c.args.slot.now.start (slot_start t n p) c.least_service.result (least_service t p)
    (ap (λ (s : Slot). s.start) c.requires.slot) c.least_service.ensures.time)
    ∙ served-tells (is_enabled t p) ((split_entry t n p).coordinated == 1) (is_omitted t n p) (leaves_room t n p (slot_start t n p + least_service t p))
    on held (sym c.is_omitted.ensures ∙ c.if-is_omitted.false)
