use Rattle.std.proofs.Common.{◌≡◌, ◌∙◌, ◌*◌, ◌+◌, true, false, length, refl, sym, subst, arith}
use Rattle.std.proofs.lemmas.List.{get_or-replicate, take_all}
use Rattle.scenario_read.specs.Kinds.{Fits, Wrong}
use Rattle.field_read.specs.Checks.{bank_fault, bank_fit, detector_path}
use Rattle.field_read.specs.Places.{Marks}
use Rattle.field_read.proofs.Upto.{upto-next, upto-refused, upto-done, fits-clean, same-fit}
use Rattle.field_read.proofs.Detectors.{detector-here, marks-next, bank-test}
use Rattle.field_read.proofs.marks.marked.Goals as goal

pub loop-place-init : goal.loop-place-init
loop-place-init c = (refl, λ cabinet detector p q. get_or-replicate 4225 (cabinet * 65 + detector) false false (omega (arith, p, q)))

pub is_marked-requires : goal.is_marked-requires
is_marked-requires c =
    let l = c.loop-place in
    let here = detector-here c.args.bank.now.items l.place c.index.result.now (omega arith) c.index.ensures c.requires.placed in
    record { cabinet = here.0; detector = here.1 }

pub mark-requires : goal.mark-requires
mark-requires c =
    let l = c.loop-place in
    let here = detector-here c.args.bank.now.items l.place c.index.result.now (omega arith) c.index.ensures c.requires.placed in
    record { cabinet = here.0; detector = here.1 }

pub returns-then-is_marked : goal.returns-then-is_marked
returns-then-is_marked c =
    let l = c.loop-place in
    let bank = c.args.bank.now.items in
    let here = detector-here bank l.place c.index.result.now (omega arith) c.index.ensures c.requires.placed in
    let test : bank_fit bank l.place ≡ Wrong =
    bank-test l.marks bank l.place c.index.result.now true (omega arith) c.index.ensures here.0 here.1 l.invariant.1 (sym c.if-is_marked.true ∙ c.is_marked.ensures) in
    upto-refused c.refuse.result (bank_fault bank) l.place (length bank) (omega arith) l.invariant.0
    (same-fit c.refuse.result (detector_path l.place) (bank_fit bank l.place) Wrong test c.refuse.ensures)

pub loop-place-preserved : goal.loop-place-preserved
loop-place-preserved c =
    let l = c.loop-place in
    let bank = c.args.bank.now.items in
    let here = detector-here bank l.place c.index.result.now (omega arith) c.index.ensures c.requires.placed in
    let test : bank_fit bank l.place ≡ Fits =
    bank-test l.marks bank l.place c.index.result.now false (omega arith) c.index.ensures here.0 here.1 l.invariant.1 (sym c.if-is_marked.false ∙ c.is_marked.ensures) in (
      upto-next (bank_fault bank) l.place l.invariant.0 (fits-clean (detector_path l.place) (bank_fit bank l.place) test),
      marks-next l.marks c.mark.new.marks bank l.place c.index.result.now (omega arith) c.index.ensures c.mark.ensures l.invariant.1,
    )

pub returns : goal.returns
returns c =
    let l = c.loop-place in
    let bank = c.args.bank.now.items in
    (upto-done (bank_fault bank) l.place (length bank) (omega arith) l.invariant.0, subst (Marks l.marks) (take_all l.place bank (omega arith)) l.invariant.1)
