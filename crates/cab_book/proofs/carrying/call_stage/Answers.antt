use Rattle.std.proofs.Common.{◌≡◌, ◌∙◌, List, ap, sym, map, Some}
use Rattle.sig_tables.specs.Putting.{put_content}
use Rattle.sig_tables.specs.declared.cells.Cell.{Cell}
use Rattle.sig_tables.specs.declared.cells.CellValue.{CellValue}
use Rattle.sig_tables.specs.Decide.{last_frame_of}
use Rattle.stage_txn.specs.Calls.{Begin as BeginCall, Part as PartCall, Verify as VerifyCall, Finish as FinishCall}
use Rattle.cabinet_history.specs.Coming.{call_of}
use Rattle.cab_book.proofs.Wishes.{same_flash, outcome-is, calls-stand, begin-call, verify-call, finish-call}
use Rattle.cab_book.proofs.carrying.call_stage.Goals as goal

pub returns-in-Begin-clause-outcome : goal.returns-in-Begin-clause-outcome
returns-in-Begin-clause-outcome c = λ has k s.
    let t = c.tables.result.now in
    outcome-is has c.args.wish.now (BeginCall c.in-Begin.id t) c.args.stage.now c.begin.new.self c.begin.result
    (record { answer = c.begin.ensures.answer; stands = c.begin.ensures.stands })
    (begin-call has c.args.wish.now c.in-Begin.id t c.in-Begin.is (c.tables.ensures.tables has.history k)) s

pub returns-in-Begin-clause-stands : goal.returns-in-Begin-clause-stands
returns-in-Begin-clause-stands c = λ has k s.
    let t = c.tables.result.now in
    calls-stand has c.args.wish.now (BeginCall c.in-Begin.id t) c.args.stage.now c.begin.new.self c.begin.result
    (record { answer = c.begin.ensures.answer; stands = c.begin.ensures.stands })
    (begin-call has c.args.wish.now c.in-Begin.id t c.in-Begin.is (c.tables.ensures.tables has.history k)) s

pub returns-in-Part-clause-outcome : goal.returns-in-Part-clause-outcome
returns-in-Part-clause-outcome c = λ has k s.
    let cells = map put_content c.as_slice.result.now in
    let same : call_of has c.args.wish.now ≡ Some (PartCall c.in-Part.id c.in-Part.number cells) =
    ap (call_of has) c.in-Part.is
    ∙ ap (λ (puts : List (Cell × CellValue)). Some (PartCall c.in-Part.id c.in-Part.number (map put_content puts))) (sym c.as_slice.ensures.value) in
    outcome-is has c.args.wish.now (PartCall c.in-Part.id c.in-Part.number cells) c.args.stage.now c.part.new.self c.part.result
    (record { answer = c.part.ensures.answer; stands = c.part.ensures.stands }) same s

pub returns-in-Part-clause-stands : goal.returns-in-Part-clause-stands
returns-in-Part-clause-stands c = λ has k s.
    let cells = map put_content c.as_slice.result.now in
    let same : call_of has c.args.wish.now ≡ Some (PartCall c.in-Part.id c.in-Part.number cells) =
    ap (call_of has) c.in-Part.is
    ∙ ap (λ (puts : List (Cell × CellValue)). Some (PartCall c.in-Part.id c.in-Part.number (map put_content puts))) (sym c.as_slice.ensures.value) in
    calls-stand has c.args.wish.now (PartCall c.in-Part.id c.in-Part.number cells) c.args.stage.now c.part.new.self c.part.result
    (record { answer = c.part.ensures.answer; stands = c.part.ensures.stands }) same s

pub returns-in-Verify-clause-outcome : goal.returns-in-Verify-clause-outcome
returns-in-Verify-clause-outcome c = λ has k s.
    let t = c.tables-in-Verify.result.now in
    let f = c.flashing-flashing.result in
    outcome-is has c.args.wish.now (VerifyCall c.in-Verify.id c.in-Verify.total t f) c.args.stage.now c.verify.new.self c.verify.result
    (record { answer = c.verify.ensures.answer; stands = c.verify.ensures.stands })
    (verify-call has c.args.wish.now c.in-Verify.id c.in-Verify.total t f c.in-Verify.is (c.tables-in-Verify.ensures.tables has.history k)
    (c.flashing-flashing.ensures.flashing has.history k ∙ same_flash (last_frame_of has.history).mode)) s

pub returns-in-Verify-clause-stands : goal.returns-in-Verify-clause-stands
returns-in-Verify-clause-stands c = λ has k s.
    let t = c.tables-in-Verify.result.now in
    let f = c.flashing-flashing.result in
    calls-stand has c.args.wish.now (VerifyCall c.in-Verify.id c.in-Verify.total t f) c.args.stage.now c.verify.new.self c.verify.result
    (record { answer = c.verify.ensures.answer; stands = c.verify.ensures.stands })
    (verify-call has c.args.wish.now c.in-Verify.id c.in-Verify.total t f c.in-Verify.is (c.tables-in-Verify.ensures.tables has.history k)
    (c.flashing-flashing.ensures.flashing has.history k ∙ same_flash (last_frame_of has.history).mode)) s

pub returns-in-Finish-clause-outcome : goal.returns-in-Finish-clause-outcome
returns-in-Finish-clause-outcome c = λ has k s.
    let t = c.tables-in-Finish.result.now in
    let f = c.flashing-flashing-in-Finish.result in
    outcome-is has c.args.wish.now (FinishCall c.in-Finish.id t f) c.args.stage.now c.finish.new.self c.finish.result
    (record { answer = c.finish.ensures.answer; stands = c.finish.ensures.stands })
    (finish-call has c.args.wish.now c.in-Finish.id t f c.in-Finish.is (c.tables-in-Finish.ensures.tables has.history k)
    (c.flashing-flashing-in-Finish.ensures.flashing has.history k ∙ same_flash (last_frame_of has.history).mode)) s

pub returns-in-Finish-clause-stands : goal.returns-in-Finish-clause-stands
returns-in-Finish-clause-stands c = λ has k s.
    let t = c.tables-in-Finish.result.now in
    let f = c.flashing-flashing-in-Finish.result in
    calls-stand has c.args.wish.now (FinishCall c.in-Finish.id t f) c.args.stage.now c.finish.new.self c.finish.result
    (record { answer = c.finish.ensures.answer; stands = c.finish.ensures.stands })
    (finish-call has c.args.wish.now c.in-Finish.id t f c.in-Finish.is (c.tables-in-Finish.ensures.tables has.history k)
    (c.flashing-flashing-in-Finish.ensures.flashing has.history k ∙ same_flash (last_frame_of has.history).mode)) s
