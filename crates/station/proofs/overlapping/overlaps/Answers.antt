use Rattle.std.proofs.Common.{inr, ◌≡◌, ℕ, List, IfSome, Err, refl, sym, ap, subst}
use Rattle.io_edge.specs.Edge.{Rises}
use Rattle.overlap_run.specs.declared.faults.OverlapFault.{OverlapFault}
use Rattle.overlap_report.specs.Overlaps.{TellsOverlap, BreaksRule}
use Rattle.trace_check.specs.declared.faults.TraceFault.{TraceFault}
use Rattle.trace_laws.specs.Faults.{FirstFault}
use Rattle.station.specs.declared.status.Status.TheVariants.{NotATrace, Overlap as BrokenOverlap}
use Rattle.station.specs.Checked.{IsNoTrace}
use Rattle.station.proofs.CheckDue.{too_long_text}
use Rattle.station.proofs.OverlapDue.{of_input, read_so, told_overlap, DueOrNone, due_told, due_no_trace, due_broken, due_none_left}
use Rattle.station.proofs.overlapping.overlaps.Goals as goal

pub returns-in-Err-TooLong-clause-overlapped : goal.returns-in-Err-TooLong-clause-overlapped
returns-in-Err-TooLong-clause-overlapped g c = (
  too_long_text _ _ (c.in-Err-TooLong.ensures.long (ap Err c.in-Err-TooLong.field-0-is)) (c.in-Err-TooLong.ensures.stopped (ap Err c.in-Err-TooLong.field-0-is)),
  refl,
)

pub returns-in-Err-TooLong-clause-due : goal.returns-in-Err-TooLong-clause-due
returns-in-Err-TooLong-clause-due g c = λ sound.
    due_no_trace c.traces_have_no_fault.ensures c.faults_are_determined.ensures c.args.overlap _ (record { line = 0; rule = 1 }) _ _
    (returns-in-Err-TooLong-clause-overlapped g c).0

pub returns-in-Err-NotATrace-clause-due : goal.returns-in-Err-NotATrace-clause-due
returns-in-Err-NotATrace-clause-due g c = λ sound.
    let left = g.S.Source.left c.args.source.now in
    let fault = c.in-Err-NotATrace.fault in
    let none : Type 0 = Rises (g.K.Sink.faults c.args.sink.now) (g.K.Sink.faults c.args.sink.now) in
    let first : FirstFault c.as_slice.result.now fault.line fault.rule = rw c.in-Err-NotATrace.field-0-is at c.in-Err-NotATrace.ensures.told in
    let same : FirstFault c.in-Ok.text.items fault.line fault.rule = subst (λ (x : List ℕ). FirstFault x fault.line fault.rule) c.as_slice.ensures.value first in
    let is : IsNoTrace fault left (g.S.Source.left c.read_all.new.source) =
    inr (record { bytes = c.in-Ok.text.items; all = c.in-Ok.ensures.whole; short = c.in-Ok.ensures.short; first = same; ended = c.in-Ok.ensures.ended }) in
    let due : IfSome left (DueOrNone c.args.overlap (NotATrace fault) none) =
    due_no_trace c.traces_have_no_fault.ensures c.faults_are_determined.ensures c.args.overlap none fault left _ is in
    subst (λ (f : TraceFault). IfSome left (DueOrNone c.args.overlap (NotATrace f) none)) (sym c.in-Err-NotATrace.fault-is) due

pub returns-in-Ok-report-clause-overlapped : goal.returns-in-Ok-report-clause-overlapped
returns-in-Ok-report-clause-overlapped g c =
    let asked = c.args.overlap in
    let slice = c.as_slice.result.now in
    let text = c.as_slice-in-Ok-report.result.now in
    let so : TellsOverlap slice asked text =
    subst (λ (t : List ℕ). TellsOverlap slice asked t) (sym c.as_slice-in-Ok-report.ensures.value)
    (c.in-Ok-report.ensures.told slice c.in-Ok-observe.ensures.seen) in
    told_overlap asked c.tell.result _ _ _ _ _ _ text
    (read_so (λ (b : List ℕ). TellsOverlap b asked text) _ _ c.in-Ok.text.items slice c.in-Ok.ensures.whole c.as_slice.ensures.value c.in-Ok-observe.ensures.short so
    c.in-Ok.ensures.ended) c.tell.ensures.tells

pub returns-in-Ok-report-clause-due : goal.returns-in-Ok-report-clause-due
returns-in-Ok-report-clause-due g c = λ sound.
    let asked = c.args.overlap in
    let slice = c.as_slice.result.now in
    let text = c.as_slice-in-Ok-report.result.now in
    let so : TellsOverlap slice asked text =
    subst (λ (t : List ℕ). TellsOverlap slice asked t) (sym c.as_slice-in-Ok-report.ensures.value)
    (c.in-Ok-report.ensures.told slice c.in-Ok-observe.ensures.seen) in
    due_told c.traces_have_no_fault.ensures c.faults_are_determined.ensures asked _ c.tell.result _ (g.S.Source.left c.read_all.new.source) _ _ text
    (read_so (λ (b : List ℕ). TellsOverlap b asked text) _ _ c.in-Ok.text.items slice c.in-Ok.ensures.whole c.as_slice.ensures.value c.in-Ok-observe.ensures.short so
    c.in-Ok.ensures.ended) c.tell.ensures.tells

pub returns-in-Err-Overlap-clause-overlapped : goal.returns-in-Err-Overlap-clause-overlapped
returns-in-Err-Overlap-clause-overlapped g c =
    let asked = c.args.overlap in
    let slice = c.as_slice.result.now in
    let fault = c.in-Err-Overlap.fault in
    let so : BreaksRule slice asked fault =
    c.in-Err-Overlap.ensures.refused fault (ap Err c.in-Err-Overlap.field-0-is) slice c.in-Ok-observe.ensures.seen in (
      read_so (λ (b : List ℕ). BreaksRule b asked fault) _ _ c.in-Ok.text.items slice c.in-Ok.ensures.whole c.as_slice.ensures.value c.in-Ok-observe.ensures.short so
          c.in-Ok.ensures.ended,
      refl,
    )

pub returns-in-Err-Overlap-clause-due : goal.returns-in-Err-Overlap-clause-due
returns-in-Err-Overlap-clause-due g c = λ sound.
    let left = g.S.Source.left c.args.source.now in
    let asked = c.args.overlap in
    let slice = c.as_slice.result.now in
    let fault = c.in-Err-Overlap.fault in
    let none : Type 0 = Rises (g.K.Sink.faults c.args.sink.now) (g.K.Sink.faults c.args.sink.now) in
    let only : (other : OverlapFault) → BreaksRule slice asked other → fault ≡ other =
    λ other breaks.
    let told = c.in-Err-Overlap.ensures.due other slice c.in-Ok-observe.ensures.seen breaks in
    cc (told, c.in-Err-Overlap.field-0-is) in
    let due : IfSome left (DueOrNone asked (BrokenOverlap fault) none) =
    due_broken c.traces_have_no_fault.ensures c.faults_are_determined.ensures asked none fault left _ (returns-in-Err-Overlap-clause-overlapped g c).0
    (of_input (λ (b : List ℕ). (other : OverlapFault) → BreaksRule b asked other → fault ≡ other) left c.in-Ok.text.items slice c.in-Ok.ensures.whole c.as_slice.ensures.value only) in
    subst (λ (f : OverlapFault). IfSome left (DueOrNone asked (BrokenOverlap f) none)) (sym c.in-Err-Overlap.fault-is) due

pub returns-clause-due : goal.returns-clause-due
returns-clause-due g c = λ sound.
    due_none_left c.traces_have_no_fault.ensures c.faults_are_determined.ensures c.args.overlap _ (g.S.Source.left c.args.source.now)
