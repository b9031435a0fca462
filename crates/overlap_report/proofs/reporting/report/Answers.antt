use Rattle.std.proofs.Common.{◌≡◌, ◌∙◌, ℕ, List, Err, sym, ap, subst, arith}
use Rattle.overlap_run.specs.declared.overlap.Timing.{Timing}
use Rattle.overlap_run.specs.Overlap.{timed}
use Rattle.overlap_run.specs.Text.{overlap_text}
use Rattle.overlap_run.specs.Parents.{parents_of, green_at}
use Rattle.overlap_run.specs.declared.faults.OverlapFault.{OverlapFault}
use Rattle.overlap_report.specs.declared.reporting.ReportFail.TheVariants.{Overlap}
use Rattle.overlap_report.specs.Overlaps.{times_of, BreaksRule, TellsOverlap}
use Rattle.overlap_report.specs.BySeen.{SaysOfOverlap}
use Rattle.overlap_report.proofs.Greens.{times-same, set-text}
use Rattle.overlap_report.proofs.Says.{fault-not-ok, one-fault}
use Rattle.overlap_report.proofs.reporting.report.Goals as goal

pub text-requires-clause-frames : goal.text-requires-clause-frames
text-requires-clause-frames c =
    let (text, hs) = c.requires.seen in
    (c.overlaps_are_told.ensures text c.args.asked.now c.args.seen.now hs).frames c.in-Ok.ensures.ok

pub returns-in-Err-clause-refused : goal.returns-in-Err-clause-refused
returns-in-Err-clause-refused c = λ fault e text hs.
    let says : SaysOfOverlap text c.args.asked.now c.args.seen.now = c.overlaps_are_told.ensures text c.args.asked.now c.args.seen.now hs in
    let same : c.in-Err.fault ≡ fault = cc in
    subst (λ (f : OverlapFault). BreaksRule text c.args.asked.now f) same (says.breaks c.in-Err.fault c.in-Err.ensures.err)

pub returns-in-Err-clause-due : goal.returns-in-Err-clause-due
returns-in-Err-clause-due c = λ fault text hs b.
    let says : SaysOfOverlap text c.args.asked.now c.args.seen.now = c.overlaps_are_told.ensures text c.args.asked.now c.args.seen.now hs in
    ap (λ (f : OverlapFault). Err (Overlap f)) (one-fault c.in-Err.fault fault _ c.in-Err.ensures.err (says.due fault b))

pub returns-in-Ok-text-clause-told : goal.returns-in-Ok-text-clause-told
returns-in-Ok-text-clause-told c = λ text hs.
    let says : SaysOfOverlap text c.args.asked.now c.args.seen.now = c.overlaps_are_told.ensures text c.args.asked.now c.args.seen.now hs in
    let times : timed c.from-trail.result c.from-yellow.result c.from-red.result ≡ times_of c.args.asked.now =
    times-same c.from-trail.result c.from-yellow.result c.from-red.result c.args.asked.now.trail c.args.asked.now.yellow c.args.asked.now.red
    (omega (arith, c.from-trail.ensures)) (omega (arith, c.from-yellow.ensures)) (omega (arith, c.from-red.ensures)) in
    subst (λ (x : List ℕ). TellsOverlap text c.args.asked.now x)
    (sym (c.in-Ok-text.ensures
    ∙ ap (λ (t : Timing). overlap_text t (green_at (parents_of c.in-Ok.parents) c.args.seen.now.frames.items) c.args.seen.now.ticks) times
    ∙ set-text (times_of c.args.asked.now) c.in-Ok.parents c.args.asked.now.parents.items c.args.seen.now.frames.items c.args.seen.now.ticks
    c.in-Ok.ensures.set (says.phases c.in-Ok.ensures.ok)))
    (says.tells c.in-Ok.ensures.ok)

pub returns-in-Ok-text-clause-due : goal.returns-in-Ok-text-clause-due
returns-in-Ok-text-clause-due c = λ fault text hs b.
    let says : SaysOfOverlap text c.args.asked.now c.args.seen.now = c.overlaps_are_told.ensures text c.args.asked.now c.args.seen.now hs in
    absurd (fault-not-ok fault _ (says.due fault b) c.in-Ok.ensures.ok)

pub returns-in-Err-text-clause-due : goal.returns-in-Err-text-clause-due
returns-in-Err-text-clause-due c = λ fault text hs b.
    let says : SaysOfOverlap text c.args.asked.now c.args.seen.now = c.overlaps_are_told.ensures text c.args.asked.now c.args.seen.now hs in
    absurd (fault-not-ok fault _ (says.due fault b) c.in-Ok.ensures.ok)
