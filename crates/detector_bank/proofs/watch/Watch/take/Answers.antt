use Rattle.std.proofs.Common.{refl, rules, ap, ap₂, ◌∙◌, Bool, ℕ, ◌+◌, ◌%◌, ◌^◌, ◌-◌, min, if◌then◌else◌}
use Rattle.std.specs.Prelude.{slice_set}
use Rattle.detector_bank.proofs.Watched.{watch-taken}
use Rattle.detector_bank.proofs.watch.Watch.take.Goals as goal

pub returns : goal.returns
returns c = λ ps j is are h.
    let w = c.args.self.now in
    let t = c.take_pulses-taken in
    let r = c.args.round in
    let last = c.saturating_sub-last.result in
    watch-taken w _ c.args.detector.now ps j r last _ (search rules) (search rules) is c.saturating_sub-last.ensures are t.ensures.on
    (c.round_if-self.ensures ∙ ap (λ b. if b then r else w.last_pulse) t.ensures.some)
    (c.round_if-self-2.ensures ∙ ap (λ b. if b then r else w.last_on) t.ensures.had_on)
    (c.saturating_sub-self.ensures ∙ ap (λ n. last - n) c.present-present.ensures)
    (c.round_if-self-3.ensures ∙ ap₂ (λ (b : Bool) (n : ℕ). if b then r else n) c.is_past-now.ensures (c.round_if-past.ensures ∙ ap (λ b. if b then last else w.last_past_delay) c.is_past-before.ensures))
    (c.saturating_add-self.ensures ∙ ap (λ n. min (w.most + n) (2 ^ 32 - 1)) t.ensures.edges)
    refl (ap (λ n. slice_set w.edges (r % 60) n) t.ensures.edges) h
