use Rattle.std.proofs.Common.{◌≡◌, ◌∙◌, ◌+◌, ◌-◌, ◌++◌, ◌<◌, ◌≤◌, ℕ, List, length, append_assoc, ap, refl, sym, subst, arith}
use Rattle.judge_laws.specs.declared.Terms.{Terms}
use Rattle.judge_laws.specs.declared.Overrun.{Overrun}
use Rattle.judge_laws.specs.Overrun.{last_tick, each_overruns}
use Rattle.judge_session.specs.Report.{overruns_at, overruns_text, numbers_from, log_overruns, log_found, total_text}
use Rattle.judge_session.specs.Standing.{JudgeStands, WatchStands}
use Rattle.judge_session.proofs.Adding.{over-next, over-none, on-ok-then}
use Rattle.judge_session.proofs.Judging.{here, numbers-next, numbers-none}
use Rattle.judge_session.proofs.log.LogJudge.close.Goals as goal

pub loop-k-preserved : goal.loop-k-preserved
loop-k-preserved c = λ s terms before so.
    let j = c.args.self.now in
    let k = c.loop-k.k in
    let of : ℕ → List Overrun = overruns_at s terms (last_tick before) before in
    let own : JudgeStands j s j.terms before = subst (λ (t : Terms). JudgeStands j s t before) (sym so.by) so in
    let below : k < length s.cabinets = omega (arith, so.many) in
    let at : WatchStands c.index.result.now s j.terms.joined (k + 1) before = here j s j.terms before k (k + 1) c.index.result.now own refl below c.index.ensures in
    let told : c.overruns.new.out.items ≡ c.loop-k.out.items ++ overruns_text (of (k + 1)) = c.in_ok-overruns.ensures {u = tt} s before at
    ∙ ap (λ (t : Terms). c.loop-k.out.items ++ overruns_text (overruns_at s t j.last before (k + 1))) so.by
    ∙ ap (λ (n : ℕ). c.loop-k.out.items ++ overruns_text (overruns_at s terms n before (k + 1))) so.last in
    over-next c.args.out.now.items c.loop-k.out.items c.overruns.new.out.items (log_overruns s terms before)
    (each_overruns of (numbers_from (k + 1) (length s.cabinets - k))) (of (k + 1)) (each_overruns of (numbers_from (k + 1 + 1) (length s.cabinets - (k + 1))))
    (ap (λ (ns : List ℕ). each_overruns of ns) (numbers-next k (length s.cabinets) below)) (c.loop-k.invariant s terms before so) told

pub returns : goal.returns
returns c = on-ok-then _ _ c.put_total.result (λ put s terms before so.
    let k = c.loop-k.k in
    let of : ℕ → List Overrun = overruns_at s terms (last_tick before) before in
    let all : length s.cabinets ≤ k = omega (arith, so.many) in
    let many : c.len.result ≡ length s.cabinets = omega (arith, so.many) in
    let over : c.loop-k.out.items ≡ c.args.out.now.items ++ overruns_text (log_overruns s terms before) =
    over-none c.args.out.now.items c.loop-k.out.items (log_overruns s terms before) (each_overruns of (numbers_from (k + 1) (length s.cabinets - k)))
    (ap (λ (ns : List ℕ). each_overruns of ns) (numbers-none k (length s.cabinets) all)) (c.loop-k.invariant s terms before so) in
    put ∙ ap (λ (n : ℕ). c.loop-k.out.items ++ total_text n c.args.self.now.breaches) many
    ∙ ap (λ (n : ℕ). c.loop-k.out.items ++ total_text (length s.cabinets) n) so.breaches
    ∙ ap (λ (t : List ℕ). t ++ total_text (length s.cabinets) (length (log_found s terms before))) over
    ∙ append_assoc c.args.out.now.items (overruns_text (log_overruns s terms before)) (total_text (length s.cabinets) (length (log_found s terms before)))) c.put_total.ensures
