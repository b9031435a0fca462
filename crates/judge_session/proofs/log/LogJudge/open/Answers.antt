use Rattle.std.proofs.Common.{◌≡◌, ◌∙◌, ◌+◌, ◌<◌, ◌++◌, ◌∷◌, [], ℕ, List, length, map, get_or, ap, refl, sym, subst, arith}
use Rattle.std.proofs.lemmas.List.{length-append, length-map}
use Rattle.scenario_data.specs.declared.scenario.Cabinet.{Cabinet}
use Rattle.scenario_data.specs.Content.{scenario_content, cabinet_content}
use Rattle.judge_session.specs.declared.watch.CabinetWatch.{CabinetWatch}
use Rattle.judge_session.specs.Standing.{WatchStands}
use Rattle.judge_session.proofs.Judging.{opened-more, opening-is}
use Rattle.judge_session.proofs.log.LogJudge.open.Goals as goal

pub loop-cabinet-preserved : goal.loop-cabinet-preserved
loop-cabinet-preserved c =
    let s = scenario_content c.args.scenario in
    let n = c.loop-cabinet.cabinet-index in
    let items : c.push.new.self.items ≡ c.loop-cabinet.cabinets.items ++ c.new-watch.result ∷ [] = (c.in-Ok-push.ensures {u = tt}).items in
    let below : n < length c.args.scenario.cabinets.items = omega arith in
    let own : WatchStands c.new-watch.result s c.args.terms.joined (n + 1) [] =
    c.new-watch.ensures s (n + 1) (opening-is c.args.scenario.cabinets.items n c.cabinet-item.result below
    (c.cabinet-item.is ∙ ap (λ (xs : List Cabinet). get_or xs n c.cabinet-item.result) c.deref-cabinet-items.ensures.value) ∙ sym c.opening_tables.ensures) in
    record {
      many = ap (λ (xs : List CabinetWatch). length xs) items ∙ length-append c.loop-cabinet.cabinets.items (c.new-watch.result ∷ [])
          ∙ ap (λ (m : ℕ). m + 1) c.loop-cabinet.invariant.many;
      each = subst (λ (xs : List CabinetWatch). (k : ℕ) (w : CabinetWatch) → k < n + 1 → WatchStands (get_or xs k w) s c.args.terms.joined (k + 1) []) (sym items)
          (opened-more s c.args.terms.joined c.loop-cabinet.cabinets.items c.new-watch.result n c.loop-cabinet.invariant.many c.loop-cabinet.invariant.each own);
    }

pub returns : goal.returns
returns c =
    let all : c.loop-cabinet.cabinet-index ≡ length c.args.scenario.cabinets.items = omega arith in
    let same : length (map cabinet_content c.args.scenario.cabinets.items) ≡ length c.args.scenario.cabinets.items = length-map _ _ in
    record {
      scenario = refl;
      by = refl;
      few = rw same c.requires.few;
      many = c.loop-cabinet.invariant.many ∙ all ∙ sym same;
      each = λ k w below. c.loop-cabinet.invariant.each k w (omega (arith, below, all, same));
      last = refl;
      breaches = refl;
    }
