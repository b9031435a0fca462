use Rattle.std.proofs.Common.{◌≡◌, ◌∙◌, ◌++◌, ◌<◌, ℕ, List, length, map, Ok, Some, None, append-nil, ap, refl, sym, subst, arith}
use Rattle.std.specs.Vec.{with_item}
use Rattle.sig_tables.specs.Putting.{put_content}
use Rattle.trace_text.specs.declared.lines.Line.TheVariants.{L}
use Rattle.scenario_data.specs.declared.scenario.LoadItem.{LoadItem}
use Rattle.scenario_data.specs.Content.{ScenarioContent, load_content}
use Rattle.judge_laws.specs.declared.Terms.{Terms}
use Rattle.judge_session.specs.declared.log.LogJudge.{LogJudge}
use Rattle.judge_session.specs.Told.{load_told}
use Rattle.judge_session.specs.Log.{load_fault}
use Rattle.judge_session.specs.Standing.{JudgeStands, WatchStands, FollowsOn}
use Rattle.judge_session.proofs.Judging.{here, load-follows, load-none, load-version, has-load}
use Rattle.judge_session.proofs.log.LogJudge.load.Goals as goal

pub returns-in-Ok : goal.returns-in-Ok
returns-in-Ok c = λ s terms before so.
    let j = c.args.self.now in
    let new : LogJudge = record {
      scenario = j.scenario;
      cabinets = with_item j.cabinets c.in-Some.k c.put_unknown_load.new.self;
      terms = j.terms;
      last = j.last;
      breaches = j.breaches;
      line = j.line;
    } in
    let own : JudgeStands j s j.terms before = subst (λ (t : Terms). JudgeStands j s t before) (sym so.by) so in
    let place = c.in-Some.ensures.place s so.many in
    let within = c.in-Some.ensures.within in
    let below : c.in-Some.k < length s.cabinets = omega (arith, so.many, within) in
    let at : WatchStands c.index.result.now s j.terms.joined c.args.cab before =
    here j s j.terms before c.in-Some.k c.args.cab c.index.result.now own place.1 below c.index.ensures in
    let fault : load_fault c.args.version c.args.cab before ≡ None =
    sym (c.load_fault.ensures s j.terms.joined c.args.cab before at) ∙ c.in-None.is in
    let was : WatchStands c.index_mut.result.now s j.terms.joined c.args.cab before =
    here j s j.terms before c.in-Some.k c.args.cab c.index_mut.result.now own place.1 below c.index_mut.ensures.value in
    let loads : s.loads ≡ map load_content c.as_slice.result.now =
    ap (λ (x : ScenarioContent). x.loads) (sym so.scenario) ∙ ap (λ (xs : List LoadItem). map load_content xs) (sym c.as_slice.ensures.value) in
    let done = c.in-Ok.ensures {u = tt} s j.terms.joined before was (load-version c.args.version c.args.cab before fault) (sym (c.in_default-load_of.ensures s loads)) in
    subst (λ (t : Terms). FollowsOn new s t before (L c.args.cab c.args.id (Ok c.args.version)) c.args.out.now.items c.put_unknown_load.new.out.items) so.by
    (load-follows j new s j.terms before c.in-Some.k c.args.cab c.put_unknown_load.new.self c.args.out.now.items c.put_unknown_load.new.out.items c.args.id c.args.version
    place.1 own below refl refl refl refl refl (load-none s before c.args.cab c.args.id c.args.version place.0 ∙ fault) done.0 done.1)

pub returns : goal.returns
returns c = λ s terms before so.
    let j = c.args.self.now in
    let new : LogJudge = record {
      scenario = j.scenario;
      cabinets = with_item j.cabinets c.in-Some.k c.put_load.new.self;
      terms = j.terms;
      last = j.last;
      breaches = j.breaches;
      line = j.line;
    } in
    let own : JudgeStands j s j.terms before = subst (λ (t : Terms). JudgeStands j s t before) (sym so.by) so in
    let place = c.in-Some.ensures.place s so.many in
    let within = c.in-Some.ensures.within in
    let below : c.in-Some.k < length s.cabinets = omega (arith, so.many, within) in
    let at : WatchStands c.index.result.now s j.terms.joined c.args.cab before =
    here j s j.terms before c.in-Some.k c.args.cab c.index.result.now own place.1 below c.index.ensures in
    let fault : load_fault c.args.version c.args.cab before ≡ None =
    sym (c.load_fault.ensures s j.terms.joined c.args.cab before at) ∙ c.in-None.is in
    let was : WatchStands c.index_mut-2.result.now s j.terms.joined c.args.cab before =
    here j s j.terms before c.in-Some.k c.args.cab c.index_mut-2.result.now own place.1 below c.index_mut-2.ensures.value in
    let loads : s.loads ≡ map load_content c.as_slice.result.now =
    ap (λ (x : ScenarioContent). x.loads) (sym so.scenario) ∙ ap (λ (xs : List LoadItem). map load_content xs) (sym c.as_slice.ensures.value) in
    let told : load_told s c.args.cab c.args.id ≡ Some (map put_content c.in-Some-load_of.load.now.cells.items) = sym (c.in-Some-load_of.ensures s loads) in
    let done = c.put_load.ensures s j.terms.joined c.args.cab c.args.id before was (load-version c.args.version c.args.cab before fault) told in
    subst (λ (t : Terms). FollowsOn new s t before (L c.args.cab c.args.id (Ok c.args.version)) c.args.out.now.items c.args.out.now.items) so.by
    (load-follows j new s j.terms before c.in-Some.k c.args.cab c.put_load.new.self c.args.out.now.items c.args.out.now.items c.args.id c.args.version
    place.1 own below refl refl refl refl refl (load-none s before c.args.cab c.args.id c.args.version place.0 ∙ fault)
    (sym (ap (λ (t : List ℕ). c.args.out.now.items ++ t) (has-load s before c.args.cab c.args.id c.args.version _ told) ∙ append-nil c.args.out.now.items)) done)
