use Rattle.std.proofs.Common.{◌≡◌, ◌∙◌, ◌<◌, length, None, refl, sym, subst, arith}
use Rattle.std.specs.Vec.{with_item}
use Rattle.trace_text.specs.declared.lines.Line.TheVariants.{F}
use Rattle.judge_laws.specs.declared.Terms.{Terms}
use Rattle.judge_session.specs.declared.log.LogJudge.{LogJudge}
use Rattle.judge_session.specs.Log.{frame_fault}
use Rattle.judge_session.specs.Standing.{JudgeStands, WatchStands, FollowsOn}
use Rattle.judge_session.proofs.Judging.{here, frame-follows, frame-none, frame-version}
use Rattle.judge_session.proofs.log.LogJudge.frame.Goals as goal

pub returns-in-Ok : goal.returns-in-Ok
returns-in-Ok c = λ counter target s terms before so.
    let j = c.args.self.now in
    let new : LogJudge = record {
      scenario = j.scenario;
      cabinets = with_item j.cabinets c.in-Some.k c.frame.new.self;
      terms = j.terms;
      last = c.max-self.result;
      breaches = c.in-Ok.count;
      line = j.line;
    } in
    let own : JudgeStands j s j.terms before = subst (λ (t : Terms). JudgeStands j s t before) (sym so.by) so in
    let place = c.in-Some.ensures.place s so.many in
    let within = c.in-Some.ensures.within in
    let below : c.in-Some.k < length s.cabinets = omega (arith, so.many, within) in
    let at : WatchStands c.index.result.now s j.terms.joined c.args.cab before =
    here j s j.terms before c.in-Some.k c.args.cab c.index.result.now own place.1 below c.index.ensures in
    let fault : frame_fault c.args.tick c.args.version c.args.cab before ≡ None =
    sym (c.frame_fault.ensures s j.terms.joined c.args.cab before at) ∙ c.in-None.is in
    let was : WatchStands c.index_mut.result.now s j.terms.joined c.args.cab before =
    here j s j.terms before c.in-Some.k c.args.cab c.index_mut.result.now own place.1 below c.index_mut.ensures.value in
    let done = c.in-Ok.ensures {u = tt} s before counter target c.args.version was (frame-version c.args.tick c.args.version c.args.cab before fault) in
    subst (λ (t : Terms). FollowsOn new s t before (F c.args.cab c.args.tick c.args.veh.now c.args.ped.now c.args.mode counter target c.args.version) c.args.out.now.items c.frame.new.out.items) so.by
    (frame-follows j new s j.terms before c.in-Some.k c.args.cab c.frame.new.self c.args.out.now.items c.frame.new.out.items c.args.tick c.args.veh.now c.args.ped.now c.args.mode
    counter target c.args.version place.1 own below refl refl refl c.max-self.ensures
    (frame-none s before c.args.cab c.args.tick c.args.veh.now c.args.ped.now c.args.mode counter target c.args.version place.0 ∙ fault) done.0 done.1)
