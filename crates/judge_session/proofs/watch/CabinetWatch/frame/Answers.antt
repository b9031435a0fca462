use Rattle.std.proofs.Common.{◌∙◌, List, refl, sym, subst}
use Rattle.safety_laws.specs.Safe.{told}
use Rattle.safety_laws.specs.Whole.{downloads}
use Rattle.judge_laws.specs.declared.Breach.{Breach}
use Rattle.judge_session.specs.Told.{tables_before}
use Rattle.judge_session.specs.Standing.{Adds}
use Rattle.judge_session.proofs.Adding.{if-ok-then}
use Rattle.judge_session.proofs.Watching.{shown, frame-known, frame-shows, found-known}
use Rattle.judge_session.proofs.watch.CabinetWatch.frame.Goals as goal

pub returns : goal.returns
returns c = if-ok-then _ _ c.put_found.result (λ now adds s before counter target version so e.
    let both = frame-shows c.args.self.now s c.args.terms.joined c.args.cab c.args.tick c.args.veh.now c.args.ped.now c.args.mode before so c.if-not-self.false in
    let found = c.line-found.ensures c.args.terms.joined (tables_before s before c.args.cab) (told c.args.cab before)
    (shown c.args.tick c.args.veh.now c.args.ped.now c.args.mode (downloads c.args.cab before)) c.args.cab both.0 both.1 in
    rw e (
      subst (λ (x : List Breach). Adds c.args.out.now.items c.put_found.new.out.items c.args.count now x)
          (found.0 ∙ sym (found-known s c.args.terms before c.args.cab c.args.tick c.args.veh.now c.args.ped.now c.args.mode counter target (downloads c.args.cab before) (sym so.known ∙ c.if-not-self.false))) adds,
      frame-known c.args.self.now _ s c.args.terms.joined c.args.cab c.args.tick c.args.veh.now c.args.ped.now c.args.mode counter target before so refl refl refl refl
          (λ tables older line a b. (c.line-found.ensures c.args.terms.joined tables older line c.args.cab a b).1),
    )) c.put_found.ensures
