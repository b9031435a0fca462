use Rattle.std.proofs.Common.{◌∙◌, ℕ, Result, Err, ap, sym, subst}
use Rattle.sig_types.specs.declared.notes.Broken.{Broken}
use Rattle.trace_text.specs.declared.lines.Line.TheVariants.{L}
use Rattle.trace_text.specs.declared.lines.Line.{Line}
use Rattle.judge_session.specs.Standing.{FollowsOn}
use Rattle.judge_session.proofs.Judging.{passes}
use Rattle.judge_session.proofs.log.LogJudge.follow.Goals as goal

pub returns-in-Err : goal.returns-in-Err
returns-in-Err c = λ s terms before so.
    subst (λ (l : Line). FollowsOn c.args.self.now s terms before l c.args.out.now.items c.args.out.now.items)
    (sym (c.in-L.is ∙ ap (λ (r : Result ℕ Broken). L c.in-L.cab c.in-L.id r) c.in-Err.is))
    (passes c.args.self.now s terms before c.args.out.now.items (L c.in-L.cab c.in-L.id (Err c.in-Err.field-0)) tt so)

pub returns-in-S : goal.returns-in-S
returns-in-S c = λ s terms before so.
    subst (λ (l : Line). FollowsOn c.args.self.now s terms before l c.args.out.now.items c.args.out.now.items) (sym c.in-S.is)
    (passes c.args.self.now s terms before c.args.out.now.items _ tt so)

pub returns-in-R : goal.returns-in-R
returns-in-R c = λ s terms before so.
    subst (λ (l : Line). FollowsOn c.args.self.now s terms before l c.args.out.now.items c.args.out.now.items) (sym c.in-R.is)
    (passes c.args.self.now s terms before c.args.out.now.items _ tt so)

pub returns-in-M : goal.returns-in-M
returns-in-M c = λ s terms before so.
    subst (λ (l : Line). FollowsOn c.args.self.now s terms before l c.args.out.now.items c.args.out.now.items) (sym c.in-M.is)
    (passes c.args.self.now s terms before c.args.out.now.items _ tt so)

pub returns-in-J : goal.returns-in-J
returns-in-J c = λ s terms before so.
    subst (λ (l : Line). FollowsOn c.args.self.now s terms before l c.args.out.now.items c.args.out.now.items) (sym c.in-J.is)
    (passes c.args.self.now s terms before c.args.out.now.items _ tt so)

pub returns-in-A : goal.returns-in-A
returns-in-A c = λ s terms before so.
    subst (λ (l : Line). FollowsOn c.args.self.now s terms before l c.args.out.now.items c.args.out.now.items) (sym c.in-A.is)
    (passes c.args.self.now s terms before c.args.out.now.items _ tt so)

pub returns-in-Z : goal.returns-in-Z
returns-in-Z c = λ s terms before so.
    subst (λ (l : Line). FollowsOn c.args.self.now s terms before l c.args.out.now.items c.args.out.now.items) (sym c.in-Z.is)
    (passes c.args.self.now s terms before c.args.out.now.items _ tt so)
