use Rattle.std.proofs.Common.{[], ◌∷◌, sym, subst}
use Rattle.trace_text.specs.declared.lines.Line.{Line}
use Rattle.whole_run.specs.Adding.{Adds}
use Rattle.whole_run.proofs.counts.CountsTeller.tell.Goals as goal

pub returns-in_ok-count_frame-in-F : goal.returns-in_ok-count_frame-in-F
returns-in_ok-count_frame-in-F c =
    subst (λ (line : Line). Adds c.args.self.now c.count_frame.new.counts (line ∷ [])) (sym c.in-F.is) (c.in_ok-count_frame-in-F.ensures {u = tt} _ _ _ _ _ _ _)
