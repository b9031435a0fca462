use Rattle.std.proofs.Common.{◌∙◌, sym}
use Rattle.judge_session.proofs.Adding.{clean-by}
use Rattle.judge_session.proofs.listing.is_clean.Goals as goal

pub returns : goal.returns
returns c = λ same cab tick p. clean-by cab tick p c.args.found c.empty.result c.empty.ensures.has (sym c.eq.ensures ∙ same)
