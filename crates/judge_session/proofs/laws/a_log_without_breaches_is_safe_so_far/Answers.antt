use Rattle.judge_session.proofs.KnownParts.{so-far-of-none, none-of-so-far}
use Rattle.judge_session.proofs.laws.a_log_without_breaches_is_safe_so_far.Goals as goal

pub returns : goal.returns
returns c = λ s bytes before log. (so-far-of-none s before log.follow, none-of-so-far s before log.follow)
