use Rattle.judge_session.proofs.KnownTables.{safe_of_none, none_of_safe}
use Rattle.judge_session.proofs.laws.a_log_without_breaches_is_safe.Goals as goal

pub returns : goal.returns
returns c = λ s bytes before log known. (safe_of_none s before log.follow known, none_of_safe s before log.follow known)
