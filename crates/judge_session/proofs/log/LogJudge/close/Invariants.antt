use Rattle.std.proofs.Common.{◌+◌, ◌-◌, List, length}
use Rattle.trace_text.specs.declared.lines.Line.{Line}
use Rattle.scenario_data.specs.Content.{ScenarioContent}
use Rattle.judge_laws.specs.declared.Terms.{Terms}
use Rattle.judge_laws.specs.Overrun.{last_tick, each_overruns}
use Rattle.judge_session.specs.Report.{overruns_at, numbers_from, log_overruns}
use Rattle.judge_session.specs.Standing.{JudgeStands}
use Rattle.judge_session.proofs.Adding.{LeavesOver}
use Rattle.judge_session.proofs.log.LogJudge.close.Given as goal

-- of what is reported at the end the cabinets from this place on are left
abbrev pub invariant-loop-k : goal.invariant-loop-k
invariant-loop-k l = (s : ScenarioContent) (terms : Terms) (before : List Line) → JudgeStands l.self s terms before
    → LeavesOver l.fn.out.items l.out.items (log_overruns s terms before)
    (each_overruns (overruns_at s terms (last_tick before) before) (numbers_from (l.k + 1) (length s.cabinets - l.k)))
