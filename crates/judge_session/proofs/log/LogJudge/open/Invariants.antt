use Rattle.std.proofs.Common.{◌≡◌, ◌+◌, ◌<◌, ℕ, [], length, get_or}
use Rattle.scenario_data.specs.Content.{scenario_content}
use Rattle.judge_session.specs.declared.watch.CabinetWatch.{CabinetWatch}
use Rattle.judge_session.specs.Standing.{WatchStands}
use Rattle.judge_session.proofs.log.LogJudge.open.Given as goal

-- the cabinets before this place stand
abbrev pub invariant-loop-cabinet : goal.invariant-loop-cabinet
invariant-loop-cabinet l = record {
  many : length l.cabinets.items ≡ l.cabinet-index;
  each : (k : ℕ) (w : CabinetWatch) → k < l.cabinet-index → WatchStands (get_or l.cabinets.items k w) (scenario_content l.fn.scenario) l.fn.terms.joined (k + 1) [];
}
