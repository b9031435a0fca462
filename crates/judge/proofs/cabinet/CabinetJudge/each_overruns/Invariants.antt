use Rattle.std.proofs.Common.{◌≡◌, ℕ, ◌<◌, ◌+◌, length, get_or}
use Rattle.judge.specs.Phase.{RunsOver}
use Rattle.judge.specs.Cabinet.{no_watch, no_overruns}
use Rattle.judge.proofs.cabinet.CabinetJudge.each_overruns.Given as goal

abbrev pub invariant-loop-p : goal.invariant-loop-p
invariant-loop-p l = record {
  places : length l.overruns ≡ 16;
  below : (k : ℕ) → k < l.p → RunsOver (get_or l.self.phases k no_watch) (get_or l.overruns k no_overruns) l.tick l.tolerance (k + 1);
}
