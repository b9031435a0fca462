use Rattle.std.proofs.Common.{◌≡◌, ℕ, ◌<◌, ◌+◌, length, get_or}
use Rattle.sig_types.specs.declared.frame.Colour.TheVariants.{Green}
use Rattle.sig_types.specs.declared.frame.Ped.TheVariants.{Walk}
use Rattle.sig_types.proofs.InTurn.{InTurn}
use Rattle.sig_tables.specs.Tables.{row}
use Rattle.judge.specs.Lesser.{left_by}
use Rattle.judge.specs.Phase.{StepsOn, FindsOn}
use Rattle.judge.specs.Cabinet.{no_watch, no_found}
use Rattle.judge.proofs.Conflicts.{FindsApart}
use Rattle.judge.proofs.cabinet.CabinetJudge.steps.Given as goal

abbrev pub invariant-loop-p : goal.invariant-loop-p
invariant-loop-p l = record {
  count : length l.self.phases ≡ 16;
  places : length l.found ≡ 16;
  kept : l.self.known ≡ l.fn.self.known;
  each : InTurn (λ k old new. StepsOn old new (k + 1) l.step (get_or l.veh k Green) (get_or l.ped k Walk) (row l.in_force.tables (k + 1)) (left_by l.way (k + 1))) no_watch
      l.fn.self.phases l.self.phases l.p;
  course : (k : ℕ) → k < l.p
      → FindsOn (get_or l.fn.self.phases k no_watch) (get_or l.found k no_found).course (k + 1) l.step (get_or l.veh k Green) (get_or l.ped k Walk) (row l.in_force.tables (k + 1)) (left_by l.way (k + 1));
  apart : (k : ℕ) → k < l.p → FindsApart l.in_force l.lit l.walking (k + 1) (get_or l.found k no_found);
}
