use Rattle.std.proofs.Common.{◌≡◌, ◌-◌, ◌≤◌, ◌<◌, ℕ, true, length, get_or}
use Rattle.link_sim.specs.declared.agenda.Due.{Due}
use Rattle.link_sim.specs.Agenda.{is_of}
use Rattle.link_sim.proofs.agenda.end_of.Given as goal

abbrev pub invariant-loop-end : goal.invariant-loop-end
invariant-loop-end l = record {
  front : l.from ≤ l.end;
  within : l.end ≤ length l.sorted;
  own : (k : ℕ) → (d : Due) → l.from ≤ k → k < l.end → is_of l.round l.cab (get_or l.sorted k d) ≡ true;
}

abbrev pub decreases-loop-end : goal.decreases-loop-end
decreases-loop-end l = length l.sorted - l.end
