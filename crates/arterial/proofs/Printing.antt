-- One piece of a line after another.
use Rattle.std.proofs.Common.{◌≤◌, ◌∙◌, inl, inr, arith, ℕ, List, ◌++◌, Option, Result, Ok, Err, ap}
use Rattle.io_edge.specs.Edge.{appended, Rises}
use Rattle.io_edge.proofs.Appending.{appended-appended}
use Rattle.io_edge.specs.declared.Failed.{Failed}
use Rattle.trace_writer.proofs.Writing.{held_front, front_held}
use Rattle.arterial.specs.Prints.{Prints}

-- a count that rose from where it was rose from where it was
rises-behind : (a b c : ℕ) → a ≤ b → Rises b c → Rises a c
rises-behind a b c below (inl more) = inl (omega arith)
rises-behind a b c below (inr last) = inr last

module _ {K : Type 0} (written : K → Option (List ℕ)) (faults : K → ℕ) where
  -- the first piece stopped short
  pub prints-first : {e : Failed} (from to : K) (p q : List ℕ) → Prints written faults (Err e) from to p → Prints written faults (Err e) from to (p ++ q)
  prints-first from to p q one = record {
    whole = tt;
    front = front_held _ _ p q one.front;
    fault = one.fault;
    kept = one.kept;
  }

  -- the first piece, and then the others
  pub prints-then : {u : Unit {0}} (result : Result (Unit {0}) Failed) (from at to : K) (p q : List ℕ) → Prints written faults (Ok u) from at p
      → Prints written faults result at to q → Prints written faults result from to (p ++ q)
  prints-then (Ok v) from at to p q one two = record {
    whole = two.whole ∙ ap (λ (o : Option (List ℕ)). appended o q) one.whole ∙ appended-appended (written from) p q;
    front = tt;
    fault = tt;
    kept = let before : faults from ≤ faults at = one.kept in let behind : faults at ≤ faults to = two.kept in omega arith;
  }
  prints-then (Err e) from at to p q one two = record {
    whole = tt;
    front = held_front _ _ _ p q one.whole two.front;
    fault = rises-behind (faults from) (faults at) (faults to) one.kept two.fault;
    kept = let before : faults from ≤ faults at = one.kept in let behind : faults at ≤ faults to = two.kept in omega arith;
  }
