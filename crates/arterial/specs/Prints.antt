-- Which part of a text was printed.
use Rattle.std.specs.Prelude.{◌≤◌, ℕ, List, Option, Result, OnOk, OnErr}
use Rattle.io_edge.specs.Edge.{Appends, Rises}
use Rattle.io_edge.specs.declared.Failed.{Failed}
use Rattle.trace_writer.specs.Bytes.{AppendsFront}

-- the whole text was written; or a write failed, the count of faults rose, and a proper prefix of the text was
-- written
pub record Prints {K : Type 0} (written : K → Option (List ℕ)) (faults : K → ℕ) (result : Result (Unit {0}) Failed) (from to : K) (text : List ℕ) : Type 0 where
  pub whole : OnOk result (Appends (written from) (written to) text)
  pub front : OnErr result (AppendsFront (written from) (written to) text)
  pub fault : OnErr result (Rises (faults from) (faults to))
  pub kept : faults from ≤ faults to
