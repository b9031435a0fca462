-- What it means that bytes were handed over to a writer. Its sink reports the bytes written and counts its faults.
use Rattle.std.specs.Prelude.{◌≡◌, ◌≤◌, ◌<◌, ℕ, Bool, List, Option, Result, Err, OnOk, OnErr}
use Rattle.io_edge.specs.Edge.{Rises, Stays, Appends}
use Rattle.trace_writer.specs.declared.writer.Stop.{Stop}
use Rattle.trace_writer.specs.declared.writer.Stop.TheVariants.{WriteFault}
use Rattle.trace_writer.specs.declared.writer.Writer.{Writer}
use Rattle.trace_writer.specs.Bytes.{AppendsFront, AppendsUpTo, Puts, PutsFront, PutsUpTo}

-- the bytes that the writer holds back
abbrev pub held_by : Writer → List ℕ
held_by w = w.held.items

-- the text was handed over after the bytes held back, and all of these are written except the bytes that are held
-- back now; or the writer stopped, and a proper prefix is written. If a write fails, the sink's count of faults
-- rises; the count never falls. An exact count is unchanged if everything was handed over.
pub record HandsOver {K : Type 0} (written : K → Option (List ℕ)) (faults : K → ℕ) (exact : Bool) (result : Result (Unit {0}) Stop) (old new : Writer)
    (from to : K) (text : List ℕ) : Type 0 where
  pub whole : OnOk result (Puts (written from) (written to) (held_by old) (held_by new) text)
  pub front : OnErr result (PutsFront (written from) (written to) (held_by old) text)
  pub fault : result ≡ Err WriteFault → Rises (faults from) (faults to)
  pub counts : OnOk result (Stays exact (faults from) (faults to))
  pub kept : faults from ≤ faults to

-- the whole text was written, and an exact count of faults is unchanged; or a proper prefix of the text was written
pub record Writes {K : Type 0} (written : K → Option (List ℕ)) (faults : K → ℕ) (exact : Bool) (result : Result (Unit {0}) Stop) (from to : K) (text : List ℕ) : Type 0 where
  pub whole : OnOk result (Appends (written from) (written to) text)
  pub front : OnErr result (AppendsFront (written from) (written to) text)
  pub fault : result ≡ Err WriteFault → Rises (faults from) (faults to)
  pub counts : OnOk result (Stays exact (faults from) (faults to))
  pub kept : faults from ≤ faults to

-- if everything was handed over, no round is left. If rounds are left, nothing was written after the bytes held back
-- and the text of the closed rounds
pub record HandsWithin {K : Type 0} (written : K → Option (List ℕ)) (result : Result (Unit {0}) Stop) (old : Writer) (from to : K) (left : ℕ) (text : List ℕ) : Type 0 where
  pub none : OnOk result (left ≡ 0)
  pub up_to : 0 < left → PutsUpTo (written from) (written to) (held_by old) text

-- the same for what was written
pub record WritesWithin {K : Type 0} (written : K → Option (List ℕ)) (result : Result (Unit {0}) Stop) (from to : K) (left : ℕ) (text : List ℕ) : Type 0 where
  pub none : OnOk result (left ≡ 0)
  pub up_to : 0 < left → AppendsUpTo (written from) (written to) text
