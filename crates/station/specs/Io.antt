-- What a call did to its source and to its sink.
use Rattle.std.specs.Prelude.{◌≡◌, ◌≤◌, ℕ, Bool, List, Option}
use Rattle.io_edge.specs.Edge.{Rises, Stays}
use Rattle.station.specs.declared.status.Status.{Status}
use Rattle.station.specs.declared.status.Status.TheVariants.{Done}

-- what a call did to its source and to its sink. `left` and `ends` are the bytes left in the source before and after
-- the call, and `old` and `new` the bytes written to the sink before and after. They are None if they aren't
-- reported. `unread` means that a read failed, and `unwritten` that a write failed
pub record Io : Type 1 where
  pub left : Option (List ℕ)
  pub ends : Option (List ℕ)
  pub unread : Type 0
  pub old : Option (List ℕ)
  pub new : Option (List ℕ)
  pub unwritten : Type 0

abbrev pub io : Option (List ℕ) → Option (List ℕ) → Type 0 → Option (List ℕ) → Option (List ℕ) → Type 0 → Io
io left ends unread old new unwritten = record { left = left; ends = ends; unread = unread; old = old; new = new; unwritten = unwritten }

-- what a call did to a source and a sink of any kind, from what these report before and after. A read or a write
-- failed if its count of faults rose
abbrev pub io_of : {S K : Type 0} → (S → Option (List ℕ)) → (S → ℕ) → (K → Option (List ℕ)) → (K → ℕ) → S → S → K → K → Io
io_of left reads written writes source source_now sink sink_now =
    io (left source) (left source_now) (Rises (reads source) (reads source_now)) (written sink) (written sink_now) (Rises (writes sink) (writes sink_now))

-- the count of faults didn't fall. If the answer is Done and the count is exact, the count is unchanged, so that no
-- fault was ignored
pub record Counts (status : Status) (exact : Bool) (faults faults_now : ℕ) : Type 0 where
  pub kept : faults ≤ faults_now
  pub done : status ≡ Done → Stays exact faults faults_now
