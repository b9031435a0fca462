-- The lists of the copies that a line stores. Copies whose rounds of arrival have the same remainder modulo 32 are in
-- one list.
use Rattle.std.specs.Prelude.{ℕ, zero, suc, ◌≡◌, ◌≤◌, ◌+◌, ◌%◌, ◌⊎◌, All, List, [], ◌∷◌, ◌++◌, Option}
use Rattle.scenario_data.specs.declared.scenario.Fault.{Fault}
use Rattle.link_sim.specs.declared.stream_line.Late.{Late}
use Rattle.link_sim.specs.declared.stream_line.LateList.{LateList}
use Rattle.link_sim.specs.Faults.{copied}
use Rattle.link_sim.specs.Due.{due_texts}

-- the copies in the list at this place
abbrev pub on_late_list : List LateList → ℕ → List Late
on_late_list [] k = []
on_late_list (late_list ∷ more) zero = late_list.copies.items
on_late_list (late_list ∷ more) (suc k) = on_late_list more k

-- the octets of those copies that arrive in round `due` and whose messages were sent before round `before`
abbrev pub listed_late : ℕ → ℕ → List LateList → List (List ℕ)
listed_late before due late_lists = due_texts before due (on_late_list late_lists (due % 32))

-- in each later round the same copies arrive as before, and after them these copies; `copies` gives them by the
-- number of rounds
abbrev pub AreListedLater : ℕ → (ℕ → List (List ℕ)) → List LateList → List LateList → Type 0
AreListedLater round copies old new =
    (rounds : ℕ) → 1 ≤ rounds
    → listed_late (round + 1) (round + rounds) new ≡ listed_late (round + 1) (round + rounds) old ++ copies rounds

-- no copy is of a message that was sent after this round
abbrev pub NoneAfter : ℕ → List LateList → Type 0
NoneAfter round late_lists = (k : ℕ) → All (λ copy. copy.sent ≤ round) (on_late_list late_lists k)

-- the copies that arrive in this round or later and whose messages were sent before it are still stored; copies of
-- messages sent in it or later aren't
pub record DropsPast (round : ℕ) (old new : List Late) : Type 0 where
  pub now : (due : ℕ) → round ≤ due → due_texts round due new ≡ due_texts round due old
  pub next : (due : ℕ) → round ≤ due → due_texts (round + 1) due new ≡ due_texts round due old
  pub sent : All (λ copy. copy.sent ≤ round) new

-- this is the list for the round in which the message's copy arrives, if it has a copy that arrives then
abbrev pub IsOwnLateList : ℕ → ℕ → Option Fault → ℕ → List ℕ → Type 0
IsOwnLateList late_list round fault rounds text = ((round + rounds) % 32 ≡ late_list) ⊎ (copied fault rounds text ≡ [])
