-- Repeated names among the members of an object: which names are still to be read again, and the members without
-- these.
use Rattle.std.specs.Prelude.{ℕ, zero, suc, ◌≡◌, nat_lt, Bool, List, [], ◌∷◌, map, bytes_eq, get_or, if◌then◌else◌, Option, Some, None, string_bytes}
use Rattle.serde_json.specs.Data.{Data, Items, Members, no_members, member, put}
use Rattle.serde_json.specs.View.{members_view}
use Rattle.scenario_read.specs.Sorted.{MembersSorted}
use Rattle.scenario_file.specs.Framing.{with_lists, filled, scheduled, AllStand, MasterStands}
use Rattle.scenario_file.specs.declared.left.Left.{Left}
use Rattle.scenario_file.specs.declared.master.Master.{Master}
use Rattle.scenario_file.specs.declared.master.MasterReading.{MasterReading}
use Rattle.scenario_file.specs.declared.top.Whole.{Whole}
use Rattle.scenario_file.specs.declared.top.Reading.{Reading}

-- the place of a name among these names; the first has the place `i`
abbrev pub place_from : ℕ → List (List ℕ) → List ℕ → Option ℕ
place_from i [] name = None
place_from i (first ∷ names) name = if bytes_eq name first then Some i else place_from (suc i) names name

-- the number at a place; 0 without a place
abbrev pub count_at : List ℕ → Option ℕ → ℕ
count_at counts None = zero
count_at counts (Some place) = get_or counts place 0

-- the name is still to be read again
abbrev pub is_left : Left → List ℕ → Bool
is_left left name = nat_lt 0 (count_at left.counts (place_from 0 (map string_bytes left.names.items) name))

-- the members except those with such names
abbrev pub without : (List ℕ → Bool) → Members → Members
without gone no_members = no_members
without gone (member name d ms) = if gone name then without gone ms else member name d (without gone ms)

-- these members were read, and the frame and the lists are those of the members whose names aren't to be read again
pub record ReadSoFar (reading : Reading) (ms : Members) : Type 0 where
  pub rows : List ℕ → Items
  pub is : without (is_left reading.left) ms ≡ with_lists rows (members_view reading.whole.frame.entries)
  pub stands : AllStand reading.whole.lists (members_view reading.whole.frame.entries) rows
  pub sorted : MembersSorted (members_view reading.whole.frame.entries)

-- a value was read at a name, and what represents it was put into the frame
abbrev pub Grows : Whole → Whole → List ℕ → Data → Type 0
Grows old new name d =
    (rows : List ℕ → Items) → AllStand old.lists (members_view old.frame.entries) rows → MembersSorted (members_view old.frame.entries)
    → (now : List ℕ → Items) × (put name d (with_lists rows (members_view old.frame.entries)) ≡ with_lists now (members_view new.frame.entries))
    × AllStand new.lists (members_view new.frame.entries) now × MembersSorted (members_view new.frame.entries)

-- these members of a master were read, and those whose names aren't to be read again are stored, with these entries
-- as the schedule
pub record MasterReadSoFar (reading : MasterReading) (ms : Members) : Type 0 where
  pub entries : Items
  pub is : without (is_left reading.left) ms ≡ filled (scheduled entries) (members_view reading.master.members.entries)
  pub stands : MasterStands reading.master.schedule (members_view reading.master.members.entries) entries
  pub sorted : MembersSorted (members_view reading.master.members.entries)

-- a value was read at a name of the master, and what represents it was put into the members
abbrev pub MasterGrows : Master → Master → List ℕ → Data → Type 0
MasterGrows old new name d =
    (entries : Items) → MasterStands old.schedule (members_view old.members.entries) entries → MembersSorted (members_view old.members.entries)
    → (now : Items) × (put name d (filled (scheduled entries) (members_view old.members.entries)) ≡ filled (scheduled now) (members_view new.members.entries))
    × MasterStands new.schedule (members_view new.members.entries) now × MembersSorted (members_view new.members.entries)
