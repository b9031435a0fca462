-- Repeated members of a scenario: if several members have the same name, only the last counts. Until it is read, null
-- represents the earlier ones.
use Rattle.std.specs.Prelude.{ℕ, zero, suc, ◌≡◌, nat_lt, false, if◌then◌else◌, List, [], ◌∷◌, bytes_eq, codes, get_or}
use Rattle.serde_json.specs.Data.{Data, null, Members, no_members, member}

-- the names whose values may be large
abbrev pub large_names : List (List ℕ)
large_names = codes "cabinets" ∷ codes "master" ∷ codes "inputs" ∷ codes "loads" ∷ codes "priority" ∷ codes "frames" ∷ codes "faults" ∷ []

-- the place of a name in this list; if it isn't in the list, the length of the list
abbrev pub place_in : List (List ℕ) → List ℕ → ℕ
place_in [] name = zero
place_in (first ∷ names) name = if bytes_eq name first then zero else suc (place_in names name)

-- the value of a member, or null if a later member has the same name. `left` has the number of later members for each
-- of the large names
abbrev pub hidden : List ℕ → List ℕ → Data → Data
hidden left name d = if nat_lt 0 (get_or left (place_in large_names name) 0) then null else d

-- the members, each with the value that `fill` makes of its name and its value
abbrev pub filled : (List ℕ → Data → Data) → Members → Members
filled fill no_members = no_members
filled fill (member name d ms) = member name (fill name d) (filled fill ms)

-- the value `d` is read at a name, and `standing` represents it until then. At this name `now` makes `d` of
-- `standing`; at every other name it makes the same as `old`
pub record Enters (old now : List ℕ → Data → Data) (name : List ℕ) (d standing : Data) : Type 0 where
  pub here : now name standing ≡ d
  pub others : (other : List ℕ) → bytes_eq other name ≡ false → (e : Data) → old other e ≡ now other e
