-- Names that an object must not have. The first of them in the order of bytes is stored while the members are read.
use Rattle.std.specs.Prelude.{ℕ, if◌then◌else◌, List, Option, Some, None}
use Rattle.std.specs.Cmp.Lexicographic.{slice_cmp}
use Rattle.std.specs.Ordering.{match_ordering, nat_cmp}
use Rattle.serde_json.specs.Data.{null, Members, no_members, member, put}
use Rattle.scenario_read.specs.Kinds.{is_among}

-- the first name that isn't one of these
abbrev pub first_other : List (List ℕ) → Members → Option (List ℕ)
first_other own no_members = None
first_other own (member name d ms) = if is_among own name then first_other own ms else Some name

-- the earlier of two names in the order of bytes, if there are two
abbrev pub lesser : List ℕ → Option (List ℕ) → Option (List ℕ)
lesser name None = Some name
lesser name (Some held) = match_ordering (slice_cmp nat_cmp name held) (Some name) (Some held) (Some held)

-- these members, and this name with null if there is one
abbrev pub with_other : Option (List ℕ) → Members → Members
with_other None ms = ms
with_other (Some name) ms = put name null ms
