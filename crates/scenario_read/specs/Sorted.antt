-- Values whose objects have each name only once, in increasing order of the bytes, as `serde_json` reads them.
use Rattle.std.specs.Prelude.{◌≡◌, ℕ, List}
use Rattle.std.specs.declared.cmp.Ordering.TheVariants.{Less}
use Rattle.std.specs.Ordering.{nat_cmp}
use Rattle.std.specs.Cmp.Lexicographic.{slice_cmp}
use Rattle.serde_json.specs.Data.{Data, null, boolean, number, string, array, object, Items, no_items, item, Members, no_members, member}

-- the name is before each of these names
abbrev pub Below : List ℕ → Members → Type 0
Below name no_members = Unit {0}
Below name (member other d ms) = (slice_cmp nat_cmp name other ≡ Less) × Below name ms

-- the names of each object are in increasing order
abbrev mutual
  pub Sorted : Data → Type 0
  Sorted null = Unit {0}
  Sorted (boolean b) = Unit {0}
  Sorted (number n) = Unit {0}
  Sorted (string s) = Unit {0}
  Sorted (array ds) = ItemsSorted ds
  Sorted (object ms) = MembersSorted ms

  pub ItemsSorted : Items → Type 0
  ItemsSorted no_items = Unit {0}
  ItemsSorted (item d ds) = Sorted d × ItemsSorted ds

  pub MembersSorted : Members → Type 0
  MembersSorted no_members = Unit {0}
  MembersSorted (member name d ms) = Sorted d × Below name ms × MembersSorted ms
