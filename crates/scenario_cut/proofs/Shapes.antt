-- What is kept of a value has its objects sorted where the value has, and nests no deeper.
use Rattle.std.proofs.Common.{◌≤◌, ℕ, zero, suc, max, Bool, true, false, if◌then◌else◌, List, arith}
use Rattle.serde_json.specs.Data.{Data, null, boolean, number, string, array, object, Items, no_items, item, Members, no_members, member, depth, items_depth, members_depth}
use Rattle.scenario_read.specs.Kinds.{is_among}
use Rattle.scenario_read.specs.Sorted.{Below, Sorted, ItemsSorted, MembersSorted}
use Rattle.scenario_cut.specs.Cutting.{Form, opens_array, opens_object, item_form, member_form, names_at, only, few, room, room_behind, drops, cut, cut_items, cut_members}

either-sorted : (b : Bool) (d : Data) → Sorted d → Sorted (if b then d else null)
either-sorted true d sorted = sorted
either-sorted false d sorted = tt

dropped-sorted : (b : Bool) (ds : Items) → ItemsSorted ds → ItemsSorted (if b then no_items else ds)
dropped-sorted true ds sorted = tt
dropped-sorted false ds sorted = sorted

below-kept : (f : Form) (name : List ℕ) (ms : Members) → Below name ms → Below name (cut_members f ms)
below-kept f name no_members below = tt
below-kept f name (member other d ms) below = (below.0, below-kept f name ms below.1)

pub below-only : (known : List (List ℕ)) (name : List ℕ) (ms : Members) → Below name ms → Below name (only known ms)
below-only known name no_members below = tt
below-only known name (member other d ms) below = at (is_among known other) (below-only known name ms below.1)
  where
    at : (b : Bool) → Below name (only known ms) → Below name (if b then member other d (only known ms) else only known ms)
    at true later = (below.0, later)
    at false later = later

pub only-sorted : (known : List (List ℕ)) (ms : Members) → MembersSorted ms → MembersSorted (only known ms)
only-sorted known no_members sorted = tt
only-sorted known (member name d ms) sorted = at (is_among known name) (only-sorted known ms sorted.2)
  where
    at : (b : Bool) → MembersSorted (only known ms) → MembersSorted (if b then member name d (only known ms) else only known ms)
    at true later = (sorted.0, below-only known name ms sorted.1, later)
    at false later = later

below-few : (known : List (List ℕ)) (name : List ℕ) (ms : Members) → Below name ms → Below name (few known ms)
below-few known name no_members below = tt
below-few known name (member other d ms) below = at (is_among known other) (below-few known name ms below.1)
  where
    at : (b : Bool) → Below name (few known ms) → Below name (if b then member other d (few known ms) else member other null (only known ms))
    at true later = (below.0, later)
    at false later = (below.0, below-only known name ms below.1)

few-sorted : (known : List (List ℕ)) (ms : Members) → MembersSorted ms → MembersSorted (few known ms)
few-sorted known no_members sorted = tt
few-sorted known (member name d ms) sorted = at (is_among known name) (few-sorted known ms sorted.2)
  where
    at : (b : Bool) → MembersSorted (few known ms) → MembersSorted (if b then member name d (few known ms) else member name null (only known ms))
    at true later = (sorted.0, below-few known name ms sorted.1, later)
    at false later = (tt, below-only known name ms sorted.1, only-sorted known ms sorted.2)

mutual
  pub sorted-kept : (f : Form) (d : Data) → Sorted d → Sorted (cut f d)
  sorted-kept f null sorted = tt
  sorted-kept f (boolean b) sorted = tt
  sorted-kept f (number n) sorted = tt
  sorted-kept f (string s) sorted = tt
  sorted-kept f (array ds) sorted = either-sorted (opens_array f) (array (cut_items (item_form f) (room (item_form f)) ds)) (items-kept (item_form f) (room (item_form f)) ds sorted)
  sorted-kept f (object ms) sorted = either-sorted (opens_object f) (object (few (names_at f) (cut_members f ms))) (few-sorted (names_at f) (cut_members f ms) (members-kept f ms sorted))

  items-kept : (f : Form) (n : ℕ) (ds : Items) → ItemsSorted ds → ItemsSorted (cut_items f n ds)
  items-kept f n no_items sorted = tt
  items-kept f zero (item d ds) sorted = dropped-sorted (drops f) (item null (cut_items f zero ds)) (tt, items-kept f zero ds sorted.1)
  items-kept f (suc n) (item d ds) sorted = (sorted-kept f d sorted.0, items-kept f (room_behind f n d) ds sorted.1)

  pub members-kept : (f : Form) (ms : Members) → MembersSorted ms → MembersSorted (cut_members f ms)
  members-kept f no_members sorted = tt
  members-kept f (member name d ms) sorted = (sorted-kept (member_form f name) d sorted.0, below-kept f name ms sorted.1, members-kept f ms sorted.2)

either-low : (b : Bool) (d e : Data) → depth d ≤ depth e → depth (if b then d else null) ≤ depth e
either-low true d e low = low
either-low false d e low = omega arith

dropped-low : (b : Bool) (ds : Items) (n : ℕ) → items_depth ds ≤ n → items_depth (if b then no_items else ds) ≤ n
dropped-low true ds n low = omega arith
dropped-low false ds n low = low

max-low : (a b c d : ℕ) → a ≤ c → b ≤ d → max a b ≤ max c d
max-low a b c d p q = omega (arith, p, q)

only-low : (known : List (List ℕ)) (ms : Members) → members_depth (only known ms) ≤ members_depth ms
only-low known no_members = omega arith
only-low known (member name d ms) = at (is_among known name) (only-low known ms)
  where
    at : (b : Bool) → members_depth (only known ms) ≤ members_depth ms → members_depth (if b then member name d (only known ms) else only known ms) ≤ members_depth (member name d ms)
    at true later = max-low (depth d) (members_depth (only known ms)) (depth d) (members_depth ms) (omega arith) later
    at false later = omega (arith, later)

few-low : (known : List (List ℕ)) (ms : Members) → members_depth (few known ms) ≤ members_depth ms
few-low known no_members = omega arith
few-low known (member name d ms) = at (is_among known name) (few-low known ms)
  where
    at : (b : Bool) → members_depth (few known ms) ≤ members_depth ms → members_depth (if b then member name d (few known ms) else member name null (only known ms)) ≤ members_depth (member name d ms)
    at true later = max-low (depth d) (members_depth (few known ms)) (depth d) (members_depth ms) (omega arith) later
    at false later = max-low 0 (members_depth (only known ms)) (depth d) (members_depth ms) (omega arith) (only-low known ms)

mutual
  pub depth-kept : (f : Form) (d : Data) → depth (cut f d) ≤ depth d
  depth-kept f null = omega arith
  depth-kept f (boolean b) = omega arith
  depth-kept f (number n) = omega arith
  depth-kept f (string s) = omega arith
  depth-kept f (array ds) = either-low (opens_array f) (array (cut_items (item_form f) (room (item_form f)) ds)) (array ds) (omega (arith, items-low (item_form f) (room (item_form f)) ds))
  depth-kept f (object ms) = either-low (opens_object f) (object (few (names_at f) (cut_members f ms))) (object ms) (omega (arith, few-low (names_at f) (cut_members f ms), members-low f ms))

  items-low : (f : Form) (n : ℕ) (ds : Items) → items_depth (cut_items f n ds) ≤ items_depth ds
  items-low f n no_items = omega arith
  items-low f zero (item d ds) =
      dropped-low (drops f) (item null (cut_items f zero ds)) (items_depth (item d ds))
      (max-low 0 (items_depth (cut_items f zero ds)) (depth d) (items_depth ds) (omega arith) (items-low f zero ds))
  items-low f (suc n) (item d ds) = max-low (depth (cut f d)) (items_depth (cut_items f (room_behind f n d) ds)) (depth d) (items_depth ds) (depth-kept f d) (items-low f (room_behind f n d) ds)

  members-low : (f : Form) (ms : Members) → members_depth (cut_members f ms) ≤ members_depth ms
  members-low f no_members = omega arith
  members-low f (member name d ms) = max-low (depth (cut (member_form f name) d)) (members_depth (cut_members f ms)) (depth d) (members_depth ms) (depth-kept (member_form f name) d) (members-low f ms)
