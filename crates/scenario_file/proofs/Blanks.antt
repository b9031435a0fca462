-- Empty objects, which represent the cabinets in the frame of a scenario.
use Rattle.std.proofs.Common.{◌≡◌, ℕ, zero, suc, ◌+◌, List, Bool, true, false, if◌then◌else◌, bytes_eq, codes, refl, ap, ◌∙◌, arith}
use Rattle.serde_json.specs.Data.{object, array, Items, no_items, item, no_members}
use Rattle.serde_json.specs.Events.{items_len}
use Rattle.scenario_read.specs.Sorted.{Sorted, ItemsSorted}
use Rattle.scenario_cut.specs.Growing.{both}
use Rattle.scenario_file.specs.Growing.{blanks}
use Rattle.scenario_file.specs.Framing.{stand_in}

pub blanks-len : (n : ℕ) → items_len (blanks n) ≡ n
blanks-len zero = refl
blanks-len (suc n) = ap suc (blanks-len n)

blanks-more : (n : ℕ) → both (blanks n) (item (object no_members) no_items) ≡ blanks (suc n)
blanks-more zero = refl
blanks-more (suc n) = ap (item (object no_members)) (blanks-more n)

pub blanks-next : (n : ℕ) → both (blanks n) (item (object no_members) no_items) ≡ blanks (n + 1)
blanks-next n = let same : suc n ≡ n + 1 = omega arith in blanks-more n ∙ ap blanks same

blanks-sorted : (n : ℕ) → ItemsSorted (blanks n)
blanks-sorted zero = tt
blanks-sorted (suc n) = (tt, blanks-sorted n)

pub stand_in-sorted : (name : List ℕ) (ds : Items) → Sorted (stand_in name ds)
stand_in-sorted name ds = at (bytes_eq name (codes "cabinets"))
  where
    at : (b : Bool) → Sorted (array (if b then blanks (items_len ds) else no_items))
    at true = blanks-sorted (items_len ds)
    at false = tt
