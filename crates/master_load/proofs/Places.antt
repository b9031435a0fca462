-- The loads and cells of a scenario at their places.
use Rattle.std.proofs.Common.{◌≡◌, ℕ, zero, suc, ◌+◌, ◌-◌, ◌≤◌, ◌<◌, min, nat_le, Bool, true, false, Some, List, [], ◌∷◌, map, take, drop, length, get_or, refl, sym, subst, ◌∙◌, ap, arith, add-one, drop-cons, length-drop}
use Rattle.std.specs.List.{slice_get}
use Rattle.std.specs.Option.{option_map}
use Rattle.std.proofs.lemmas.List.{drop_all, take_all, take-map, drop-map}
use Rattle.std.proofs.lemmas.Option.{slice_get-map, slice_get_read}
use Rattle.std.proofs.Math.Seq.{take-nil}
use Rattle.std.proofs.lemmas.Grind.{common_steps}
use Rattle.sig_tables.specs.declared.cells.Cell.{Cell}
use Rattle.sig_tables.specs.declared.cells.CellValue.{CellValue}
use Rattle.sig_tables.specs.Putting.{put_content}
use Rattle.scenario_data.specs.declared.scenario.LoadItem.{LoadItem}
use Rattle.scenario_data.specs.Content.{load_content}
use Rattle.master_load.specs.Downloads.{AreLoads, IsLoad}

-- that many elements after the first ones, with both bounds kept within the list
within : {A : Type 0} (xs : List A) (n first last : ℕ) → first ≡ min (length xs) n → last ≡ min (length xs) (first + 24)
    → take (last - first) (drop first xs) ≡ take 24 (drop n xs)
within xs n first last f l = split (nat_le (length xs) n) refl
  where
    few : n ≤ length xs → (b : Bool) → nat_le (length xs) (n + 24) ≡ b → take (last - first) (drop first xs) ≡ take 24 (drop n xs)
    few low true k =
        let end : length xs ≤ n + 24 = grind (arith, common_steps) in
        let at : first ≡ n = omega (arith, f, low) in
        let short : length (drop n xs) ≤ 24 = omega (arith, length-drop n xs) in
        let size : length (drop n xs) ≤ last - first = omega (arith, length-drop n xs, l, at) in
        ap (λ m. take (last - first) (drop m xs)) at ∙ (take_all (last - first) (drop n xs) size ∙ sym (take_all 24 (drop n xs) short))
    few low false k =
        let at : first ≡ n = omega (arith, f, low) in
        let more : n + 24 < length xs = grind (arith, common_steps) in
        let size : last - first ≡ 24 = omega (arith, l, at, more) in
        ap (λ m. take (last - first) (drop m xs)) at ∙ ap (λ m. take m (drop n xs)) size

    split : (b : Bool) → nat_le (length xs) n ≡ b → take (last - first) (drop first xs) ≡ take 24 (drop n xs)
    split true k =
        let past : length xs ≤ n = grind (arith, common_steps) in
        let end : length xs ≤ first = omega (arith, f, past) in
        ap (take (last - first)) (drop_all first xs end) ∙ (take-nil (last - first) ∙ ap (take 24) (sym (drop_all n xs past)))
    split false k = few (grind (arith, common_steps)) (nat_le (length xs) (n + 24)) refl

pub part_is : (cells : List (Cell × CellValue)) (n first last : ℕ) → first ≡ min (length cells) n → last ≡ min (length cells) (first + 24)
    → map put_content (take (last - first) (drop first cells)) ≡ take 24 (drop n (map put_content cells))
part_is cells n first last f l =
    ap (map put_content) (within cells n first last f l)
    ∙ (sym (take-map put_content 24 (drop n cells)) ∙ ap (take 24) (sym (drop-map put_content n cells)))

-- the loads from a place on
pub loads_from : (items : List LoadItem) (n : ℕ) (x : LoadItem) → n < length items → x ≡ get_or items n x
    → map load_content (drop n items) ≡ load_content x ∷ map load_content (drop (n + 1) items)
loads_from items n x low is =
    ap (map load_content) (drop-cons items n x low ∙ ap (λ y. y ∷ drop (suc n) items) (sym is)) ∙ rw add-one refl

-- the load at a place
pub load_there : (items : List LoadItem) (n : ℕ) (x : LoadItem) → n < length items → x ≡ get_or items n x
    → slice_get (map load_content items) n ≡ Some (load_content x)
load_there items n x low is = slice_get-map load_content items n ∙ ap (λ o. option_map load_content o) (slice_get_read items (length items) n x refl low is)

pub is_load : (items : List LoadItem) (n : ℕ) (x : LoadItem) → AreLoads (map load_content items) → n < length items → x ≡ get_or items n x
    → IsLoad (load_content x)
is_load [] n x all low is = absurd (omega arith)
is_load (y ∷ items) zero x all low is = subst (λ z. IsLoad (load_content z)) (sym is) all.0
is_load (y ∷ items) (suc n) x all low is = is_load items n x all.1 (omega arith) is
