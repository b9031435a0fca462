-- What the place of a cabinet's next load says of the load with the next number.
use Rattle.std.proofs.Common.{◌≡◌, ℕ, zero, suc, ◌+◌, ◌-◌, ◌≤◌, ◌<◌, ℤ, Option, Some, None, List, [], ◌∷◌, map, drop, length, get_or, refl, sym, subst, ◌∙◌, ap, arith}
use Rattle.std.specs.List.{slice_get}
use Rattle.std.proofs.lemmas.List.{drop_all, drop-map}
use Rattle.std.proofs.lemmas.Grind.{common_steps}
use Rattle.scenario_data.specs.declared.scenario.LoadItem.{LoadItem}
use Rattle.scenario_data.specs.Content.{load_content}
use Rattle.master_load.specs.declared.download.LoadFrame.{LoadFrame}
use Rattle.master_load.specs.declared.download.Step.TheVariants.{Begin}
use Rattle.master_load.specs.Downloads.{IsFirstOf, loads_of, load_at}
use Rattle.master_load.specs.Loading.{begin_next, begin_where, begun_by, frame_of}
use Rattle.master_load.proofs.Places.{loads_from}

-- the element at a place is the first of those from there on
nothing_there : {A : Type 0} (xs : List A) (n : ℕ) → [] ≡ drop n xs → slice_get xs n ≡ None
nothing_there [] n e = refl
nothing_there (x ∷ xs) zero e = grind (arith, e, common_steps)
nothing_there (x ∷ xs) (suc n) e = nothing_there xs n e

one_there : {A : Type 0} (xs : List A) (n : ℕ) (x : A) (ys : List A) → x ∷ ys ≡ drop n xs → slice_get xs n ≡ Some x
one_there [] zero x ys e = grind (arith, e, common_steps)
one_there [] (suc n) x ys e = grind (arith, e, common_steps)
one_there (y ∷ xs) zero x ys e = cc
one_there (y ∷ xs) (suc n) x ys e = one_there xs n x ys e

more_there : {A : Type 0} (xs : List A) (n : ℕ) (x : A) (ys : List A) → x ∷ ys ≡ drop n xs → ys ≡ drop (suc n) xs
more_there [] zero x ys e = grind (arith, e, common_steps)
more_there [] (suc n) x ys e = grind (arith, e, common_steps)
more_there (y ∷ xs) zero x ys e = cc
more_there (y ∷ xs) (suc n) x ys e = more_there xs n x ys e

-- the loads of the cabinet that are not begun, from the place that was found on
pub left_from : (items : List LoadItem) (cab next place begun : ℕ)
    → loads_of cab (map load_content (drop place items)) ≡ loads_of cab (map load_content (drop next items))
    → loads_of cab (drop next (map load_content items)) ≡ drop begun (loads_of cab (map load_content items))
    → loads_of cab (map load_content (drop place items)) ≡ drop begun (loads_of cab (map load_content items))
left_from items cab next place begun none rest = none ∙ (ap (loads_of cab) (sym (drop-map load_content next items)) ∙ rest)

-- where the place is past the end, no load begins
pub nothing_begins : (items : List LoadItem) (cab round place : ℕ) (id : ℤ) (sent last : Option LoadFrame) → length items ≤ place → sent ≡ last
    → loads_of cab (map load_content (drop place items)) ≡ drop (begun_by sent) (loads_of cab (map load_content items))
    → None ≡ begin_next (map load_content items) cab round id (begun_by last)
nothing_begins items cab round place id sent last past is left =
    let empty : [] ≡ drop (begun_by sent) (loads_of cab (map load_content items)) = ap (λ xs. loads_of cab (map load_content xs)) (sym (drop_all place items past)) ∙ left in
    let at : begun_by sent + 1 - 1 ≡ begun_by sent = omega arith in
    let none : load_at (loads_of cab (map load_content items)) (begun_by sent + 1) ≡ None =
    ap (slice_get (loads_of cab (map load_content items))) at ∙ nothing_there (loads_of cab (map load_content items)) (begun_by sent) empty in
    subst (λ o. None ≡ begin_next (map load_content items) cab round id (begun_by o)) is (ap (begin_where cab round id (begun_by sent)) (sym none))

-- the load at the place that was found is the next one of the cabinet
first_left : (items : List LoadItem) (cab place begun : ℕ) (x : LoadItem) → place < length items → x ≡ get_or items place x
    → IsFirstOf cab (map load_content (drop place items))
    → loads_of cab (map load_content (drop place items)) ≡ drop begun (loads_of cab (map load_content items))
    → load_content x ∷ loads_of cab (map load_content (drop (place + 1) items)) ≡ drop begun (loads_of cab (map load_content items))
first_left items cab place begun x low is first left =
    let here = loads_from items place x low is in
    let named : x.cabinet ≡ cab = subst (IsFirstOf cab) here first in
    let kept : loads_of cab (load_content x ∷ map load_content (drop (place + 1) items)) ≡ load_content x ∷ loads_of cab (map load_content (drop (place + 1) items)) = grind (arith, named, common_steps) in
    sym kept ∙ (sym (ap (loads_of cab) here) ∙ left)

pub next_load : (items : List LoadItem) (cab place begun : ℕ) (x : LoadItem) → place < length items → x ≡ get_or items place x
    → IsFirstOf cab (map load_content (drop place items))
    → loads_of cab (map load_content (drop place items)) ≡ drop begun (loads_of cab (map load_content items))
    → load_at (loads_of cab (map load_content items)) (begun + 1) ≡ Some (load_content x)
next_load items cab place begun x low is first left =
    let at : begun + 1 - 1 ≡ begun = omega arith in
    ap (slice_get (loads_of cab (map load_content items))) at
    ∙ one_there (loads_of cab (map load_content items)) begun (load_content x) (loads_of cab (map load_content (drop (place + 1) items))) (first_left items cab place begun x low is first left)

pub next_left : (items : List LoadItem) (cab place begun : ℕ) (x : LoadItem) → place < length items → x ≡ get_or items place x
    → IsFirstOf cab (map load_content (drop place items))
    → loads_of cab (map load_content (drop place items)) ≡ drop begun (loads_of cab (map load_content items))
    → loads_of cab (drop (place + 1) (map load_content items)) ≡ drop (begun + 1) (loads_of cab (map load_content items))
next_left items cab place begun x low is first left =
    let one : suc begun ≡ begun + 1 = omega arith in
    ap (loads_of cab) (drop-map load_content (place + 1) items)
    ∙ (more_there (loads_of cab (map load_content items)) begun (load_content x) (loads_of cab (map load_content (drop (place + 1) items))) (first_left items cab place begun x low is first left)
    ∙ ap (λ n. drop n (loads_of cab (map load_content items))) one)

-- it begins where its round has come, and not before
pub begins_now : (items : List LoadItem) (cab round : ℕ) (id : ℤ) (sent last : Option LoadFrame) (x : LoadItem) → x.round ≤ round → sent ≡ last
    → load_at (loads_of cab (map load_content items)) (begun_by sent + 1) ≡ Some (load_content x)
    → Some (frame_of cab (begun_by sent + 1) id Begin) ≡ begin_next (map load_content items) cab round id (begun_by last)
begins_now items cab round id sent last x come is there =
    let now : begin_where cab round id (begun_by sent) (Some (load_content x)) ≡ Some (frame_of cab (begun_by sent + 1) id Begin) = grind (arith, come, common_steps) in
    subst (λ o. Some (frame_of cab (begun_by sent + 1) id Begin) ≡ begin_next (map load_content items) cab round id (begun_by o)) is
    (sym now ∙ ap (begin_where cab round id (begun_by sent)) (sym there))

pub begins_later : (items : List LoadItem) (cab round : ℕ) (id : ℤ) (sent last : Option LoadFrame) (x : LoadItem) → round < x.round → sent ≡ last
    → load_at (loads_of cab (map load_content items)) (begun_by sent + 1) ≡ Some (load_content x)
    → None ≡ begin_next (map load_content items) cab round id (begun_by last)
begins_later items cab round id sent last x later is there =
    let now : begin_where cab round id (begun_by sent) (Some (load_content x)) ≡ None = grind (arith, later, common_steps) in
    subst (λ o. None ≡ begin_next (map load_content items) cab round id (begun_by o)) is
    (sym now ∙ ap (begin_where cab round id (begun_by sent)) (sym there))
