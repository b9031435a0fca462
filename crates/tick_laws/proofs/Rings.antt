-- What the rules of the rings begin goes together.
use Rattle.std.proofs.Common.{◌≡◌, ◌≢◌, ◌⊎◌, inl, inr, ℕ, ◌<◌, ◌≤◌, Bool, true, false, ◌&&◌, if◌then◌else◌, ◌==◌, List, [], ◌∷◌, ◌++◌, refl, sym, ◌∙◌, subst, arith}
use Rattle.std.proofs.lemmas.Bool.{cases_Bool, and_parts, false≢true, both_ways}
use Rattle.sig_types.specs.Phases.{is_phase, is_in, first, or_else, only, after, up_to}
use Rattle.sig_types.specs.Colour.{on_in}
use Rattle.sig_tables.specs.declared.tables.Tables.{Tables}
use Rattle.sig_tables.specs.Tables.{ring_of, is_enabled, order_of}
use Rattle.sig_tables.specs.Sides.{are_concurrent, are_of_one_side, ring_phases, sides}
use Rattle.sig_tables.specs.Looking.{last_on}
use Rattle.sig_tables.specs.View.{View, on_phase, is_open, present_side, present, later_in, earlier_in, later, earlier, can_begin, elsewhere, greatest_clearance}
use Rattle.sig_tables.specs.Moves.{beginning_in, from_side, can_enter, can_join, entering_in, entering, stays_in_side, beginning_both, beginning_of}
use Rattle.tick_laws.specs.Lawful.{Sound}
use Rattle.sig_types.proofs.Lists.{in-those, in-first, in-append, in-or_else, in-after, in-up_to, Single, single-first, single-or_else, eq-true, phase-in}
use Rattle.tick_laws.proofs.FrameStands.{FrameStands, Fits}
use Rattle.tick_laws.proofs.OneSide.{own}

-- q is of ring r and of the side of s
abbrev pub Lies : Tables → ℕ → ℕ → ℕ → Type 0
Lies t s r q = (ring_of t q ≡ r) × (are_of_one_side t s q ≡ true)

lies : (t : Tables) (n s r q : ℕ) → is_in (ring_phases t n s r) q ≡ true → Lies t s r q
lies t n s r q h =
    let k : ((ring_of t q == r) && are_of_one_side t s q) ≡ true = (in-those (λ x. ring_of t x == r && are_of_one_side t s x) (order_of t n r) q h).0 in
    let l : ((ring_of t q == r) ≡ true) × (are_of_one_side t s q ≡ true) = and_parts _ _ k in
    (eq-true _ _ l.0, l.1)

lies-enabled : (t : Tables) (s r q : ℕ) → Lies t s r q → is_enabled t q ≡ true
lies-enabled t s r q l =
    (and_parts (is_enabled t s) (is_enabled t q) (and_parts (is_enabled t s && is_enabled t q) _ l.1).0).1

in-later_in : (phases : List ℕ) (last q : ℕ) → is_in (later_in phases last) q ≡ true → is_in phases q ≡ true
in-later_in phases last q h = split (is_in phases last) h
  where
    split : (b : Bool) → is_in (if b then after last phases else phases) q ≡ true → is_in phases q ≡ true
    split true k = in-after last phases q k
    split false k = k

in-earlier_in : (phases : List ℕ) (last q : ℕ) → is_in (earlier_in phases last) q ≡ true → is_in phases q ≡ true
in-earlier_in phases last q h = split (is_in phases last) h
  where
    split : (b : Bool) → is_in (if b then up_to last phases else []) q ≡ true → is_in phases q ≡ true
    split true k = in-up_to last phases q k
    split false k = absurd (false≢true k)

-- a list of at most one phase, of ring r and the side of s
pub record Part (t : Tables) (s r : ℕ) (xs : List ℕ) : Type 0 where
  pub single : Single xs
  pub lies : (q : ℕ) → is_in xs q ≡ true → Lies t s r q

part-none : (t : Tables) (s r : ℕ) → Part t s r []
part-none t s r = record { single = λ p q h k. absurd (false≢true h); lies = λ q h. absurd (false≢true h) }

part-else : (t : Tables) (s r : ℕ) (xs ys : List ℕ) → Part t s r xs → Part t s r ys → Part t s r (or_else xs ys)
part-else t s r xs ys a b = record {
  single = single-or_else xs ys a.single b.single;
  lies = λ q h. elim (in-or_else xs ys q h) [ inl k ↦ a.lies q k | inr k ↦ b.lies q k ];
}

part-first : (t : Tables) (s r : ℕ) (test : ℕ → Bool) (xs : List ℕ) → ((q : ℕ) → is_in xs q ≡ true → Lies t s r q) → Part t s r (first test xs)
part-first t s r test xs h = record { single = single-first test xs; lies = λ q k. h q (in-first test xs q k).1 }

part-if : (t : Tables) (s r : ℕ) (b : Bool) (xs : List ℕ) → Part t s r xs → Part t s r (if b then [] else xs)
part-if t s r true xs a = part-none t s r
part-if t s r false xs a = a

part-beginning : (v : View) (k r : ℕ) → Part v.tables (present_side v) r (beginning_in v k r)
part-beginning v k r =
    part-else _ _ _ _ _
    (part-first _ _ _ (can_begin v) (later v r) (λ q h. lies v.tables v.sequence (present_side v) r q (in-later_in (present v r) (last_on r v.past) q h)))
    (part-if _ _ _ (elsewhere v k) _
    (part-first _ _ _ (can_begin v) (earlier v r) (λ q h. lies v.tables v.sequence (present_side v) r q (in-earlier_in (present v r) (last_on r v.past) q h))))

part-entering : (v : View) (s r : ℕ) → Part v.tables s r (entering_in v s r)
part-entering v s r =
    part-else _ _ _ _ _
    (part-first _ _ _ (can_begin v) (ring_phases v.tables v.sequence s r) (λ q h. lies v.tables v.sequence s r q h))
    (part-first _ _ _ (can_join v) (ring_phases v.tables v.sequence s r) (λ q h. lies v.tables v.sequence s r q h))

-- enabled phases that go together
pub record Group (t : Tables) (xs : List ℕ) : Type 0 where
  pub enabled : (q : ℕ) → is_in xs q ≡ true → is_enabled t q ≡ true
  pub together : (p q : ℕ) → is_in xs p ≡ true → is_in xs q ≡ true → (p ≡ q) ⊎ (are_concurrent t p q ≡ true)

group-two : (t : Tables) (s : ℕ) (xs ys : List ℕ) → Sound t → Part t s 1 xs → Part t s 2 ys → Group t (xs ++ ys)
group-two t s xs ys sound a b = record {
  enabled = λ q h. elim (in-append xs ys q h) [
    | inl k ↦ lies-enabled t s 1 q (a.lies q k)
    | inr k ↦ lies-enabled t s 2 q (b.lies q k)
  ];
  together = λ p q h k. pair p q (in-append xs ys p h) (in-append xs ys q k);
}
  where
    apart : (m n : ℕ) → m ≡ 1 → n ≡ 2 → m ≢ n
    apart m n e f g = omega arith

    pair : (p q : ℕ) → (is_in xs p ≡ true) ⊎ (is_in ys p ≡ true) → (is_in xs q ≡ true) ⊎ (is_in ys q ≡ true) → (p ≡ q) ⊎ (are_concurrent t p q ≡ true)
    pair p q (inl h) (inl k) = inl (a.single p q h k)
    pair p q (inl h) (inr k) = inr (sound.side s p q (a.lies p h).1 (b.lies q k).1 (apart _ _ (a.lies p h).0 (b.lies q k).0))
    pair p q (inr h) (inl k) = inr (sound.side s p q (b.lies p h).1 (a.lies q k).1 (λ e. apart _ _ (a.lies q k).0 (b.lies p h).0 (sym e)))
    pair p q (inr h) (inr k) = inl (b.single p q h k)

part-entered : (v : View) (heads : List ℕ) (r : ℕ) → Part v.tables (only heads) r (entering v heads r)
part-entered v [] r = part-none v.tables 0 r
part-entered v (s ∷ rest) r = part-entering v s r

-- the sides in the order in which they are tried, where both rings are open, and the one that is entered
abbrev tried : View → List ℕ
tried v = from_side v.tables (present_side v) (sides v.tables v.sequence) []

abbrev entered : View → List ℕ
entered v = first (can_enter v) (tried v)

-- the side in which both rings begin, where both are open
abbrev side-both : View → ℕ
side-both v = if stays_in_side v then present_side v else only (entered v)

part-both : (v : View) (r : ℕ) → Part v.tables (side-both v) r (beginning_both v r)
part-both v r = split (stays_in_side v)
  where
    split : (b : Bool) → Part v.tables (if b then present_side v else only (entered v)) r (if b then beginning_in v 0 r else entering v (entered v) r)
    split true = part-beginning v 0 r
    split false = part-entered v _ r

-- the side in which the rings begin
abbrev side-begun : View → ℕ
side-begun v = if is_open v 1 then (if is_open v 2 then side-both v else present_side v) else present_side v

part-one : (v : View) → Part v.tables (side-begun v) 1 (beginning_of v 1)
part-one v = split (is_open v 1) (is_open v 2)
  where
    split : (a b : Bool) → Part v.tables (if a then (if b then side-both v else present_side v) else present_side v) 1
        (if a then (if b then beginning_both v 1 else beginning_in v (greatest_clearance v) 1) else [])
    split true true = part-both v 1
    split true false = part-beginning v (greatest_clearance v) 1
    split false b = part-none _ _ _

part-two : (v : View) → Part v.tables (side-begun v) 2 (beginning_of v 2)
part-two v = split (is_open v 1) (is_open v 2)
  where
    split : (a b : Bool) → Part v.tables (if a then (if b then side-both v else present_side v) else present_side v) 2
        (if b then (if a then beginning_both v 2 else beginning_in v (greatest_clearance v) 2) else [])
    split true true = part-both v 2
    split true false = part-none _ _ _
    split false true = part-beginning v (greatest_clearance v) 2
    split false false = part-none _ _ _

group-begun : (v : View) → Sound v.tables → Group v.tables (beginning_of v 1 ++ beginning_of v 2)
group-begun v sound = group-two v.tables (side-begun v) _ _ sound (part-one v) (part-two v)

-- only an open ring begins something
open-begins : (v : View) (r q : ℕ) → is_in (beginning_of v r) q ≡ true → is_open v r ≡ true
open-begins v r q h = split (is_open v r) _ h
  where
    split : (b : Bool) (xs : List ℕ) → is_in (if b then xs else []) q ≡ true → b ≡ true
    split true xs k = refl
    split false xs k = absurd (false≢true k)

-- the side in which a ring begins while the other stays is that of the phase that stays
side-one : (v : View) → is_open v 1 ≡ false → side-begun v ≡ on_phase v 1
side-one v e = choose (is_open v 1) _ _ _ e
  where
    choose : (a : Bool) (x y z : ℕ) → a ≡ false → (if a then x else (if a then y else z)) ≡ z
    choose true x y z e = absurd (false≢true (sym e))
    choose false x y z e = refl

side-two : (v : View) → is_open v 1 ≡ true → is_open v 2 ≡ false → side-begun v ≡ on_phase v 2
side-two v e f = choose (is_open v 1) (is_open v 2) _ _ _ _ e f
  where
    choose : (a b : Bool) (w x y z : ℕ) → a ≡ true → b ≡ false
        → (if a then (if b then w else (if a then (if b then x else y) else z)) else (if a then (if b then x else y) else z)) ≡ y
    choose true true w x y z e f = absurd (false≢true (sym f))
    choose true false w x y z e f = refl
    choose false b w x y z e f = absurd (false≢true e)

-- a ring with a phase that stays is not open
pub closed : (v : View) (r p : ℕ) → is_phase p ≡ true → on_phase v r ≡ p → is_in v.ended p ≡ false → is_open v r ≡ false
closed v r p ph e n = rw (e, n, zero-no p ph) refl
  where
    zero-no : (p : ℕ) → is_phase p ≡ true → (p == 0) ≡ false
    zero-no p ph = elim (cases_Bool (p == 0)) [
      | inl k ↦ absurd (let z : p ≡ 0 = eq-true _ _ k in let l : (0 < p) × (p ≤ 16) = phase-in p ph in omega arith)
      | inr f ↦ f
    ]

pub beside-side : (t : Tables) (p q r s : ℕ) → Sound t → is_enabled t p ≡ true → ring_of t p ≡ r → Lies t p s q → r ≢ s
    → (are_concurrent t p q ≡ true) × (are_concurrent t q p ≡ true)
beside-side t p q r s sound e rp l ne =
    let apart : ring_of t p ≢ ring_of t q = λ same. ne (sym rp ∙ same ∙ l.0) in
    (sound.side p p q (own t p e) l.1 apart, sound.side p q p l.1 (own t p e) (λ same. apart (sym same)))

-- what the rings begin fits
pub rings-fit : (v : View) → Sound v.tables → FrameStands v.tables v.frame
    → Fits v.tables v.frame v.ended (beginning_of v 1 ++ beginning_of v 2)
rings-fit v sound stands = record {
  enabled = λ q h. (group-begun v sound).enabled q h;
  beside = λ p q ph on stays h.
      let en : is_enabled v.tables p ≡ true = stands.enabled p ph on in
      elim (sound.ring p en) [
        | inl e ↦ one p q ph en e (subst (λ (r : ℕ). on_in v.frame r ≡ p) e (stands.placed p ph on)) stays
            (in-append (beginning_of v 1) (beginning_of v 2) q h)
        | inr e ↦ two p q ph en e (subst (λ (r : ℕ). on_in v.frame r ≡ p) e (stands.placed p ph on)) stays
            (in-append (beginning_of v 1) (beginning_of v 2) q h)
      ];
  together = λ p q h k. (group-begun v sound).together p q h k;
}
  where
    one : (p q : ℕ) → is_phase p ≡ true → is_enabled v.tables p ≡ true → ring_of v.tables p ≡ 1 → on_phase v 1 ≡ p → is_in v.ended p ≡ false
        → (is_in (beginning_of v 1) q ≡ true) ⊎ (is_in (beginning_of v 2) q ≡ true)
        → (are_concurrent v.tables p q ≡ true) × (are_concurrent v.tables q p ≡ true)
    one p q ph en e at stays (inl x) = absurd (both_ways _ (closed v 1 p ph at stays) (open-begins v 1 q x))
    one p q ph en e at stays (inr x) =
        beside-side v.tables p q 1 2 sound en e
        (subst (λ (s : ℕ). Lies v.tables s 2 q) (side-one v (closed v 1 p ph at stays) ∙ at) ((part-two v).lies q x))
        (λ no. omega arith)

    two : (p q : ℕ) → is_phase p ≡ true → is_enabled v.tables p ≡ true → ring_of v.tables p ≡ 2 → on_phase v 2 ≡ p → is_in v.ended p ≡ false
        → (is_in (beginning_of v 1) q ≡ true) ⊎ (is_in (beginning_of v 2) q ≡ true)
        → (are_concurrent v.tables p q ≡ true) × (are_concurrent v.tables q p ≡ true)
    two p q ph en e at stays (inl x) =
        beside-side v.tables p q 2 1 sound en e
        (subst (λ (s : ℕ). Lies v.tables s 1 q) (side-two v (open-begins v 1 q x) (closed v 2 p ph at stays) ∙ at) ((part-one v).lies q x))
        (λ no. omega arith)
    two p q ph en e at stays (inr x) = absurd (both_ways _ (closed v 2 p ph at stays) (open-begins v 2 q x))
