-- The pulses of a round are taken one by one: what those after a place still do.
use Rattle.std.proofs.Common.{◌≡◌, ℕ, ◌+◌, ◌<◌, ◌≤◌, Bool, true, false, ◌&&◌, ◌||◌, not, if◌then◌else◌, List, [], ◌∷◌, length, drop, get_or, refl, sym, ap, ◌∙◌, arith}
use Rattle.std.proofs.lemmas.List.{drop_more, drop_all}
use Rattle.detector_bank.specs.declared.bank.Detector.{Detector}
use Rattle.detector_bank.specs.declared.bank.Pulse.{Pulse}
use Rattle.detector_bank.specs.declared.watch.Taken.{Taken}
use Rattle.detector_bank.specs.Pulses.{is_of, flags_of, after, any_on, some_pulse, edges_from}
use Rattle.detector_bank.proofs.Reaching.{or-none}

-- the pulses before a place were taken
pub record Took (d : Detector) (span : List Pulse) (on : Bool) (i : ℕ) (t : Taken) : Type 0 where
  pub few : t.edges ≤ i
  pub state : after t.on (flags_of d (drop i span)) ≡ after on (flags_of d span)
  pub some : (t.some || some_pulse (flags_of d (drop i span))) ≡ some_pulse (flags_of d span)
  pub had_on : (t.had_on || any_on (flags_of d (drop i span))) ≡ any_on (flags_of d span)
  pub edges : t.edges + edges_from t.on (flags_of d (drop i span)) ≡ edges_from on (flags_of d span)

flags-more : (d : Detector) (span : List Pulse) (i : ℕ) (p : Pulse) → i < length span
    → flags_of d (drop i span) ≡ (if is_of d (get_or span i p) then (get_or span i p).on ∷ flags_of d (drop (i + 1) span) else flags_of d (drop (i + 1) span))
flags-more d span i p h = ap (λ xs. flags_of d xs) (drop_more span i p h)

pub passed : (d : Detector) (span : List Pulse) (on : Bool) (i : ℕ) (t : Taken) (p : Pulse) → i < length span → is_of d (get_or span i p) ≡ false
    → Took d span on i t → Took d span on (i + 1) t
passed d span on i t p h other w =
    let here : flags_of d (drop i span) ≡ flags_of d (drop (i + 1) span) = flags-more d span i p h ∙ ap (λ b. if b then (get_or span i p).on ∷ flags_of d (drop (i + 1) span) else flags_of d (drop (i + 1) span)) other in
    record {
      few = let low = w.few in omega arith;
      state = ap (λ fs. after t.on fs) (sym here) ∙ w.state;
      some = ap (λ fs. t.some || some_pulse fs) (sym here) ∙ w.some;
      had_on = ap (λ fs. t.had_on || any_on fs) (sym here) ∙ w.had_on;
      edges = ap (λ fs. t.edges + edges_from t.on fs) (sym here) ∙ w.edges;
    }

or-true : (b : Bool) → (b || true) ≡ true
or-true true = refl
or-true false = refl

or-assoc : (a b c : Bool) → ((a || b) || c) ≡ (a || (b || c))
or-assoc true b c = refl
or-assoc false b c = refl

pub took : (d : Detector) (span : List Pulse) (on : Bool) (i : ℕ) (t u : Taken) (p : Pulse) → i < length span → is_of d (get_or span i p) ≡ true
    → u.on ≡ (get_or span i p).on → u.some ≡ true → u.had_on ≡ (t.had_on || (get_or span i p).on)
    → u.edges ≡ t.edges + (if (get_or span i p).on && not t.on then 1 else 0)
    → Took d span on i t → Took d span on (i + 1) u
took d span on i t u p h own is some lit edges w =
    let q : Bool = (get_or span i p).on in
    let rest : List Bool = flags_of d (drop (i + 1) span) in
    let here : flags_of d (drop i span) ≡ q ∷ rest = flags-more d span i p h ∙ ap (λ b. if b then q ∷ rest else rest) own in
    let one : (if q && not t.on then 1 else 0) ≤ 1 = at-most (q && not t.on) in
    let low = w.few in
    record {
      few = omega (arith, edges, low, one);
      state = ap (λ b. after b rest) is ∙ ap (λ fs. after t.on fs) (sym here) ∙ w.state;
      some = ap (λ b. b || some_pulse rest) some ∙ sym (or-true t.some) ∙ ap (λ fs. t.some || some_pulse fs) (sym here) ∙ w.some;
      had_on = ap (λ b. b || any_on rest) lit ∙ or-assoc t.had_on q (any_on rest) ∙ ap (λ fs. t.had_on || any_on fs) (sym here) ∙ w.had_on;
      edges = ap (λ b. u.edges + edges_from b rest) is ∙ sums u.edges t.edges (if q && not t.on then 1 else 0) (edges_from q rest) edges ∙ ap (λ fs. t.edges + edges_from t.on fs) (sym here) ∙ w.edges;
    }
  where
    at-most : (b : Bool) → (if b then 1 else 0) ≤ 1
    at-most true = omega arith
    at-most false = omega arith

    sums : (a b c e : ℕ) → a ≡ b + c → a + e ≡ b + (c + e)
    sums a b c e h = omega arith

zero-plus : (n : ℕ) → 0 + n ≡ n
zero-plus n = omega arith

pub took-start : (d : Detector) (span : List Pulse) (on : Bool) → Took d span on 0 (record { on = on; some = false; had_on = false; edges = 0 })
took-start d span on = record { few = omega arith; state = refl; some = refl; had_on = refl; edges = zero-plus (edges_from on (flags_of d span)) }

plus-none : (n : ℕ) → n + 0 ≡ n
plus-none n = omega arith

pub took-all : (d : Detector) (span : List Pulse) (on : Bool) (i : ℕ) (t : Taken) → length span ≤ i → Took d span on i t
    → (t.on ≡ after on (flags_of d span)) × (t.some ≡ some_pulse (flags_of d span)) × (t.had_on ≡ any_on (flags_of d span)) × (t.edges ≡ edges_from on (flags_of d span))
took-all d span on i t past w =
    let none : flags_of d (drop i span) ≡ [] = ap (λ xs. flags_of d xs) (drop_all i span past) in (
      ap (λ fs. after t.on fs) (sym none) ∙ w.state,
      sym (or-none t.some) ∙ ap (λ fs. t.some || some_pulse fs) (sym none) ∙ w.some,
      sym (or-none t.had_on) ∙ ap (λ fs. t.had_on || any_on fs) (sym none) ∙ w.had_on,
      sym (plus-none t.edges) ∙ ap (λ fs. t.edges + edges_from t.on fs) (sym none) ∙ w.edges,
    )
