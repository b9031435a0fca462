-- Counts over rounds: the edges of the latest rounds, and the place of a round's edges modulo sixty.
use Rattle.std.proofs.Common.{◌≡◌, ◌≢◌, ℕ, zero, suc, ◌+◌, ◌-◌, ◌*◌, ◌%◌, ◌^◌, ◌<◌, ◌≤◌, ◌&&◌, Bool, true, false, not, if◌then◌else◌, min, List, [], ◌∷◌, length, replicate, get_or, refl, sym, ap, ◌∙◌, add-one, arith}
use Rattle.detector_bank.specs.declared.bank.Detector.{Detector}
use Rattle.detector_bank.specs.declared.bank.Pulse.{Pulse}
use Rattle.detector_bank.specs.Pulses.{in_round, is_of, flags_of, flags, edges_from, edges_in, state}
use Rattle.detector_bank.specs.Bank.{latest_edges}

-- two rounds of the latest sixty have two places
pub slot-other : (j r : ℕ) → r < suc j → suc j < r + 60 → r % 60 ≢ suc j % 60
slot-other j r less near = λ e. omega (arith, e, less, near)

pub zeros : (n i z : ℕ) → get_or (replicate n z) i z ≡ z
zeros zero i z = refl
zeros (suc n) zero z = refl
zeros (suc n) (suc i) z = zeros n i z

-- an item of a list, whatever represents one past its end
pub same-item : {A : Type 0} (xs : List A) (k : ℕ) (a b : A) → k < length xs → get_or xs k a ≡ get_or xs k b
same-item [] k a b h = absurd (omega (arith, h))
same-item (x ∷ xs) zero a b h = refl
same-item (x ∷ xs) (suc k) a b h = same-item xs k a b (omega (arith, h))

-- the edges of one round more, the earliest
pub one-more : (d : Detector) (ps : List Pulse) (n j : ℕ) → latest_edges d ps (suc n) j ≡ latest_edges d ps n j + edges_in d ps (j - n)
one-more d ps zero zero = refl
one-more d ps (suc n) zero = let none : 0 - suc n ≡ 0 = omega arith in rw none refl
one-more d ps zero (suc j) = let all : suc j - 0 ≡ suc j = omega arith in rw all (swap (edges_in d ps (suc j)))
  where
    swap : (n : ℕ) → n + 0 ≡ 0 + n
    swap n = omega arith
one-more d ps (suc n) (suc j) =
    let less : suc j - suc n ≡ j - n = omega arith in
    rw less (sums (edges_in d ps (suc j)) (latest_edges d ps (suc n) j) (latest_edges d ps n j) (edges_in d ps (j - n)) (one-more d ps n j))
  where
    sums : (a b c e : ℕ) → b ≡ c + e → a + b ≡ (a + c) + e
    sums a b c e h = omega arith

-- no more edges than pulses
edges-few : (on : Bool) (fs : List Bool) → edges_from on fs ≤ length fs
edges-few on [] = omega arith
edges-few on (f ∷ fs) = let rest = edges-few f fs in let one = at-most (f && not on) in omega arith
  where
    at-most : (b : Bool) → (if b then 1 else 0) ≤ 1
    at-most true = omega arith
    at-most false = omega arith

flags-few : (d : Detector) (ps : List Pulse) → length (flags_of d ps) ≤ length ps
flags-few d [] = omega arith
flags-few d (p ∷ ps) = at (is_of d p) (flags-few d ps)
  where
    at : (b : Bool) → length (flags_of d ps) ≤ length ps → length (if b then p.on ∷ flags_of d ps else flags_of d ps) ≤ suc (length ps)
    at true h = omega arith
    at false h = omega arith

kept-few : (j : ℕ) (ps : List Pulse) → length (in_round j ps) ≤ length ps
kept-few j [] = omega arith
kept-few j (p ∷ ps) = grind (arith, kept-few j ps)

in-few : (d : Detector) (ps : List Pulse) (j : ℕ) → edges_in d ps j ≤ length ps
in-few d ps zero = omega arith
in-few d ps (suc j) =
    let a = edges-few (state d ps j) (flags d ps (suc j)) in
    let b = flags-few d (in_round (suc j) ps) in
    let c = kept-few (suc j) ps in
    omega arith

pub latest-few : (d : Detector) (ps : List Pulse) → length ps ≤ 1000000 → (n j : ℕ) → latest_edges d ps n j ≤ 1000000 * n
latest-few d ps few zero j = omega arith
latest-few d ps few (suc n) zero = omega arith
latest-few d ps few (suc n) (suc j) =
    let a = in-few d ps (suc j) in let b = latest-few d ps few n j in
    sums (edges_in d ps (suc j)) (latest_edges d ps n j) (length ps) a few b
  where
    sums : (a b c : ℕ) → a ≤ c → c ≤ 1000000 → b ≤ 1000000 * n → a + b ≤ 1000000 * suc n
    sums a b c h few k = omega arith

-- fewer rounds have no more edges
pub fewer : (d : Detector) (ps : List Pulse) (j : ℕ) → latest_edges d ps 59 j ≤ latest_edges d ps 60 j
fewer d ps j = at (latest_edges d ps 60 j) (latest_edges d ps 59 j) (edges_in d ps (j - 59)) (one-more d ps 59 j)
  where
    at : (a b c : ℕ) → a ≡ b + c → b ≤ a
    at a b c e = omega (arith, e)

-- the count of the latest edges goes from round to round
pub counted-next : (d : Detector) (ps : List Pulse) (n j sum edges place : ℕ) → length ps ≤ 1000000 → n < 60 → place ≡ j - n → edges ≡ edges_in d ps place
    → sum ≡ latest_edges d ps n j → min (sum + edges) (2 ^ 32 - 1) ≡ latest_edges d ps (n + 1) j
counted-next d ps n j sum edges place few low at own is =
    at-most sum edges (latest_edges d ps n j) (edges_in d ps (j - n)) (latest_edges d ps (suc n) j) is (own ∙ ap (λ k. edges_in d ps k) at) (one-more d ps n j)
    (latest-few d ps few (suc n) j) low ∙ ap (λ m. latest_edges d ps m j) (sym (add-one n))
  where
    small : (x : ℕ) → x ≤ 60000000 → min x (2 ^ 32 - 1) ≡ x
    small x h = grind arith

    at-most : (s e a b x : ℕ) → s ≡ a → e ≡ b → x ≡ a + b → x ≤ 1000000 * suc n → n < 60 → min (s + e) (2 ^ 32 - 1) ≡ x
    at-most s e a b x p q r few less = let bound : x ≤ 60000000 = omega (arith, few, less) in let sums : x ≡ s + e = omega (arith, p, q, r) in rw (← sums) (small x bound)
