-- The least preempt that passes a test.
use Rattle.std.proofs.Common.{◌≡◌, ◌<◌, ◌≤◌, ◌⊎◌, inl, inr, ℕ, zero, suc, Bool, true, false, ◌&&◌, nat_le, nat_lt, List, [], ◌∷◌, length, get_or, refl, ◌∙◌, arith}
use Rattle.std.proofs.lemmas.Bool.{cases_Bool, ltb-true, leb-true}
use Rattle.sig_types.specs.Phases.{is_in, those, first, only}
use Rattle.sig_types.proofs.Lists.{in-head, in-tail}
use Rattle.sig_types.proofs.Sets.{in-every, in-those-is}
use Rattle.sig_tables.specs.Preempts.{all_preempts}

-- preempts are 1 to 8
pub listed-preempt : (i : ℕ) → 0 < i → i ≤ 8 → is_in all_preempts i ≡ true
listed-preempt zero above within = absurd (omega arith)
listed-preempt (suc zero) above within = refl
listed-preempt (suc (suc zero)) above within = refl
listed-preempt (suc (suc (suc zero))) above within = refl
listed-preempt (suc (suc (suc (suc zero)))) above within = refl
listed-preempt (suc (suc (suc (suc (suc zero))))) above within = refl
listed-preempt (suc (suc (suc (suc (suc (suc zero)))))) above within = refl
listed-preempt (suc (suc (suc (suc (suc (suc (suc zero))))))) above within = refl
listed-preempt (suc (suc (suc (suc (suc (suc (suc (suc zero)))))))) above within = refl
listed-preempt (suc (suc (suc (suc (suc (suc (suc (suc (suc i))))))))) above within = absurd (omega arith)

pub preempt-above : (i : ℕ) → is_in all_preempts i ≡ true → 0 < i
preempt-above i h = ltb-true 0 i (in-every (nat_lt 0) all_preempts i refl h)

pub preempt-within : (i : ℕ) → is_in all_preempts i ≡ true → i ≤ 8
preempt-within i h = leb-true i 8 (in-every (λ k. nat_le k 8) all_preempts i refl h)

pub unlisted : (i : ℕ) → (i ≡ 0) ⊎ (8 < i) → is_in all_preempts i ≡ false
unlisted i h = elim (cases_Bool (is_in all_preempts i)) [
  | inl e ↦
      let above : 0 < i = preempt-above i e in
      let within : i ≤ 8 = preempt-within i e in
      absurd (elim h [ inl z ↦ omega arith | inr b ↦ omega arith ])
  | inr e ↦ e
]

-- a preempt is among those that pass exactly where it passes
pub in-preempts : (test : ℕ → Bool) (i : ℕ) → 0 < i → i ≤ 8 → is_in (those test all_preempts) i ≡ test i
in-preempts test i above within = in-those-is test all_preempts i ∙ rw (listed-preempt i above within) (and_true (test i))
  where
    and_true : (b : Bool) → (b && true) ≡ b
    and_true true = refl
    and_true false = refl

-- preempt k + 1 is at place k
place-of : (k : ℕ) → k < 8 → get_or all_preempts k 0 ≡ suc k
place-of zero short = refl
place-of (suc zero) short = refl
place-of (suc (suc zero)) short = refl
place-of (suc (suc (suc zero))) short = refl
place-of (suc (suc (suc (suc zero)))) short = refl
place-of (suc (suc (suc (suc (suc zero))))) short = refl
place-of (suc (suc (suc (suc (suc (suc zero)))))) short = refl
place-of (suc (suc (suc (suc (suc (suc (suc zero))))))) short = refl
place-of (suc (suc (suc (suc (suc (suc (suc (suc k)))))))) short = absurd (omega arith)

-- the first that passes is at place k, where none before it does
first-at : (test : ℕ → Bool) (xs : List ℕ) (k : ℕ) → k < length xs → test (get_or xs k 0) ≡ true
    → ((j : ℕ) → j < k → test (get_or xs j 0) ≡ false) → only (first test xs) ≡ get_or xs k 0
first-at test [] k short passes none = absurd (omega arith)
first-at test (x ∷ xs) zero short passes none = rw passes refl
first-at test (x ∷ xs) (suc k) short passes none =
    let head : test x ≡ false = none zero (omega arith) in
    rw head (first-at test xs k (omega arith) passes (λ j l. none (suc j) (omega arith)))

-- the first that passes, where none before it does
pub least-at : (test : ℕ → Bool) (i : ℕ) → 0 < i → i ≤ 8 → ((k : ℕ) → 0 < k → k < i → test k ≡ false) → test i ≡ true
    → only (first test all_preempts) ≡ i
least-at test zero above within none passes = absurd (omega arith)
least-at test (suc i) above within none passes =
    let short : i < 8 = omega arith in
    first-at test all_preempts i short (rw (place-of i short) passes)
    (λ j l. let less : j < 8 = omega arith in rw (place-of j less) (none (suc j) (omega arith) (omega arith)))
    ∙ place-of i short

pub least-none : (test : ℕ → Bool) → ((k : ℕ) → 0 < k → k ≤ 8 → test k ≡ false) → only (first test all_preempts) ≡ 0
least-none test none = none-first all_preempts (λ q i. none q (preempt-above q i) (preempt-within q i))
  where
    none-first : (xs : List ℕ) → ((q : ℕ) → is_in xs q ≡ true → test q ≡ false) → only (first test xs) ≡ 0
    none-first [] h = refl
    none-first (x ∷ xs) h = rw (h x (in-head x xs)) (none-first xs (λ q i. h q (in-tail x xs q i)))
