-- The serial journal takes the items of all streams.
use Rattle.std.proofs.Common.{◌≡◌, ◌≢◌, ◌+◌, ◌<◌, ◌∙◌, ℕ, zero, suc, List, [], ◌∷◌, ◌++◌, length, replicate, get_or, refl, sym, ap, arith}
use Rattle.sig_types.specs.Items.{Item}
use Rattle.cabinet_history.specs.Journals.{times, IsMerge, serial_from, serial}

times-append : (p : ℕ) (xs ys : List ℕ) → times p (xs ++ ys) ≡ times p xs + times p ys
times-append p [] ys = omega arith
times-append p (q ∷ xs) ys = grind (arith, times-append p xs ys)

times-same : (p n : ℕ) → times p (replicate n p) ≡ n
times-same p zero = refl
times-same p (suc n) = grind (arith, times-same p n)

times-other : (p q n : ℕ) → p ≢ q → times p (replicate n q) ≡ 0
times-other p q zero other = refl
times-other p q (suc n) other = grind (arith, times-other p q n other)

-- a number below the first isn't in it
serial-below : (p first : ℕ) (items : List (List Item)) → p < first → times p (serial_from first items) ≡ 0
serial-below p first [] less = refl
serial-below p first (one ∷ items) less =
    omega (
      arith,
      times-append p (replicate (length one) first) (serial_from (first + 1) items),
      times-other p first (length one) (λ e. omega (arith, e, less)),
      serial-below p (first + 1) items (omega (arith, less)),
    )

serial-times : (k first : ℕ) (items : List (List Item)) → times (first + k) (serial_from first items) ≡ length (get_or items k [])
serial-times k first [] = refl
serial-times zero first (one ∷ items) =
    let here : first + 0 ≡ first = omega arith in
    rw here (omega (
      arith,
      times-append first (replicate (length one) first) (serial_from (first + 1) items),
      times-same first (length one),
      serial-below first (first + 1) items (omega arith),
    ))
serial-times (suc k) first (one ∷ items) =
    let there : first + suc k ≡ first + 1 + k = omega arith in
    rw there (omega (
      arith,
      times-append (first + 1 + k) (replicate (length one) first) (serial_from (first + 1) items),
      times-other (first + 1 + k) first (length one) (λ e. omega (arith, e)),
      serial-times k (first + 1) items,
    ))

pub serial-merge : (items : List (List Item)) → IsMerge items (serial items)
serial-merge items p = let here : 0 + p ≡ p = omega arith in ap (λ n. times n (serial items)) (sym here) ∙ serial-times p 0 items
