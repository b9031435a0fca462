-- Volumes that are counted edge by edge into a table.
use Rattle.std.proofs.Common.{◌≡◌, ◌≢◌, ◌≤◌, ◌<◌, ◌+◌, ◌-◌, ◌*◌, ◌==◌, ◌&&◌, ℕ, Bool, true, false, if◌then◌else◌, List, [], ◌∷◌, ◌++◌, length, take, get_or, refl, sym, ap, ◌∙◌, subst, arith}
use Rattle.std.proofs.lemmas.List.{take_more, take_all}
use Rattle.std.proofs.lemmas.Bool.{eqb-true, eqb-false}
use Rattle.detector_bank.specs.declared.bank.Edge.{Edge}
use Rattle.field_file.specs.Schedule.{Counted, section_of, period_of, is_counted, count_of}
use Rattle.field_file.specs.Counting.{kept, HasVolumes}

count-append : (test : Edge → Bool) (xs ys : List Edge) → count_of test (xs ++ ys) ≡ count_of test xs + count_of test ys
count-append test [] ys = omega arith
count-append test (e ∷ xs) ys = let rest = count-append test xs ys in omega (arith, rest)

-- what one edge more counts
abbrev own : (Edge → Bool) → Edge → ℕ
own test e = if test e then e.count else 0

count-more : (test : Edge → Bool) (es : List Edge) (i : ℕ) (e : Edge) → i < length es → e ≡ get_or es i e → count_of test (take (i + 1) es) ≡ count_of test (take i es) + own test e
count-more test es i e within is =
    ap (count_of test) (take_more es i e within ∙ ap (λ (x : Edge). take i es ++ x ∷ []) (sym is)) ∙ count-append test (take i es) (e ∷ []) ∙ omega arith

kept-more : (a b : ℕ) → kept (kept a + b) ≡ kept (a + b)
kept-more a b = omega arith

-- an edge of a section and a period of the table
pub cell-in : (table new : List ℕ) (c : Counted) (periods : ℕ) (es : List Edge) (i : ℕ) (e : Edge) (s n : ℕ) → i < length es → e ≡ get_or es i e
    → s ≡ section_of c.sections e.cabinet → n ≡ period_of c.period e.round → 1 ≤ s → s ≤ 8
    → get_or new (n * 8 + (s - 1)) 0 ≡ kept (get_or table (n * 8 + (s - 1)) 0 + e.count) → ((k : ℕ) → k ≢ n * 8 + (s - 1) → get_or new k 0 ≡ get_or table k 0)
    → HasVolumes table c periods (take i es) → HasVolumes new c periods (take (i + 1) es)
cell-in table new c periods es i e s n within is section period some few here others before = λ m t low least most.
    let test : Edge → Bool = is_counted c t m in
    let place : ℕ = m * 8 + (t - 1) in
    let old : get_or table place 0 ≡ kept (count_of test (take i es)) = before m t low least most in
    let next : count_of test (take (i + 1) es) ≡ count_of test (take i es) + own test e = count-more test es i e within is in
    at m t least most place refl (section_of c.sections e.cabinet == t) (period_of c.period e.round == m) refl refl old next
  where
    at : (m t : ℕ) → 1 ≤ t → t ≤ 8 → (place : ℕ) → place ≡ m * 8 + (t - 1) → (a b : Bool) → (section_of c.sections e.cabinet == t) ≡ a → (period_of c.period e.round == m) ≡ b
        → get_or table place 0 ≡ kept (count_of (is_counted c t m) (take i es))
        → count_of (is_counted c t m) (take (i + 1) es) ≡ count_of (is_counted c t m) (take i es) + (if a && b then e.count else 0)
        → get_or new place 0 ≡ kept (count_of (is_counted c t m) (take (i + 1) es))
    at m t least most place is_place true true p q old next =
        let same_section : s ≡ t = section ∙ eqb-true _ t p in
        let same_period : n ≡ m = period ∙ eqb-true _ m q in
        let same : place ≡ n * 8 + (s - 1) = omega (arith, is_place, same_section, same_period) in
        ap (λ (k : ℕ). get_or new k 0) same ∙ here ∙ ap (λ (k : ℕ). kept (get_or table k 0 + e.count)) (sym same)
        ∙ ap (λ (v : ℕ). kept (v + e.count)) old ∙ kept-more (count_of (is_counted c t m) (take i es)) e.count ∙ ap kept (sym next)
    at m t least most place is_place false b p q old next =
        let differs : place ≢ n * 8 + (s - 1) = λ same. let equal : s ≡ t = omega (arith, is_place, same, some, few, least, most) in eqb-false _ t p (sym section ∙ equal) in
        others place differs ∙ old ∙ ap kept (omega (arith, sym next))
    at m t least most place is_place true false p q old next =
        let differs : place ≢ n * 8 + (s - 1) = λ same. let equal : n ≡ m = omega (arith, is_place, same, some, few, least, most) in eqb-false _ m q (sym period ∙ equal) in
        others place differs ∙ old ∙ ap kept (omega (arith, sym next))

-- an edge of another section, or of a period after the table
pub cell-out : (table : List ℕ) (c : Counted) (periods : ℕ) (es : List Edge) (i : ℕ) (e : Edge) → i < length es → e ≡ get_or es i e
    → (1 ≤ section_of c.sections e.cabinet → section_of c.sections e.cabinet ≤ 8 → period_of c.period e.round < periods → ⊥)
    → HasVolumes table c periods (take i es) → HasVolumes table c periods (take (i + 1) es)
cell-out table c periods es i e within is outside before = λ m t low least most.
    let test : Edge → Bool = is_counted c t m in
    let old : get_or table (m * 8 + (t - 1)) 0 ≡ kept (count_of test (take i es)) = before m t low least most in
    let next : count_of test (take (i + 1) es) ≡ count_of test (take i es) + own test e = count-more test es i e within is in
    old ∙ at m t low least most (section_of c.sections e.cabinet == t) (period_of c.period e.round == m) refl refl next
  where
    at : (m t : ℕ) → m < periods → 1 ≤ t → t ≤ 8 → (a b : Bool) → (section_of c.sections e.cabinet == t) ≡ a → (period_of c.period e.round == m) ≡ b
        → count_of (is_counted c t m) (take (i + 1) es) ≡ count_of (is_counted c t m) (take i es) + (if a && b then e.count else 0)
        → kept (count_of (is_counted c t m) (take i es)) ≡ kept (count_of (is_counted c t m) (take (i + 1) es))
    at m t low least most true true p q next =
        let section : section_of c.sections e.cabinet ≡ t = eqb-true _ t p in
        let period : period_of c.period e.round ≡ m = eqb-true _ m q in
        absurd (outside (omega (arith, section, least)) (omega (arith, section, most)) (omega (arith, period, low)))
    at m t low least most false b p q next = ap kept (omega (arith, sym next))
    at m t low least most true false p q next = ap kept (omega (arith, sym next))

-- after the last
pub cells-all : (table : List ℕ) (c : Counted) (periods : ℕ) (es : List Edge) (i : ℕ) → length es ≤ i → HasVolumes table c periods (take i es) → HasVolumes table c periods es
cells-all table c periods es i all h = subst (λ (xs : List Edge). HasVolumes table c periods xs) (take_all i es all) h
