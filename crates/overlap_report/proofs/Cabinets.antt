-- A scenario has a cabinet with a number or it has none; a cabinet comes to one state; and the tables of its versions are one list.
use Rattle.std.proofs.Common.{◌≡◌, ◌⊎◌, inl, inr, ℕ, suc, ◌+◌, ◌<◌, ◌≤◌, ◌==◌, false, List, [], ◌∷◌, length, get_or, refl, sym, ◌∙◌, ap, arith}
use Rattle.std.proofs.lemmas.Bool.{cases_Bool, false≢true, eq-eqb}
use Rattle.sig_types.proofs.Lists.{eq-true}
use Rattle.sig_tables.specs.declared.tables.Tables.{Tables}
use Rattle.scenario_data.specs.Content.{CabinetContent}
use Rattle.runnable.specs.Cabinets.{IsNumbered}
use Rattle.run_definition.specs.CabinetState.{CabinetState, HasComeTo}
use Rattle.overlap_run.specs.Trace.{AreByVersion}

-- one of these cabinets has the number, or none has
abbrev pub SomeOrNone : ℕ → ℕ → List CabinetContent → Type 0
SomeOrNone cab first cabinets =
    ((c : CabinetContent) × IsNumbered cab c first cabinets) ⊎ ((c : CabinetContent) → IsNumbered cab c first cabinets → ⊥)

behind-first : (cab first : ℕ) (d : CabinetContent) (cabinets : List CabinetContent) → (cab == first) ≡ false
    → SomeOrNone cab (first + 1) cabinets → SomeOrNone cab first (d ∷ cabinets)
behind-first cab first d cabinets other (inl (c, is)) = inl (c, inr is)
behind-first cab first d cabinets other (inr none) = inr none-here
  where
    none-here : (c : CabinetContent) → IsNumbered cab c first (d ∷ cabinets) → ⊥
    none-here c (inl here) = false≢true (sym other ∙ eq-eqb cab first here.0)
    none-here c (inr later) = none c later

pub some-or-none : (cab first : ℕ) (cabinets : List CabinetContent) → SomeOrNone cab first cabinets
some-or-none cab first [] = inr (λ c is. is)
some-or-none cab first (d ∷ cabinets) = elim (cases_Bool (cab == first)) [
  | inl hit ↦ inl (d, inl (eq-true cab first hit, refl))
  | inr miss ↦ behind-first cab first d cabinets miss (some-or-none cab (first + 1) cabinets)
]

come-late : (cab first : ℕ) (t : CabinetState) (ts : List CabinetState) → HasComeTo cab t first ts → first ≤ cab
come-late cab first t [] is = absurd is
come-late cab first t (u ∷ ts) (inl here) = let e : cab ≡ first = here.0 in omega (arith, e)
come-late cab first t (u ∷ ts) (inr later) = let l : first + 1 ≤ cab = come-late cab (first + 1) t ts later in omega (arith, l)

pub one-cabinet_state : (cab first : ℕ) (t u : CabinetState) (ts : List CabinetState) → HasComeTo cab t first ts → HasComeTo cab u first ts → t ≡ u
one-cabinet_state cab first t u [] a b = absurd a
one-cabinet_state cab first t u (v ∷ ts) (inl a) (inl b) = a.1 ∙ sym b.1
one-cabinet_state cab first t u (v ∷ ts) (inl a) (inr b) =
    let here : cab ≡ first = a.0 in
    let late : first + 1 ≤ cab = come-late cab (first + 1) u ts b in
    absurd (omega (arith, here, late))
one-cabinet_state cab first t u (v ∷ ts) (inr a) (inl b) =
    let here : cab ≡ first = b.0 in
    let late : first + 1 ≤ cab = come-late cab (first + 1) t ts a in
    absurd (omega (arith, here, late))
one-cabinet_state cab first t u (v ∷ ts) (inr a) (inr b) = one-cabinet_state cab (first + 1) t u ts a b

same-each : (xs ys : List Tables) → length xs ≡ length ys → ((v : ℕ) (d : Tables) → v < length xs → get_or xs v d ≡ get_or ys v d) → xs ≡ ys
same-each [] [] e same = refl
same-each [] (y ∷ ys) e same = absurd (omega (arith, e))
same-each (x ∷ xs) [] e same = absurd (omega (arith, e))
same-each (x ∷ xs) (y ∷ ys) e same =
    ap (λ (t : Tables). t ∷ xs) (same 0 x (omega arith))
    ∙ ap (λ (ts : List Tables). y ∷ ts) (same-each xs ys (omega (arith, e)) (λ v d low. same (suc v) d (omega (arith, low))))

pub one-by-version : (xs ys : List Tables) (tables : ℕ → Tables) (last : ℕ) → AreByVersion xs tables last → AreByVersion ys tables last → xs ≡ ys
one-by-version xs ys tables last a b =
    let many : length xs ≡ last + 1 = a.many in
    same-each xs ys (a.many ∙ sym b.many) (λ v d low. a.each v d (omega (arith, low, many)) ∙ sym (b.each v d (omega (arith, low, many))))
