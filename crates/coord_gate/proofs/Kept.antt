-- Walks over the phases of a set that keep those that pass.
use Rattle.std.proofs.Common.{◌≡◌, ◌∙◌, ℕ, ◌<◌, ◌≤◌, ◌==◌, Bool, true, false, not, ◌&&◌, ◌||◌, List, [], inl, inr, refl, sym, ap}
use Rattle.std.proofs.lemmas.Bool.{false≢true}
use Rattle.std.proofs.lemmas.Bool.Decides.{eqb_tells}
use Rattle.sig_types.specs.declared.phase_set.PhaseSet.{PhaseSet}
use Rattle.sig_types.specs.PhaseSet.{has, phases_of, IsWithout}
use Rattle.sig_types.specs.Phases.{is_phase, is_in}
use Rattle.sig_types.proofs.Lists.{phase-in}
use Rattle.sig_types.proofs.Sets.{in-phases}
use Rattle.sig_tables.specs.Layout.{Has}

-- what has passed, with those left that pass, are all that pass
abbrev pub KeptOrLeft : PhaseSet → PhaseSet → PhaseSet → (ℕ → Bool) → Type 0
KeptOrLeft among passed left test = (p : ℕ) → is_phase p ≡ true → (has passed p || (has left p && test p)) ≡ (has among p && test p)

pub kept-start : (among none : PhaseSet) (test : ℕ → Bool) → ((p : ℕ) → has none p ≡ false) → KeptOrLeft among none among test
kept-start among none test h = λ p is. rw (h p) refl

pub kept-more : (among passed more left less : PhaseSet) (phase : ℕ) (b : Bool) (test : ℕ → Bool) → KeptOrLeft among passed left test
    → has left phase ≡ true → ((p : ℕ) → 0 < p → p ≤ 16 → has more p ≡ (has passed p || (p == phase && b)))
    → b ≡ test phase → IsWithout left less phase → KeptOrLeft among more less test
kept-more among passed more left less phase b test w there added e taken =
    λ p is. let k : (0 < p) × (p ≤ 16) = phase-in p is in
    rw (added p k.0 k.1, taken p is) (elim (eqb_tells p phase) [
      | inl (t, same) ↦
          let l : has left p ≡ true = ap (has left) same ∙ there in
          let v : b ≡ test p = e ∙ ap test (sym same) in
          rw t (here (has passed p) b (test p) (has left p) v l ∙ w p is)
      | inr (t, other) ↦ rw t (apart (has passed p) b (test p) (has left p) ∙ w p is)
    ])
  where
    here : (a b c d : Bool) → b ≡ c → d ≡ true → ((a || (true && b)) || ((d && not true) && c)) ≡ (a || (d && c))
    here true b c d e l = refl
    here false true true true e l = refl
    here false false false true e l = refl
    here false true false d e l = absurd (false≢true (sym e))
    here false false true d e l = absurd (false≢true e)
    here false b c false e l = absurd (false≢true l)

    apart : (a b c d : Bool) → ((a || (false && b)) || ((d && not false) && c)) ≡ (a || (d && c))
    apart true b c d = refl
    apart false b c true = refl
    apart false b c false = refl

pub kept-end : (among passed left : PhaseSet) (test : ℕ → Bool) → KeptOrLeft among passed left test → phases_of left ≡ []
    → Has passed (λ p. has among p && test p)
kept-end among passed left test w none = λ p is.
    let gone : has left p ≡ false = sym (in-phases (has left) p is) ∙ ap (λ (xs : List ℕ). is_in xs p) none in
    plain (has passed p) (test p) (has left p) gone ∙ w p is
  where
    plain : (a b c : Bool) → c ≡ false → a ≡ (a || (c && b))
    plain true b c e = refl
    plain false b false e = refl
    plain false b true e = absurd (false≢true (sym e))
