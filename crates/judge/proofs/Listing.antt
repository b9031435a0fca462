-- What is found of each phase lists the breaches of the definition, in its order.
use Rattle.std.proofs.Common.{◌≡◌, ℕ, ◌+◌, ◌-◌, ◌<◌, ◌≤◌, ◌&&◌, ◌++◌, nat_lt, Bool, true, List, [], ◌∷◌, get_or, refl, sym, ◌∙◌, ap, subst, arith}
use Rattle.sig_types.specs.Phases.{is_phase, all_phases, is_in}
use Rattle.sig_types.specs.PhaseSet.{has}
use Rattle.sig_types.specs.declared.phase_set.PhaseSet.{PhaseSet}
use Rattle.sig_types.proofs.Lists.{in-head, in-tail}
use Rattle.sig_types.proofs.Sets.{listed-phase}
use Rattle.sig_tables.specs.declared.tables.Tables.{Tables}
use Rattle.sig_tables.specs.Layout.{Has}
use Rattle.sig_tables.proofs.Below.{is-above, is-within}
use Rattle.safety_laws.specs.Safe.{Indications}
use Rattle.judge_laws.specs.declared.Breach.{Breach}
use Rattle.judge_laws.specs.declared.Clause.TheVariants.{Apart}
use Rattle.judge_laws.proofs.Sublists.{listing-same}
use Rattle.judge_laws.specs.Breaches.{within, found, breach_at, each, phase_breaches, frame_breaches, are_together}
use Rattle.judge.specs.declared.phases.PhaseFound.{PhaseFound}
use Rattle.judge.specs.Cabinet.{Finds, AllFound, listed_breaches, found_breaches, no_found}

-- the breaches of each phase are the same if those of each listed phase are
each-same : (of other : ℕ → List Breach) (ps : List ℕ) → ((p : ℕ) → is_in ps p ≡ true → of p ≡ other p) → each of ps ≡ each other ps
each-same of other [] h = refl
each-same of other (p ∷ ps) h =
    ap (λ (x : List Breach). x ++ each of ps) (h p (in-head p ps)) ∙ ap (λ (x : List Breach). other p ++ x) (each-same of other ps (λ q i. h q (in-tail p ps q i)))

module _ (cab : ℕ) (tolerance : ℕ) (joined : Bool) (tables : ℕ → Tables) (older : List (ℕ × Indications)) (line : ℕ × Indications) where
  -- the pairs of phase p
  pairs-same : (p : ℕ) (together : PhaseSet) → Has together (are_together (tables line.1.version) line.1 p)
      → each (λ q. found (nat_lt p q && has together q) (breach_at cab line.0 Apart p q)) all_phases
      ≡ each (λ q. found (nat_lt p q && are_together (tables line.1.version) line.1 p q) (breach_at cab line.0 Apart p q)) all_phases
  pairs-same p together h = each-same _ _ all_phases
      (λ q i. ap (λ (b : Bool). found (nat_lt p q && b) (breach_at cab line.0 Apart p q)) (h q (listed-phase q i)))

  phase-same : (p : ℕ) (f : PhaseFound) → Finds f tolerance joined tables p older line
      → listed_breaches cab line.0 p f ≡ phase_breaches (within tolerance joined) cab tables older line p
  phase-same p f finds =
      listing-same cab line.0 p _ _ f.lit f.course.order f.course.clearance f.course.green f.course.pedestrian f.course.on_green _ _ _ _ _ _
      (pairs-same p f.together finds.together) finds.lit finds.course.order finds.course.clearance finds.course.green finds.course.pedestrian finds.course.on_green

  listed-same : (founds : List PhaseFound) → AllFound founds tolerance joined tables older line
      → found_breaches cab line.0 founds ≡ frame_breaches (within tolerance joined) cab tables older line
  listed-same founds all = each-same _ _ all_phases (λ p i.
      let ph : is_phase p ≡ true = listed-phase p i in
      let above : 0 < p = is-above p ph in
      let below : p ≤ 16 = is-within p ph in
      let place : p - 1 + 1 ≡ p = omega (arith, above) in
      phase-same p (get_or founds (p - 1) no_found)
      (subst (λ (q : ℕ). Finds (get_or founds (p - 1) no_found) tolerance joined tables q older line) place (all (p - 1) (omega (arith, above, below)))))

  pub what-is-found-is-listed : (tick : ℕ) → line.0 ≡ tick → (founds : List PhaseFound) → AllFound founds tolerance joined tables older line
      → found_breaches cab tick founds ≡ frame_breaches (within tolerance joined) cab tables older line
  what-is-found-is-listed tick e founds all = ap (λ (n : ℕ). found_breaches cab n founds) (sym e) ∙ listed-same founds all
