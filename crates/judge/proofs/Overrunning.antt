-- What has run over its time at each phase lists the intervals of the definition, in its order.
use Rattle.std.proofs.Common.{◌≡◌, ℕ, ◌+◌, ◌-◌, ◌<◌, ◌≤◌, ◌++◌, Bool, true, false, if◌then◌else◌, List, [], ◌∷◌, get_or, refl, ◌∙◌, ap, subst, arith}
use Rattle.sig_types.specs.Phases.{is_phase, all_phases, is_in}
use Rattle.sig_types.proofs.Lists.{in-head, in-tail}
use Rattle.sig_types.proofs.Sets.{listed-phase}
use Rattle.sig_tables.specs.declared.tables.Tables.{Tables}
use Rattle.sig_tables.proofs.Below.{is-above, is-within}
use Rattle.safety_laws.specs.Safe.{Indications}
use Rattle.judge_laws.specs.declared.Light.{Light}
use Rattle.judge_laws.specs.declared.Light.TheVariants as light
use Rattle.judge_laws.specs.declared.Overrun.{Overrun}
use Rattle.judge_laws.specs.Overrun.{overrun_at, each_overruns, phase_overruns}
use Rattle.judge.specs.declared.phases.PhaseOverruns.{PhaseOverruns}
use Rattle.judge.specs.Since.{since_if}
use Rattle.judge.specs.Phase.{OverrunsAt}
use Rattle.judge.specs.Cabinet.{no_overruns, listed_overrun, listed_by, listed_overruns}

each-same : (of other : ℕ → List Overrun) (ps : List ℕ) → ((p : ℕ) → is_in ps p ≡ true → of p ≡ other p) → each_overruns of ps ≡ each_overruns other ps
each-same of other [] h = refl
each-same of other (p ∷ ps) h =
    ap (λ (x : List Overrun). x ++ each_overruns of ps) (h p (in-head p ps))
    ∙ ap (λ (x : List Overrun). other p ++ x) (each-same of other ps (λ q i. h q (in-tail p ps q i)))

one-same : (cab p : ℕ) (l : Light) (b : Bool) (since : ℕ) → listed_overrun cab p l (since_if b since) ≡ (if b then overrun_at cab p l since ∷ [] else [])
one-same cab p l true since = refl
one-same cab p l false since = refl

four-same : (a b c d e f g h : List Overrun) → a ≡ e → b ≡ f → c ≡ g → d ≡ h → a ++ (b ++ (c ++ d)) ≡ e ++ (f ++ (g ++ h))
four-same a b c d e f g h i j k l =
    ap (λ (x : List Overrun). x ++ (b ++ (c ++ d))) i ∙ ap (λ (x : List Overrun). e ++ (x ++ (c ++ d))) j
    ∙ ap (λ (x : List Overrun). e ++ (f ++ (x ++ d))) k ∙ ap (λ (x : List Overrun). e ++ (f ++ (g ++ x))) l

module _ (cab tick tolerance : ℕ) (tables : ℕ → Tables) (older : List (ℕ × Indications)) where
  phase-same : (p : ℕ) (o : PhaseOverruns) → OverrunsAt o tick tolerance tables p older → listed_by cab p o ≡ phase_overruns tolerance cab tables tick older p
  phase-same p o at = four-same _ _ _ _ _ _ _ _
      (ap (listed_overrun cab p light.Yellow) at.yellow ∙ one-same cab p light.Yellow _ _)
      (ap (listed_overrun cab p light.Clear) at.clear ∙ one-same cab p light.Clear _ _)
      (ap (listed_overrun cab p light.Walk) at.walk ∙ one-same cab p light.Walk _ _)
      (ap (listed_overrun cab p light.Flash) at.flash ∙ one-same cab p light.Flash _ _)

  pub overruns-are-listed : (overruns : List PhaseOverruns) → ((k : ℕ) → k < 16 → OverrunsAt (get_or overruns k no_overruns) tick tolerance tables (k + 1) older)
      → listed_overruns cab overruns ≡ each_overruns (phase_overruns tolerance cab tables tick older) all_phases
  overruns-are-listed overruns all = each-same _ _ all_phases (λ p i.
      let ph : is_phase p ≡ true = listed-phase p i in
      let above : 0 < p = is-above p ph in
      let below : p ≤ 16 = is-within p ph in
      let place : p - 1 + 1 ≡ p = omega (arith, above) in
      phase-same p (get_or overruns (p - 1) no_overruns)
      (subst (λ (q : ℕ). OverrunsAt (get_or overruns (p - 1) no_overruns) tick tolerance tables q older) place (all (p - 1) (omega (arith, above, below)))))
