-- Where the signals are only on Green, incompatible phases never both show one.
use Rattle.std.proofs.Common.{◌≡◌, inl, inr, ℕ, true, false, not, ◌&&◌, ◌==◌, List, refl}
use Rattle.std.proofs.lemmas.Bool.{cases_Bool, and_parts, both_ways}
use Rattle.sig_types.specs.declared.frame.Colour.TheVariants.{Green}
use Rattle.sig_types.specs.declared.frame.Frame.{Frame}
use Rattle.sig_types.specs.Colour.{colour_of}
use Rattle.sig_tables.specs.declared.tables.Tables.{Tables}
use Rattle.sig_tables.specs.Tables.{is_enabled}
use Rattle.sig_tables.specs.Sides.{are_concurrent}
use Rattle.sig_tables.specs.Past.{Event}
use Rattle.sig_tables.specs.Decide.{past_of}
use Rattle.sig_tables.proofs.Below.{enabled-phase}
use Rattle.tick_laws.specs.Lawful.{Lawful}
use Rattle.tick_laws.specs.Safe.{is_on, Apart, OnlyEnabled}
use Rattle.tick_laws.specs.Walking.{OnGreen, Quiet, EachQuiet}
use Rattle.tick_laws.proofs.Each.{each-both, each-weaker}
use Rattle.tick_laws.proofs.Apart.{Holds, holds}
use Rattle.tick_laws.proofs.Signals.{each-on-green}
use Rattle.tick_laws.proofs.Serving.{lawful-served}

green-on : (f : Frame) (p : ℕ) → colour_of f p ≡ Green → is_on f p ≡ true
green-on f p e = rw e refl

quiet : (t : Tables) (f : Frame) → Apart t f → OnlyEnabled t f → OnGreen f → Quiet t f
quiet t f apart only g = record {
  disabled = λ p ph off.
      let dark : is_on f p ≡ false = elim (cases_Bool (is_on f p)) [ inl on ↦ absurd (both_ways _ off (only p ph on)) | inr n ↦ n ] in
      (dark, elim (g p ph) [ inl d ↦ d | inr k ↦ absurd (both_ways _ dark (green-on f p k)) ]);
  walks = λ p q h.
      let a : (((is_enabled t p && is_enabled t q) && not (p == q)) ≡ true) × (not (are_concurrent t p q) ≡ true) = and_parts _ _ h in
      let b : ((is_enabled t p && is_enabled t q) ≡ true) × (not (p == q) ≡ true) = and_parts _ _ a.0 in
      let c : (is_enabled t p ≡ true) × (is_enabled t q ≡ true) = and_parts _ _ b.0 in
      elim (g p (enabled-phase t p c.0)) [
        | inl d ↦ inl d
        | inr k ↦ elim (g q (enabled-phase t q c.1)) [
          | inl d ↦ inr d
          | inr l ↦ absurd (apart p q h (green-on f p k) (green-on f q l))
        ]
      ];
}

pub each-quiet : (opening : Tables) (events : List Event) → Lawful opening events → EachQuiet (past_of opening events).moments
each-quiet opening events lawful =
    let h : Holds (past_of opening events).tables (past_of opening events).moments = holds opening events lawful in
    each-weaker (λ past m. Apart m.tables m.frame × (OnlyEnabled m.tables m.frame × OnGreen m.frame)) (λ past m. Quiet m.tables m.frame)
    (λ past m k. quiet m.tables m.frame k.0 k.1.0 k.1.1) (past_of opening events).moments
    (each-both (λ past m. Apart m.tables m.frame) (λ past m. OnlyEnabled m.tables m.frame × OnGreen m.frame) _ h.apart
    (each-both (λ past m. OnlyEnabled m.tables m.frame) (λ past m. OnGreen m.frame) _ h.enabled
    (each-on-green opening events (lawful-served opening events lawful))))
