-- What sound tables give a pattern's ticks: one coordinated phase of each ring, times that serve every phase that it serves, and
-- a correction that keeps to the cycle.
use Rattle.std.proofs.Common.{◌≡◌, ◌⊎◌, inl, inr, ℕ, ◌+◌, ◌≤◌, ◌<◌, max, true, [], ◌∷◌, refl, sym, subst, arith}
use Rattle.sig_types.specs.Phases.{is_in}
use Rattle.sig_types.proofs.Lists.{in-head, in-tail}
use Rattle.sig_tables.specs.declared.tables.Tables.{Tables}
use Rattle.sig_tables.specs.Tables.{ring_of, least_green, clearance, yellow_time}
use Rattle.sig_tables.specs.Sides.{are_of_one_side}
use Rattle.sig_tables.specs.Slots.{is_defined, coordinated_phase, pattern_order, force_point, window, cycle_time, least_service}
use Rattle.sig_tables.specs.Splits.{coordinated_phases}
use Rattle.sig_tables.proofs.Below.{coordinated-enabled}
use Rattle.plan_facts.specs.Plan.{PlanHolds, HeldForce, OtherForce}
use Rattle.tick_laws.proofs.ForcedSignals.{service-green}
use Rattle.tick_laws.specs.Zero.{HoldsPair, PlanServes, TimesServe}
use Rattle.tick_laws.specs.Lawful.{Sound}
use Rattle.tick_laws.proofs.OneSide.{side-joined}

in-pair : (t : Tables) (n r : ℕ) → (r ≡ 1) ⊎ (r ≡ 2) → is_in (coordinated_phases t n) (coordinated_phase t n r) ≡ true
in-pair t n r (inl one) =
    subst (λ (x : ℕ). is_in (coordinated_phases t n) (coordinated_phase t n x) ≡ true) (sym one)
    (in-head (coordinated_phase t n 1) (coordinated_phase t n 2 ∷ []))
in-pair t n r (inr two) =
    subst (λ (x : ℕ). is_in (coordinated_phases t n) (coordinated_phase t n x) ≡ true) (sym two)
    (in-tail (coordinated_phase t n 1) (coordinated_phase t n 2 ∷ []) (coordinated_phase t n 2) (in-head (coordinated_phase t n 2) []))

pub holds-pair : (t : Tables) (n : ℕ) → Sound t → is_defined t n ≡ true → HoldsPair t n
holds-pair t n sound defined = record {
  held = plan.coordinates.coordinated;
  ring = plan.coordinates.ring;
  alone = plan.coordinates.alone;
  side = λ q x hq hx.
      subst (λ (y : ℕ). are_of_one_side t y x ≡ true) (sym (plan.coordinates.alone q hq))
      (subst (λ (y : ℕ). are_of_one_side t (coordinated_phase t n (ring_of t q)) y ≡ true) (sym (plan.coordinates.alone x hx))
      ((sound.coordinated n defined).side (coordinated_phase t n (ring_of t q)) (coordinated_phase t n (ring_of t x))
      (in-pair t n (ring_of t q) (sound.ring q (coordinated-enabled t n q hq)))
      (in-pair t n (ring_of t x) (sound.ring x (coordinated-enabled t n x hx)))));
  joined = λ p q r h g. side-joined t p q r sound h g;
  listed = λ p r e ring. subst (λ (x : ℕ). is_in (pattern_order t n x) p ≡ true) ring (sound.listed n p defined e);
  rings = sound.ring;
  window = plan.window.some;
}
  where
    plan : PlanHolds t n
    plan = sound.plans n defined

at-least : (a b c : ℕ) → b ≤ a → a ≤ c → b ≤ c
at-least a b c h k = omega arith

pub plan-serves : (t : Tables) (n : ℕ) → Sound t → is_defined t n ≡ true → PlanServes t n
plan-serves t n sound defined = record {
  other = λ p e other served.
      let f : OtherForce t n p = (sound.plans n defined).other p e other served in
      record {
        some = some-service (least_green t p) (least_service t p) (green _) (service-green t p);
        clearing = at-least 30 1 (clearance t p) (omega arith) (sound.times.phases.clear p e);
        clears = f.clears;
      };
  revert = sound.times.phases.revert;
}
  where
    green : (m : ℕ) → 1 ≤ max 1 m
    green m = omega arith

    some-service : (g s : ℕ) → 1 ≤ g → g ≤ s → 1 ≤ s
    some-service g s a b = omega arith

pub times-serve : (t : Tables) (n : ℕ) → Sound t → is_defined t n ≡ true → TimesServe t n
times-serve t n sound defined = record {
  yellow = λ p e. at-least 30 1 (yellow_time t p) (omega arith) (sound.times.phases.yellow p e);
  held = λ q h. record { after = ((sound.plans n defined).held q h).window };
}

-- the window is shorter than the cycle
pub window-within : (t : Tables) (n : ℕ) → Sound t → is_defined t n ≡ true → window t n < cycle_time t n
window-within t n sound defined =
    let f : HeldForce t n (coordinated_phase t n 1)
    = (sound.plans n defined).held (coordinated_phase t n 1) ((sound.plans n defined).coordinates.coordinated 1 (inl refl)) in
    below (window t n) (force_point t n (coordinated_phase t n 1)) (cycle_time t n) f.window f.last
  where
    below : (w f c : ℕ) → w ≤ f → f + 30 ≤ c → w < c
    below w f c a b = omega arith
