-- The walk and the pedestrian clearance of a phase that the pattern does not hold: they began with its Green, so they are over
-- by its force point.
use Rattle.std.proofs.Common.{◌≡◌, ◌≢◌, ◌⊎◌, inl, inr, ℕ, ◌+◌, ◌*◌, ◌≤◌, ◌==◌, max, nat_le, Bool, true, false, if◌then◌else◌, List, ◌∷◌, refl, sym, ◌∙◌, ap, subst, arith}
use Rattle.std.proofs.lemmas.Bool.{cases_Bool, cases_lt, both_ways, eqb-true, eqb-false, and_from}
use Rattle.sig_types.specs.declared.frame.Colour.TheVariants.{Green, Red}
use Rattle.sig_types.specs.declared.frame.Ped.{Ped}
use Rattle.sig_types.specs.declared.frame.Ped.TheVariants.{Walk, Flash, Dont}
use Rattle.sig_types.specs.Colour.{same_signal, colour_of, signal_of}
use Rattle.sig_tables.specs.declared.tables.Tables.{Tables}
use Rattle.sig_tables.specs.Tables.{row, clearance, least_green, walk_time, pedestrian_clear_time}
use Rattle.sig_tables.specs.Slots.{cycle_time, window, force_point, least_service}
use Rattle.sig_tables.specs.Past.{Moment}
use Rattle.sig_tables.specs.Looking.{run, latched, signal_run, signal_latched, signal_runs_on}
use Rattle.sig_tables.specs.View.{is_served}
use Rattle.tick_laws.specs.Steps.{Steps}
use Rattle.std.proofs.lemmas.Bool.{le-leb}
use Rattle.tick_laws.proofs.Cycle.{other-served}
use Rattle.tick_laws.specs.Phases.{Other, OtherGreen, SignalStands, SignalMoves}
use Rattle.tick_laws.proofs.Runs.{run-on, run-none}

same-signal-self : (s : Ped) → same_signal s s ≡ true
same-signal-self Walk = refl
same-signal-self Flash = refl
same-signal-self Dont = refl

pub signal-on : (p : ℕ) (s : Ped) (m : Moment) (past : List Moment) → signal_of m.frame p ≡ s → signal_run p s (m ∷ past) ≡ signal_run p s past + 1
signal-on p s m past e = rw (e, same-signal-self s) refl

pub signal-none : (p : ℕ) (s x : Ped) (n : Moment) (past : List Moment) → signal_of n.frame p ≡ x → same_signal x s ≡ false → signal_run p s (n ∷ past) ≡ 0
signal-none p s x n past e f = rw (e, f) refl

signal_latched-on : (p : ℕ) (s : Ped) (t : Tables) (m : Moment) (past : List Moment) → signal_of m.frame p ≡ s → m.tables ≡ t
    → signal_latched p s t past ≡ t → signal_latched p s t (m ∷ past) ≡ t
signal_latched-on p s t m past e same l = rw (e, same-signal-self s, same) l

pub signal_latched-none : (p : ℕ) (s x : Ped) (t : Tables) (n : Moment) (past : List Moment) → signal_of n.frame p ≡ x → same_signal x s ≡ false
    → signal_latched p s t (n ∷ past) ≡ t
signal_latched-none p s x t n past e f = rw (e, f) refl

-- what walk and flash give way to
walk-next : (p : ℕ) (t : Tables) (past : List Moment) → signal_latched p Walk t past ≡ t
    → (((signal_run p Walk past == walk_time t p) ≡ true) × (signal_runs_on p t past Walk ≡ (if pedestrian_clear_time t p == 0 then Dont else Flash)))
    ⊎ (((signal_run p Walk past == walk_time t p) ≡ false) × (signal_runs_on p t past Walk ≡ Walk))
walk-next p t past l = elim (cases_Bool (signal_run p Walk past == walk_time t p)) [
  | inl e ↦ inl (e, rw (l, e) refl)
  | inr e ↦ inr (e, rw (l, e) refl)
]

flash-next : (p : ℕ) (t : Tables) (past : List Moment) → signal_latched p Flash t past ≡ t
    → (((signal_run p Flash past == pedestrian_clear_time t p) ≡ true) × (signal_runs_on p t past Flash ≡ Dont))
    ⊎ (((signal_run p Flash past == pedestrian_clear_time t p) ≡ false) × (signal_runs_on p t past Flash ≡ Flash))
flash-next p t past l = elim (cases_Bool (signal_run p Flash past == pedestrian_clear_time t p)) [
  | inl e ↦ inl (e, rw (l, e) refl)
  | inr e ↦ inr (e, rw (l, e) refl)
]

pub choice : (b : Bool) (x y : Ped) → ((b ≡ true) × ((if b then x else y) ≡ x)) ⊎ ((b ≡ false) × ((if b then x else y) ≡ y))
choice true x y = inl (refl, refl)
choice false x y = inr (refl, refl)

-- where the signal shows something, its phase is Green
shown-green : (t : Tables) (p : ℕ) (past : List Moment) (m : Moment) (s : Ped) → SignalMoves t p past m → signal_of m.frame p ≡ s
    → same_signal s Dont ≡ false → colour_of m.frame p ≡ Green
shown-green t p past m s sm e differs = elim sm.green [
  | inr g ↦ g
  | inl z ↦ absurd (both_ways (same_signal (signal_of m.frame p) Dont) (ap (λ (x : Ped). same_signal x Dont) e ∙ differs)
      (ap (λ (x : Ped). same_signal x Dont) z))
]

-- what was true of the signal at one moment is true at the next
pub signal-step : (t : Tables) (p : ℕ) (l : Moment) (past : List Moment) (m : Moment) → SignalMoves t p (l ∷ past) m
    → SignalStands t p (l ∷ past) (signal_of l.frame p) → SignalStands t p (m ∷ l ∷ past) (signal_of m.frame p)
signal-step t p l past m sm stands = elim sm.how [
  | inl h ↦
      let is : signal_of m.frame p ≡ Walk = h.0 in
      let green : colour_of m.frame p ≡ Green = shown-green t p (l ∷ past) m Walk sm is refl in
      let ran : run p Green (m ∷ l ∷ past) ≡ 0 + 1 = run-on p Green m (l ∷ past) green ∙ ap (λ (x : ℕ). x + 1) (run-none p Green Red l past h.1 refl) in
      let walked : signal_run p Walk (m ∷ l ∷ past) ≡ 0 + 1 = signal-on p Walk m (l ∷ past) is ∙ ap (λ (x : ℕ). x + 1)
      (signal-none p Walk Dont l past h.2 refl) in
      subst (λ (x : Ped). SignalStands t p (m ∷ l ∷ past) x) (sym is) (record {
        together = walked ∙ sym ran;
        within = omega (arith, h.3);
        latched = signal_latched-on p Walk t m (l ∷ past) is sm.tables (signal_latched-none p Walk Dont t l past h.2 refl);
      })
  | inr h ↦ by (signal_of l.frame p) refl h stands
]
  where
    by : (x : Ped) → signal_of l.frame p ≡ x → signal_of m.frame p ≡ signal_runs_on p t (l ∷ past) x → SignalStands t p (l ∷ past) x
        → SignalStands t p (m ∷ l ∷ past) (signal_of m.frame p)
    by Walk e h g = elim (walk-next p t (l ∷ past) g.latched) [
      | inl k ↦
          let ran : signal_run p Walk (l ∷ past) ≡ walk_time t p = eqb-true _ _ k.0 in
          let together : signal_run p Walk (l ∷ past) ≡ run p Green (l ∷ past) = g.together in
          elim (choice (pedestrian_clear_time t p == 0) Dont Flash) [
            | inl z ↦ subst (λ (x : Ped). SignalStands t p (m ∷ l ∷ past) x) (sym (h ∙ k.1 ∙ z.1)) tt
            | inr z ↦
                let is : signal_of m.frame p ≡ Flash = h ∙ k.1 ∙ z.1 in
                let some : pedestrian_clear_time t p ≢ 0 = eqb-false _ _ z.0 in
                let green : run p Green (m ∷ l ∷ past) ≡ run p Green (l ∷ past) + 1 = run-on p Green m (l ∷ past)
                (shown-green t p (l ∷ past) m Flash sm is refl) in
                let flashed : signal_run p Flash (m ∷ l ∷ past) ≡ 0 + 1 = signal-on p Flash m (l ∷ past) is ∙ ap (λ (x : ℕ). x + 1)
                (signal-none p Flash Walk l past e refl) in
                subst (λ (x : Ped). SignalStands t p (m ∷ l ∷ past) x) (sym is) (record {
                  together = omega arith;
                  within = omega arith;
                  latched = signal_latched-on p Flash t m (l ∷ past) is sm.tables (signal_latched-none p Flash Walk t l past e refl);
                })
          ]
      | inr k ↦
          let short : signal_run p Walk (l ∷ past) ≢ walk_time t p = eqb-false _ _ k.0 in
          let is : signal_of m.frame p ≡ Walk = h ∙ k.1 in
          let green : run p Green (m ∷ l ∷ past) ≡ run p Green (l ∷ past) + 1 = run-on p Green m (l ∷ past) (shown-green t p (l ∷ past) m Walk sm is refl) in
          let walked : signal_run p Walk (m ∷ l ∷ past) ≡ signal_run p Walk (l ∷ past) + 1 = signal-on p Walk m (l ∷ past) is in
          let together : signal_run p Walk (l ∷ past) ≡ run p Green (l ∷ past) = g.together in
          let within : signal_run p Walk (l ∷ past) ≤ walk_time t p = g.within in
          subst (λ (x : Ped). SignalStands t p (m ∷ l ∷ past) x) (sym is) (record {
            together = omega arith;
            within = omega arith;
            latched = signal_latched-on p Walk t m (l ∷ past) is sm.tables g.latched;
          })
    ]
    by Flash e h g = elim (flash-next p t (l ∷ past) g.latched) [
      | inl k ↦ subst (λ (x : Ped). SignalStands t p (m ∷ l ∷ past) x) (sym (h ∙ k.1)) tt
      | inr k ↦
          let short : signal_run p Flash (l ∷ past) ≢ pedestrian_clear_time t p = eqb-false _ _ k.0 in
          let is : signal_of m.frame p ≡ Flash = h ∙ k.1 in
          let green : run p Green (m ∷ l ∷ past) ≡ run p Green (l ∷ past) + 1 = run-on p Green m (l ∷ past) (shown-green t p (l ∷ past) m Flash sm is refl) in
          let flashed : signal_run p Flash (m ∷ l ∷ past) ≡ signal_run p Flash (l ∷ past) + 1 = signal-on p Flash m (l ∷ past) is in
          let together : signal_run p Flash (l ∷ past) + walk_time t p ≡ run p Green (l ∷ past) = g.together in
          let within : signal_run p Flash (l ∷ past) ≤ pedestrian_clear_time t p = g.within in
          subst (λ (x : Ped). SignalStands t p (m ∷ l ∷ past) x) (sym is) (record {
            together = omega arith;
            within = omega arith;
            latched = signal_latched-on p Flash t m (l ∷ past) is sm.tables g.latched;
          })
    ]
    by Dont e h g = subst (λ (x : Ped). SignalStands t p (m ∷ l ∷ past) x) (sym h) tt

-- the minimum service holds the minimum green, and the walk with its clearance where there is one
pub service-green : (t : Tables) (p : ℕ) → least_green t p ≤ least_service t p
service-green t p = elim (cases_Bool (nat_le 1 (row t p).walk)) [
  | inl e ↦ let is : least_service t p ≡ max (least_green t p) (10 * ((row t p).walk + (row t p).pedestrian_clear)) = rw e refl in
      numbers (least_green t p) (10 * ((row t p).walk + (row t p).pedestrian_clear)) (least_service t p) is
  | inr e ↦ let is : least_service t p ≡ least_green t p = rw e refl in same (least_green t p) (least_service t p) is
]
  where
    numbers : (a b s : ℕ) → s ≡ max a b → a ≤ s
    numbers a b s e = omega arith

    same : (a s : ℕ) → s ≡ a → a ≤ s
    same a s e = omega arith

service-walk : (t : Tables) (p : ℕ) → 1 ≤ (row t p).walk → walk_time t p + pedestrian_clear_time t p ≤ least_service t p
service-walk t p some =
    let e : nat_le 1 (row t p).walk ≡ true = le-leb 1 (row t p).walk some in
    let is : least_service t p ≡ max (least_green t p) (10 * ((row t p).walk + (row t p).pedestrian_clear)) = rw e refl in
    numbers (least_green t p) (row t p).walk (row t p).pedestrian_clear (least_service t p) is
  where
    numbers : (a w c s : ℕ) → s ≡ max a (10 * (w + c)) → 10 * w + 10 * c ≤ s
    numbers a w c s e = omega arith

-- a Green that has run its minimum service shows steady don't walk at the next tick
pub dont-when_served : (t : Tables) (p : ℕ) (l : Moment) (past : List Moment) → ((row t p).walk ≡ 0 → (row t p).pedestrian_clear ≡ 0)
    → SignalStands t p (l ∷ past) (signal_of l.frame p) → least_service t p ≤ run p Green (l ∷ past)
    → signal_runs_on p t (l ∷ past) (signal_of l.frame p) ≡ Dont
dont-when_served t p l past paired stands served = by (signal_of l.frame p) refl stands
  where
    by : (x : Ped) → signal_of l.frame p ≡ x → SignalStands t p (l ∷ past) x → signal_runs_on p t (l ∷ past) x ≡ Dont
    by Walk e g =
        let shown : signal_run p Walk (l ∷ past) ≡ signal_run p Walk past + 1 = signal-on p Walk l past e in
        let together : signal_run p Walk (l ∷ past) ≡ run p Green (l ∷ past) = g.together in
        let within : signal_run p Walk (l ∷ past) ≤ walk_time t p = g.within in
        let all : walk_time t p + pedestrian_clear_time t p ≤ least_service t p = service-walk t p (omega arith) in
        elim (walk-next p t (l ∷ past) g.latched) [
          | inl k ↦ elim (choice (pedestrian_clear_time t p == 0) Dont Flash) [
            | inl z ↦ k.1 ∙ z.1
            | inr z ↦ let some : pedestrian_clear_time t p ≢ 0 = eqb-false _ _ z.0 in absurd (omega arith)
          ]
          | inr k ↦ let short : signal_run p Walk (l ∷ past) ≢ walk_time t p = eqb-false _ _ k.0 in absurd (omega arith)
        ]
    by Flash e g =
        let shown : signal_run p Flash (l ∷ past) ≡ signal_run p Flash past + 1 = signal-on p Flash l past e in
        let together : signal_run p Flash (l ∷ past) + walk_time t p ≡ run p Green (l ∷ past) = g.together in
        let within : signal_run p Flash (l ∷ past) ≤ pedestrian_clear_time t p = g.within in
        let some : 1 ≤ (row t p).walk = walks (row t p).walk (row t p).pedestrian_clear paired (omega arith) in
        let all : walk_time t p + pedestrian_clear_time t p ≤ least_service t p = service-walk t p some in
        elim (flash-next p t (l ∷ past) g.latched) [
          | inl k ↦ k.1
          | inr k ↦ let short : signal_run p Flash (l ∷ past) ≢ pedestrian_clear_time t p = eqb-false _ _ k.0 in absurd (omega arith)
        ]
      where
        walks : (w c : ℕ) → (w ≡ 0 → c ≡ 0) → 1 ≤ c → 1 ≤ w
        walks w c paired some = elim (cases_lt w 1) [ inl z ↦ absurd (let none : c ≡ 0 = paired (omega arith) in omega arith) | inr h ↦ h ]
    by Dont e g = refl

-- at a force-off the phase is served: its minimum green is over, and so are its walk and pedestrian clearance
pub served-at_force_off : (t : Tables) (n p c d : ℕ) (l : Moment) (past : List Moment) → Other t n p → Steps (cycle_time t n) (window t n) c d
    → ((row t p).walk ≡ 0 → (row t p).pedestrian_clear ≡ 0) → OtherGreen t n p c (l ∷ past) → SignalStands t p (l ∷ past) (signal_of l.frame p)
    → force_point t n p ≤ d → is_served t (l ∷ past) p ≡ true
served-at_force_off t n p c d l past times step paired g s late =
    let served : least_service t p ≤ run p Green (l ∷ past)
    = other-served (cycle_time t n) (window t n) (force_point t n p) (clearance t p) (least_service t p) c d
    (run p Green (l ∷ past)) times step g.in_time late in
    let least : least_green (latched p Green t (l ∷ past)) p ≤ run p Green (l ∷ past)
    = subst (λ (u : Tables). least_green u p ≤ run p Green (l ∷ past)) (sym g.latched)
    (through (least_green t p) (least_service t p) _ (service-green t p) served) in
    and_from (nat_le (least_green (latched p Green t (l ∷ past)) p) (run p Green (l ∷ past)))
    (same_signal (signal_runs_on p t (l ∷ past) (signal_of l.frame p)) Dont)
    (le-leb _ _ least) (ap (λ (x : Ped). same_signal x Dont) (dont-when_served t p l past paired s served))
  where
    through : (a b c : ℕ) → a ≤ b → b ≤ c → a ≤ c
    through a b c h k = omega arith
