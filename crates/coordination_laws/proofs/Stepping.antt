-- Coordinated ticks of a pattern, from its pickup on: every phase is in time after each, and each local zero holds.
use Rattle.std.proofs.Common.{◌≡◌, inl, inr, ℕ, zero, suc, Bool, true, false, not, ◌==◌, ◌||◌, if◌then◌else◌, List, [], ◌∷◌, refl, sym, ◌∙◌, ap, subst}
use Rattle.std.proofs.lemmas.Bool.{and_parts, eqb-true}
use Rattle.sig_types.specs.declared.frame.Frame.{Frame}
use Rattle.sig_types.specs.declared.frame.Colour.{Colour}
use Rattle.sig_types.specs.declared.frame.Colour.TheVariants.{Green}
use Rattle.sig_types.specs.declared.frame.Mode.{Mode}
use Rattle.sig_types.specs.declared.frame.Mode.TheVariants.{Coord}
use Rattle.sig_types.specs.Colour.{same_colour, colour_of}
use Rattle.sig_tables.specs.declared.tables.Tables.{Tables}
use Rattle.sig_tables.specs.Slots.{coordinated_phase}
use Rattle.sig_tables.specs.Choosing.{are_coordinated_green}
use Rattle.sig_tables.specs.Modes.{same_mode}
use Rattle.sig_tables.specs.Walking.{is_local_zero}
use Rattle.sig_tables.specs.View.{View}
use Rattle.sig_tables.specs.Past.{Moment}
use Rattle.sig_tables.specs.Looking.{last_frame}
use Rattle.tick_laws.specs.Zero.{HoldsPair, PlanServes, TimesServe, InTime, ZeroHolds, Kept}
use Rattle.tick_laws.proofs.Ticking.{picked-up, tick-keeps}
use Rattle.plan_facts.specs.Meets.{is_zero, is_green, green_at_zero}
use Rattle.coordination_laws.specs.Lasting.{StepTick, RunsInStep, EachZeroHolds}

-- one coordinated tick
pub step-keeps : (t : Tables) (n : ℕ) (m l : Moment) (past : List Moment) → HoldsPair t n → PlanServes t n → TimesServe t n → StepTick t n m l past
    → InTime t n l.frame.counter (l ∷ past) → InTime t n m.frame.counter (m ∷ l ∷ past) × (m.frame.counter ≡ 0 → ZeroHolds t n m)
step-keeps t n m l past pair plan times tick before = (after, zeros)
  where
    view : View
    view = tick.view

    kept : Kept view n m
    kept = tick-keeps view n l.frame.counter l past m
        (subst (λ (u : Tables). HoldsPair u n) (sym tick.tables) pair)
        (subst (λ (u : Tables). PlanServes u n) (sym tick.tables) plan)
        (subst (λ (u : Tables). TimesServe u n) (sym tick.tables) times)
        tick.sees tick.gives tick.lasting
        (subst (λ (u : Tables). InTime u n l.frame.counter view.past) (sym tick.tables)
        (subst (λ (ms : List Moment). InTime t n l.frame.counter ms) (sym tick.lasting) before))

    after : InTime t n m.frame.counter (m ∷ l ∷ past)
    after = subst (λ (u : Tables). InTime u n m.frame.counter (m ∷ l ∷ past)) tick.tables
        (subst (λ (c : ℕ). InTime view.tables n c (m ∷ l ∷ past)) (sym tick.counter)
        (subst (λ (ms : List Moment). InTime view.tables n view.counter (m ∷ ms)) tick.lasting kept.in_time))

    zeros : m.frame.counter ≡ 0 → ZeroHolds t n m
    zeros e = subst (λ (u : Tables). ZeroHolds u n m) tick.tables (kept.zero (sym tick.counter ∙ e))

-- coordinated ticks after a moment that is in time keep every phase in time, and each local zero holds
pub runs-in-time : (t : Tables) (n : ℕ) (l : Moment) (before : List Moment) → HoldsPair t n → PlanServes t n → TimesServe t n
    → InTime t n l.frame.counter (l ∷ before) → (k : ℕ) (now : List Moment) → RunsInStep t n (l ∷ before) k now
    → InTime t n (last_frame now).counter now × EachZeroHolds t n k now
runs-in-time t n l before pair plan times start zero now same =
    (subst (λ (ms : List Moment). InTime t n (last_frame ms).counter ms) (sym same) start, tt)
runs-in-time t n l before pair plan times start (suc k) [] h = absurd h
runs-in-time t n l before pair plan times start (suc k) (m ∷ []) h = absurd h
runs-in-time t n l before pair plan times start (suc k) (m ∷ x ∷ past) h =
    let so_far = runs-in-time t n l before pair plan times start k (x ∷ past) h.1 in
    let kept = step-keeps t n m x past pair plan times h.0 so_far.0 in
    (kept.0, (kept.1, so_far.1))

-- a pickup is in time
pub pickup-in-time : (t : Tables) (n : ℕ) (l : Moment) (before : List Moment) → ZeroHolds t n l → l.frame.counter ≡ 0
    → InTime t n l.frame.counter (l ∷ before)
pickup-in-time t n l before holds e = subst (λ (c : ℕ). InTime t n c (l ∷ before)) (sym e) (picked-up t n l before holds)

-- a local zero has counter 0
at-zero : (n c : ℕ) (f : Frame) → is_local_zero (Coord n) c f ≡ true → c ≡ 0
at-zero n c f e = eqb-true c 0 (and_parts (c == 0) (not (f.counter == 0) || not (same_mode f.mode (Coord n))) e).0

-- where both coordinated phases are Green at counter 0, what is asked of a local zero is met
pub zero-green : (t : Tables) (n : ℕ) (m : Moment) (past : List Moment) → HoldsPair t n → m.tables ≡ t → m.frame.mode ≡ Coord n
    → (m.frame.counter ≡ 0 → ZeroHolds t n m) → green_at_zero (m ∷ past) ≡ true
zero-green t n m past pair tables mode holds = pick (is_zero (m ∷ past)) refl
  where
    two : (a b : Colour) → a ≡ Green → b ≡ Green → (if same_colour a Green then (if same_colour b Green then true else false) else false) ≡ true
    two a b x y = rw (x, y) refl

    both : ZeroHolds t n m → are_coordinated_green t n m.frame.veh ≡ true
    both green = two (colour_of m.frame (coordinated_phase t n 1)) (colour_of m.frame (coordinated_phase t n 2))
        (green.held (coordinated_phase t n 1) (pair.held 1 (inl refl))) (green.held (coordinated_phase t n 2) (pair.held 2 (inr refl)))

    counter : is_zero (m ∷ past) ≡ true → m.frame.counter ≡ 0
    counter e = at-zero n m.frame.counter (last_frame past) (sym (ap (λ (x : Mode). is_local_zero x m.frame.counter (last_frame past)) mode) ∙ e)

    pick : (b : Bool) → is_zero (m ∷ past) ≡ b → (if b then is_green m.frame.mode m.tables m.frame.veh else true) ≡ true
    pick true e = ap (λ (x : Mode). is_green x m.tables m.frame.veh) mode ∙ ap (λ (u : Tables). are_coordinated_green u n m.frame.veh) tables
        ∙ both (holds (counter e))
    pick false e = refl
