-- What is known of a phase that ends its green: it has been Green long enough, and by itself it shows Dont.
use Rattle.std.proofs.Common.{◌≡◌, ◌≤◌, inl, inr, ℕ, Bool, true, false, not, ◌&&◌, ◌||◌, if◌then◌else◌, nat_le, List, [], ◌∷◌, refl, sym, ◌∙◌, ap, subst}
use Rattle.std.proofs.lemmas.Bool.{and_parts, or_cases, false≢true, not-true, leb-true}
use Rattle.sig_types.specs.declared.frame.Colour.TheVariants.{Green}
use Rattle.sig_types.specs.declared.frame.Ped.TheVariants.{Dont}
use Rattle.sig_types.specs.declared.frame.Mode.{Mode}
use Rattle.sig_types.specs.Phases.{is_phase, is_in}
use Rattle.sig_types.specs.Colour.{same_signal, signal_of}
use Rattle.sig_types.proofs.Lists.{in-cons, in-append}
use Rattle.sig_tables.specs.declared.tables.Tables.{Tables}
use Rattle.sig_tables.specs.Tables.{least_green}
use Rattle.sig_tables.specs.Lesser.{Lesser, signal_runs_within}
use Rattle.sig_tables.specs.Modes.{stage_of}
use Rattle.sig_tables.specs.Goals.{goal_in, lesser_times, lesser_in, lesser_green, is_cleared}
use Rattle.sig_tables.specs.Past.{Moment, Past}
use Rattle.sig_tables.specs.Looking.{last_frame, run, latched, signal_runs_on}
use Rattle.sig_tables.specs.Calls.{is_green}
use Rattle.sig_tables.specs.View.{View, on_phase, has_reason, is_served, is_forced}
use Rattle.sig_tables.specs.Moves.{is_to_end, is_ended, ending_in, goal_ending_in}
use Rattle.sig_tables.specs.TickState.{RingTurn, Rest, StartUp, Rings, Goal, tick_state_of}
use Rattle.sig_tables.specs.Seen.{mode_seen, ring_turn_seen, view_seen, moves_seen}
use Rattle.sig_tables.specs.Decide.{moves_of}
use Rattle.sig_tables.proofs.FreeTickState.{lesser-unstaged}
use Rattle.tick_laws.proofs.Choices.{same-is-signal, not-chosen}
use Rattle.tick_laws.proofs.RingTurns.{Suited, ring_turn-suited}

-- how long the green of p lasts at least in this mode, of that much by its tables
abbrev pub least_in : Tables → Mode → ℕ → ℕ → ℕ
least_in t mode p time = if is_in (goal_in t mode) p then time else lesser_green t (stage_of mode) time

-- p has been Green long enough to end in this mode, and by itself it shows Dont
pub record Ended (t : Tables) (mode : Mode) (past : List Moment) (p : ℕ) : Type 0 where
  pub least : least_in t mode p (least_green (latched p Green t past) p) ≤ run p Green past
  pub dont : signal_runs_within (lesser_in t mode p) p t past (signal_of (last_frame past) p) ≡ Dont

-- where no preempt is served, all of it
pub least-unstaged : (t : Tables) (mode : Mode) (p time : ℕ) → stage_of mode ≡ 0 → least_in t mode p time ≡ time
least-unstaged t mode p time none =
    ap (λ (i : ℕ). if is_in (goal_in t mode) p then time else lesser_green t i time) none ∙ either (is_in (goal_in t mode) p)
  where
    either : (b : Bool) → (if b then time else time) ≡ time
    either true = refl
    either false = refl

-- where no preempt is served, a phase that is served has
served-ended : (t : Tables) (mode : Mode) (past : List Moment) (p : ℕ) → stage_of mode ≡ 0 → is_served t past p ≡ true → Ended t mode past p
served-ended t mode past p none h =
    let k = and_parts (nat_le (least_green (latched p Green t past) p) (run p Green past))
    (same_signal (signal_runs_on p t past (signal_of (last_frame past) p)) Dont) h in
    record {
      least = subst (λ (n : ℕ). n ≤ run p Green past) (sym (least-unstaged t mode p (least_green (latched p Green t past) p) none)) (leb-true _ _ k.0);
      dont = ap (λ (l : Lesser). signal_runs_within l p t past (signal_of (last_frame past) p)) (lesser-unstaged t mode p none)
          ∙ same-is-signal _ Dont k.1;
    }

-- and so has one that no goal keeps, and that is cleared
cleared-ended : (t : Tables) (mode : Mode) (past : List Moment) (p : ℕ) → is_in (goal_in t mode) p ≡ false → is_cleared mode t past p ≡ true
    → Ended t mode past p
cleared-ended t mode past p out h =
    let k : (nat_le (lesser_green t (stage_of mode) (least_green (latched p Green t past) p)) (run p Green past) ≡ true)
    × (same_signal (signal_runs_within (lesser_times t (stage_of mode)) p t past (signal_of (last_frame past) p)) Dont ≡ true) = and_parts _ _ h in
    record {
      least = subst (λ (n : ℕ). n ≤ run p Green past)
          (sym (not-chosen (is_in (goal_in t mode) p) (least_green (latched p Green t past) p) _ out)) (leb-true _ _ k.0);
      dont = ap (λ (l : Lesser). signal_runs_within l p t past (signal_of (last_frame past) p)) (not-chosen _ _ _ out) ∙ same-is-signal _ Dont k.1;
    }

-- what is the only one under a test
alone : (b : Bool) (x p : ℕ) → is_in (if b then x ∷ [] else []) p ≡ true → (p ≡ x) × (b ≡ true)
alone true x p h = elim (in-cons x [] p h) [ inl e ↦ (e, refl) | inr n ↦ absurd (false≢true n) ]
alone false x p h = absurd (false≢true h)

-- a phase that the pattern forces off is served
abbrev Forced : View → ℕ → Type 0
Forced v p = is_forced v p ≡ true → is_served v.tables v.past p ≡ true

in-ending : (v : View) (r p : ℕ) → Forced v p → is_in (ending_in v r) p ≡ true → is_served v.tables v.past p ≡ true
in-ending v r p forced h =
    let k : (p ≡ on_phase v r) × ((is_forced v (on_phase v r) || is_ended v r (on_phase v r)) ≡ true) = alone _ _ p h in
    elim (or_cases (is_forced v (on_phase v r)) (is_ended v r (on_phase v r)) k.1) [
      | inl f ↦ forced (ap (is_forced v) k.0 ∙ f)
      | inr e ↦
          ap (is_served v.tables v.past) k.0
          ∙ (and_parts (has_reason v (on_phase v r) && is_to_end v r (on_phase v r)) (is_served v.tables v.past (on_phase v r)) e).1
    ]

-- a phase that no goal keeps, and that may end
abbrev may_end : View → List ℕ → ℕ → Bool
may_end v goal p = is_phase p && is_green v.frame p && not (is_in goal p) && is_cleared v.mode v.tables v.past p

in-goal-ending : (v : View) (goal : List ℕ) (r p : ℕ) → is_in (goal_ending_in v goal r) p ≡ true
    → (is_in goal p ≡ false) × (is_cleared v.mode v.tables v.past p ≡ true)
in-goal-ending v goal r p h =
    let k = alone (may_end v goal (on_phase v r)) (on_phase v r) p h in
    let a = and_parts _ (is_cleared v.mode v.tables v.past (on_phase v r)) k.1 in
    let b = and_parts (is_phase (on_phase v r) && is_green v.frame (on_phase v r)) (not (is_in goal (on_phase v r))) a.0 in
    (ap (is_in goal) k.0 ∙ not-true _ b.1, ap (is_cleared v.mode v.tables v.past) k.0 ∙ a.1)

-- what ends in a turn has
ends-ended : (ring_turn : RingTurn) (v : View) (p : ℕ) → Suited v.tables v.mode ring_turn → Forced v p → is_in (moves_of ring_turn v).ends p ≡ true
    → Ended v.tables v.mode v.past p
ends-ended Rest v p suit forced h = absurd (false≢true h)
ends-ended StartUp v p suit forced h = absurd (false≢true h)
ends-ended Rings v p suit forced h =
    served-ended v.tables v.mode v.past p suit
    (elim (in-append (ending_in v 1) (ending_in v 2) p h) [ inl k ↦ in-ending v 1 p forced k | inr k ↦ in-ending v 2 p forced k ])
ends-ended (Goal goal) v p suit forced h =
    let c : (is_in goal p ≡ false) × (is_cleared v.mode v.tables v.past p ≡ true)
    = elim (in-append (goal_ending_in v goal 1) (goal_ending_in v goal 2) p h) [ inl k ↦ in-goal-ending v goal 1 p k | inr k ↦ in-goal-ending v goal 2 p k ] in
    cleared-ended v.tables v.mode v.past p (subst (λ (xs : List ℕ). is_in xs p ≡ false) suit c.0) c.1

-- what ends at a tick has, if it is served where the pattern forces it off
pub tick-ended : (past : Past) (p : ℕ) → (is_forced (view_seen past) p ≡ true → is_served past.tables past.moments p ≡ true)
    → is_in (moves_seen past).ends p ≡ true → Ended past.tables (mode_seen past) past.moments p
tick-ended past p forced h =
    ends-ended (ring_turn_seen past) (view_seen past) p (ring_turn-suited (tick_state_of past).mode past.tables past.moments) forced h
