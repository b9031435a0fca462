-- The search continues, and ends in time.
use Rattle.std.proofs.Common.{◌≡◌, inl, inr, ℕ, ◌+◌, ◌≤◌, ◌&&◌, Bool, true, if◌then◌else◌, List, ◌∷◌, ◌∙◌, ap, subst, arith}
use Rattle.std.proofs.lemmas.Bool.{and_from}
use Rattle.sig_types.specs.declared.frame.Colour.{Colour}
use Rattle.sig_types.specs.declared.frame.Colour.TheVariants.{Green, Yellow, Clear, Red}
use Rattle.sig_types.specs.declared.frame.Ped.{Ped}
use Rattle.sig_types.specs.declared.frame.Ped.TheVariants.{Walk, Flash, Dont}
use Rattle.sig_types.specs.declared.frame.Frame.{Frame}
use Rattle.sig_types.specs.Phases.{is_in}
use Rattle.sig_types.specs.Colour.{same_colour, colour_of, signal_of}
use Rattle.sig_tables.specs.declared.tables.Tables.{Tables}
use Rattle.sig_tables.specs.Tables.{is_enabled, red_revert_time}
use Rattle.sig_tables.specs.Past.{Moment}
use Rattle.sig_tables.specs.Looking.{last_frame, lasts, shows, signal_runs_on}
use Rattle.sig_tables.specs.View.{View, is_startable}
use Rattle.sig_tables.specs.Moves.{goal_moves}
use Rattle.sig_tables.specs.Decide.{colour_after}
use Rattle.tick_laws.proofs.Others.{end-choice}
use Rattle.coordination_laws.specs.Search.{Greatest, Sums, GreatestKeeps, OutStands, OutSignal, GoalStands, Sought}
use Rattle.coordination_laws.specs.Search.{Found, InSearch, KeepsEach, Gives, IsLate, Runs, SignalRuns, AnyMoment}
use Rattle.coordination_laws.proofs.Outside.{out-signal, out-step, out-red}
use Rattle.coordination_laws.proofs.Goal.{goal-step, goal-ready, goal-begins, goal-stays}

-- what is true of any moment begins the search
out-any : (g : Greatest) (t : Tables) (p : ℕ) (past : List Moment) (x : Colour) → Sums g → Runs g t p past x → OutStands g t p 0 past x
out-any g t p past Green sums r = let some = r.0 in record { ran = omega arith; least = r.1; early = omega arith }
out-any g t p past Yellow sums r = let some = r.0 in let le = r.1 in record { rest = omega (arith, r.2, sums.clearance); within = le }
out-any g t p past Clear sums r = let some = r.0 in let le = r.1 in record { rest = omega (arith, r.2, sums.clearance); within = le }
out-any g t p past Red sums r = tt

signal-any : (g : Greatest) (t : Tables) (p : ℕ) (past : List Moment) (x : Ped) → Sums g → SignalRuns g t p past x → OutSignal g t p 0 past x
signal-any g t p past Walk sums r = let some = r.0 in let le = r.1 in record { ran = omega arith; within = le; most = r.2 }
signal-any g t p past Flash sums r = let some = r.0 in let le = r.1 in record { ran = omega arith; within = le; most = r.2 }
signal-any g t p past Dont sums r = tt

goal-any : (g : Greatest) (t : Tables) (p : ℕ) (past : List Moment) (x : Colour) → Sums g → GreatestKeeps g t p → Runs g t p past x → GoalStands g t p 0 past x
goal-any g t p past Green sums keeps r = tt
goal-any g t p past Yellow sums keeps r = let some = r.0 in let le = r.1 in record { rest = omega (arith, r.2, sums.clearance); within = le }
goal-any g t p past Clear sums keeps r = let some = r.0 in let le = r.1 in record { rest = omega (arith, r.2, sums.clearance); within = le }
goal-any g t p past Red sums keeps r = let h : red_revert_time t p ≤ g.revert = keeps.revert in numbers (red_revert_time t p) _ g.clear g.revert h r
  where
    numbers : (rr run clear revert : ℕ) → rr ≤ revert → 1 ≤ run → rr + 0 + 1 ≤ run + clear + revert
    numbers rr run clear revert h k = omega arith

pub search-begins : (g : ℕ → Greatest) (t : Tables) (goal : List ℕ) (past : List Moment) → KeepsEach g t →
    ((q : ℕ) → is_in goal q ≡ true → is_enabled t q ≡ true)
    → AnyMoment g t past → InSearch g t goal 0 past
search-begins g t goal past keeps enabled any = record {
  outside = λ p e o. out-any (g p) t p past (colour_of (last_frame past) p) (keeps.sums p) (any.colours p e);
  signals = λ p e o. signal-any (g p) t p past (signal_of (last_frame past) p) (keeps.sums p) (any.signals p e);
  inside = λ q i. goal-any (g q) t q past (colour_of (last_frame past) q) (keeps.sums q) (keeps.each q (enabled q i)) (any.colours q (enabled q i));
}

-- a tick of the search
pub search-step : (g : ℕ → Greatest) (v : View) (n ticks : ℕ) (goal : List ℕ) (l : Moment) (past : List Moment) (m : Moment) → KeepsEach g v.tables
    → Sought v n goal
    → v.past ≡ l ∷ past → Gives v goal m → InSearch g v.tables goal ticks (l ∷ past) → InSearch g v.tables goal (ticks + 1) (m ∷ l ∷ past)
search-step g v n ticks goal l past m keeps sought lasting gives s = record {
  outside = λ p e o. out-step (g p) v n p ticks goal l past m (keeps.sums p) (keeps.each p e) sought e o lasting (gives.each p e) (s.signals p e o)
      (s.outside p e o);
  signals = λ p e o. out-signal (g p) v.tables p ticks l past m (keeps.sums p) (keeps.each p e) (gives.each p e).tables
      (subst (λ (ms : List Moment). signal_of m.frame p ≡ signal_runs_on p v.tables ms (signal_of (last_frame ms) p)) lasting (gives.signals p e o))
      (s.signals p e o);
  inside = λ q i. goal-step (g q) v n q ticks goal l past m (keeps.sums q) (keeps.each q (sought.enabled q i)) sought i lasting
      (gives.each q (sought.enabled q i)) (s.inside q i);
}

-- once it is late, the next tick has every phase of the goal Green
pub search-ends : (g : ℕ → Greatest) (v : View) (n ticks : ℕ) (goal : List ℕ) (m : Moment) → Sought v n goal → Gives v goal m → IsLate g ticks
    → InSearch g v.tables goal ticks v.past → (q : ℕ) → is_in goal q ≡ true → colour_of m.frame q ≡ Green
search-ends g v n ticks goal m sought gives late s q i =
    elim (goal-ready (g q) v.tables q ticks v.past (colour_of (last_frame v.past) q) (late.goal q) (over (late.outside q)) (s.inside q i)) [
      | inl green ↦ found.colour ∙ ap (λ (x : Colour). colour_after (goal_moves v goal) q v.tables v.past x) green ∙ stays
      | inr red ↦
          let here : colour_of v.frame q ≡ Red = frame q ∙ red.0 in
          let may : is_startable v q ≡ true
          = and_from (is_enabled v.tables q && same_colour (colour_of v.frame q) Red) (lasts (red_revert_time v.tables q) (shows q Red) v.past)
          (and_from (is_enabled v.tables q) (same_colour (colour_of v.frame q) Red) (sought.enabled q i) (ap (λ (x : Colour). same_colour x Red) here)) red.1 in
          let begins : is_in (goal_moves v goal).begins q ≡ true = goal-begins v n q goal sought i
          (λ p e o. frame p ∙ out-red (g p) v.tables p ticks v.past (colour_of (last_frame v.past) p) (late.outside p) (s.outside p e o)) here may in
          found.colour ∙ ap (λ (x : Colour). colour_after (goal_moves v goal) q v.tables v.past x) red.0 ∙ ap (λ (b : Bool). if b then Green else Red) begins
    ]
  where
    found : Found v goal q m
    found = gives.each q (sought.enabled q i)

    frame : (p : ℕ) → colour_of v.frame p ≡ colour_of (last_frame v.past) p
    frame p = ap (λ (f : Frame). colour_of f p) sought.frame

    over : (g q).service + (g q).clear + 1 ≤ ticks → (g q).clear + 1 ≤ ticks
    over h = omega arith

    stays : (if is_in (goal_moves v goal).ends q then Yellow else Green) ≡ Green
    stays = elim (end-choice (is_in (goal_moves v goal).ends q) Yellow Green) [
      | inl h ↦ absurd (goal-stays v goal q i h.0)
      | inr h ↦ h.1
    ]
