-- A phase outside the goal is off once the greatest service and the greatest clearance are over.
use Rattle.std.proofs.Common.{◌≡◌, ◌≢◌, inl, inr, ℕ, ◌+◌, ◌-◌, ◌<◌, ◌≤◌, nat_le, ◌==◌, ◌&&◌, ◌||◌}
use Rattle.std.proofs.Common.{Bool, true, false, not, if◌then◌else◌, List, [], ◌∷◌, refl, sym, ◌∙◌, ap, subst, arith}
use Rattle.std.proofs.lemmas.Bool.{cases_lt, both_ways, eqb-false, false≢true, and_from, and_parts}
use Rattle.sig_types.specs.declared.frame.Colour.{Colour}
use Rattle.sig_types.specs.declared.frame.Colour.TheVariants.{Green, Yellow, Clear, Red}
use Rattle.sig_types.specs.declared.frame.Ped.{Ped}
use Rattle.sig_types.specs.declared.frame.Ped.TheVariants.{Walk, Flash, Dont}
use Rattle.sig_types.specs.declared.frame.Mode.{Mode}
use Rattle.sig_types.specs.declared.frame.Frame.{Frame}
use Rattle.sig_types.specs.Phases.{is_in, is_phase, first}
use Rattle.sig_types.specs.Colour.{same_colour, same_signal, colour_of, signal_of}
use Rattle.sig_types.proofs.Lists.{in-append, in-first, in-head}
use Rattle.sig_tables.specs.declared.tables.Tables.{Tables}
use Rattle.sig_tables.specs.Tables.{ring_of, is_enabled, least_green, yellow_time, red_clear_time, walk_time, pedestrian_clear_time}
use Rattle.sig_tables.specs.Sides.{are_of_one_side}
use Rattle.sig_tables.specs.Past.{Moment}
use Rattle.sig_tables.specs.Looking.{run, latched, signal_run, signal_latched, signal_runs_on, last_frame}
use Rattle.sig_tables.specs.Calls.{is_green}
use Rattle.sig_tables.specs.Goals.{is_cleared}
use Rattle.sig_tables.specs.View.{View, on_phase, is_open, other_ring, is_startable}
use Rattle.sig_tables.specs.Moves.{goal_moves, goal_ending_in, goal_beginning_in}
use Rattle.sig_tables.specs.Decide.{colour_after}
use Rattle.coordination_laws.proofs.Looks.{fits}
use Rattle.tick_laws.proofs.Runs.{run-on, run-first}
use Rattle.tick_laws.proofs.Others.{end-choice}
use Rattle.tick_laws.proofs.Finding.{in-left, in-right}
use Rattle.tick_laws.proofs.ForcedSignals.{signal-on, choice}
use Rattle.coordination_laws.specs.Search.{Greatest, Sums, GreatestKeeps, OutGreen, OutStands, OutSignal, Sought, Found}
use Rattle.coordination_laws.proofs.Clearing.{latched-goes, yellow-goes, clear-goes}
use Rattle.coordination_laws.proofs.Clearing.{signal-comes, signal_latched-goes, signal_latched-comes, walk-goes, flash-goes}

-- its signal runs on, and is over with the greatest service
pub out-signal : (g : Greatest) (t : Tables) (p ticks : ℕ) (l : Moment) (past : List Moment) (m : Moment) → Sums g → GreatestKeeps g t p → m.tables ≡ t
    → signal_of m.frame p ≡ signal_runs_on p t (l ∷ past) (signal_of l.frame p) → OutSignal g t p ticks (l ∷ past) (signal_of l.frame p)
    → OutSignal g t p (ticks + 1) (m ∷ l ∷ past) (signal_of m.frame p)
out-signal g t p ticks l past m sums keeps tables goes = by (signal_of l.frame p) refl goes
  where
    by : (x : Ped) → signal_of l.frame p ≡ x → signal_of m.frame p ≡ signal_runs_on p t (l ∷ past) x → OutSignal g t p ticks (l ∷ past) x
        → OutSignal g t p (ticks + 1) (m ∷ l ∷ past) (signal_of m.frame p)
    by Walk e h s =
        let ran : ticks + 1 ≤ signal_run p Walk (l ∷ past) = s.ran in
        let within : signal_run p Walk (l ∷ past) ≤ walk_time (signal_latched p Walk t (l ∷ past)) p = s.within in
        let most : walk_time (signal_latched p Walk t (l ∷ past)) p ≤ g.walk = s.most in
        elim (walk-goes p t (l ∷ past)) [
          | inl k ↦ elim (choice (pedestrian_clear_time t p == 0) Dont Flash) [
            | inl z ↦ subst (λ (x : Ped). OutSignal g t p (ticks + 1) (m ∷ l ∷ past) x) (sym (h ∙ k.1 ∙ z.1)) tt
            | inr z ↦
                let is : signal_of m.frame p ≡ Flash = h ∙ k.1 ∙ z.1 in
                let some : pedestrian_clear_time t p ≢ 0 = eqb-false _ _ z.0 in
                let once : signal_run p Flash (m ∷ l ∷ past) ≡ 0 + 1 = signal-on p Flash m (l ∷ past) is ∙ ap (λ (x : ℕ). x + 1)
                (signal-comes p Flash Walk l past e refl) in
                let now : signal_latched p Flash t (m ∷ l ∷ past) ≡ t = signal_latched-goes p Flash t m (l ∷ past) is tables
                ∙ signal_latched-comes p Flash Walk t l past e refl in
                let time : pedestrian_clear_time (signal_latched p Flash t (m ∷ l ∷ past)) p ≡ pedestrian_clear_time t p = ap
                (λ (u : Tables). pedestrian_clear_time u p) now in
                subst (λ (x : Ped). OutSignal g t p (ticks + 1) (m ∷ l ∷ past) x) (sym is)
                (record { ran = omega arith; within = omega arith; most = omega (arith, keeps.flash) })
          ]
          | inr k ↦
              let short : signal_run p Walk (l ∷ past) ≢ walk_time (signal_latched p Walk t (l ∷ past)) p = eqb-false _ _ k.0 in
              let is : signal_of m.frame p ≡ Walk = h ∙ k.1 in
              let more : signal_run p Walk (m ∷ l ∷ past) ≡ signal_run p Walk (l ∷ past) + 1 = signal-on p Walk m (l ∷ past) is in
              let time : walk_time (signal_latched p Walk t (m ∷ l ∷ past)) p ≡ walk_time (signal_latched p Walk t (l ∷ past)) p
              = ap (λ (u : Tables). walk_time u p) (signal_latched-goes p Walk t m (l ∷ past) is tables) in
              subst (λ (x : Ped). OutSignal g t p (ticks + 1) (m ∷ l ∷ past) x) (sym is)
              (record { ran = omega arith; within = omega arith; most = omega arith })
        ]
    by Flash e h s =
        let ran : ticks + 1 ≤ signal_run p Flash (l ∷ past) + g.walk = s.ran in
        let within : signal_run p Flash (l ∷ past) ≤ pedestrian_clear_time (signal_latched p Flash t (l ∷ past)) p = s.within in
        let most : pedestrian_clear_time (signal_latched p Flash t (l ∷ past)) p ≤ g.flash = s.most in
        elim (flash-goes p t (l ∷ past)) [
          | inl k ↦ subst (λ (x : Ped). OutSignal g t p (ticks + 1) (m ∷ l ∷ past) x) (sym (h ∙ k.1)) tt
          | inr k ↦
              let short : signal_run p Flash (l ∷ past) ≢ pedestrian_clear_time (signal_latched p Flash t (l ∷ past)) p = eqb-false _ _ k.0 in
              let is : signal_of m.frame p ≡ Flash = h ∙ k.1 in
              let more : signal_run p Flash (m ∷ l ∷ past) ≡ signal_run p Flash (l ∷ past) + 1 = signal-on p Flash m (l ∷ past) is in
              let time : pedestrian_clear_time (signal_latched p Flash t (m ∷ l ∷ past)) p ≡ pedestrian_clear_time (signal_latched p Flash t (l ∷ past)) p
              = ap (λ (u : Tables). pedestrian_clear_time u p) (signal_latched-goes p Flash t m (l ∷ past) is tables) in
              subst (λ (x : Ped). OutSignal g t p (ticks + 1) (m ∷ l ∷ past) x) (sym is)
              (record { ran = omega arith; within = omega arith; most = omega arith })
        ]
    by Dont e h s = subst (λ (x : Ped). OutSignal g t p (ticks + 1) (m ∷ l ∷ past) x) (sym h) tt

-- after the greatest service it shows steady don't walk
pub out-dont : (g : Greatest) (t : Tables) (p ticks : ℕ) (past : List Moment) (x : Ped) → Sums g → g.service ≤ ticks → OutSignal g t p ticks past x → x ≡ Dont
out-dont g t p ticks past Walk sums late s = absurd (omega (arith, s.ran, s.within, s.most, sums.signals))
out-dont g t p ticks past Flash sums late s = absurd (omega (arith, s.ran, s.within, s.most, sums.signals))
out-dont g t p ticks past Dont sums late s = refl

-- and its Green ends
pub out-cleared : (g : Greatest) (v : View) (n p ticks : ℕ) (goal : List ℕ) → Sums g → Sought v n goal → OutGreen g v.tables p ticks v.past
    → OutSignal g v.tables p ticks v.past (signal_of (last_frame v.past) p) → g.service ≤ ticks → is_cleared v.mode v.tables v.past p ≡ true
out-cleared g v n p ticks goal sums sought green signal late =
    subst (λ (x : Mode). is_cleared x v.tables v.past p ≡ true) (sym sought.mode)
    (and_from (nat_le (least_green (latched p Green v.tables v.past) p) (run p Green v.past))
    (same_signal (signal_runs_on p v.tables v.past (signal_of (last_frame v.past) p)) Dont)
    (fits _ _ (enough _ _ _ ticks green.least late green.ran))
    (subst (λ (x : Ped). same_signal (signal_runs_on p v.tables v.past x) Dont ≡ true) (sym (out-dont g v.tables p ticks v.past _ sums late signal)) refl))
  where
    enough : (a s r i : ℕ) → a ≤ s → s ≤ i → i + 1 ≤ r → a ≤ r
    enough a s r i h k l = omega arith

ends-outside : (v : View) (n r p : ℕ) (goal : List ℕ) → on_phase v r ≡ p → is_phase p ≡ true → colour_of v.frame p ≡ Green → is_in goal p ≡ false
    → is_cleared v.mode v.tables v.past p ≡ true → is_in (goal_ending_in v goal r) p ≡ true
ends-outside v n r p goal on phase green out cleared =
    subst (λ (x : ℕ). is_in (if is_phase x && is_green v.frame x && not (is_in goal x) && is_cleared v.mode v.tables v.past x then x ∷ [] else []) p ≡ true)
    (sym on)
    (taken _ _ _ _ phase (ap (λ (c : Colour). same_colour c Green) green) (ap not out) cleared)
  where
    taken : (a b c d : Bool) → a ≡ true → b ≡ true → c ≡ true → d ≡ true → is_in (if a && b && c && d then p ∷ [] else []) p ≡ true
    taken a b c d e f h k = rw (e, f, h, k) (in-head p [])

out-ends : (v : View) (n p : ℕ) (goal : List ℕ) → Sought v n goal → is_enabled v.tables p ≡ true → colour_of v.frame p ≡ Green → is_in goal p ≡ false
    → is_cleared v.mode v.tables v.past p ≡ true → is_in (goal_moves v goal).ends p ≡ true
out-ends v n p goal sought e green out cleared =
    let phase : is_phase p ≡ true = (and_parts (is_phase p) _ e).0 in
    let on : on_phase v (ring_of v.tables p) ≡ p = sought.placed p e (λ red. false≢true (ap (λ (x : Colour). same_colour x Green) (sym red ∙ green))) in
    elim (sought.rings p e) [
      | inl one ↦ in-left (goal_ending_in v goal 1) (goal_ending_in v goal 2) p
          (ends-outside v n 1 p goal (subst (λ (x : ℕ). on_phase v x ≡ p) one on) phase green out cleared)
      | inr two ↦ in-right (goal_ending_in v goal 1) (goal_ending_in v goal 2) p
          (ends-outside v n 2 p goal (subst (λ (x : ℕ). on_phase v x ≡ p) two on) phase green out cleared)
    ]

-- nothing outside the goal begins
pub begins-goal : (v : View) (goal : List ℕ) (r p : ℕ) → is_in (goal_beginning_in v goal r) p ≡ true → is_in goal p ≡ true
begins-goal v goal r p h = by (is_open v r) h
  where
    by : (b : Bool) → is_in (if b then first
        (λ q. ring_of v.tables q == r && is_startable v q &&
        (is_open v (other_ring r) || are_of_one_side v.tables (on_phase v (other_ring r)) q)) goal else []) p ≡ true → is_in goal p ≡ true
    by true k = (in-first _ goal p k).1
    by false k = absurd (false≢true k)

-- the colour of the moment, from that before it
pub found-from : (v : View) (goal : List ℕ) (p : ℕ) (l : Moment) (past : List Moment) (m : Moment) (x : Colour) → v.past ≡ l ∷ past → Found v goal p m
    → colour_of l.frame p ≡ x → colour_of m.frame p ≡ colour_after (goal_moves v goal) p v.tables (l ∷ past) x
found-from v goal p l past m x lasting found e =
    found.colour ∙ ap (λ (ms : List Moment). colour_after (goal_moves v goal) p v.tables ms (colour_of (last_frame ms) p)) lasting
    ∙ ap (λ (y : Colour). colour_after (goal_moves v goal) p v.tables (l ∷ past) y) e

-- what was true of a phase outside the goal is true a tick later
pub out-step : (g : Greatest) (v : View) (n p ticks : ℕ) (goal : List ℕ) (l : Moment) (past : List Moment) (m : Moment) → Sums g → GreatestKeeps g v.tables p
    → Sought v n goal
    → is_enabled v.tables p ≡ true → is_in goal p ≡ false → v.past ≡ l ∷ past → Found v goal p m
    → OutSignal g v.tables p ticks (l ∷ past) (signal_of l.frame p) → OutStands g v.tables p ticks (l ∷ past) (colour_of l.frame p)
    → OutStands g v.tables p (ticks + 1) (m ∷ l ∷ past) (colour_of m.frame p)
out-step g v n p ticks goal l past m sums keeps sought enabled out lasting found signal = by (colour_of l.frame p) refl
  where
    shown : (x : Colour) → colour_of m.frame p ≡ x → OutStands g v.tables p (ticks + 1) (m ∷ l ∷ past) x → OutStands g v.tables p (ticks + 1) (m ∷ l ∷ past)
        (colour_of m.frame p)
    shown x e s = subst (λ (y : Colour). OutStands g v.tables p (ticks + 1) (m ∷ l ∷ past) y) (sym e) s

    here : colour_of v.frame p ≡ colour_of l.frame p
    here = ap (λ (f : Frame). colour_of f p) (sought.frame ∙ ap last_frame lasting)

    by : (x : Colour) → colour_of l.frame p ≡ x → OutStands g v.tables p ticks (l ∷ past) x → OutStands g v.tables p (ticks + 1) (m ∷ l ∷ past)
        (colour_of m.frame p)
    by Green e s = elim (end-choice (is_in (goal_moves v goal).ends p) Yellow Green) [
      | inl h ↦
          let is : colour_of m.frame p ≡ Yellow = found-from v goal p l past m Green lasting found e ∙ h.1 in
          let once : run p Yellow (m ∷ l ∷ past) ≡ 1 = run-first p Yellow Green m l past is e refl in
          let time : yellow_time (latched p Yellow v.tables (m ∷ l ∷ past)) p ≡ yellow_time v.tables p
          = ap (λ (u : Tables). yellow_time u p) (latched-goes p Yellow v.tables m (l ∷ past) is found.tables
          ∙ Rattle.tick_laws.proofs.Runs.latched-none p Yellow Green v.tables l past e refl) in
          shown Yellow is (record { rest = omega (arith, s.early, keeps.yellow, sums.clearance); within = omega (arith, keeps.some) })
      | inr h ↦
          let is : colour_of m.frame p ≡ Green = found-from v goal p l past m Green lasting found e ∙ h.1 in
          let more : run p Green (m ∷ l ∷ past) ≡ run p Green (l ∷ past) + 1 = run-on p Green m (l ∷ past) is in
          let ran : ticks + 1 ≤ run p Green (l ∷ past) = s.ran in
          let early : ticks < g.service = elim (cases_lt ticks g.service) [
            | inl k ↦ k
            | inr k ↦ absurd (both_ways (is_in (goal_moves v goal).ends p) h.0 (out-ends v n p goal sought enabled (here ∙ e) out
                (out-cleared g v n p ticks goal sums sought
                (subst (λ (ms : List Moment). OutGreen g v.tables p ticks ms) (sym lasting) s)
                (subst (λ (ms : List Moment). OutSignal g v.tables p ticks ms (signal_of (last_frame ms) p)) (sym lasting) signal) k)))
          ] in
          shown Green is (record {
            ran = omega arith;
            least = subst (λ (u : Tables). least_green u p ≤ g.service) (sym (latched-goes p Green v.tables m (l ∷ past) is found.tables)) s.least;
            early = omega arith;
          })
    ]
    by Yellow e s =
        let rest : ticks + (yellow_time (latched p Yellow v.tables (l ∷ past)) p + 1 - run p Yellow (l ∷ past)) + g.red ≤ g.service + 1 + g.clear = s.rest in
        let within : run p Yellow (l ∷ past) ≤ yellow_time (latched p Yellow v.tables (l ∷ past)) p = s.within in
        elim (yellow-goes p v.tables (l ∷ past)) [
          | inl h ↦ elim (end-choice (red_clear_time v.tables p == 0) Red Clear) [
            | inl k ↦ shown Red (found-from v goal p l past m Yellow lasting found e ∙ h.1 ∙ k.1) tt
            | inr k ↦
                let is : colour_of m.frame p ≡ Clear = found-from v goal p l past m Yellow lasting found e ∙ h.1 ∙ k.1 in
                let some : red_clear_time v.tables p ≢ 0 = eqb-false _ _ k.0 in
                let once : run p Clear (m ∷ l ∷ past) ≡ 1 = run-first p Clear Yellow m l past is e refl in
                let time : red_clear_time (latched p Clear v.tables (m ∷ l ∷ past)) p ≡ red_clear_time v.tables p
                = ap (λ (u : Tables). red_clear_time u p)
                (latched-goes p Clear v.tables m (l ∷ past) is found.tables
                ∙ Rattle.tick_laws.proofs.Runs.latched-none p Clear Yellow v.tables l past e refl) in
                shown Clear is (record { rest = omega (arith, keeps.red); within = omega arith })
          ]
          | inr h ↦
              let is : colour_of m.frame p ≡ Yellow = found-from v goal p l past m Yellow lasting found e ∙ h.1 in
              let short : run p Yellow (l ∷ past) ≢ yellow_time (latched p Yellow v.tables (l ∷ past)) p = eqb-false _ _ h.0 in
              let more : run p Yellow (m ∷ l ∷ past) ≡ run p Yellow (l ∷ past) + 1 = run-on p Yellow m (l ∷ past) is in
              let time : yellow_time (latched p Yellow v.tables (m ∷ l ∷ past)) p ≡ yellow_time (latched p Yellow v.tables (l ∷ past)) p
              = ap (λ (u : Tables). yellow_time u p) (latched-goes p Yellow v.tables m (l ∷ past) is found.tables) in
              shown Yellow is (record { rest = omega arith; within = omega arith })
        ]
    by Clear e s =
        let rest : ticks + (red_clear_time (latched p Clear v.tables (l ∷ past)) p + 1 - run p Clear (l ∷ past)) ≤ g.service + 1 + g.clear = s.rest in
        let within : run p Clear (l ∷ past) ≤ red_clear_time (latched p Clear v.tables (l ∷ past)) p = s.within in
        elim (clear-goes p v.tables (l ∷ past)) [
          | inl h ↦ shown Red (found-from v goal p l past m Clear lasting found e ∙ h.1) tt
          | inr h ↦
              let is : colour_of m.frame p ≡ Clear = found-from v goal p l past m Clear lasting found e ∙ h.1 in
              let short : run p Clear (l ∷ past) ≢ red_clear_time (latched p Clear v.tables (l ∷ past)) p = eqb-false _ _ h.0 in
              let more : run p Clear (m ∷ l ∷ past) ≡ run p Clear (l ∷ past) + 1 = run-on p Clear m (l ∷ past) is in
              let time : red_clear_time (latched p Clear v.tables (m ∷ l ∷ past)) p ≡ red_clear_time (latched p Clear v.tables (l ∷ past)) p
              = ap (λ (u : Tables). red_clear_time u p) (latched-goes p Clear v.tables m (l ∷ past) is found.tables) in
              shown Clear is (record { rest = omega arith; within = omega arith })
        ]
    by Red e s = elim (end-choice (is_in (goal_moves v goal).begins p) Green Red) [
      | inl h ↦ absurd (both_ways (is_in goal p) out (elim (in-append (goal_beginning_in v goal 1) (goal_beginning_in v goal 2) p h.0) [
        | inl a ↦ begins-goal v goal 1 p a
        | inr b ↦ begins-goal v goal 2 p b
      ]))
      | inr h ↦ shown Red (found-from v goal p l past m Red lasting found e ∙ h.1) tt
    ]

-- after the greatest service and clearance it is Red
pub out-red : (g : Greatest) (t : Tables) (p ticks : ℕ) (past : List Moment) (x : Colour) → g.service + g.clear + 1 ≤ ticks → OutStands g t p ticks past x
    → x ≡ Red
out-red g t p ticks past Green late s = absurd (omega (arith, s.early))
out-red g t p ticks past Yellow late s = absurd (omega (arith, s.rest, s.within))
out-red g t p ticks past Clear late s = absurd (omega (arith, s.rest, s.within))
out-red g t p ticks past Red late s = refl
