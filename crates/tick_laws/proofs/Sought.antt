-- What is known of the mode that a tick seeks, and of its goal.
use Rattle.std.proofs.Common.{◌≡◌, ◌⊎◌, inl, inr, ℕ, Bool, true, false, ◌==◌, nat_le, if◌then◌else◌, List, [], ◌∷◌, Option, Some, None, refl, sym, ◌∙◌, ap, subst}
use Rattle.std.proofs.lemmas.Bool.{and_parts, false≢true, leb-true}
use Rattle.sig_types.specs.declared.frame.Colour.{Colour}
use Rattle.sig_types.specs.declared.frame.Frame.{Frame}
use Rattle.sig_types.specs.declared.frame.Mode.{Mode}
use Rattle.sig_types.specs.declared.frame.Mode.TheVariants.{Start, Free, Seek, Coord, Ending, Flash, Entry, Track, Dwell, Exit}
use Rattle.sig_types.specs.Phases.{all_phases, is_in, has_some, every, first, only, or_else}
use Rattle.sig_types.proofs.Lists.{in-those}
use Rattle.sig_tables.specs.declared.tables.Tables.{Tables}
use Rattle.sig_tables.specs.Cells.{lies}
use Rattle.sig_tables.specs.Slots.{is_defined}
use Rattle.sig_tables.specs.Past.{Moment}
use Rattle.sig_tables.specs.Looking.{last_frame}
use Rattle.sig_tables.specs.Preempts.{all_preempts, is_preempt_called, track_set, exit_set, entry_set, has_reached, is_track_over, is_dwell_over, exit_from, stage_after, breaks_in, preempt_called, stage_now}
use Rattle.sig_tables.specs.Choosing.{are_all_red, are_coordinated_green, mode_reached, leaves_start, is_in_step, mode_commanded, mode_running, mode_staged, mode_after, mode_sought}
use Rattle.sig_tables.specs.Goals.{listed_goal, goal_in}
use Rattle.sig_tables.specs.TickState.{Goal, ring_turn_of}
use Rattle.plan_facts.specs.Goals.{GoTogether, PreemptFits}
use Rattle.tick_laws.specs.Lawful.{Sound, is_dark}
use Rattle.tick_laws.proofs.RingTurns.{Suited, ring_turn-suited}

-- i is the number of a preempt
abbrev pub is_preempt : ℕ → Bool
is_preempt i = lies i 1 8

-- a mode that names a preempt names one that there is
abbrev pub Numbered : Mode → Type 0
Numbered (Entry i) = is_preempt i ≡ true
Numbered (Track i) = is_preempt i ≡ true
Numbered (Dwell i) = is_preempt i ≡ true
Numbered (Exit i) = is_preempt i ≡ true
Numbered _ = Unit {0}

-- a mode that preemption asks for: a stage or an exit of a preempt that there is
abbrev pub IsStage : Mode → Type 0
IsStage (Entry i) = is_preempt i ≡ true
IsStage (Track i) = is_preempt i ≡ true
IsStage (Dwell i) = is_preempt i ≡ true
IsStage (Exit i) = is_preempt i ≡ true
IsStage _ = ⊥

abbrev pub EachStage : Option Mode → Type 0
EachStage None = Unit {0}
EachStage (Some mode) = IsStage mode

exit-stage : (ps : List ℕ) (i : ℕ) → is_preempt i ≡ true → EachStage (exit_from ps i)
exit-stage [] i h = tt
exit-stage (p ∷ ps) i h = h

if-stage : (b : Bool) (x y : Option Mode) → EachStage x → EachStage y → EachStage (if b then x else y)
if-stage true x y h k = h
if-stage false x y h k = k

when-stage : (b : Bool) (x y : Option Mode) → (b ≡ true → EachStage x) → EachStage y → EachStage (if b then x else y)
when-stage true x y h k = h refl
when-stage false x y h k = k

after-stage : (mode : Mode) (t : Tables) (on : List ℕ) (past : List Moment) → Numbered mode → EachStage (stage_after t mode on past)
after-stage (Entry i) t on past h =
    if-stage (has_reached (last_frame past) (entry_set t i)) _ _ (if-stage (has_some (track_set t i)) (Some (Track i)) (Some (Dwell i)) h h) h
after-stage (Track i) t on past h = if-stage (is_track_over t i past) (Some (Dwell i)) (Some (Track i)) h h
after-stage (Dwell i) t on past h = if-stage (is_dwell_over t i on past) _ (Some (Dwell i)) (exit-stage (exit_set t i) i h) h
after-stage (Exit i) t on past h = if-stage (has_reached (last_frame past) (exit_set t i)) None _ tt (exit-stage (exit_set t i) i h)
after-stage _ t on past h = tt

-- the first of some preempts is none, or one that there is
first-preempt : (test : ℕ → Bool) (xs : List ℕ) → every is_preempt xs ≡ true → (only (first test xs) ≡ 0) ⊎ (is_preempt (only (first test xs)) ≡ true)
first-preempt test [] h = inl refl
first-preempt test (q ∷ qs) h = split (is_preempt q) refl h (test q) (λ k. first-preempt test qs k)
  where
    split : (b : Bool) → is_preempt q ≡ b → (if b then every is_preempt qs else false) ≡ true → (c : Bool)
        → (every is_preempt qs ≡ true → (only (first test qs) ≡ 0) ⊎ (is_preempt (only (first test qs)) ≡ true))
        → (only (if c then q ∷ [] else first test qs) ≡ 0) ⊎ (is_preempt (only (if c then q ∷ [] else first test qs)) ≡ true)
    split false e k c more = absurd (false≢true k)
    split true e k true more = inr e
    split true e k false more = more k

called-preempt : (j : ℕ) (mode : Mode) → (j ≡ 0) ⊎ (is_preempt j ≡ true) → breaks_in j mode ≡ true → is_preempt j ≡ true
called-preempt j mode (inr h) b = h
called-preempt j mode (inl z) b = absurd (false≢true (sym (ap (nat_le 1) z) ∙ (and_parts (nat_le 1 j) _ b).0))

pub now-stage : (t : Tables) (on : List ℕ) (past : List Moment) → Numbered (last_frame past).mode → EachStage (stage_now t on past)
now-stage t on past h =
    when-stage (breaks_in (preempt_called t on past) (last_frame past).mode) (Some (Entry (preempt_called t on past))) _
    (λ b. called-preempt (preempt_called t on past) (last_frame past).mode (first-preempt (is_preempt_called t on past) all_preempts refl) b)
    (after-stage (last_frame past).mode t on past h)

-- a mode that is known: the pattern that it seeks is defined, and the preempt that it names is one that there is
abbrev pub Known : Tables → Mode → Type 0
Known t (Seek n) = is_defined t n ≡ true
Known t mode = Numbered mode

-- a mode that is known and in which something may be on
record Lit (t : Tables) (mode : Mode) : Type 0 where
  known : Known t mode
  light : is_dark mode ≡ false

commanded-lit : (t : Tables) (v n : ℕ) (f : Frame) → Lit t (mode_commanded t v n f)
commanded-lit t v n f = split (is_defined t n) (is_in_step f v n) refl
  where
    split : (a b : Bool) → is_defined t n ≡ a → Lit t (if a then (if b then Coord n else Seek n) else Free)
    split true true e = record { known = tt; light = refl }
    split true false e = record { known = e; light = refl }
    split false b e = record { known = tt; light = refl }

running-lit : (t : Tables) (v n : ℕ) (f : Frame) → Lit t (mode_running t v n f)
running-lit t v n f = split (n == 255)
  where
    split : (b : Bool) → Lit t (if b then Ending else mode_commanded t v n f)
    split true = record { known = tt; light = refl }
    split false = commanded-lit t v n f

stage-lit : (mode : Mode) (t : Tables) → IsStage mode → Lit t mode
stage-lit (Entry i) t h = record { known = h; light = refl }
stage-lit (Track i) t h = record { known = h; light = refl }
stage-lit (Dwell i) t h = record { known = h; light = refl }
stage-lit (Exit i) t h = record { known = h; light = refl }
stage-lit _ t h = absurd h

staged-lit : (stage : Option Mode) (t : Tables) (v n : ℕ) (f : Frame) → EachStage stage → Lit t (mode_staged stage t v n f)
staged-lit None t v n f h = running-lit t v n f
staged-lit (Some mode) t v n f h = stage-lit mode t h

abbrev Ruled : Mode → Tables → ℕ → ℕ → List ℕ → List Moment → Type 0
Ruled mode t v n on past = Known t (mode_after mode t v n on past) × (is_dark (mode_after mode t v n on past) ≡ true → is_dark mode ≡ true)

after-ruled : (mode : Mode) (t : Tables) (v n : ℕ) (on : List ℕ) (past : List Moment) → Numbered (last_frame past).mode → Ruled mode t v n on past
after-ruled Start t v n on past k = (split (leaves_start past) (n == 255), (λ h. refl))
  where
    split : (a b : Bool) → Known t (if a then (if b then Flash else mode_commanded t v n (last_frame past)) else Start)
    split true true = tt
    split true false = (commanded-lit t v n (last_frame past)).known
    split false b = tt
after-ruled Flash t v n on past k = (split (n == 255), (λ h. refl))
  where
    split : (b : Bool) → Known t (if b then Flash else Start)
    split true = tt
    split false = tt
after-ruled _ t v n on past k =
    let lit = staged-lit _ t v n (last_frame past) (now-stage t on past k) in (lit.known, (λ h. absurd (false≢true (sym lit.light ∙ h))))

-- the mode that a tick seeks is known, and nothing is on in it only where nothing was on before
pub sought-known : (t : Tables) (v n : ℕ) (on : List ℕ) (past : List Moment) → Numbered (last_frame past).mode → Known t (mode_sought t v n on past)
sought-known t v n on past k = (after-ruled (last_frame past).mode t v n on past k).0

pub sought-dark : (t : Tables) (v n : ℕ) (on : List ℕ) (past : List Moment) → Numbered (last_frame past).mode → is_dark (mode_sought t v n on past) ≡ true
    → is_dark (last_frame past).mode ≡ true
sought-dark t v n on past k = (after-ruled (last_frame past).mode t v n on past k).1

-- the frame names a preempt that there is
pub reached-numbered : (mode : Mode) (t : Tables) (veh : List Colour) → Known t mode → Numbered (mode_reached mode t veh)
reached-numbered (Seek n) t veh k = split (are_coordinated_green t n veh)
  where
    split : (b : Bool) → Numbered (if b then Coord n else Seek n)
    split true = tt
    split false = tt
reached-numbered Ending t veh k = split (are_all_red veh)
  where
    split : (b : Bool) → Numbered (if b then Flash else Ending)
    split true = tt
    split false = tt
reached-numbered _ t veh k = k

-- what goes together does so in part
narrowed : (t : Tables) (xs ys : List ℕ) → ((q : ℕ) → is_in ys q ≡ true → is_in xs q ≡ true) → GoTogether t xs → GoTogether t ys
narrowed t xs ys part g = record {
  enabled = λ q h. g.enabled q (part q h);
  together = λ p q h k. g.together p q (part p h) (part q k);
  single = λ p q h k. g.single p q (part p h) (part q k);
  side = λ p q h k. g.side p q (part p h) (part q k);
}

none-fit : (t : Tables) → GoTogether t []
none-fit t = record {
  enabled = λ q h. absurd (false≢true h);
  together = λ p q h k. absurd (false≢true h);
  single = λ p q h k. absurd (false≢true h);
  side = λ p q h k. absurd (false≢true h);
}

either-fits : (t : Tables) (xs ys : List ℕ) → GoTogether t xs → GoTogether t ys → GoTogether t (or_else xs ys)
either-fits t [] ys h k = k
either-fits t (x ∷ xs) ys h k = h

sets-fit : (t : Tables) (i : ℕ) → Sound t → is_preempt i ≡ true → PreemptFits t i
sets-fit t i s h =
    let k : (nat_le 1 i ≡ true) × (nat_le i 8 ≡ true) = and_parts _ _ h in s.preempts i (leb-true 1 i k.0) (leb-true i 8 k.1)

listed-fits : (mode : Mode) (t : Tables) → Sound t → Known t mode → GoTogether t (listed_goal t mode)
listed-fits (Seek n) t s k = s.coordinated n k
listed-fits (Entry i) t s k = either-fits t _ _ (sets-fit t i s k).track (sets-fit t i s k).dwell
listed-fits (Track i) t s k = either-fits t _ _ (sets-fit t i s k).track (sets-fit t i s k).dwell
listed-fits (Dwell i) t s k = (sets-fit t i s k).dwell
listed-fits (Exit i) t s k = (sets-fit t i s k).exit
listed-fits _ t s k = none-fit t

-- the goal of a turn goes together
pub goal-goes : (mode : Mode) (t : Tables) (past : List Moment) → Sound t → Known t mode → (goal : List ℕ) → ring_turn_of t past mode ≡ Goal goal
    → GoTogether t goal
goal-goes mode t past s k goal e =
    let same : goal ≡ goal_in t mode = subst (Suited t mode) e (ring_turn-suited mode t past) in
    subst (GoTogether t) (sym same)
    (narrowed t (listed_goal t mode) (goal_in t mode) (λ q h. (in-those (is_in (listed_goal t mode)) all_phases q h).0) (listed-fits mode t s k))
