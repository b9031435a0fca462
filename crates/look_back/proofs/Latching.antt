-- A latched time continues or restarts with one more moment.
use Rattle.std.proofs.Common.{◌≡◌, ◌≤◌, ◌<◌, ◌-◌, ◌+◌, ℕ, Bool, true, false, List, [], ◌∷◌, get_or, arith, refl, sym, ap, subst}
use Rattle.std.proofs.lemmas.List.{get_or-replicate}
use Rattle.sig_types.specs.declared.frame.Colour.{Colour}
use Rattle.sig_types.specs.declared.frame.Colour.TheVariants.{Green, Yellow, Clear, Red}
use Rattle.sig_types.specs.declared.frame.Ped.{Ped}
use Rattle.sig_types.specs.declared.frame.Ped.TheVariants.{Walk, Flash, Dont}
use denote.Enum.Bare.{sameb}
use Rattle.sig_types.specs.contracts.frame.Ped.{the_type}
use Rattle.sig_types.specs.Colour.{same_colour, same_signal, colour_of, signal_of}
use Rattle.sig_tables.specs.declared.tables.Tables.{Tables}
use Rattle.sig_tables.specs.Past.{Moment, first_frame}
use Rattle.sig_tables.specs.Looking.{begun, shows, signals, latched, signal_latched, last_frame}
use Rattle.look_back.proofs.Pairs.{same_colour-itself, same_signal-itself}
use Rattle.look_back.specs.Latched.{colour_time, signal_time, colour_cell, signal_cell, colour_ticks, signal_ticks, ColourLatched, SignalLatched, ColourSteps, SignalSteps}

-- the time is that of the tables at the first of the last moments that pass the test
abbrev pub TimeLatched : (Moment → Bool) → (Tables → ℕ) → ℕ → List Moment → Type 0
TimeLatched test time_of time past = (now : Tables) → time ≡ time_of (begun test now past)

-- the last moment, where there is one, does not pass
abbrev pub Fails : (Moment → Bool) → List Moment → Type 0
Fails test [] = Unit {0}
Fails test (m ∷ past) = test m ≡ false

pub goes_on : (test : Moment → Bool) (time_of : Tables → ℕ) (time : ℕ) (past : List Moment) (m : Moment) → test m ≡ true
    → TimeLatched test time_of time past → TimeLatched test time_of time (m ∷ past)
goes_on test time_of time past m passes stands now = rw passes (stands m.tables)

pub begins : (test : Moment → Bool) (time_of : Tables → ℕ) (past : List Moment) (m : Moment) → test m ≡ true → Fails test past
    → TimeLatched test time_of (time_of m.tables) (m ∷ past)
begins test time_of [] m passes fails now = rw passes refl
begins test time_of (n ∷ past) m passes fails now = rw (passes, fails) refl

-- the equality of signals that code tests is that of the definitions
pub same_signal-is : (a b : Ped) → sameb the_type a b ≡ same_signal a b
same_signal-is Walk Walk = refl
same_signal-is Walk Flash = refl
same_signal-is Walk Dont = refl
same_signal-is Flash Walk = refl
same_signal-is Flash Flash = refl
same_signal-is Flash Dont = refl
same_signal-is Dont Walk = refl
same_signal-is Dont Flash = refl
same_signal-is Dont Dont = refl

colour-fails : (p : ℕ) (before shown : Colour) (past : List Moment) → colour_of (last_frame past) p ≡ before → same_colour before shown ≡ false
    → Fails (shows p shown) past
colour-fails p before shown [] was other = tt
colour-fails p before shown (n ∷ past) was other = rw was other

signal-fails : (p : ℕ) (before shown : Ped) (past : List Moment) → signal_of (last_frame past) p ≡ before → same_signal before shown ≡ false
    → Fails (signals p shown) past
signal-fails p before shown [] was other = tt
signal-fails p before shown (n ∷ past) was other = rw was other

pub colour-on : (time p : ℕ) (colour : Colour) (t : Tables) → ColourSteps time time colour colour p t
colour-on time p colour t past m was shown tables stands =
    let passes : shows p colour m ≡ true = rw shown (same_colour-itself colour) in
    let before : TimeLatched (shows p colour) (λ t. colour_cell t p colour) time past = rw was at stands in
    let P : Colour → Type 0 = λ c. TimeLatched (shows p c) (λ t. colour_cell t p c) time (m ∷ past) in
    subst P (sym shown) (goes_on (shows p colour) (λ t. colour_cell t p colour) time past m passes before)

pub colour-anew : (old p : ℕ) (before colour : Colour) (t : Tables) → same_colour before colour ≡ false
    → ColourSteps old (colour_cell t p colour) before colour p t
colour-anew old p before colour t other past m was shown tables stands =
    let passes : shows p colour m ≡ true = rw shown (same_colour-itself colour) in
    let P : Colour → Type 0 = λ c. TimeLatched (shows p c) (λ t. colour_cell t p c) (colour_cell m.tables p colour) (m ∷ past) in
    rw (← tables)
    (subst P (sym shown)
    (begins (shows p colour) (λ t. colour_cell t p colour) past m passes (colour-fails p before colour past was other)))

pub signal-on : (time p : ℕ) (signal : Ped) (t : Tables) → SignalSteps time time signal signal p t
signal-on time p signal t past m was shown tables stands =
    let passes : signals p signal m ≡ true = rw shown (same_signal-itself signal) in
    let before : TimeLatched (signals p signal) (λ t. signal_cell t p signal) time past = rw was at stands in
    let P : Ped → Type 0 = λ c. TimeLatched (signals p c) (λ t. signal_cell t p c) time (m ∷ past) in
    subst P (sym shown) (goes_on (signals p signal) (λ t. signal_cell t p signal) time past m passes before)

pub signal-anew : (old p : ℕ) (before signal : Ped) (t : Tables) → same_signal before signal ≡ false
    → SignalSteps old (signal_cell t p signal) before signal p t
signal-anew old p before signal t other past m was shown tables stands =
    let passes : signals p signal m ≡ true = rw shown (same_signal-itself signal) in
    let P : Ped → Type 0 = λ c. TimeLatched (signals p c) (λ t. signal_cell t p c) (signal_cell m.tables p signal) (m ∷ past) in
    rw (← tables)
    (subst P (sym shown)
    (begins (signals p signal) (λ t. signal_cell t p signal) past m passes (signal-fails p before signal past was other)))

pub colours-step : (old new : List ℕ) (before shown : List Colour) (t : Tables) (past : List Moment) (m : Moment)
    → ((k : ℕ) → k < 16 → ColourSteps (get_or old k 0) (get_or new k 0) (get_or before k Green) (get_or shown k Green) (k + 1) t)
    → before ≡ (last_frame past).veh → m.frame.veh ≡ shown → m.tables ≡ t
    → ((p : ℕ) → 0 < p → p ≤ 16 → ColourLatched (get_or old (p - 1) 0) p past)
    → (p : ℕ) → 0 < p → p ≤ 16 → ColourLatched (get_or new (p - 1) 0) p (m ∷ past)
colours-step old new before shown t past m steps were are tables stands p above below =
    let few : p - 1 < 16 = omega arith in
    let place : p - 1 + 1 ≡ p = omega arith in
    let was : colour_of (last_frame past) p ≡ get_or before (p - 1) Green = ap (λ (veh : List Colour). get_or veh (p - 1) Green) (sym were) in
    let is : colour_of m.frame p ≡ get_or shown (p - 1) Green = ap (λ (veh : List Colour). get_or veh (p - 1) Green) are in
    let P : ℕ → Type 0 =
    λ q. ColourSteps (get_or old (p - 1) 0) (get_or new (p - 1) 0) (get_or before (p - 1) Green) (get_or shown (p - 1) Green) q t in
    subst P place (steps (p - 1) few) past m was is tables (stands p above below)

pub signals-step : (old new : List ℕ) (before shown : List Ped) (t : Tables) (past : List Moment) (m : Moment)
    → ((k : ℕ) → k < 16 → SignalSteps (get_or old k 0) (get_or new k 0) (get_or before k Walk) (get_or shown k Walk) (k + 1) t)
    → before ≡ (last_frame past).ped → m.frame.ped ≡ shown → m.tables ≡ t
    → ((p : ℕ) → 0 < p → p ≤ 16 → SignalLatched (get_or old (p - 1) 0) p past)
    → (p : ℕ) → 0 < p → p ≤ 16 → SignalLatched (get_or new (p - 1) 0) p (m ∷ past)
signals-step old new before shown t past m steps were are tables stands p above below =
    let few : p - 1 < 16 = omega arith in
    let place : p - 1 + 1 ≡ p = omega arith in
    let was : signal_of (last_frame past) p ≡ get_or before (p - 1) Walk = ap (λ (ped : List Ped). get_or ped (p - 1) Walk) (sym were) in
    let is : signal_of m.frame p ≡ get_or shown (p - 1) Walk = ap (λ (ped : List Ped). get_or ped (p - 1) Walk) are in
    let P : ℕ → Type 0 =
    λ q. SignalSteps (get_or old (p - 1) 0) (get_or new (p - 1) 0) (get_or before (p - 1) Walk) (get_or shown (p - 1) Walk) q t in
    subst P place (steps (p - 1) few) past m was is tables (stands p above below)

-- before any frame all is red, and no time runs
pub first-colours : (p : ℕ) → 0 < p → p ≤ 16 → (times : List ℕ) → get_or times (p - 1) 0 ≡ 0 → ColourLatched (get_or times (p - 1) 0) p []
first-colours p above below times none now =
    let few : p - 1 < 16 = omega arith in
    let red : colour_of first_frame p ≡ Red = get_or-replicate 16 (p - 1) Red Green few in rw (none, red) refl

pub first-signals : (p : ℕ) → 0 < p → p ≤ 16 → (times : List ℕ) → get_or times (p - 1) 0 ≡ 0 → SignalLatched (get_or times (p - 1) 0) p []
first-signals p above below times none now =
    let few : p - 1 < 16 = omega arith in
    let dont : signal_of first_frame p ≡ Dont = get_or-replicate 16 (p - 1) Dont Walk few in rw (none, dont) refl

-- what a cell says is the time of the tables
pub colour-says : (t : Tables) (p : ℕ) (colour : Colour) → colour_ticks colour (colour_cell t p colour) ≡ colour_time t p colour
colour-says t p Green = refl
colour-says t p Yellow = refl
colour-says t p Clear = refl
colour-says t p Red = refl

pub signal-says : (t : Tables) (p : ℕ) (signal : Ped) → signal_ticks (signal_cell t p signal) ≡ signal_time t p signal
signal-says t p Walk = refl
signal-says t p Flash = refl
signal-says t p Dont = refl

-- what is read of the colour, or the signal, that a phase shows
pub colour-read : (p : ℕ) (past : List Moment) (now : Tables) (colour : Colour) → colour ≡ colour_of (last_frame past) p → (cell : ℕ)
    → ColourLatched cell p past → colour_ticks colour cell ≡ colour_time (latched p colour now past) p colour
colour-read p past now colour shown cell stands =
    let e : cell ≡ colour_cell (latched p colour now past) p colour = rw shown (stands now) in
    rw e (colour-says (latched p colour now past) p colour)

pub signal-read : (p : ℕ) (past : List Moment) (now : Tables) (signal : Ped) → signal ≡ signal_of (last_frame past) p → (cell : ℕ)
    → SignalLatched cell p past → signal_ticks cell ≡ signal_time (signal_latched p signal now past) p signal
signal-read p past now signal shown cell stands =
    let e : cell ≡ signal_cell (signal_latched p signal now past) p signal = rw shown (stands now) in
    rw e (signal-says (signal_latched p signal now past) p signal)
