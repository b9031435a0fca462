-- What a colour does by itself, case by case.
use Rattle.std.proofs.Common.{◌≡◌, ◌≢◌, ◌||◌, List, length, ℕ, true, false, refl, sym, ◌∙◌, ap}
use Rattle.std.proofs.lemmas.Bool.{ne_eqb, eq-eqb}
use Rattle.sig_types.specs.declared.frame.Colour.{Colour}
use Rattle.sig_types.specs.declared.frame.Colour.TheVariants.{Green, Yellow, Clear, Red}
use Rattle.sig_tables.specs.declared.tables.Tables.{Tables}
use Rattle.sig_tables.specs.Tables.{yellow_time, red_clear_time}
use Rattle.sig_types.specs.Phases.{is_phase, is_in}
use Rattle.sig_types.specs.Colour.{same_colour, colour_in, colour_of}
use Rattle.sig_types.proofs.Places.{map-places}
use Rattle.sig_tables.specs.Past.{Past, Moment}
use Rattle.sig_tables.specs.Moves.{Moves}
use Rattle.sig_tables.specs.Decide.{colour_after, colours_of}
use Rattle.sig_tables.specs.Seen.{frame_seen}
use Rattle.sig_tables.specs.Looking.{run, latched, runs_on}
use Rattle.tick_context.specs.Shows.{is_clearing}

-- the run of Yellow isn't yet its time
pub yellow-stays : (p : ℕ) (now : Tables) (past : List Moment) (shown : Colour) → shown ≡ Yellow
    → run p shown past ≢ yellow_time (latched p Yellow now past) p → Yellow ≡ runs_on p now past shown
yellow-stays p now past shown e ne = let ne2 : run p Yellow past ≢ yellow_time (latched p Yellow now past) p = rw e at ne in rw (e, ne_eqb _ _ ne2) refl

pub yellow-clears : (p : ℕ) (now : Tables) (past : List Moment) (shown : Colour) → shown ≡ Yellow
    → run p shown past ≡ yellow_time (latched p Yellow now past) p → red_clear_time now p ≢ 0 → Clear ≡ runs_on p now past shown
yellow-clears p now past shown e eq ne = let eq2 : run p Yellow past ≡ yellow_time (latched p Yellow now past) p = rw e at eq in
    rw (e, eq-eqb _ _ eq2, ne_eqb _ _ ne) refl

pub yellow-ends : (p : ℕ) (now : Tables) (past : List Moment) (shown : Colour) → shown ≡ Yellow
    → run p shown past ≡ yellow_time (latched p Yellow now past) p → red_clear_time now p ≡ 0 → Red ≡ runs_on p now past shown
yellow-ends p now past shown e eq z = let eq2 : run p Yellow past ≡ yellow_time (latched p Yellow now past) p = rw e at eq in
    rw (e, eq-eqb _ _ eq2, eq-eqb _ _ z) refl

pub clear-stays : (p : ℕ) (now : Tables) (past : List Moment) (shown : Colour) → shown ≡ Clear
    → run p shown past ≢ red_clear_time (latched p Clear now past) p → Clear ≡ runs_on p now past shown
clear-stays p now past shown e ne = let ne2 : run p Clear past ≢ red_clear_time (latched p Clear now past) p = rw e at ne in rw (e, ne_eqb _ _ ne2) refl

pub clear-ends : (p : ℕ) (now : Tables) (past : List Moment) (shown : Colour) → shown ≡ Clear
    → run p shown past ≡ red_clear_time (latched p Clear now past) p → Red ≡ runs_on p now past shown
clear-ends p now past shown e eq = let eq2 : run p Clear past ≡ red_clear_time (latched p Clear now past) p = rw e at eq in rw (e, eq-eqb _ _ eq2) refl

-- what a colour does by the moves
pub green-ends : (w : Moves) (p : ℕ) (now : Tables) (past : List Moment) (shown : Colour) → shown ≡ Green → is_in w.ends p ≡ true
    → Yellow ≡ colour_after w p now past shown
green-ends w p now past shown e i = rw (e, i) refl

pub green-stays : (w : Moves) (p : ℕ) (now : Tables) (past : List Moment) (shown : Colour) → shown ≡ Green → is_in w.ends p ≡ false
    → Green ≡ colour_after w p now past shown
green-stays w p now past shown e i = rw (e, i) refl

pub red-begins : (w : Moves) (p : ℕ) (now : Tables) (past : List Moment) (shown : Colour) → shown ≡ Red → is_in w.begins p ≡ true
    → Green ≡ colour_after w p now past shown
red-begins w p now past shown e i = rw (e, i) refl

pub red-stays : (w : Moves) (p : ℕ) (now : Tables) (past : List Moment) (shown : Colour) → shown ≡ Red → is_in w.begins p ≡ false
    → Red ≡ colour_after w p now past shown
red-stays w p now past shown e i = rw (e, i) refl

pub yellow-runs : (w : Moves) (p : ℕ) (now : Tables) (past : List Moment) (shown : Colour) → shown ≡ Yellow
    → runs_on p now past shown ≡ colour_after w p now past shown
yellow-runs w p now past shown e = rw e refl

pub clear-runs : (w : Moves) (p : ℕ) (now : Tables) (past : List Moment) (shown : Colour) → shown ≡ Clear
    → runs_on p now past shown ≡ colour_after w p now past shown
clear-runs w p now past shown e = rw e refl

-- where no phase ends or begins, one that stays in its clearance keeps its colour, as one does that is not clearing
keeps-colour : (w : Moves) (p : ℕ) (now : Tables) (past : List Moment) (shown : Colour) → is_in w.ends p ≡ false → is_in w.begins p ≡ false
    → ((same_colour shown Yellow || same_colour shown Clear) ≡ true → runs_on p now past shown ≡ shown) → shown ≡ colour_after w p now past shown
keeps-colour w p now past Green e b k = rw e refl
keeps-colour w p now past Red e b k = rw b refl
keeps-colour w p now past Yellow e b k = sym (k refl)
keeps-colour w p now past Clear e b k = sym (k refl)

pub still-colours : (past : Past) (w : Moves) (veh : List Colour) → length veh ≡ 16 → veh ≡ (frame_seen past).veh
    → ((p : ℕ) → is_phase p ≡ true → is_in w.ends p ≡ false) → ((p : ℕ) → is_phase p ≡ true → is_in w.begins p ≡ false)
    → ((p : ℕ) → is_phase p ≡ true → is_clearing (frame_seen past).veh p ≡ true
    → runs_on p past.tables past.moments (colour_of (frame_seen past) p) ≡ colour_of (frame_seen past) p)
    → veh ≡ colours_of past w
still-colours past w veh n e ends begins clearing =
    map-places Green (λ p. colour_after w p past.tables past.moments (colour_of (frame_seen past) p)) veh n
    (λ p h. ap (λ (x : List Colour). colour_in x p) e
    ∙ keeps-colour w p past.tables past.moments (colour_of (frame_seen past) p) (ends p h) (begins p h) (clearing p h))
