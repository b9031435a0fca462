-- What the signals do at a tick, phase by phase.
use Rattle.std.proofs.Common.{◌≡◌, ◌-◌, get_or, ℕ, Bool, true, false, not, ◌&&◌, ◌||◌, if◌then◌else◌, List, length, map, refl, sym, ◌∙◌, ap}
use Rattle.sig_types.specs.declared.frame.Colour.{Colour}
use Rattle.sig_types.specs.declared.frame.Colour.TheVariants.{Green, Yellow, Clear, Red}
use Rattle.sig_types.specs.declared.frame.Ped.{Ped}
use Rattle.sig_types.specs.declared.frame.Ped.TheVariants.{Walk, Flash, Dont}
use Rattle.sig_types.specs.Phases.{is_phase, all_phases, is_in}
use Rattle.sig_types.specs.Colour.{same_colour, same_signal, signal_of}
use Rattle.sig_types.proofs.Places.{map-places}
use Rattle.sig_tables.specs.declared.tables.Tables.{Tables}
use Rattle.sig_tables.specs.Past.{Past, Moment}
use Rattle.sig_tables.specs.Lesser.{Lesser, InFull, AtMost, signal_runs_within}
use Rattle.sig_tables.specs.Goals.{lesser_in}
use Rattle.sig_tables.specs.Moves.{Moves}
use Rattle.sig_tables.specs.Decide.{colour_after}
use Rattle.sig_tables.specs.Seen.{frame_seen, mode_seen}
use Rattle.tick_context.specs.Walks.{signal_seen}
use Rattle.tick_context.specs.Shows.{is_signalling}

-- what neither walks nor flashes is steady, and stays so by itself, as what continues to walk or flash does
steady : (lesser : Lesser) (p : ℕ) (now : Tables) (past : List Moment) (s : Ped)
    → ((same_signal s Walk || same_signal s Flash) ≡ true → signal_runs_within lesser p now past s ≡ s)
    → s ≡ signal_runs_within lesser p now past s
steady InFull p now past Dont e = refl
steady (AtMost walk clear) p now past Dont e = refl
steady lesser p now past Walk e = sym (e refl)
steady lesser p now past Flash e = sym (e refl)

pub still-signals : (past : Past) (begins : ℕ → Bool) (ped : List Ped) → length ped ≡ 16 → ped ≡ (frame_seen past).ped
    → ((p : ℕ) → is_phase p ≡ true → begins p ≡ false)
    → ((p : ℕ) → is_phase p ≡ true → is_signalling (frame_seen past) p ≡ true → signal_seen past p ≡ signal_of (frame_seen past) p)
    → ped ≡ map (λ p. if begins p then Walk else signal_seen past p) all_phases
still-signals past begins ped n e none dark =
    map-places Walk (λ p. if begins p then Walk else signal_seen past p) ped n
    (λ p h. ap (λ (x : List Ped). get_or x (p - 1) Walk) e
    ∙ steady (lesser_in past.tables (mode_seen past) p) p past.tables past.moments (signal_of (frame_seen past) p) (dark p h)
    ∙ sym (ap (λ (b : Bool). if b then Walk else signal_seen past p) (none p h)))

-- a phase turns Green from Red exactly where it is Red and begins
turns-green : (w : Moves) (p : ℕ) (now : Tables) (past : List Moment) (shown : Colour)
    → (same_colour shown Red && is_in w.begins p) ≡ (same_colour shown Red && same_colour (colour_after w p now past shown) Green)
turns-green w p now past Green = refl
turns-green w p now past Yellow = refl
turns-green w p now past Clear = refl
turns-green w p now past Red = becomes (is_in w.begins p)
  where
    becomes : (b : Bool) → b ≡ same_colour (if b then Green else Red) Green
    becomes true = refl
    becomes false = refl

-- it rests in Green with Dont exactly where it is Green, does not end, and neither walks nor flashes
rests-green : (w : Moves) (p : ℕ) (now : Tables) (past : List Moment) (shown : Colour) (s : Ped)
    → ((same_colour shown Green && not (is_in w.ends p)) && not (same_signal s Walk || same_signal s Flash))
    ≡ (same_colour shown Green && same_colour (colour_after w p now past shown) Green && same_signal s Dont)
rests-green w p now past Yellow s = refl
rests-green w p now past Clear s = refl
rests-green w p now past Red s = refl
rests-green w p now past Green s = rests (is_in w.ends p) s
  where
    rests : (b : Bool) (s : Ped) → (not b && not (same_signal s Walk || same_signal s Flash))
        ≡ (same_colour (if b then Yellow else Green) Green && same_signal s Dont)
    rests true s = refl
    rests false Walk = refl
    rests false Flash = refl
    rests false Dont = refl

-- the same of what sets have of the phase
pub begins-is : (w : Moves) (p : ℕ) (now : Tables) (past : List Moment) (shown after : Colour) (x red begins : Bool) → x ≡ (red && begins)
    → red ≡ same_colour shown Red → begins ≡ is_in w.begins p → after ≡ colour_after w p now past shown
    → x ≡ (same_colour shown Red && same_colour after Green)
begins-is w p now past shown after x red begins i e f g = rw (i, e, f, g) (turns-green w p now past shown)

pub rests-is : (w : Moves) (p : ℕ) (now : Tables) (past : List Moment) (shown after : Colour) (s : Ped) (x y green ends signalling : Bool)
    → x ≡ (y && not signalling) → y ≡ (green && not ends) → green ≡ same_colour shown Green
    → ends ≡ is_in w.ends p → signalling ≡ (same_signal s Walk || same_signal s Flash) → after ≡ colour_after w p now past shown
    → x ≡ (same_colour shown Green && same_colour after Green && same_signal s Dont)
rests-is w p now past shown after s x y green ends signalling i j e f g h = rw (i, j, e, f, g, h) (rests-green w p now past shown s)
