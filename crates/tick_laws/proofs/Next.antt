-- What the next frame shows of a phase, from what the last one shows.
use Rattle.std.proofs.Common.{◌≡◌, ◌-◌, ◌<◌, ◌≤◌, ℕ, Bool, true, if◌then◌else◌, map, get_or, ◌∙◌, ap, arith}
use Rattle.std.proofs.lemmas.List.{get_or-map, get_or-replicate}
use Rattle.sig_types.specs.declared.frame.Colour.TheVariants.{Red}
use Rattle.sig_types.specs.declared.frame.Ped.{Ped}
use Rattle.sig_types.specs.declared.frame.Ped.TheVariants.{Walk, Dont}
use Rattle.sig_types.specs.declared.frame.Mode.{Mode}
use Rattle.sig_types.specs.Phases.{is_phase, all_phases}
use Rattle.sig_types.specs.Colour.{colour_in, colour_of, signal_of}
use Rattle.sig_types.proofs.Lists.{phase-in, at-place, colour-at}
use Rattle.sig_tables.specs.Past.{Past, first_frame}
use Rattle.sig_tables.specs.Looking.{last_frame}
use Rattle.sig_tables.specs.Lesser.{signal_runs_within}
use Rattle.sig_tables.specs.Goals.{lesser_in}
use Rattle.sig_tables.specs.Choosing.{mode_reached}
use Rattle.sig_tables.specs.TickState.{tick_state_of}
use Rattle.sig_tables.specs.Walking.{Crossing, walk_begins}
use Rattle.sig_tables.specs.Seen.{mode_seen, moves_seen, tick_inputs_seen}
use Rattle.sig_tables.specs.Ticking.{crossing_of, colour_after, colours_of, signal_after}
use Rattle.sig_tables.specs.Decide.{next_moment}

-- the colour of p at the next moment is that after the moves
pub next-colour : (past : Past) (p : ℕ) → is_phase p ≡ true
    → colour_of (next_moment past).frame p ≡ colour_after (moves_seen past) p past.tables past.moments (colour_of (last_frame past.moments) p)
next-colour past p ph =
    colour-at (λ x. colour_after (moves_seen past) x past.tables past.moments (colour_of (last_frame past.moments) x)) p ph

-- the mode of the frame that a tick gives
abbrev pub mode_given : Past → Mode
mode_given past = mode_reached (mode_seen past) past.tables (colours_of past (moves_seen past))

-- what decides its walks
abbrev pub crossing_seen : Past → Crossing
crossing_seen past = crossing_of (tick_state_of past) past (tick_inputs_seen past) (mode_given past)

-- whether Walk begins on p at the tick
abbrev pub walk_seen : Past → ℕ → Bool
walk_seen past p =
    walk_begins (crossing_seen past) (mode_given past) p (colour_of (last_frame past.moments) p)
    (colour_in (colours_of past (moves_seen past)) p) (signal_of (last_frame past.moments) p)

-- the signal that follows by itself at the tick
abbrev pub signal_left : Past → ℕ → Ped
signal_left past p =
    signal_runs_within (lesser_in past.tables (mode_seen past) p) p past.tables past.moments (signal_of (last_frame past.moments) p)

signal-at : (f : ℕ → Ped) (p : ℕ) → is_phase p ≡ true → get_or (map f all_phases) (p - 1) Walk ≡ f p
signal-at f p h =
    let k : (0 < p) × (p ≤ 16) = phase-in p h in
    let l : p - 1 < 16 = omega arith in
    get_or-map f all_phases (p - 1) 0 _ l ∙ ap f (at-place p h)

-- the signal of p at the next moment is Walk that begins, or what follows by itself
pub next-signal : (past : Past) (p : ℕ) → is_phase p ≡ true
    → signal_of (next_moment past).frame p ≡ (if walk_seen past p then Walk else signal_left past p)
next-signal past p ph =
    signal-at (signal_after (tick_state_of past) past (crossing_seen past) (colours_of past (moves_seen past)) (mode_given past)) p ph

-- before any tick all is Red and Dont
pub first-red : (p : ℕ) → is_phase p ≡ true → colour_of first_frame p ≡ Red
first-red p ph =
    let k : (0 < p) × (p ≤ 16) = phase-in p ph in
    let l : p - 1 < 16 = omega arith in
    get_or-replicate 16 (p - 1) Red _ l

pub first-dont : (p : ℕ) → is_phase p ≡ true → signal_of first_frame p ≡ Dont
first-dont p ph =
    let k : (0 < p) × (p ≤ 16) = phase-in p ph in
    let l : p - 1 < 16 = omega arith in
    get_or-replicate 16 (p - 1) Dont Walk l
