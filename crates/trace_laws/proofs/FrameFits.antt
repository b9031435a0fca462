-- The frame of a tick has the numbers of a line, in every mode: sixteen phases, a pattern or a preempt that there is, and a counter
-- and a target within the cycle.
use Rattle.std.proofs.Common.{◌≡◌, ◌<◌, ◌≤◌, ◌^◌, ◌&&◌, nat_le, sym, subst, ℕ, Bool, true, false, if◌then◌else◌, List, ◌∷◌, length, refl, arith}
use Rattle.std.proofs.Math.Nat.{mod-lt}
use Rattle.std.proofs.lemmas.Bool.{and_parts, leb-true}
use Rattle.sig_types.specs.declared.frame.Colour.{Colour}
use Rattle.sig_types.specs.declared.frame.Frame.{Frame}
use Rattle.sig_types.specs.declared.frame.Mode.{Mode}
use Rattle.sig_types.specs.declared.frame.Mode.TheVariants.{Start, Free, Seek, Coord, Ending, Flash, Entry, Track, Dwell, Exit}
use Rattle.sig_tables.specs.declared.tables.Tables.{Tables}
use Rattle.sig_tables.specs.Slots.{is_defined, cycle_time}
use Rattle.sig_tables.specs.Cells.{lies, pattern_of}
use Rattle.sig_tables.specs.Clock.{clock_now, target_in}
use Rattle.sig_tables.specs.Choosing.{mode_reached, are_coordinated_green, are_all_red}
use Rattle.sig_tables.specs.Counters.{counter_in}
use Rattle.sig_tables.specs.Command.{command_now}
use Rattle.sig_tables.specs.InRange.{InRange}
use Rattle.sig_tables.specs.Past.{Past, Moment}
use Rattle.sig_tables.specs.Looking.{last_frame}
use Rattle.sig_tables.specs.Past.{Event, Tick}
use Rattle.sig_tables.specs.Seen.{mode_seen, moves_seen}
use Rattle.sig_tables.specs.Decide.{colours_of, next_moment, past_of}
use Rattle.trace_text.specs.IsLine.{FitsMode}
use Rattle.tick_laws.specs.Lawful.{Lawful}
use Rattle.tick_laws.proofs.Apart.{holds}
use Rattle.tick_laws.proofs.Serving.{lawful-coordinated}
use Rattle.tick_laws.proofs.Sought.{Numbered}
use Rattle.coordination_laws.specs.MomentTold.{Obeys}
use Rattle.coordination_laws.proofs.TellingMet.{obeys}

-- the numbers of a line's frame
pub record FrameFits (f : Frame) : Type 0 where
  pub veh : length f.veh ≡ 16
  pub ped : length f.ped ≡ 16
  pub mode : FitsMode f.mode
  pub counter : f.counter < 2 ^ 32
  pub target : f.target < 2 ^ 32

-- a pattern that is defined has a number up to 48, and a cycle
within-48 : (t : Tables) (n : ℕ) → is_defined t n ≡ true → (1 ≤ n) × (n ≤ 48) × (1 ≤ (pattern_of t n).cycle)
within-48 t n e =
    let outer = and_parts (nat_le 1 n && nat_le n 48) (nat_le 1 (pattern_of t n).cycle) e in
    let inner = and_parts (nat_le 1 n) (nat_le n 48) outer.0 in
    (leb-true 1 n inner.0, leb-true n 48 inner.1, leb-true 1 (pattern_of t n).cycle outer.1)

-- so its cycle is some ticks, and not many
short-cycle : (t : Tables) (n : ℕ) → InRange t → is_defined t n ≡ true → (0 < cycle_time t n) × (cycle_time t n ≤ 2550)
short-cycle t n range e =
    let (low, high, some) = within-48 t n e in
    let most : (pattern_of t n).cycle ≤ 255 = (range.patterns n low high).cycle in
    (omega (arith, some), omega (arith, most))

-- a preempt that there is has a number up to 8
small-preempt : (i : ℕ) → lies i 1 8 ≡ true → i < 2 ^ 8
small-preempt i e = let high : i ≤ 8 = leb-true i 8 (and_parts (nat_le 1 i) (nat_le i 8) e).1 in omega (arith, high)

small-pattern : (t : Tables) (k n : ℕ) → k ≡ n → is_defined t n ≡ true → k < 2 ^ 8
small-pattern t k n e defined = let high : n ≤ 48 = (within-48 t n defined).1 in omega (arith, e, high)

-- the mode of a frame that is reached from one that the command asks for
mode-fits : (mode : Mode) (t : Tables) (v n : ℕ) (f : Frame) (veh : List Colour) → Obeys t v f n mode → Numbered (mode_reached mode t veh)
    → FitsMode (mode_reached mode t veh)
mode-fits Start t v n f veh o k = tt
mode-fits Free t v n f veh o k = tt
mode-fits Flash t v n f veh o k = tt
mode-fits (Coord k) t v n f veh o num = small-pattern t k n o.0 o.1
mode-fits (Seek k) t v n f veh o num = split (are_coordinated_green t k veh)
  where
    split : (b : Bool) → FitsMode (if b then Coord k else Seek k)
    split true = small-pattern t k n o.0 o.1
    split false = small-pattern t k n o.0 o.1
mode-fits Ending t v n f veh o num = split (are_all_red veh)
  where
    split : (b : Bool) → FitsMode (if b then Flash else Ending)
    split true = tt
    split false = tt
mode-fits (Entry i) t v n f veh o num = small-preempt i num
mode-fits (Track i) t v n f veh o num = small-preempt i num
mode-fits (Dwell i) t v n f veh o num = small-preempt i num
mode-fits (Exit i) t v n f veh o num = small-preempt i num

-- the target of its tick: within the cycle of a pattern, else 0
target-fits : (mode : Mode) (t : Tables) (v n time : ℕ) (f : Frame) → InRange t → Obeys t v f n mode → target_in t mode time < 2 ^ 32
target-fits (Seek k) t v n time f range o =
    let cycle = short-cycle t k range (subst (λ (m : ℕ). is_defined t m ≡ true) (sym o.0) o.1) in
    let less : target_in t (Seek k) time < cycle_time t k = mod-lt _ cycle.0 in
    let most : cycle_time t k ≤ 2550 = cycle.1 in
    omega (arith, less, most)
target-fits (Coord k) t v n time f range o =
    let cycle = short-cycle t k range (subst (λ (m : ℕ). is_defined t m ≡ true) (sym o.0) o.1) in
    let less : target_in t (Coord k) time < cycle_time t k = mod-lt _ cycle.0 in
    let most : cycle_time t k ≤ 2550 = cycle.1 in
    omega (arith, less, most)
target-fits _ t v n time f range o = omega arith

-- the counter of its tick: that of a coordinated pattern is within the cycle, else it is 0
counter-fits : (mode : Mode) (t : Tables) (v n target : ℕ) (f : Frame) (past : List Moment) (veh : List Colour) → InRange t → Obeys t v f n mode
    → ((k : ℕ) → mode_reached mode t veh ≡ Coord k → counter_in t mode target past < cycle_time t k) → counter_in t mode target past < 2 ^ 32
counter-fits (Coord k) t v n target f past veh range o within =
    let less : counter_in t (Coord k) target past < cycle_time t k = within k refl in
    let most : cycle_time t k ≤ 2550 = (short-cycle t k range (subst (λ (m : ℕ). is_defined t m ≡ true) (sym o.0) o.1)).1 in
    omega (arith, less, most)
counter-fits _ t v n target f past veh range o within = omega arith

-- the frame of the next tick of a lawful history
pub next-fits : (opening : Tables) (events : List Event) → Lawful opening events → InRange (past_of opening events).tables
    → FrameFits (next_moment (past_of opening events)).frame
next-fits opening events lawful range = record {
  veh = refl;
  ped = refl;
  mode = mode-fits (mode_seen past) past.tables past.version (command_now past) (last_frame past.moments) (colours_of past (moves_seen past)) told
      (holds opening (Tick ∷ events) later).numbered;
  counter = counter-fits (mode_seen past) past.tables past.version (command_now past) _ (last_frame past.moments) past.moments
      (colours_of past (moves_seen past)) range told (λ k e. ((lawful-coordinated opening (Tick ∷ events) later).0 k e).within);
  target = target-fits (mode_seen past) past.tables past.version (command_now past) (clock_now past) (last_frame past.moments) range told;
}
  where
    past : Past
    past = past_of opening events

    later : Lawful opening (Tick ∷ events)
    later = (lawful.0, (tt, lawful.1))

    told : Obeys past.tables past.version (last_frame past.moments) (command_now past) (mode_seen past)
    told = obeys past (holds opening events lawful).numbered
