-- What a moment of a pattern has on its frame: the target of its clock. And the moment of a tick among all of them.
use Rattle.std.proofs.Common.{◌≡◌, ◌≢◌, inl, inr, ℕ, ◌+◌, ◌==◌, ◌%◌, ◌-◌, List, [], ◌∷◌, ◌++◌, length, false, refl, sym, ◌∙◌, ap, subst, arith}
use Rattle.std.proofs.lemmas.Bool.{false≢true, ne_eqb}
use Rattle.std.proofs.lemmas.List.{length-append}
use Rattle.std.proofs.Math.Nat.{mod-add-mod}
use Rattle.sig_types.specs.declared.frame.Mode.{Mode}
use Rattle.sig_types.specs.declared.frame.Mode.TheVariants.{Coord}
use Rattle.sig_types.specs.Colour.{is_start}
use Rattle.sig_tables.specs.declared.tables.Tables.{Tables}
use Rattle.sig_tables.specs.Slots.{cycle_time}
use Rattle.sig_tables.specs.Clock.{offset_time, shift_time, target_at, target_in, clock_now}
use Rattle.sig_tables.specs.Past.{Event, Install, Moment, Past}
use Rattle.sig_tables.specs.Seen.{mode_seen, moves_seen}
use Rattle.sig_tables.specs.Decide.{colours_of, next_moment, past_of}
use Rattle.tick_laws.specs.Each.{EachMoment}
use Rattle.tick_laws.proofs.Each.{each-moment}
use Rattle.tick_laws.proofs.Modes.{reached-coord}
use Rattle.safety_laws.specs.Written.{version_tables}
use Rattle.safety_laws.proofs.SoFar.{so_far, here, earlier}
use Rattle.trace_laws.specs.BandDriving.{IsAtTick}

-- ---- the target of a frame

-- each frame of a pattern has the target of its clock, by the tables of its tick
abbrev pub EachTarget : List Moment → Type 0
EachTarget moments = EachMoment (λ past m. (n : ℕ) → m.frame.mode ≡ Coord n → m.frame.target ≡ target_at m.tables n m.clock) moments

next-target : (past : Past) (n : ℕ) → (next_moment past).frame.mode ≡ Coord n
    → (next_moment past).frame.target ≡ target_at past.tables n (clock_now past)
next-target past n mode =
    elim (reached-coord (mode_seen past) past.tables (colours_of past (moves_seen past)) n mode) [
      | inl on ↦ ap (λ (m : Mode). target_in past.tables m (clock_now past)) on
      | inr up ↦ ap (λ (m : Mode). target_in past.tables m (clock_now past)) up.0
    ]

pub each-target : (opening : Tables) (events : List Event) → EachTarget (past_of opening events).moments
each-target opening events =
    each-moment opening (λ past m. (n : ℕ) → m.frame.mode ≡ Coord n → m.frame.target ≡ target_at m.tables n m.clock)
    (λ n e. absurd (false≢true (sym (ap is_start e)))) (λ past before n mode. next-target past n mode) events

-- the target is one of the time round the cycle
pub same-target : (t : Tables) (n a b : ℕ) → a % cycle_time t n ≡ b % cycle_time t n → target_at t n a ≡ target_at t n b
same-target t n a b e = round a ∙ ap (λ (x : ℕ). (x + shift_time t n + lead) % cycle_time t n) e ∙ sym (round b)
  where
    lead : ℕ
    lead = cycle_time t n - offset_time t n % cycle_time t n

    add : (x y z : ℕ) → x + y + z ≡ x + (y + z)
    add x y z = omega arith

    round : (time : ℕ) → target_at t n time ≡ (time % cycle_time t n + shift_time t n + lead) % cycle_time t n
    round time =
        ap (λ (x : ℕ). x % cycle_time t n) (add time (shift_time t n) lead)
        ∙ sym (mod-add-mod time (cycle_time t n) (shift_time t n + lead))
        ∙ ap (λ (x : ℕ). x % cycle_time t n) (sym (add (time % cycle_time t n) (shift_time t n) lead))

-- ---- the moment of a tick

pub fact-at : (asks : List Moment → Moment → Type 0) (m : Moment) (later before : List Moment) → EachMoment asks (later ++ (m ∷ before)) → asks before m
fact-at asks m [] before h = h.0
fact-at asks m (x ∷ later) before h = fact-at asks m later before h.1

up-to : (tick : ℕ) (m : Moment) (later before : List Moment) → length before ≡ tick → so_far tick (later ++ (m ∷ before)) ≡ m ∷ before
up-to tick m [] before e = here tick m before (omega (arith, e))
up-to tick m (x ∷ later) before e =
    let long : length (later ++ (m ∷ before)) ≡ length later + length (m ∷ before) = length-append later (m ∷ before) in
    earlier tick x (later ++ (m ∷ before)) (omega (arith, e, long)) ∙ up-to tick m later before e

-- it is the newest of those up to the tick
pub newest : (m : Moment) (tick : ℕ) (moments : List Moment) (is : IsAtTick m tick moments) → so_far tick moments ≡ m ∷ is.earlier
newest m tick moments is = ap (so_far tick) is.all ∙ up-to tick m is.later is.earlier is.before

-- what holds of each moment holds of it
pub holds-at : (asks : List Moment → Moment → Type 0) (m : Moment) (tick : ℕ) (moments : List Moment) (is : IsAtTick m tick moments)
    → EachMoment asks moments → asks is.earlier m
holds-at asks m tick moments is h = fact-at asks m is.later is.earlier (subst (EachMoment asks) is.all h)

-- ---- the opening tables are those of version 0

pub opening-version : (opening : Tables) (events : List Event) → version_tables opening events 0 ≡ opening
opening-version opening [] = refl
opening-version opening (Install t ∷ events) = rw (none (past_of opening events).version) (opening-version opening events)
  where
    none : (v : ℕ) → (0 == v + 1) ≡ false
    none v = ne_eqb 0 (v + 1) (let ne : 0 ≢ v + 1 = omega arith in ne)
opening-version opening (_ ∷ events) = opening-version opening events
