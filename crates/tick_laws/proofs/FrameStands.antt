-- What is on is together: the fact that is kept from tick to tick.
use Rattle.std.proofs.Common.{◌≡◌, ◌⊎◌, inl, inr, ℕ, Bool, true, false, not, ◌&&◌, if◌then◌else◌, ◌==◌, List, refl, sym, ◌∙◌, subst}
use Rattle.std.proofs.lemmas.Bool.{cases_Bool, and_parts, and_from, false≢true, both_ways, not-true}
use Rattle.std.proofs.lemmas.Bool.Decides.{Decides-eqb}
use Rattle.sig_types.specs.declared.frame.Colour.{Colour}
use Rattle.sig_types.specs.declared.frame.Colour.TheVariants.{Green, Yellow, Clear, Red}
use Rattle.sig_types.specs.declared.frame.Frame.{Frame}
use Rattle.sig_types.specs.Phases.{is_phase, all_phases, is_in}
use Rattle.sig_types.specs.Colour.{same_colour, colour_in, colour_of, on_in}
use Rattle.sig_tables.specs.declared.tables.Tables.{Tables}
use Rattle.sig_tables.specs.Tables.{ring_of, is_enabled}
use Rattle.sig_tables.specs.Sides.{are_concurrent}
use Rattle.sig_tables.specs.Past.{Moment, Past}
use Rattle.sig_tables.specs.Looking.{last_frame, runs_on}
use Rattle.sig_tables.specs.View.{ended_of}
use Rattle.sig_tables.specs.Moves.{Moves}
use Rattle.sig_tables.specs.TickInputs.{TickInputs}
use Rattle.sig_tables.specs.TickState.{TickState}
use Rattle.sig_tables.specs.Ticking.{colour_after, colours_of, frame_with, on_of}
use Rattle.sig_tables.proofs.Below.{enabled-phase}
use Rattle.tick_laws.specs.Lawful.{Sound, is_dark}
use Rattle.tick_laws.specs.Safe.{is_on}
use Rattle.sig_types.proofs.Lists.{in-those, only-first, phase-listed, colour-at, eq-true}
use Rattle.sig_types.proofs.Sets.{every-phase}
use Rattle.tick_laws.proofs.RingTurns.{reached-dark}

-- what is on is enabled, on together by the tables, and named in its ring; in Start and Flash nothing is on
pub record FrameStands (t : Tables) (f : Frame) : Type 0 where
  pub enabled : (p : ℕ) → is_phase p ≡ true → is_on f p ≡ true → is_enabled t p ≡ true
  pub together : (p q : ℕ) → is_phase p ≡ true → is_phase q ≡ true → is_on f p ≡ true → is_on f q ≡ true → (p ≡ q) ⊎ (are_concurrent t p q ≡ true)
  pub placed : (p : ℕ) → is_phase p ≡ true → is_on f p ≡ true → on_in f (ring_of t p) ≡ p
  pub idle : is_dark f.mode ≡ true → (p : ℕ) → is_phase p ≡ true → is_on f p ≡ false

-- what begins is enabled, and goes with what stays and with what else begins
pub record Fits (t : Tables) (f : Frame) (ended begins : List ℕ) : Type 0 where
  pub enabled : (q : ℕ) → is_in begins q ≡ true → is_enabled t q ≡ true
  pub beside : (p q : ℕ) → is_phase p ≡ true → is_on f p ≡ true → is_in ended p ≡ false → is_in begins q ≡ true
      → (are_concurrent t p q ≡ true) × (are_concurrent t q p ≡ true)
  pub together : (p q : ℕ) → is_in begins p ≡ true → is_in begins q ≡ true → (p ≡ q) ⊎ (are_concurrent t p q ≡ true)

-- p stays on, or begins
abbrev Comes : Tables → Frame → List ℕ → List ℕ → ℕ → Type 0
Comes t f ended begins p = ((is_on f p ≡ true) × (is_in ended p ≡ false)) ⊎ (is_in begins p ≡ true)

chosen : (b : Bool) → not (same_colour (if b then Green else Red) Red) ≡ true → b ≡ true
chosen true h = refl
chosen false h = absurd (false≢true h)

-- p was on, and is Red by itself
abbrev ends_now : Tables → List Moment → ℕ → Bool
ends_now t past p =
    not (same_colour (colour_of (last_frame past) p) Red) && same_colour (runs_on p t past (colour_of (last_frame past) p)) Red

not-ended : (t : Tables) (past : List Moment) (p : ℕ) → same_colour (runs_on p t past (colour_of (last_frame past) p)) Red ≡ false
    → is_in (ended_of t past) p ≡ false
not-ended t past p h = elim (cases_Bool (is_in (ended_of t past) p)) [
  | inl k ↦
      let e : (not (same_colour (colour_of (last_frame past) p) Red) && same_colour (runs_on p t past (colour_of (last_frame past) p)) Red) ≡ true
      = (in-those (ends_now t past) all_phases p k).0 in
      absurd (both_ways _ h (and_parts (not (same_colour (colour_of (last_frame past) p) Red)) _ e).1)
  | inr n ↦ n
]

comes : (moves : Moves) (p : ℕ) (t : Tables) (past : List Moment) (c : Colour) → colour_of (last_frame past) p ≡ c
    → not (same_colour (colour_after moves p t past c) Red) ≡ true
    → ((not (same_colour c Red) ≡ true) × (same_colour (runs_on p t past c) Red ≡ false)) ⊎ (is_in moves.begins p ≡ true)
comes moves p t past Green e h = inl (refl, refl)
comes moves p t past Yellow e h = inl (refl, not-true _ h)
comes moves p t past Clear e h = inl (refl, not-true _ h)
comes moves p t past Red e h = inr (chosen _ h)

pub comes-on : (moves : Moves) (past : Past) (p : ℕ) → is_phase p ≡ true
    → not (same_colour (colour_in (colours_of past moves) p) Red) ≡ true
    → Comes past.tables (last_frame past.moments) (ended_of past.tables past.moments) moves.begins p
comes-on moves past p ph h =
    let k : not (same_colour (colour_after moves p past.tables past.moments (colour_of (last_frame past.moments) p)) Red) ≡ true
    = subst (λ (c : Colour). not (same_colour c Red) ≡ true)
    (colour-at (λ x. colour_after moves x past.tables past.moments (colour_of (last_frame past.moments) x)) p ph) h in
    elim (comes moves p past.tables past.moments _ refl k) [
      | inl s ↦ inl (s.0, not-ended past.tables past.moments p s.1)
      | inr b ↦ inr b
    ]

-- the phases that come go together
pub come-together : (t : Tables) (f : Frame) (ended begins : List ℕ) → FrameStands t f → Fits t f ended begins → (p q : ℕ)
    → is_phase p ≡ true → is_phase q ≡ true → Comes t f ended begins p → Comes t f ended begins q
    → (p ≡ q) ⊎ (are_concurrent t p q ≡ true)
come-together t f ended begins s b p q hp hq (inl x) (inl y) = s.together p q hp hq x.0 y.0
come-together t f ended begins s b p q hp hq (inl x) (inr y) = inr (b.beside p q hp x.0 x.1 y).0
come-together t f ended begins s b p q hp hq (inr x) (inl y) = inr (b.beside q p hq y.0 y.1 x).1
come-together t f ended begins s b p q hp hq (inr x) (inr y) = b.together p q x y

come-enabled : (t : Tables) (f : Frame) (ended begins : List ℕ) → FrameStands t f → Fits t f ended begins → (p : ℕ)
    → is_phase p ≡ true → Comes t f ended begins p → is_enabled t p ≡ true
come-enabled t f ended begins s b p hp (inl x) = s.enabled p hp x.0
come-enabled t f ended begins s b p hp (inr y) = b.enabled p y

-- the phase that a frame names in a ring is the one that is on in it
named : (t : Tables) (veh : List Colour) (r p : ℕ) → is_phase p ≡ true → is_enabled t p ≡ true → ring_of t p ≡ r
    → not (same_colour (colour_in veh p) Red) ≡ true
    → ((q : ℕ) → is_enabled t q ≡ true → ring_of t q ≡ r → not (same_colour (colour_in veh q) Red) ≡ true → q ≡ p)
    → on_of t veh r ≡ p
named t veh r p ph en e on alone =
    only-first (λ x. is_enabled t x && ring_of t x == r && not (same_colour (colour_in veh x) Red)) all_phases p (phase-listed p ph)
    (and_from _ _ (and_from _ _ en ((Decides-eqb _ _).1 e)) on)
    (λ q h.
    let k : ((is_enabled t q && (ring_of t q == r)) ≡ true) × (not (same_colour (colour_in veh q) Red) ≡ true) = and_parts _ _ h in
    let l : (is_enabled t q ≡ true) × ((ring_of t q == r) ≡ true) = and_parts _ _ k.0 in
    alone q l.0 (eq-true _ _ l.1) k.1)

-- the frame that moves give is valid, if the moves fit
pub standing-next : (tick_state : TickState) (past : Past) (tick_inputs : TickInputs) (moves : Moves)
    → Sound past.tables → FrameStands past.tables (last_frame past.moments)
    → Fits past.tables (last_frame past.moments) (ended_of past.tables past.moments) moves.begins
    → (is_dark tick_state.mode ≡ true → (is_dark (last_frame past.moments).mode ≡ true) × ((q : ℕ) → is_in moves.begins q ≡ false))
    → FrameStands past.tables (frame_with tick_state past tick_inputs (colours_of past moves))
standing-next tick_state past tick_inputs moves sound s b quiet = record {
  enabled = λ p ph on. en p ph on;
  together = λ p q hp hq on on'. both p q hp hq on on';
  placed = λ p ph on. place p ph on;
  idle = λ e p ph. elim (reached-dark tick_state.mode past.tables (colours_of past moves) e) [
    | inl dark ↦ elim (cases_Bool (not (same_colour (colour_in (colours_of past moves) p) Red))) [
      | inl on ↦ elim (comes-on moves past p ph on) [
        | inl x ↦ absurd (both_ways _ (s.idle (quiet dark).0 p ph) x.0)
        | inr y ↦ absurd (both_ways _ ((quiet dark).1 p) y)
      ]
      | inr off ↦ off
    ]
    | inr red ↦ rw (every-phase (λ q. same_colour (colour_in (colours_of past moves) q) Red) red p ph) refl
  ];
}
  where
    both : (p q : ℕ) → is_phase p ≡ true → is_phase q ≡ true → not (same_colour (colour_in (colours_of past moves) p) Red) ≡ true
        → not (same_colour (colour_in (colours_of past moves) q) Red) ≡ true → (p ≡ q) ⊎ (are_concurrent past.tables p q ≡ true)
    both p q hp hq on on' = come-together _ _ _ _ s b p q hp hq (comes-on moves past p hp on) (comes-on moves past q hq on')

    en : (p : ℕ) → is_phase p ≡ true → not (same_colour (colour_in (colours_of past moves) p) Red) ≡ true → is_enabled past.tables p ≡ true
    en p ph on = come-enabled _ _ _ _ s b p ph (comes-on moves past p ph on)

    alone : (p : ℕ) → is_phase p ≡ true → not (same_colour (colour_in (colours_of past moves) p) Red) ≡ true → (r : ℕ) → ring_of past.tables p ≡ r
        → (q : ℕ) → is_enabled past.tables q ≡ true → ring_of past.tables q ≡ r → not (same_colour (colour_in (colours_of past moves) q) Red) ≡ true → q ≡ p
    alone p ph on r e q eq rq onq = elim (both q p (enabled-phase past.tables q eq) ph onq on) [
      | inl same ↦ same
      | inr c ↦ absurd (sound.across q p c (rq ∙ sym e))
    ]

    place : (p : ℕ) → is_phase p ≡ true → not (same_colour (colour_in (colours_of past moves) p) Red) ≡ true
        → on_in (frame_with tick_state past tick_inputs (colours_of past moves)) (ring_of past.tables p) ≡ p
    place p ph on = elim (sound.ring p (en p ph on)) [
      | inl e ↦ rw e (named past.tables (colours_of past moves) 1 p ph (en p ph on) e on (alone p ph on 1 e))
      | inr e ↦ rw e (named past.tables (colours_of past moves) 2 p ph (en p ph on) e on (alone p ph on 2 e))
    ]
