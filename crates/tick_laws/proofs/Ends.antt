-- Clearances that have ended lasted their time, and greens at least their minimum green.
use Rattle.std.proofs.Common.{◌≡◌, ◌≢◌, ◌≤◌, inl, inr, ℕ, true, false, List, [], refl, sym, ◌∙◌, ap, subst}
use Rattle.std.proofs.lemmas.Bool.Decides.{Decides-eqb}
use Rattle.sig_types.specs.declared.frame.Colour.{Colour}
use Rattle.sig_types.specs.declared.frame.Colour.TheVariants.{Green, Yellow, Clear, Red}
use Rattle.sig_types.specs.declared.frame.Mode.{Mode}
use Rattle.sig_types.specs.Phases.{is_phase, is_in}
use Rattle.sig_types.specs.Colour.{same_colour, colour_of}
use Rattle.sig_tables.specs.declared.tables.Tables.{Tables}
use Rattle.sig_tables.specs.Tables.{least_green}
use Rattle.sig_tables.specs.Goals.{lesser_in}
use Rattle.sig_tables.specs.Past.{Event, Past}
use Rattle.sig_tables.specs.Looking.{last_frame, run, latched}
use Rattle.sig_tables.specs.Choosing.{mode_reached}
use Rattle.sig_tables.specs.Seen.{mode_seen, moves_seen}
use Rattle.sig_tables.specs.Decide.{colour_after, colours_of, next_moment, past_of}
use Rattle.sig_tables.proofs.FreeTickState.{lesser-unstaged}
use Rattle.tick_laws.specs.Safe.{ClearanceEnds, EachClearanceEnds, GreenEnds, EachGreenEnds}
use Rattle.tick_laws.specs.Served.{ForcesServed, IsServedAfter, AllServed}
use Rattle.tick_laws.proofs.Each.{each-moment, each-allowed}
use Rattle.tick_laws.proofs.Choices.{leaves, differs}
use Rattle.tick_laws.proofs.Next.{next-colour, first-red}
use Rattle.tick_laws.proofs.RingTurns.{reached-as}
use Rattle.tick_laws.proofs.Ended.{least_in, least-unstaged, tick-ended}

-- a colour that p showed and does not show next does not stay by itself
pub goes : (past : Past) (p : ℕ) (c : Colour) → is_phase p ≡ true → colour_of (last_frame past.moments) p ≡ c → colour_of (next_moment past).frame p ≢ c
    → colour_after (moves_seen past) p past.tables past.moments c ≢ c
goes past p c ph e ne k =
    ne (next-colour past p ph ∙ ap (λ (x : Colour). colour_after (moves_seen past) p past.tables past.moments x) e ∙ k)

next-clearances : (past : Past) (p : ℕ) → is_phase p ≡ true → ClearanceEnds past.moments (next_moment past) p
next-clearances past p ph = record {
  yellow = λ e ne. (Decides-eqb _ _).0 (leaves _ _ _ (goes past p Yellow ph e ne));
  clear = λ e ne. (Decides-eqb _ _).0 (leaves _ _ _ (goes past p Clear ph e ne));
}

not-red : (p : ℕ) (c : Colour) → is_phase p ≡ true → same_colour Red c ≡ false → colour_of (last_frame []) p ≡ c → ⊥
not-red p c ph f e = differs Red c f (sym (first-red p ph) ∙ e)

pub each-clearance : (opening : Tables) (events : List Event) → EachClearanceEnds (past_of opening events).moments
each-clearance opening events =
    each-moment opening (λ past m. (p : ℕ) → is_phase p ≡ true → ClearanceEnds past m p)
    (λ p ph. record { yellow = λ e ne. absurd (not-red p Yellow ph refl e); clear = λ e ne. absurd (not-red p Clear ph refl e) })
    (λ past h p ph. next-clearances past p ph) events

-- the mode of the frame leaves a phase the times that the mode of the tick does
pub reached-lesser : (mode : Mode) (t : Tables) (veh : List Colour) (p : ℕ) → lesser_in t (mode_reached mode t veh) p ≡ lesser_in t mode p
reached-lesser mode t veh p = elim (reached-as mode t veh) [
  | inl same ↦ ap (λ (m : Mode). lesser_in t m p) same
  | inr none ↦ lesser-unstaged t (mode_reached mode t veh) p none.0 ∙ sym (lesser-unstaged t mode p none.1)
]

-- and the green
reached-least : (mode : Mode) (t : Tables) (veh : List Colour) (p time : ℕ) → least_in t (mode_reached mode t veh) p time ≡ least_in t mode p time
reached-least mode t veh p time = elim (reached-as mode t veh) [
  | inl same ↦ ap (λ (m : Mode). least_in t m p time) same
  | inr none ↦ least-unstaged t (mode_reached mode t veh) p time none.0 ∙ sym (least-unstaged t mode p time none.1)
]

next-green : (past : Past) (p : ℕ) → ForcesServed past → is_phase p ≡ true → GreenEnds past.moments (next_moment past) p
next-green past p forced ph e ne =
    let ends : is_in (moves_seen past).ends p ≡ true = leaves _ _ _ (goes past p Green ph e ne) in
    subst (λ (n : ℕ). n ≤ run p Green past.moments)
    (sym (reached-least (mode_seen past) past.tables (colours_of past (moves_seen past)) p (least_green (latched p Green past.tables past.moments) p)))
    (tick-ended past p (forced p) ends).least

pub each-green : (opening : Tables) (events : List Event) → AllServed opening events → EachGreenEnds (past_of opening events).moments
each-green opening events served =
    each-allowed opening (IsServedAfter opening) (λ past m. (p : ℕ) → is_phase p ≡ true → GreenEnds past m p)
    (λ p ph e ne. absurd (not-red p Green ph refl e)) (λ before served forced h p ph. next-green (past_of opening before) p forced ph) events served
