-- The colours of a phase follow in order.
use Rattle.std.proofs.Common.{◌≡◌, ◌⊎◌, inl, inr, ℕ, Bool, true, false, ◌==◌, if◌then◌else◌, List, refl, sym, subst}
use Rattle.sig_types.specs.declared.frame.Colour.{Colour}
use Rattle.sig_types.specs.declared.frame.Colour.TheVariants.{Green, Yellow, Clear, Red}
use Rattle.sig_types.specs.Phases.{is_phase, is_in}
use Rattle.sig_types.specs.Colour.{colour_of}
use Rattle.sig_tables.specs.declared.tables.Tables.{Tables}
use Rattle.sig_tables.specs.Tables.{yellow_time, red_clear_time}
use Rattle.sig_tables.specs.Past.{Event, Moment, Past, first_frame}
use Rattle.sig_tables.specs.Looking.{last_frame, run, latched}
use Rattle.sig_tables.specs.Seen.{moves_seen}
use Rattle.sig_tables.specs.Moves.{Moves}
use Rattle.sig_tables.specs.Decide.{colour_after, next_moment, past_of}
use Rattle.tick_laws.specs.Safe.{ColourFollows, EachFollows}
use Rattle.tick_laws.proofs.Each.{each-moment}
use Rattle.tick_laws.proofs.Next.{next-colour}

-- a choice is one of the two
one-of : (b : Bool) (x y : Colour) → ((if b then x else y) ≡ y) ⊎ ((if b then x else y) ≡ x)
one-of true x y = inr refl
one-of false x y = inl refl

-- what comes after a colour follows it
after-follows : (moves : Moves) (p : ℕ) (now : Tables) (past : List Moment) (before : Colour)
    → ColourFollows now p before (colour_after moves p now past before)
after-follows moves p now past Green = one-of (is_in moves.ends p) Yellow Green
after-follows moves p now past Yellow =
    one-of (run p Yellow past == yellow_time (latched p Yellow now past) p) (if red_clear_time now p == 0 then Red else Clear) Yellow
after-follows moves p now past Clear = one-of (run p Clear past == red_clear_time (latched p Clear now past) p) Red Clear
after-follows moves p now past Red = one-of (is_in moves.begins p) Green Red

next-follows : (past : Past) (p : ℕ) → is_phase p ≡ true
    → ColourFollows past.tables p (colour_of (last_frame past.moments) p) (colour_of (next_moment past).frame p)
next-follows past p ph =
    subst (λ (c : Colour). ColourFollows past.tables p (colour_of (last_frame past.moments) p) c) (sym (next-colour past p ph))
    (after-follows (moves_seen past) p past.tables past.moments (colour_of (last_frame past.moments) p))

same-follows : (t : Tables) (p : ℕ) (c : Colour) → ColourFollows t p c c
same-follows t p Green = inl refl
same-follows t p Yellow = inl refl
same-follows t p Clear = inl refl
same-follows t p Red = inl refl

pub each-follows : (opening : Tables) (events : List Event) → EachFollows (past_of opening events).moments
each-follows opening events =
    each-moment opening (λ past m. (p : ℕ) → is_phase p ≡ true → ColourFollows m.tables p (colour_of (last_frame past) p) (colour_of m.frame p))
    (λ p ph. same-follows opening p (colour_of first_frame p)) (λ past h p ph. next-follows past p ph) events
