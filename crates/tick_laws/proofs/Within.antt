-- No yellow and no red clearance outlasts its time.
use Rattle.std.proofs.Common.{◌≡◌, ◌≢◌, ◌<◌, ◌≤◌, ◌+◌, ℕ, Bool, true, false, ◌==◌, if◌then◌else◌, List, [], refl, sym, ◌∙◌, ap, arith}
use Rattle.sig_types.specs.declared.frame.Colour.{Colour}
use Rattle.sig_types.specs.declared.frame.Colour.TheVariants.{Green, Yellow, Clear, Red}
use Rattle.sig_types.specs.Phases.{is_phase, is_in}
use Rattle.sig_types.specs.Colour.{same_colour, colour_of}
use Rattle.sig_tables.specs.declared.tables.Tables.{Tables}
use Rattle.sig_tables.specs.Tables.{yellow_time, red_clear_time}
use Rattle.sig_tables.specs.Past.{Event, Moment, Past, first_moment}
use Rattle.sig_tables.specs.Looking.{last_frame, run, latched, shows}
use Rattle.sig_tables.specs.Seen.{moves_seen}
use Rattle.sig_tables.specs.Moves.{Moves}
use Rattle.sig_tables.specs.Decide.{colour_after, next_moment, past_of}
use Rattle.tick_laws.specs.Each.{EachMoment}
use Rattle.tick_laws.specs.Safe.{Within, EachWithin}
use Rattle.tick_laws.proofs.Each.{each-weaker, each-moment}
use Rattle.tick_laws.proofs.Intervals.{Counted, so-far, one-more, fresh}
use Rattle.tick_laws.proofs.Choices.{second, neither, never-yellow, unequal, differs, same-is}
use Rattle.tick_laws.proofs.Next.{next-colour, first-red}

-- a yellow of that many ticks is no longer than its time, where it has one; nor is a red clearance
abbrev YellowKept : ℕ → Tables → ℕ → Type 0
YellowKept p t ran = 0 < yellow_time t p → ran ≤ yellow_time t p

abbrev ClearKept : ℕ → Tables → ℕ → Type 0
ClearKept p t ran = ran ≤ red_clear_time t p

-- a phase that showed one colour last has no run of another, and the times of the other are those now in force
pub other-fresh : (p : ℕ) (t : Tables) (past : List Moment) (c d : Colour) → colour_of (last_frame past) p ≡ d → same_colour d c ≡ false
    → (run p c past ≡ 0) × (latched p c t past ≡ t)
other-fresh p t past c d e f = fresh (λ f. same_colour (colour_of f p) c) t past (ap (λ (x : Colour). same_colour x c) e ∙ f)

yellow-more : (moves : Moves) (p : ℕ) (t : Tables) (past : List Moment) (before : Colour) → colour_of (last_frame past) p ≡ before
    → colour_after moves p t past before ≡ Yellow → YellowKept p (latched p Yellow t past) (run p Yellow past)
    → YellowKept p (latched p Yellow t past) (run p Yellow past + 1)
yellow-more moves p t past Green e a kept some =
    let none : run p Yellow past ≡ 0 = (other-fresh p t past Yellow Green e refl).0 in omega (arith, none, some)
yellow-more moves p t past Yellow e a kept some =
    let test : (run p Yellow past == yellow_time (latched p Yellow t past) p) ≡ false = second _ _ Yellow Yellow (never-yellow (red_clear_time t p == 0)) a in
    let ne : run p Yellow past ≢ yellow_time (latched p Yellow t past) p = unequal _ _ test in
    let le : run p Yellow past ≤ yellow_time (latched p Yellow t past) p = kept some in
    omega (arith, ne, le)
yellow-more moves p t past Clear e a kept some =
    absurd (never-yellow (run p Clear past == red_clear_time (latched p Clear t past) p) a)
yellow-more moves p t past Red e a kept some =
    absurd (neither (is_in moves.begins p) Green Red Yellow (differs Green Yellow refl) (differs Red Yellow refl) a)

clear-more : (moves : Moves) (p : ℕ) (t : Tables) (past : List Moment) (before : Colour) → colour_of (last_frame past) p ≡ before
    → colour_after moves p t past before ≡ Clear → ClearKept p (latched p Clear t past) (run p Clear past)
    → ClearKept p (latched p Clear t past) (run p Clear past + 1)
clear-more moves p t past Green e a kept =
    absurd (neither (is_in moves.ends p) Yellow Green Clear (differs Yellow Clear refl) (differs Green Clear refl) a)
clear-more moves p t past Yellow e a kept =
    let new : (run p Clear past ≡ 0) × (latched p Clear t past ≡ t) = other-fresh p t past Clear Yellow e refl in
    let ne : red_clear_time t p ≢ 0 = unequal _ _ (begins _ _ a) in
    rw (new.0, new.1) (omega (arith, ne))
  where
    begins : (b d : Bool) → (if b then (if d then Red else Clear) else Yellow) ≡ Clear → d ≡ false
    begins true true k = absurd (differs Red Clear refl k)
    begins true false k = refl
    begins false d k = absurd (differs Yellow Clear refl k)
clear-more moves p t past Clear e a kept =
    let test : (run p Clear past == red_clear_time (latched p Clear t past) p) ≡ false = second _ _ Clear Clear (differs Red Clear refl) a in
    let ne : run p Clear past ≢ red_clear_time (latched p Clear t past) p = unequal _ _ test in
    omega (arith, ne, kept)
clear-more moves p t past Red e a kept =
    absurd (neither (is_in moves.begins p) Green Red Clear (differs Green Clear refl) (differs Red Clear refl) a)

no-yellow : (p : ℕ) (t : Tables) → YellowKept p t 0
no-yellow p t some = omega arith

no-clear : (p : ℕ) (t : Tables) → ClearKept p t 0
no-clear p t = omega arith

-- the next moment shows this colour of p where its colour follows so
pub shows-next : (past : Past) (p : ℕ) (c : Colour) → is_phase p ≡ true → shows p c (next_moment past) ≡ true
    → colour_after (moves_seen past) p past.tables past.moments (colour_of (last_frame past.moments) p) ≡ c
shows-next past p c ph s = sym (next-colour past p ph) ∙ same-is _ c s

next-within : (past : Past) (p : ℕ) → is_phase p ≡ true → EachMoment (Counted (shows p Yellow) (YellowKept p)) past.moments
    → EachMoment (Counted (shows p Clear) (ClearKept p)) past.moments → Within past.moments (next_moment past) p
next-within past p ph yellows clears = record {
  yellow = one-more (shows p Yellow) (YellowKept p) (no-yellow p) (next_moment past) past.moments
      (λ s. yellow-more (moves_seen past) p past.tables past.moments _ refl (shows-next past p Yellow ph s)
      (so-far (shows p Yellow) (YellowKept p) (no-yellow p) past.tables past.moments yellows));
  clear = one-more (shows p Clear) (ClearKept p) (no-clear p) (next_moment past) past.moments
      (λ s. clear-more (moves_seen past) p past.tables past.moments _ refl (shows-next past p Clear ph s)
      (so-far (shows p Clear) (ClearKept p) (no-clear p) past.tables past.moments clears));
}

-- before any tick nothing is on
pub not-first : (t : Tables) (p : ℕ) (c : Colour) → is_phase p ≡ true → same_colour Red c ≡ false → shows p c (first_moment t) ≡ true → ⊥
not-first t p c ph f s = differs Red c f (sym (first-red p ph) ∙ same-is _ c s)

first-within : (t : Tables) (p : ℕ) → is_phase p ≡ true → Within [] (first_moment t) p
first-within t p ph = record {
  yellow = one-more (shows p Yellow) (YellowKept p) (no-yellow p) (first_moment t) [] (λ s. absurd (not-first t p Yellow ph refl s));
  clear = one-more (shows p Clear) (ClearKept p) (no-clear p) (first_moment t) [] (λ s. absurd (not-first t p Clear ph refl s));
}

pub each-within : (opening : Tables) (events : List Event) → EachWithin (past_of opening events).moments
each-within opening events =
    each-moment opening (λ past m. (p : ℕ) → is_phase p ≡ true → Within past m p) (λ p ph. first-within opening p ph)
    (λ past h p ph. next-within past p ph
    (each-weaker _ (Counted (shows p Yellow) (YellowKept p)) (λ before m w. (w p ph).yellow) past.moments h)
    (each-weaker _ (Counted (shows p Clear) (ClearKept p)) (λ before m w. (w p ph).clear) past.moments h))
    events
