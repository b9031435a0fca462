-- No walk and no pedestrian clearance outlasts its time.
use Rattle.std.proofs.Common.{◌≡◌, ◌≢◌, inl, inr, ◌<◌, ◌≤◌, ◌+◌, ℕ, Bool, true, false, max, min, nat_le, ◌==◌, if◌then◌else◌, List, [], refl, sym, ◌∙◌, ap, arith}
use Rattle.std.proofs.lemmas.Bool.{and_parts, false≢true, leb-true}
use Rattle.std.proofs.lemmas.Bool.Decides.{leb_tells}
use Rattle.sig_types.specs.declared.frame.Colour.{Colour}
use Rattle.sig_types.specs.declared.frame.Colour.TheVariants.{Green, Red}
use Rattle.sig_types.specs.declared.frame.Ped.{Ped}
use Rattle.sig_types.specs.declared.frame.Ped.TheVariants.{Walk, Flash, Dont}
use Rattle.sig_types.specs.declared.frame.Mode.{Mode}
use Rattle.sig_types.specs.declared.frame.Mode.TheVariants.{Free, Seek, Coord}
use Rattle.sig_types.specs.Phases.{is_phase}
use Rattle.sig_types.specs.Colour.{same_signal, signal_of}
use Rattle.sig_tables.specs.declared.tables.Tables.{Tables}
use Rattle.sig_tables.specs.Tables.{row, walk_time, pedestrian_clear_time}
use Rattle.sig_tables.specs.Lesser.{Lesser, InFull, AtMost, lesser_clear, signal_runs_within}
use Rattle.sig_tables.specs.Goals.{lesser_in}
use Rattle.sig_tables.specs.Past.{Event, Moment, Past, first_moment}
use Rattle.sig_tables.specs.Looking.{last_frame, signal_run, signal_latched, signals}
use Rattle.sig_tables.specs.Walking.{Crossing, has_walk, walk_begins}
use Rattle.sig_tables.specs.Seen.{mode_seen}
use Rattle.sig_tables.specs.Decide.{next_moment, past_of}
use Rattle.tick_laws.specs.Each.{EachMoment}
use Rattle.tick_laws.specs.Served.{IsServedAfter, AllServed}
use Rattle.tick_laws.specs.Walking.{OnGreen, WalkWithin, FlashWithin, EachWalkWithin, EachFlashWithin}
use Rattle.tick_laws.proofs.Each.{each-weaker, each-moment, each-allowed}
use Rattle.tick_laws.proofs.Intervals.{Counted, so-far, one-more, fresh, running}
use Rattle.tick_laws.proofs.Choices.{second, never-walk, unequal, differs-signal, same-is-signal}
use Rattle.tick_laws.proofs.Next.{next-signal, mode_given, crossing_seen, walk_seen, signal_left, first-dont}
use Rattle.tick_laws.proofs.Signals.{seen-dont, walk-stays, dont-stays, last-green}

-- a walk of that many ticks is no longer than its time, and a pedestrian clearance no longer than its own
abbrev WalkKept : ℕ → Tables → ℕ → Type 0
WalkKept p t ran = ran ≤ walk_time t p

abbrev FlashKept : ℕ → Tables → ℕ → Type 0
FlashKept p t ran = ran ≤ pedestrian_clear_time t p

no-walk : (p : ℕ) (t : Tables) → WalkKept p t 0
no-walk p t = omega arith

no-flash : (p : ℕ) (t : Tables) → FlashKept p t 0
no-flash p t = omega arith

-- Walk begins only on a phase that has a walk
begins-long : (c : Crossing) (mode : Mode) (p : ℕ) (before after : Colour) (signal : Ped) → walk_begins c mode p before after signal ≡ true
    → has_walk c.tables p ≡ true
begins-long c Free p Red Green signal h = (and_parts _ _ h).0
begins-long c (Seek n) p Red Green signal h = (and_parts _ _ h).0
begins-long c (Coord n) p Red Green signal h = (and_parts _ _ h).0
begins-long c Free p Green Green Dont h = (and_parts _ _ (and_parts _ _ h).0).0
begins-long c (Coord n) p Green Green Dont h = (and_parts _ _ (and_parts _ _ (and_parts _ _ h).0).0).1
begins-long c mode p before after signal h = absurd (false≢true h)

pub long-walk : (t : Tables) (p : ℕ) → has_walk t p ≡ true → 0 < walk_time t p
long-walk t p h = let k : 1 ≤ (row t p).walk = leb-true 1 _ h in omega (arith, k)

-- a phase that showed one signal last has no run of another, and the times of the other are those now in force
other-fresh : (p : ℕ) (t : Tables) (past : List Moment) (c d : Ped) → signal_of (last_frame past) p ≡ d → same_signal d c ≡ false
    → (signal_run p c past ≡ 0) × (signal_latched p c t past ≡ t)
other-fresh p t past c d e f = fresh (λ f. same_signal (signal_of f p) c) t past (ap (λ (x : Ped). same_signal x c) e ∙ f)

-- Walk that does not end by itself has not had its time
walk-left : (l : Lesser) (p : ℕ) (t : Tables) (past : List Moment) → signal_runs_within l p t past Walk ≡ Walk → 0 < signal_run p Walk past
    → WalkKept p (signal_latched p Walk t past) (signal_run p Walk past) → WalkKept p (signal_latched p Walk t past) (signal_run p Walk past + 1)
walk-left InFull p t past a some kept =
    let ne : signal_run p Walk past ≢ walk_time (signal_latched p Walk t past) p
    = unequal _ _ (second _ _ Walk Walk (never-walk (pedestrian_clear_time t p == 0)) a) in
    omega (arith, ne, kept)
walk-left (AtMost walk clear) p t past a some kept =
    below (walk_time (signal_latched p Walk t past) p) walk (signal_run p Walk past)
    (second _ _ Walk Walk (never-walk (lesser_clear (AtMost walk clear) (pedestrian_clear_time t p) == 0)) a) some
  where
    below : (time most ran : ℕ) → nat_le (max 1 (min time most)) ran ≡ false → 0 < ran → ran + 1 ≤ time
    below time most ran f some = elim (leb_tells (max 1 (min time most)) ran) [
      | inl (t, a) ↦ absurd (false≢true (sym f ∙ t))
      | inr (t, b) ↦ omega (arith, b, some)
    ]

walk-more : (l : Lesser) (p : ℕ) (t : Tables) (past : List Moment) (before : Ped) (w : Bool) → is_phase p ≡ true → signal_of (last_frame past) p ≡ before
    → (w ≡ true → before ≡ Dont) → (w ≡ true → 0 < walk_time t p)
    → (if w then Walk else signal_runs_within l p t past before) ≡ Walk
    → WalkKept p (signal_latched p Walk t past) (signal_run p Walk past) → WalkKept p (signal_latched p Walk t past) (signal_run p Walk past + 1)
walk-more l p t past Walk true ph e dont long a kept = absurd (differs-signal Walk Dont refl (dont refl))
walk-more l p t past Walk false ph e dont long a kept =
    walk-left l p t past a
    (running (λ f. same_signal (signal_of f p) Walk) past (ap (λ (x : Ped). same_signal x Walk) (first-dont p ph))
    (ap (λ (x : Ped). same_signal x Walk) e))
    kept
walk-more l p t past Flash true ph e dont long a kept = absurd (differs-signal Flash Dont refl (dont refl))
walk-more l p t past Flash false ph e dont long a kept = absurd (walk-stays l p t past Flash (differs-signal Flash Walk refl) a)
walk-more l p t past Dont true ph e dont long a kept =
    let new : (signal_run p Walk past ≡ 0) × (signal_latched p Walk t past ≡ t) = other-fresh p t past Walk Dont e refl in
    let some : 0 < walk_time t p = long refl in
    rw (new.0, new.1) (omega (arith, some))
walk-more l p t past Dont false ph e dont long a kept = absurd (walk-stays l p t past Dont (differs-signal Dont Walk refl) a)

-- Flash begins by itself only where the tables in force leave it some time
begins : (b d : Bool) → (if b then (if d then Dont else Flash) else Walk) ≡ Flash → d ≡ false
begins true true k = absurd (differs-signal Dont Flash refl k)
begins true false k = refl
begins false d k = absurd (differs-signal Walk Flash refl k)

flash-begins : (l : Lesser) (p : ℕ) (t : Tables) (past : List Moment) → signal_runs_within l p t past Walk ≡ Flash → 0 < pedestrian_clear_time t p
flash-begins InFull p t past a = let ne : pedestrian_clear_time t p ≢ 0 = unequal _ _ (begins _ _ a) in omega (arith, ne)
flash-begins (AtMost walk clear) p t past a =
    let ne : min (pedestrian_clear_time t p) clear ≢ 0 = unequal _ _ (begins _ _ a) in omega (arith, ne)

-- and stays only where it has not had its time
flash-left : (l : Lesser) (p : ℕ) (t : Tables) (past : List Moment) → signal_runs_within l p t past Flash ≡ Flash
    → FlashKept p (signal_latched p Flash t past) (signal_run p Flash past) → FlashKept p (signal_latched p Flash t past) (signal_run p Flash past + 1)
flash-left InFull p t past a kept =
    let ne : signal_run p Flash past ≢ pedestrian_clear_time (signal_latched p Flash t past) p
    = unequal _ _ (second _ _ Flash Flash (differs-signal Dont Flash refl) a) in
    omega (arith, ne, kept)
flash-left (AtMost walk clear) p t past a kept =
    below (pedestrian_clear_time (signal_latched p Flash t past) p) clear (signal_run p Flash past) (second _ _ Flash Flash (differs-signal Dont Flash refl) a)
  where
    below : (time most ran : ℕ) → nat_le (min time most) ran ≡ false → ran + 1 ≤ time
    below time most ran f = elim (leb_tells (min time most) ran) [
      | inl (t, a) ↦ absurd (false≢true (sym f ∙ t))
      | inr (t, b) ↦ omega (arith, b)
    ]

flash-more : (l : Lesser) (p : ℕ) (t : Tables) (past : List Moment) (before : Ped) (w : Bool) → signal_of (last_frame past) p ≡ before
    → (if w then Walk else signal_runs_within l p t past before) ≡ Flash
    → FlashKept p (signal_latched p Flash t past) (signal_run p Flash past) → FlashKept p (signal_latched p Flash t past) (signal_run p Flash past + 1)
flash-more l p t past before true e a kept = absurd (differs-signal Walk Flash refl a)
flash-more l p t past Walk false e a kept =
    let new : (signal_run p Flash past ≡ 0) × (signal_latched p Flash t past ≡ t) = other-fresh p t past Flash Walk e refl in
    let some : 0 < pedestrian_clear_time t p = flash-begins l p t past a in
    rw (new.0, new.1) (omega (arith, some))
flash-more l p t past Flash false e a kept = flash-left l p t past a kept
flash-more l p t past Dont false e a kept = absurd (differs-signal Dont Flash refl (sym (dont-stays l p t past) ∙ a))

-- the next moment shows this signal of p where it begins or follows so
signals-next : (past : Past) (p : ℕ) (c : Ped) → is_phase p ≡ true → signals p c (next_moment past) ≡ true
    → (if walk_seen past p then Walk else signal_left past p) ≡ c
signals-next past p c ph s = sym (next-signal past p ph) ∙ same-is-signal _ c s

next-walk : (past : Past) (p : ℕ) → is_phase p ≡ true → OnGreen (last_frame past.moments) → EachMoment (Counted (signals p Walk) (WalkKept p)) past.moments
    → WalkWithin past.moments (next_moment past) p
next-walk past p ph g h =
    one-more (signals p Walk) (WalkKept p) (no-walk p) (next_moment past) past.moments
    (λ s. walk-more (lesser_in past.tables (mode_seen past) p) p past.tables past.moments _ (walk_seen past p) ph refl (seen-dont past p ph g)
    (λ w. long-walk past.tables p (begins-long (crossing_seen past) (mode_given past) p _ _ _ w)) (signals-next past p Walk ph s)
    (so-far (signals p Walk) (WalkKept p) (no-walk p) past.tables past.moments h))

next-flash : (past : Past) (p : ℕ) → is_phase p ≡ true → EachMoment (Counted (signals p Flash) (FlashKept p)) past.moments
    → FlashWithin past.moments (next_moment past) p
next-flash past p ph h =
    one-more (signals p Flash) (FlashKept p) (no-flash p) (next_moment past) past.moments
    (λ s. flash-more (lesser_in past.tables (mode_seen past) p) p past.tables past.moments _ (walk_seen past p) refl (signals-next past p Flash ph s)
    (so-far (signals p Flash) (FlashKept p) (no-flash p) past.tables past.moments h))

-- before any tick every signal is Dont
not-first : (t : Tables) (p : ℕ) (c : Ped) → is_phase p ≡ true → same_signal Dont c ≡ false → signals p c (first_moment t) ≡ true → ⊥
not-first t p c ph f s = differs-signal Dont c f (sym (first-dont p ph) ∙ same-is-signal _ c s)

pub each-walk-within : (opening : Tables) (events : List Event) → AllServed opening events → EachWalkWithin (past_of opening events).moments
each-walk-within opening events served =
    each-allowed opening (IsServedAfter opening) (λ past m. (p : ℕ) → is_phase p ≡ true → WalkWithin past m p)
    (λ p ph. one-more (signals p Walk) (WalkKept p) (no-walk p) (first_moment opening) [] (λ s. absurd (not-first opening p Walk ph refl s)))
    (λ before a forced h p ph. next-walk (past_of opening before) p ph (last-green opening before a)
    (each-weaker _ (Counted (signals p Walk) (WalkKept p)) (λ past m w. w p ph) (past_of opening before).moments h)) events served

pub each-flash-within : (opening : Tables) (events : List Event) → EachFlashWithin (past_of opening events).moments
each-flash-within opening events =
    each-moment opening (λ past m. (p : ℕ) → is_phase p ≡ true → FlashWithin past m p)
    (λ p ph. one-more (signals p Flash) (FlashKept p) (no-flash p) (first_moment opening) [] (λ s. absurd (not-first opening p Flash ph refl s)))
    (λ past h p ph. next-flash past p ph
    (each-weaker _ (Counted (signals p Flash) (FlashKept p)) (λ before m w. w p ph) past.moments h)) events
