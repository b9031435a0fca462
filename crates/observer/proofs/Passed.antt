-- What is looked back over, after ticks that are skipped at once.
use Rattle.std.proofs.Common.{◌≡◌, ◌<◌, ◌≤◌, ◌+◌, ◌==◌, ◌&&◌, ℕ, zero, suc, Bool, true, false, List, [], ◌∷◌, ◌++◌, length, refl, sym, ◌∙◌, ap, arith, subst}
use Rattle.std.proofs.lemmas.Bool.{false≢true, and_parts}
use Rattle.std.proofs.lemmas.Bool.Decides.{Decides-eqb}
use Rattle.sig_types.specs.declared.frame.Mode.{Mode}
use Rattle.sig_types.specs.declared.frame.Mode.TheVariants.{Start, Free, Seek, Coord, Ending, Flash, Entry, Track, Dwell, Exit}
use Rattle.sig_types.specs.declared.phase_set.PhaseSet.{PhaseSet}
use Rattle.sig_types.specs.Phases.{is_in}
use Rattle.sig_types.specs.Colour.{same_mode}
use Rattle.sig_tables.specs.Slots.{cycle_time}
use Rattle.sig_tables.specs.Past.{Past, Moment}
use Rattle.sig_tables.specs.Looking.{last_frame}
use Rattle.sig_tables.specs.Calls.{is_green}
use Rattle.sig_tables.specs.Choosing.{is_in_step}
use Rattle.sig_tables.specs.Decide.{with_moment, next_moment}
use Rattle.sig_tables.specs.Modes.{bound}
use Rattle.sig_tables.specs.Seen.{frame_seen, quiet_with}
use Rattle.preempt_stages.proofs.Inputs.{seen-is}
use Rattle.tick_context.specs.declared.seeing.TickInputs.{TickInputs}
use Rattle.tick_context.specs.Lasting.{Lasts, Looks, opposed_with}
use Rattle.tick_context.proofs.Again.{free-apart}
use Rattle.tick_context.proofs.TicksGoOn.{Goes, tick-goes, goes-alike}
use Rattle.tick_context.proofs.InStep.{counter-next}
use Rattle.tick_context.proofs.OneLess.{lasts-less, seen-again, looks-on}
use Rattle.tick_context.proofs.Passed.{after, lasts-after}
use Rattle.tick_context.proofs.Seen.{opposed-green}
use Rattle.tick_context.proofs.Striding.{after-last}
use Rattle.look_back.specs.declared.frame_history.FrameHistory.{FrameHistory}
use Rattle.look_back.specs.Again.{FrameGoesOn, AllGoOn}
use Rattle.look_back.specs.FrameHistories.{LooksOver}
use Rattle.observer.specs.Inputs.{AreOn, seen-on}

-- what is remembered, except what is looked over
pub record ToldBack (on : PhaseSet) (past : Past) : Type 0 where
  pub inputs : AreOn on past
  pub within : (n : ℕ) → is_in_step (frame_seen past) past.version n ≡ true → (frame_seen past).counter < cycle_time past.tables n

-- the counter of the tick is within the cycle, if it is coordinated in a pattern
within-on : (mode : Mode) (j : ℕ) (past : Past) → Lasts mode (suc j) past → Goes mode past
    → (n : ℕ) → is_in_step (next_moment past).frame past.version n ≡ true → (next_moment past).frame.counter < cycle_time past.tables n
within-on Free j past l g n step =
    absurd (false≢true (sym (free-apart (next_moment past).frame past.version n ((goes-alike Free j past l).mode ∙ l.was)) ∙ step))
within-on (Coord i) j past l g n step =
    let is : (next_moment past).frame.mode ≡ Coord i = (goes-alike (Coord i) j past l).mode ∙ l.was in
    let mine : (i == n) ≡ true =
    ap (λ (x : Mode). same_mode x (Coord n)) (sym is)
    ∙ (and_parts (same_mode (next_moment past).frame.mode (Coord n)) ((next_moment past).frame.version == past.version) step).0 in
    let next : (next_moment past).frame.counter ≡ (frame_seen past).counter + 1 = counter-next i j past l.fresh l.goes l.was g.now in
    let cycle : (frame_seen past).counter + suc j < cycle_time past.tables i = l.goes.cycle in
    let few : (next_moment past).frame.counter < cycle_time past.tables i = omega (arith, next, cycle) in
    subst (λ (x : ℕ). (next_moment past).frame.counter < cycle_time past.tables x) ((Decides-eqb i n).0 mine) few
within-on Start j past l g n step = absurd l.goes
within-on (Seek i) j past l g n step = absurd l.goes
within-on Ending j past l g n step = absurd l.goes
within-on Flash j past l g n step = absurd l.goes
within-on (Entry i) j past l g n step = absurd l.goes
within-on (Track i) j past l g n step = absurd l.goes
within-on (Dwell i) j past l g n step = absurd l.goes
within-on (Exit i) j past l g n step = absurd l.goes

-- one tick
told-on : (mode : Mode) (j : ℕ) (inputs : PhaseSet) (past : Past) → ToldBack inputs past → Lasts mode (suc j) past
    → ToldBack inputs (with_moment past (next_moment past))
told-on mode j inputs past k l = record {
  inputs = seen-on inputs past (next_moment past) (sym (seen-is past)) k.inputs;
  within = within-on mode j past l (tick-goes mode j past l);
}

-- and all of them
pub told-after : (n : ℕ) (mode : Mode) (inputs : PhaseSet) (past : Past) → ToldBack inputs past → Lasts mode n past
    → ToldBack inputs (after n past)
told-after zero mode inputs past k l = k
told-after (suc zero) mode inputs past k l = told-on mode zero inputs past k l
told-after (suc (suc j)) mode inputs past k l =
    told-after (suc j) mode inputs (with_moment past (next_moment past)) (told-on mode (suc j) inputs past k l)
    (lasts-less mode (suc j) past l)

-- the moments of the next N ticks, the newest first
abbrev pub more : ℕ → Past → List Moment
more zero past = []
more (suc k) past = next_moment (after k past) ∷ more k past

pub moments-after : (n : ℕ) (past : Past) → (after n past).moments ≡ more n past ++ past.moments
moments-after zero past = refl
moments-after (suc k) past =
    ap (λ (p : Past). p.moments) (sym (after-last k past)) ∙ ap (λ (ms : List Moment). next_moment (after k past) ∷ ms) (moments-after k past)

pub more-long : (n : ℕ) (past : Past) → length (more n past) ≡ n
more-long zero past = refl
more-long (suc k) past = ap suc (more-long k past)

-- what is seen of the phases is seen again
looks-after : (k j : ℕ) (mode : Mode) (s : TickInputs) (past : Past) → Lasts mode (k + j) past → Looks (bound mode) s past → Looks (bound mode) s (after k past)
looks-after zero j mode s past l looks = looks
looks-after (suc k) j mode s past l looks =
    let sum : suc k + j ≡ suc (k + j) = omega arith in
    let more : Lasts mode (suc (k + j)) past = subst (λ (n : ℕ). Lasts mode n past) sum l in
    let a = goes-alike mode (k + j) past more in
    looks-after k j mode s (with_moment past (next_moment past)) (lasts-less mode (k + j) past more)
    (looks-on (bound mode) s past a (seen-again (bound mode) past more.fresh a) looks)

-- the counter of the tick is one more, if it is coordinated in a pattern
counter-goes : (mode : Mode) (j : ℕ) (past : Past) → Lasts mode (suc j) past → Goes mode past → (n : ℕ) → mode ≡ Coord n
    → (next_moment past).frame.counter ≡ (frame_seen past).counter + 1
counter-goes (Coord i) j past l g n e = counter-next i j past l.fresh l.goes l.was g.now
counter-goes Free j past l g n e = absurd (cc e)
counter-goes Start j past l g n e = absurd l.goes
counter-goes (Seek i) j past l g n e = absurd l.goes
counter-goes Ending j past l g n e = absurd l.goes
counter-goes Flash j past l g n e = absurd l.goes
counter-goes (Entry i) j past l g n e = absurd l.goes
counter-goes (Track i) j past l g n e = absurd l.goes
counter-goes (Dwell i) j past l g n e = absurd l.goes
counter-goes (Exit i) j past l g n e = absurd l.goes

-- such a tick continues with the last frame
goes-next : (mode : Mode) (j : ℕ) (s : TickInputs) (past : Past) → Lasts mode (suc j) past → Looks (bound mode) s past
    → FrameGoesOn s.active s.opposed (next_moment past) past.moments
goes-next mode j s past l looks =
    let g = tick-goes mode j past l in
    let a = goes-alike mode j past l in
    record {
      shows = record { veh = a.veh; ped = a.ped; on = a.on; mode = a.mode; version = a.version };
      counter = λ n e. counter-goes mode j past l g n (sym (a.mode ∙ l.was) ∙ e);
      quiet = λ p i. ap (λ (m : Mode). is_in (quiet_with (bound m) past) p) g.now ∙ looks.quiet p i;
      opposed = λ p i.
          opposed-green past p i
          ∙ ap (λ (b : Bool). is_green (frame_seen past) p && b)
          (ap (λ (m : Mode). is_in (opposed_with (bound m) past) p) g.now ∙ sym (looks.opposed p i));
      preempts = λ i above within. ap (λ (xs : List ℕ). is_in xs i) (sym (seen-is past) ∙ l.beside);
    }

-- so do all of N ticks, if it lasts for N and some more
pub all-go-on : (n j : ℕ) (mode : Mode) (s : TickInputs) (past : Past) → Lasts mode (n + j) past → Looks (bound mode) s past
    → AllGoOn s.active s.opposed (more n past) past.moments
all-go-on zero j mode s past l looks = tt
all-go-on (suc k) j mode s past l looks =
    let sum : suc k + j ≡ k + suc j = omega arith in
    let more : Lasts mode (k + suc j) past = subst (λ (n : ℕ). Lasts mode n past) sum l in (
      subst (λ (ms : List Moment). FrameGoesOn s.active s.opposed (next_moment (after k past)) ms) (moments-after k past)
          (goes-next mode j s (after k past) (lasts-after k j mode past more) (looks-after k (suc j) mode s past more looks)),
      all-go-on k (suc j) mode s past more looks,
    )

-- what continues with moments of which there is one at least
pub pushed : (old new : FrameHistory) (active opposed : PhaseSet) (n : ℕ) (past ms : List Moment)
    → ((last : Moment) (before rest : List Moment) → LooksOver old (last ∷ before) → length rest ≡ n → last.frame.counter + n ≤ 4294967295
    → AllGoOn active opposed rest (last ∷ before) → LooksOver new (rest ++ last ∷ before))
    → 0 < length past → LooksOver old past → length ms ≡ n → (last_frame past).counter + n ≤ 4294967295 → AllGoOn active opposed ms past
    → LooksOver new (ms ++ past)
pushed old new active opposed n [] ms push some looks long few on = absurd (omega (arith, some))
pushed old new active opposed n (last ∷ before) ms push some looks long few on = push last before ms looks long few on
