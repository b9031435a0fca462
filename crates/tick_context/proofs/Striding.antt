-- Ticks that are skipped, in histories: what has come after them, and that their frames are plain.
use Rattle.std.proofs.Common.{◌≡◌, ◌≢◌, ◌<◌, ◌≤◌, ◌+◌, ◌-◌, ◌==◌, nat_le, ℕ, zero, suc, true, false, inl, inr}
use Rattle.std.proofs.Common.{Bool, List, [], ◌∷◌, refl, sym, ◌∙◌, ap, arith, subst}
use Rattle.std.proofs.lemmas.Bool.{false≢true, cases_Bool, leb-true, leb-false}
use Rattle.std.proofs.lemmas.Bool.Decides.{Decides-eqb}
use Rattle.sig_types.specs.declared.frame.Colour.{Colour}
use Rattle.sig_types.specs.declared.frame.Colour.TheVariants.{Green, Yellow, Clear, Red}
use Rattle.sig_types.specs.declared.frame.Ped.{Ped}
use Rattle.sig_types.specs.declared.frame.Ped.TheVariants.{Walk, Flash, Dont}
use Rattle.sig_types.specs.declared.frame.Frame.{Frame}
use Rattle.sig_types.specs.declared.frame.Mode.{Mode}
use Rattle.sig_types.specs.declared.frame.Mode.TheVariants.{Start, Free, Seek, Coord, Ending, Flash as InFlash, Entry, Track, Dwell, Exit}
use Rattle.sig_types.specs.Colour.{same_colours, same_signals, same_mode}
use Rattle.sig_tables.specs.Walking.{is_local_zero}
use Rattle.sig_tables.specs.Past.{Past, History}
use Rattle.sig_tables.specs.Decide.{past_at, ticked, decide, last_frame_of, with_moment, next_moment}
use Rattle.sig_tables.specs.Seen.{frame_seen}
use Rattle.preempt_stages.proofs.Goes.{same_mode-itself}
use Rattle.tick_context.specs.Strides.{has_line, ticks_more, is_told}
use Rattle.tick_context.specs.Lasting.{Lasts}
use Rattle.tick_context.proofs.TicksGoOn.{tick-goes, Alike, goes-alike}
use Rattle.tick_context.proofs.InStep.{counter-next, no-zero}
use Rattle.tick_context.proofs.Passed.{after, lasts-after}

-- what a history has reached after that many ticks more
pub after-last : (k : ℕ) (past : Past)
    → with_moment (after k past) (next_moment (after k past)) ≡ after k (with_moment past (next_moment past))
after-last zero past = refl
after-last (suc k) past = after-last k (with_moment past (next_moment past))

pub more-past : (k : ℕ) (h : History) → past_at (ticks_more k h) ≡ after k (past_at h)
more-past zero h = refl
more-past (suc k) h = ap (λ (p : Past). with_moment p (next_moment p)) (more-past k h) ∙ after-last k (past_at h)

pub more-more : (k d : ℕ) (h : History) → ticks_more k (ticks_more d h) ≡ ticks_more (d + k) h
more-more zero d h = let e : d ≡ d + 0 = omega arith in ap (λ (n : ℕ). ticks_more n h) e
more-more (suc k) d h = let e : suc (d + k) ≡ d + suc k = omega arith in ap ticked (more-more k d h) ∙ ap (λ (n : ℕ). ticks_more n h) e

told-more : (k d : ℕ) (h : History) → is_told (ticks_more d h) (suc k) ≡ is_told h (suc (d + k))
told-more k d h = ap (λ (x : History). has_line (last_frame_of x) (decide x)) (more-more k d h)

same-colours : (xs : List Colour) → same_colours xs xs ≡ true
same-colours [] = refl
same-colours (Green ∷ xs) = same-colours xs
same-colours (Yellow ∷ xs) = same-colours xs
same-colours (Clear ∷ xs) = same-colours xs
same-colours (Red ∷ xs) = same-colours xs

same-signals : (xs : List Ped) → same_signals xs xs ≡ true
same-signals [] = refl
same-signals (Walk ∷ xs) = same-signals xs
same-signals (Flash ∷ xs) = same-signals xs
same-signals (Dont ∷ xs) = same-signals xs

-- a frame is plain that shows what the one before it shows, and is not a local zero
like-plain : (f g : Frame) → Alike g f → is_local_zero g.mode g.counter f ≡ false → has_line f g ≡ false
like-plain f g a none =
    let colours : same_colours f.veh g.veh ≡ true = ap (λ (xs : List Colour). same_colours f.veh xs) a.veh ∙ same-colours f.veh in
    let signals : same_signals f.ped g.ped ≡ true = ap (λ (xs : List Ped). same_signals f.ped xs) a.ped ∙ same-signals f.ped in
    let mode : same_mode f.mode g.mode ≡ true = ap (λ (m : Mode). same_mode f.mode m) a.mode ∙ same_mode-itself f.mode in
    let version : (f.version == g.version) ≡ true = (Decides-eqb f.version g.version).1 (sym a.version) in
    rw (colours, signals, mode, version, none) refl

-- the tick of a cabinet that lasts is not a local zero
zero-not : (mode : Mode) (j : ℕ) (past : Past) → Lasts mode (suc j) past
    → is_local_zero (next_moment past).frame.mode (next_moment past).frame.counter (frame_seen past) ≡ false
zero-not Free j past l =
    let free : (next_moment past).frame.mode ≡ Free = (goes-alike Free j past l).mode ∙ l.was in
    ap (λ (m : Mode). is_local_zero m (next_moment past).frame.counter (frame_seen past)) free
zero-not (Coord n) j past l =
    no-zero (next_moment past).frame.mode (next_moment past).frame.counter (frame_seen past).counter (frame_seen past)
    (counter-next n j past l.fresh l.goes l.was (tick-goes (Coord n) j past l).now)
zero-not Start j past l = absurd l.goes
zero-not (Seek n) j past l = absurd l.goes
zero-not Ending j past l = absurd l.goes
zero-not InFlash j past l = absurd l.goes
zero-not (Entry i) j past l = absurd l.goes
zero-not (Track i) j past l = absurd l.goes
zero-not (Dwell i) j past l = absurd l.goes
zero-not (Exit i) j past l = absurd l.goes

-- so the frames of all of them are plain
pub lasts-plain : (k n : ℕ) (mode : Mode) (h : History) → k < n → Lasts mode n (past_at h) → is_told h (suc k) ≡ false
lasts-plain k n mode h less l =
    let j : ℕ = n - suc k in
    let parts : n ≡ k + suc (n - suc k) = omega (arith, less) in
    let past : Past = past_at (ticks_more k h) in
    let now : Lasts mode (suc j) (past_at (ticks_more k h)) =
    subst (λ (p : Past). Lasts mode (suc j) p) (sym (more-past k h))
    (lasts-after k j mode (past_at h) (subst (λ (x : ℕ). Lasts mode x (past_at h)) parts l)) in
    like-plain (last_frame_of (ticks_more k h)) (decide (ticks_more k h)) (goes-alike mode j (past_at (ticks_more k h)) now)
    (zero-not mode j (past_at (ticks_more k h)) now)

-- what the test of two frames said of the tick between them
pub told-by : (last next f g : Frame) (b : Bool) → b ≡ has_line last next → last ≡ f → next ≡ g → has_line f g ≡ b
told-by last next f g b e k l = rw (← k, ← l) (sym e)

-- after ticks with plain frames, one more and some that were skipped, all have plain frames
pub plain-on : (h : History) (done more : ℕ) → ((k : ℕ) → k ≤ done → is_told h k ≡ false) → is_told h (suc done) ≡ false
    → ((j : ℕ) → j < more → is_told (ticked (ticks_more done h)) (suc j) ≡ false) → (k : ℕ) → k ≤ done + 1 + more → is_told h k ≡ false
plain-on h done more before now then k within = elim (cases_Bool (nat_le k done)) [
  | inl e ↦ before k (leb-true k done e)
  | inr e ↦ let above : done < k = leb-false k done e in elim (cases_Bool (k == suc done)) [
    | inl g ↦ ap (is_told h) ((Decides-eqb k (suc done)).0 g) ∙ now
    | inr g ↦
        let other : k ≢ suc done = λ x. absurd (false≢true (sym g ∙ (Decides-eqb k (suc done)).1 x)) in
        let few : k - suc (suc done) < more = omega (arith, within, above, other) in
        let place : suc (suc done + (k - suc (suc done))) ≡ k = omega (arith, above, other) in
        sym (told-more (k - suc (suc done)) (suc done) h ∙ ap (is_told h) place) ∙ then (k - suc (suc done)) few
  ]
]
