-- What is seen of the parents from tick to tick.
use Rattle.std.proofs.Common.{◌≡◌, ◌≢◌, ℕ, ◌+◌, ◌<◌, ◌≤◌, ◌&&◌, Bool, true, false, not, nat_le, if◌then◌else◌, List, [], ◌∷◌, length, drop, get_or, IsTrue, ◌↔◌, refl, sym, ◌∙◌, ap, subst, arith}
use Rattle.std.proofs.lemmas.List.{drop_more}
use Rattle.sig_types.specs.declared.frame.Colour.{Colour}
use Rattle.sig_types.specs.declared.frame.Colour.TheVariants.{Green}
use Rattle.sig_types.specs.declared.frame.Frame.{Frame}
use Rattle.sig_types.specs.declared.phase_set.PhaseSet.{PhaseSet}
use Rattle.sig_types.specs.PhaseSet.{has, phases_of}
use Rattle.sig_types.specs.Colour.{same_colour, colour_in}
use Rattle.sig_types.specs.Phases.{is_in, all_phases, some}
use Rattle.sig_types.proofs.Lists.{phase-in}
use Rattle.sig_types.proofs.Sets.{some-same, some-those, listed-phase, empty-is}
use Rattle.overlap_run.specs.Parents.{parents_of, shows_green, green_by, green_at, Rise, AreFrames, IsSeen}

not-not : (b : Bool) → not (not b) ≡ b
not-not true = refl
not-not false = refl

-- one of the parents is Green where the set of both has a phase
pub green-is : (parents shown both : PhaseSet) (veh : List Colour) (none : Bool) → ((p : ℕ) → has both p ≡ (has parents p && has shown p))
    → ((p : ℕ) → 0 < p → p ≤ 16 → has shown p ≡ same_colour (colour_in veh p) Green)
    → (IsTrue none ↔ (phases_of both ≡ [])) → not none ≡ shows_green (parents_of parents) veh
unfolding parents_of
green-is parents shown both veh none meet green is =
    let same : (p : ℕ) → is_in all_phases p ≡ true → has both p ≡ (has parents p && same_colour (colour_in veh p) Green) =
    λ p listed. meet p ∙ ap (λ b. has parents p && b) (green p (phase-in p (listed-phase p listed)).0 (phase-in p (listed-phase p listed)).1) in
    ap not (empty-is both none is) ∙ not-not (some (has both) all_phases)
    ∙ some-same (has both) (λ p. has parents p && same_colour (colour_in veh p) Green) all_phases same
    ∙ sym (some-those (λ p. same_colour (colour_in veh p) Green) (has parents) all_phases)

at-or-before : (a b : ℕ) → a ≤ b → nat_le a b ≡ true
at-or-before a b h = grind arith

is-later : (a b : ℕ) → b < a → nat_le a b ≡ false
is-later a b h = grind arith

-- frames that come later show nothing yet
pub none-yet : (parents : List ℕ) (tick first end : ℕ) (green : Bool) (frames : List (ℕ × Frame)) → tick < first → Rise first frames end
    → green_by parents tick green frames ≡ green
none-yet parents tick first end green [] low rise = refl
none-yet parents tick first end green (f ∷ frames) low rise =
    let above : nat_le f.0 tick ≡ false = is-later f.0 tick (let h : first ≤ f.0 = rise.0 in omega arith) in
    rw above (none-yet parents tick (f.0 + 1) end green frames (let h : first ≤ f.0 = rise.0 in omega arith) rise.1)

-- so the next of the frames is looked at when its tick comes
pub moves : (parents : List ℕ) (frames : List (ℕ × Frame)) (end done : ℕ) (green : Bool) (next : ℕ) (d : ℕ × Frame)
    → IsSeen parents frames end done green next → next < length frames → (get_or frames next d).0 ≡ done + 1
    → IsSeen parents frames end (done + 1) (shows_green parents (get_or frames next d).1.veh) (next + 1)
moves parents frames end done green next d s low is =
    let more : drop next frames ≡ get_or frames next d ∷ drop (next + 1) frames = drop_more frames next d low in
    let all : Rise (done + 1) (get_or frames next d ∷ drop (next + 1) frames) end = rw more at (s.rise) in
    record {
      seen = λ later from. s.seen later (omega arith) ∙ ap (green_by parents later green) more
          ∙ ap (λ (b : Bool). green_by parents later (if b then shows_green parents (get_or frames next d).1.veh else green) (drop (next + 1) frames))
          (at-or-before (get_or frames next d).0 later (omega arith));
      rise = rw is at (all.1);
    }

stays-risen : (frames : List (ℕ × Frame)) (done end : ℕ) → done + 1 < end → Rise (done + 1) frames end
    → ((f : ℕ × Frame) (rest : List (ℕ × Frame)) → frames ≡ f ∷ rest → f.0 ≢ done + 1) → Rise (done + 1 + 1) frames end
stays-risen [] done end low rise other = omega arith
stays-risen (f ∷ frames) done end low rise other =
    let not-now : f.0 ≢ done + 1 = other f frames refl in
    let from : done + 1 ≤ f.0 = rise.0 in
    (omega arith, rise.1)

-- and where its tick has not come, or there is none, nothing changes
pub stays : (parents : List ℕ) (frames : List (ℕ × Frame)) (end done : ℕ) (green : Bool) (next : ℕ)
    → IsSeen parents frames end done green next → done + 1 < end
    → ((f : ℕ × Frame) (rest : List (ℕ × Frame)) → drop next frames ≡ f ∷ rest → f.0 ≢ done + 1)
    → IsSeen parents frames end (done + 1) green next
stays parents frames end done green next s low other = record {
  seen = λ later from. s.seen later (omega arith);
  rise = stays-risen (drop next frames) done end low s.rise other;
}

-- at the tick itself a parent is Green as it was seen
pub seen-now : (parents : List ℕ) (frames : List (ℕ × Frame)) (end tick : ℕ) (green : Bool) (next : ℕ)
    → IsSeen parents frames end tick green next → green_at parents frames tick ≡ green
seen-now parents frames end tick green next s =
    s.seen tick (omega arith) ∙ none-yet parents tick (tick + 1) end green (drop next frames) (omega arith) s.rise

first-at : (parents : List ℕ) (frames : List (ℕ × Frame)) (ticks : ℕ) (d : ℕ × Frame) → AreFrames frames ticks
    → IsSeen parents frames (ticks + 1) 0 (shows_green parents (get_or frames 0 d).1.veh) 1
first-at parents [] ticks d h = absurd h
first-at parents (f ∷ frames) ticks d h =
    let zero_is : f.0 ≡ 0 = h.0 in
    record {
      seen = λ later from. ap (λ (b : Bool). green_by parents later (if b then shows_green parents f.1.veh else false) frames)
          (at-or-before f.0 later (omega arith));
      rise = h.1;
    }

-- at tick 0 it is the first of the frames that is seen
pub first-seen : (parents : List ℕ) (frames : List (ℕ × Frame)) (ticks : ℕ) (f : ℕ × Frame) → f ≡ get_or frames 0 f → AreFrames frames ticks
    → IsSeen parents frames (ticks + 1) 0 (shows_green parents f.1.veh) 1
first-seen parents frames ticks f is h =
    subst (λ (x : ℕ × Frame). IsSeen parents frames (ticks + 1) 0 (shows_green parents x.1.veh) 1) (sym is) (first-at parents frames ticks f h)
