-- While an overlap isn't Red, some parent was Green so lately that it hasn't cleared.
use Rattle.std.proofs.Common.{◌≡◌, ◌≢◌, inl, inr, ℕ, zero, suc, ◌+◌, ◌<◌, ◌≤◌, ◌==◌, Bool, true, false, if◌then◌else◌, List, [], ◌∷◌, refl, sym, ◌∙◌, arith}
use Rattle.std.proofs.lemmas.Bool.{cases_Bool, false≢true}
use Rattle.sig_types.specs.declared.frame.Colour.{Colour}
use Rattle.sig_types.specs.declared.frame.Colour.TheVariants.{Green, Yellow, Clear, Red}
use Rattle.sig_types.specs.Colour.{same_colour}
use Rattle.sig_types.specs.Phases.{is_in, some}
use Rattle.sig_types.proofs.Lists.{eq-true, in-head, in-tail}
use Rattle.safety_laws.specs.Safe.{Intersection, colour_at}
use Rattle.overlap_run.specs.declared.overlap.Timing.{Timing}
use Rattle.overlap_run.specs.Overlap.{has_trail, run, shown_after, colours, last_colour, greens_to, overlap_at}
use Rattle.overlap_run.specs.Street.{parent_green, CanOverlap, IsCovered, IsApart}
use Rattle.overlap_run.proofs.Clearing.{clears}

-- some parent was Green at a tick, that many ticks ago at most
record Lately (shows : ℕ → Bool) (n most : ℕ) : Type 0 where
  at : ℕ
  green : shows at ≡ true
  past : at ≤ n
  near : n ≤ at + most

lately-more : (shows : ℕ → Bool) (n most more : ℕ) → Lately shows n most → most + 1 ≤ more → Lately shows (suc n) more
lately-more shows n most more l h = record {
  at = l.at;
  green = l.green;
  past = let a : l.at ≤ n = l.past in omega (arith, a);
  near = let a : n ≤ l.at + most = l.near in omega (arith, a, h);
}

trail-zero : (shows : ℕ → Bool) (n : ℕ) → has_trail 0 (greens_to shows n) ≡ shows n
trail-zero shows zero = refl
trail-zero shows (suc n) = refl

trail-last : (shows : ℕ → Bool) (k : ℕ) → has_trail (suc k) (greens_to shows 0) ≡ true → shows 0 ≡ true
trail-last shows k h = elim (cases_Bool (shows 0)) [
  | inl hit ↦ hit
  | inr miss ↦ absurd (false≢true (rw miss at h))
]

-- within a trail some parent was Green
trail-found : (shows : ℕ → Bool) (k n : ℕ) → has_trail k (greens_to shows n) ≡ true → Lately shows n k
trail-found shows zero n h = record { at = n; green = sym (trail-zero shows n) ∙ h; past = omega arith; near = omega arith }
trail-found shows (suc k) zero h = record { at = 0; green = trail-last shows k h; past = omega arith; near = omega arith }
trail-found shows (suc k) (suc n) h = elim (cases_Bool (shows (suc n))) [
  | inl hit ↦ record { at = suc n; green = hit; past = omega arith; near = omega arith }
  | inr miss ↦ lately-more shows n k (suc k) (trail-found shows k n (rw miss at h)) (omega arith)
]

-- how lately, by what the overlap shows
abbrev Goes : Timing → (ℕ → Bool) → ℕ → List Colour → Colour → Type 0
Goes t shows n past Green = Lately shows n t.trail
Goes t shows n past Yellow = Lately shows n (t.trail + run Yellow past) × (run Yellow past ≤ t.yellow)
Goes t shows n past Clear = Lately shows n (t.trail + t.yellow + run Clear past) × (run Clear past ≤ t.red)
Goes t shows n past Red = Unit {0}

-- a tick more, from each colour; `past` is what was shown before
from-red : (t : Timing) (shows : ℕ → Bool) (n : ℕ) (past : List Colour)
    → Goes t shows (suc n) ((if shows (suc n) then Green else Red) ∷ past) (if shows (suc n) then Green else Red)
from-red t shows n past = elim (cases_Bool (shows (suc n))) [
  | inl hit ↦ rw hit (record { at = suc n; green = hit; past = omega arith; near = omega arith })
  | inr miss ↦ rw miss tt
]

from-green : (t : Timing) (shows : ℕ → Bool) (n : ℕ) (past : List Colour) (held : Bool) → 0 < t.yellow → held ≡ has_trail t.trail (greens_to shows (suc n))
    → Lately shows n t.trail → Goes t shows (suc n) ((if held then Green else Yellow) ∷ Green ∷ past) (if held then Green else Yellow)
from-green t shows n past true lasting held l = trail-found shows t.trail (suc n) (sym held)
from-green t shows n past false lasting held l = (lately-more shows n t.trail (t.trail + 1) l (omega arith), omega (arith, lasting))

from-yellow : (t : Timing) (shows : ℕ → Bool) (n : ℕ) (past : List Colour) (over none : Bool) → over ≡ (run Yellow (Yellow ∷ past) == t.yellow)
    → none ≡ (t.red == 0) → Lately shows n (t.trail + run Yellow (Yellow ∷ past)) → run Yellow (Yellow ∷ past) ≤ t.yellow
    → Goes t shows (suc n) ((if over then (if none then Red else Clear) else Yellow) ∷ Yellow ∷ past) (if over then (if none then Red else Clear) else Yellow)
from-yellow t shows n past true true over none l few = tt
from-yellow t shows n past true false over none l few =
    let whole : run Yellow past + 1 ≡ t.yellow = eq-true _ _ (sym over) in
    (lately-more shows n (t.trail + (run Yellow past + 1)) (t.trail + t.yellow + 1) l (omega (arith, whole)), some-red t.red (sym none))
  where
    some-red : (red : ℕ) → (red == 0) ≡ false → 1 ≤ red
    some-red red h = grind arith
from-yellow t shows n past false none over none-is l few = (
  lately-more shows n (t.trail + (run Yellow past + 1)) (t.trail + (run Yellow past + 1 + 1)) l (omega arith),
  less-by-one (run Yellow past + 1) t.yellow few (sym over),
)
  where
    less-by-one : (a b : ℕ) → a ≤ b → (a == b) ≡ false → a + 1 ≤ b
    less-by-one a b h ne = grind arith

from-clear : (t : Timing) (shows : ℕ → Bool) (n : ℕ) (past : List Colour) (over : Bool) → over ≡ (run Clear (Clear ∷ past) == t.red)
    → Lately shows n (t.trail + t.yellow + run Clear (Clear ∷ past)) → run Clear (Clear ∷ past) ≤ t.red
    → Goes t shows (suc n) ((if over then Red else Clear) ∷ Clear ∷ past) (if over then Red else Clear)
from-clear t shows n past true over l few = tt
from-clear t shows n past false over l few = (
  lately-more shows n (t.trail + t.yellow + (run Clear past + 1)) (t.trail + t.yellow + (run Clear past + 1 + 1)) l (omega arith),
  less-by-one (run Clear past + 1) t.red few (sym over),
)
  where
    less-by-one : (a b : ℕ) → a ≤ b → (a == b) ≡ false → a + 1 ≤ b
    less-by-one a b h ne = grind arith

from-any : (t : Timing) (shows : ℕ → Bool) (n : ℕ) (shown : Colour) (past : List Colour) → 0 < t.yellow → Goes t shows n (shown ∷ past) shown
    → Goes t shows (suc n) (shown_after t (greens_to shows (suc n)) (shown ∷ past) ∷ shown ∷ past) (shown_after t (greens_to shows (suc n)) (shown ∷ past))
from-any t shows n Red past lasting l = from-red t shows n (Red ∷ past)
from-any t shows n Green past lasting l = from-green t shows n past _ lasting refl l
from-any t shows n Yellow past lasting l = from-yellow t shows n past _ _ refl refl l.0 l.1
from-any t shows n Clear past lasting l = from-clear t shows n past _ refl l.0 l.1

goes-first : (t : Timing) (shows : ℕ → Bool) → Goes t shows 0 (colours t (greens_to shows 0)) (overlap_at t shows 0)
goes-first t shows = tt

goes-after : (t : Timing) (shows : ℕ → Bool) (n : ℕ) (past : List Colour) → 0 < t.yellow → past ≢ [] → Goes t shows n past (last_colour past)
    → Goes t shows (suc n) (shown_after t (greens_to shows (suc n)) past ∷ past) (shown_after t (greens_to shows (suc n)) past)
goes-after t shows n [] lasting some l = absurd (some refl)
goes-after t shows n (shown ∷ past) lasting some l = from-any t shows n shown past lasting l

some-colours : (t : Timing) (shows : ℕ → Bool) (n : ℕ) → colours t (greens_to shows n) ≢ []
some-colours t shows zero = grind arith
some-colours t shows (suc n) = grind arith

goes : (t : Timing) (shows : ℕ → Bool) (n : ℕ) → 0 < t.yellow → Goes t shows n (colours t (greens_to shows n)) (overlap_at t shows n)
goes t shows zero lasting = tt
goes t shows (suc n) lasting = goes-after t shows n (colours t (greens_to shows n)) lasting (some-colours t shows n) (goes t shows n lasting)

lately-within : (shows : ℕ → Bool) (n most more : ℕ) → Lately shows n most → most ≤ more → Lately shows n more
lately-within shows n most more l h = record {
  at = l.at;
  green = l.green;
  past = l.past;
  near = let a : n ≤ l.at + most = l.near in omega (arith, a, h);
}

-- so whatever it shows but Red
not-red : (t : Timing) (shows : ℕ → Bool) (n : ℕ) (past : List Colour) (shown : Colour) → Goes t shows n past shown → shown ≢ Red
    → Lately shows n (t.trail + t.yellow + t.red)
not-red t shows n past Green l ne = lately-within shows n t.trail _ l (omega arith)
not-red t shows n past Yellow l ne = lately-within shows n _ _ l.0 (let few : run Yellow past ≤ t.yellow = l.1 in omega (arith, few))
not-red t shows n past Clear l ne = lately-within shows n _ _ l.0 (let few : run Clear past ≤ t.red = l.1 in omega (arith, few))
not-red t shows n past Red l ne = absurd (ne refl)

same-green : (c : Colour) → same_colour c Green ≡ true → c ≡ Green
same-green Green h = refl
same-green Yellow h = absurd (grind (arith, h))
same-green Clear h = absurd (grind (arith, h))
same-green Red h = absurd (grind (arith, h))

some-found : (test : ℕ → Bool) (xs : List ℕ) → some test xs ≡ true → (p : ℕ) × (is_in xs p ≡ true) × (test p ≡ true)
some-found test [] h = absurd (grind (arith, h))
some-found test (x ∷ xs) h = elim (cases_Bool (test x)) [
  | inl hit ↦ (x, in-head x xs, hit)
  | inr miss ↦ (let (p, inside, passes) = some-found test xs (rw miss at h) in (p, in-tail x xs p inside, passes))
]

pub covered : (t : Timing) (parents : List ℕ) (s : Intersection) (last : ℕ) → CanOverlap t parents s last → (tick : ℕ) → IsCovered t parents s tick
covered t parents s last can tick shown =
    let l : Lately (parent_green s parents) tick (t.trail + t.yellow + t.red) =
    not-red t (parent_green s parents) tick _ _ (goes t (parent_green s parents) tick can.lasting) shown in
    let (p, inside, passes) = some-found (λ q. same_colour (colour_at s q l.at) Green) parents l.green in (
      p,
      inside,
      clears s last p (t.trail + t.yellow + t.red) l.at can.safe (can.phases p inside) can.versions
          (λ v w old also. can.within p v w inside old also) tick (same-green _ passes) l.past l.near,
    )

pub apart : (t : Timing) (parents : List ℕ) (s : Intersection) (last : ℕ) → CanOverlap t parents s last → (tick : ℕ) → IsApart t parents s tick
apart t parents s last can tick shown q against =
    let (p, inside, lit) = covered t parents s last can tick shown in
    elim ((can.safe.apart tick).colours p q (against p inside)) [
      | inl red ↦ absurd (lit red)
      | inr red ↦ red
    ]
