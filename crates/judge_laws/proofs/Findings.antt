-- What the tests find of a line is what a safe street shows none of.
use Rattle.std.proofs.Common.{◌≡◌, ◌≢◌, ℕ, ◌+◌, ◌<◌, ◌≤◌, ◌==◌, nat_le, nat_lt, Bool, true, false, not, ◌&&◌, ◌||◌, List, [], refl, sym, ◌∙◌, ap, arith, inl, inr, ◌⊎◌}
use Rattle.std.proofs.lemmas.Bool.{both_ways, false≢true, le-leb, leb-true, lt-ltb, ltb-true, cases_lt}
use Rattle.std.proofs.lemmas.Bool.Decides.{Decides-eqb}
use Rattle.sig_types.specs.declared.frame.Colour.{Colour}
use Rattle.sig_types.specs.declared.frame.Colour.TheVariants.{Green, Yellow, Clear, Red}
use Rattle.sig_types.specs.declared.frame.Ped.{Ped}
use Rattle.sig_types.specs.declared.frame.Ped.TheVariants.{Walk, Flash, Dont}
use Rattle.sig_types.specs.Colour.{same_colour, same_signal}
use Rattle.sig_types.specs.Phases.{is_phase, all_phases, is_in}
use Rattle.sig_types.proofs.Lists.{phase-listed}
use Rattle.sig_types.proofs.Sets.{listed-phase}
use Rattle.sig_tables.specs.declared.tables.Tables.{Tables}
use Rattle.sig_tables.specs.Tables.{listed, row, is_enabled, yellow_time, red_clear_time}
use Rattle.sig_tables.specs.Sides.{are_incompatible, are_concurrent}
use Rattle.tick_laws.proofs.Choices.{same-self, same-is, same-self-signal, same-is-signal, differs, differs-signal}
use Rattle.safety_laws.specs.Safe.{Indications, next_colour, next_signal}
use Rattle.judge_laws.specs.declared.Clause.TheVariants.{Apart, Order, Clearance, ShortGreen, Pedestrian, OnGreen}
use Rattle.judge_laws.specs.declared.Breach.{Breach}
use Rattle.judge_laws.specs.Breaches.{exact, colour_of, signal_of, shows, gives, newest, first_of, ends, ends_wrong, ends_clearance_wrong, ends_green_wrong, ends_walk_wrong, are_together, is_lit_off, is_out_of_order, breaks_order, yellow_lasts, clear_lasts, green_lasts, walk_lasts, flash_lasts, found, breach_at, each, phase_breaches, frame_breaches}
use Rattle.judge_laws.proofs.Tests.{and-not, not-and, and-true-not, not-true-and, and-true, not-false, false-not, true-not, not-true, either, or-first, or-second, both-of, of-both, found-none, none-found, append-none, none-append, each-none, none-each, first-of-four, neither-of, of-neither}
use Rattle.judge_laws.proofs.Parts.{Moved, YellowDue, ClearDue, GreenDue, WalkDue, FlashDue, Fine, is-shown, is-given}

-- lengths to the tick
early : (end first time : ℕ) → nat_le (first + time) (end + 0) ≡ true → first + time ≤ end
early end first time e = let a : first + time ≤ end + 0 = leb-true (first + time) (end + 0) e in omega (arith, a)

as-early : (end first time : ℕ) → first + time ≤ end → nat_le (first + time) (end + 0) ≡ true
as-early end first time h = le-leb (first + time) (end + 0) (omega (arith, h))

between : (end first least time : ℕ) → (nat_le (first + least) (end + 0) && nat_le end (first + time + 0)) ≡ true → (first + least ≤ end) × (end ≤ first + time)
between end first least time e =
    let b = both-of (nat_le (first + least) (end + 0)) (nat_le end (first + time + 0)) e in
    let late : end ≤ first + time + 0 = leb-true end (first + time + 0) b.1 in
    (early end first least b.0, omega (arith, late))

as-between : (end first least time : ℕ) → (first + least ≤ end) × (end ≤ first + time) → (nat_le (first + least) (end + 0) && nat_le end (first + time + 0)) ≡ true
as-between end first least time h =
    of-both _ _ (as-early end first least h.0) (le-leb end (first + time + 0) (omega (arith, h.1)))

exactly : (end first time : ℕ) → (nat_le (first + time) (end + 0) && nat_le end (first + time + 0)) ≡ true → end ≡ first + time
exactly end first time e = let b : (first + time ≤ end) × (end ≤ first + time) = between end first time time e in omega (arith, b.0, b.1)

as-exactly : (end first time : ℕ) → end ≡ first + time → (nat_le (first + time) (end + 0) && nat_le end (first + time + 0)) ≡ true
as-exactly end first time h = as-between end first time time (omega (arith, h), omega (arith, h))

-- what a test of an interval finds, if the test of its length says how long it must last
pub ends-none : (holds : Indications → Bool) (test : ℕ × Indications → ℕ × Indications → Bool) (D : ℕ × Indications → ℕ × Indications → Type 0)
    → ((first end : ℕ × Indications) → test first end ≡ true → D first end)
    → (older : List (ℕ × Indications)) (line : ℕ × Indications) → ends_wrong false holds test older line ≡ false
    → holds (newest older) ≡ true → holds line.1 ≡ false → D (first_of holds older) line
ends-none holds test D says older line none was now =
    says (first_of holds older) line
    (and-true-not (ends holds older line) (test (first_of holds older) line) none
    (of-both (holds (newest older)) (not (holds line.1)) was (true-not (holds line.1) now)))

pub none-ends : (holds : Indications → Bool) (test : ℕ × Indications → ℕ × Indications → Bool) (D : ℕ × Indications → ℕ × Indications → Type 0)
    → ((first end : ℕ × Indications) → D first end → test first end ≡ true)
    → (older : List (ℕ × Indications)) (line : ℕ × Indications)
    → (holds (newest older) ≡ true → holds line.1 ≡ false → D (first_of holds older) line)
    → ends_wrong false holds test older line ≡ false
none-ends holds test D says older line due =
    not-true-and (ends holds older line) (test (first_of holds older) line) (λ e.
    let b : (holds (newest older) ≡ true) × (not (holds line.1) ≡ true) = both-of (holds (newest older)) (not (holds line.1)) e in
    says (first_of holds older) line (due b.0 (not-true (holds line.1) b.1)))

-- concurrency is of both
or-turn : (a b : Bool) → (a || b) ≡ (b || a)
or-turn true true = refl
or-turn true false = refl
or-turn false true = refl
or-turn false false = refl

pub turned : (t : Tables) (p q : ℕ) → are_incompatible t p q ≡ true → are_incompatible t q p ≡ true
turned t p q h = turn (is_enabled t p) (is_enabled t q) (p == q) (q == p) (is_in (listed (row t p).concurrency) q) (is_in (listed (row t q).concurrency) p) (turn-eq (q == p) refl) h
  where
    turn-eq : (b : Bool) → (q == p) ≡ b → (p == q) ≡ false → (q == p) ≡ false
    turn-eq false e n = e
    turn-eq true e n = absurd (both_ways (p == q) n ((Decides-eqb p q).1 (sym ((Decides-eqb q p).0 e))))

    turn : (a b c d m n : Bool) → (c ≡ false → d ≡ false) → (a && b && not c && not (a && b && (m || n))) ≡ true → (b && a && not d && not (b && a && (n || m))) ≡ true
    turn true true false false m n e h = ap not (or-turn n m) ∙ h
    turn true true false true m n e h = absurd (false≢true (sym (e refl)))
    turn true true true d m n e h = absurd (false≢true h)
    turn true false c d m n e h = absurd (false≢true h)
    turn false b c d m n e h = absurd (false≢true h)

-- two incompatible phases are two
pub apart-phases : (t : Tables) (p q : ℕ) → are_incompatible t p q ≡ true → p ≡ q → ⊥
apart-phases t p q h e = none (is_enabled t p) (is_enabled t q) (p == q) (not (are_concurrent t p q)) ((Decides-eqb p q).1 e) h
  where
    none : (a b c d : Bool) → c ≡ true → (a && b && not c && d) ≡ true → ⊥
    none true true true d e h = false≢true h
    none true true false d e h = false≢true e
    none true false c d e h = false≢true h
    none false b c d e h = false≢true h

enabled-phase : (t : Tables) (p : ℕ) → is_enabled t p ≡ true → is_phase p ≡ true
enabled-phase t p e = (both-of (is_phase p) _ e).0

pub of-phases : (t : Tables) (p q : ℕ) → are_incompatible t p q ≡ true → (is_phase p ≡ true) × (is_phase q ≡ true)
of-phases t p q h =
    let b : (is_enabled t p ≡ true) × (is_enabled t q ≡ true) = first-of-four (is_enabled t p) (is_enabled t q) (not (p == q)) (not (are_concurrent t p q)) h in
    (enabled-phase t p b.0, enabled-phase t q b.1)

-- tests of two colours, and of two signals
one-red : (x : Indications) (p q : ℕ) → (shows Red p x || shows Red q x) ≡ true → (colour_of x p ≡ Red) ⊎ (colour_of x q ≡ Red)
one-red x p q h = elim (either (shows Red p x) (shows Red q x) h) [
  | inl e ↦ inl (same-is (colour_of x p) Red e)
  | inr e ↦ inr (same-is (colour_of x q) Red e)
]

red-one : (x : Indications) (p q : ℕ) → (colour_of x p ≡ Red) ⊎ (colour_of x q ≡ Red) → (shows Red p x || shows Red q x) ≡ true
red-one x p q (inl e) = or-first (shows Red p x) (shows Red q x) (is-shown Red p x e)
red-one x p q (inr e) = or-second (shows Red p x) (shows Red q x) (is-shown Red q x e)

one-dont : (x : Indications) (p q : ℕ) → (gives Dont p x || gives Dont q x) ≡ true → (signal_of x p ≡ Dont) ⊎ (signal_of x q ≡ Dont)
one-dont x p q h = elim (either (gives Dont p x) (gives Dont q x) h) [
  | inl e ↦ inl (same-is-signal (signal_of x p) Dont e)
  | inr e ↦ inr (same-is-signal (signal_of x q) Dont e)
]

dont-one : (x : Indications) (p q : ℕ) → (signal_of x p ≡ Dont) ⊎ (signal_of x q ≡ Dont) → (gives Dont p x || gives Dont q x) ≡ true
dont-one x p q (inl e) = or-first (gives Dont p x) (gives Dont q x) (is-given Dont p x e)
dont-one x p q (inr e) = or-second (gives Dont p x) (gives Dont q x) (is-given Dont q x e)

swap : {A B : Type 0} → A ⊎ B → B ⊎ A
swap (inl a) = inr a
swap (inr b) = inl b

-- the tests of what a line shows
pub not-together : (t : Tables) (x : Indications) (p q : ℕ) → are_together t x p q ≡ false → are_incompatible t p q ≡ true
    → ((colour_of x p ≡ Red) ⊎ (colour_of x q ≡ Red)) × ((signal_of x p ≡ Dont) ⊎ (signal_of x q ≡ Dont))
not-together t x p q none h =
    let b : ((shows Red p x || shows Red q x) ≡ true) × ((gives Dont p x || gives Dont q x) ≡ true)
    = both-of (shows Red p x || shows Red q x) (gives Dont p x || gives Dont q x) (and-not (are_incompatible t p q) _ none h) in
    (one-red x p q b.0, one-dont x p q b.1)

pub together-not : (t : Tables) (x : Indications) (p q : ℕ)
    → (are_incompatible t p q ≡ true → ((colour_of x p ≡ Red) ⊎ (colour_of x q ≡ Red)) × ((signal_of x p ≡ Dont) ⊎ (signal_of x q ≡ Dont)))
    → are_together t x p q ≡ false
together-not t x p q apart =
    not-and (are_incompatible t p q) ((shows Red p x || shows Red q x) && (gives Dont p x || gives Dont q x)) (λ h.
    let b : ((colour_of x p ≡ Red) ⊎ (colour_of x q ≡ Red)) × ((signal_of x p ≡ Dont) ⊎ (signal_of x q ≡ Dont)) = apart h in
    of-both (shows Red p x || shows Red q x) (gives Dont p x || gives Dont q x) (red-one x p q b.0) (dont-one x p q b.1))

pub not-lit : (t : Tables) (x : Indications) (p : ℕ) → is_lit_off t x p ≡ false → is_enabled t p ≡ false → (colour_of x p ≡ Red) × (signal_of x p ≡ Dont)
not-lit t x p none off =
    let b : (shows Red p x ≡ true) × (gives Dont p x ≡ true)
    = both-of (shows Red p x) (gives Dont p x) (and-not (not (is_enabled t p)) (shows Red p x && gives Dont p x) none (true-not (is_enabled t p) off)) in
    (same-is (colour_of x p) Red b.0, same-is-signal (signal_of x p) Dont b.1)

pub lit-not : (t : Tables) (x : Indications) (p : ℕ) → (is_enabled t p ≡ false → (colour_of x p ≡ Red) × (signal_of x p ≡ Dont)) → is_lit_off t x p ≡ false
lit-not t x p none =
    not-and (not (is_enabled t p)) (shows Red p x && gives Dont p x) (λ e.
    let b : (colour_of x p ≡ Red) × (signal_of x p ≡ Dont) = none (not-true (is_enabled t p) e) in
    of-both (shows Red p x) (gives Dont p x) (is-shown Red p x b.0) (is-given Dont p x b.1))

pub on-green : (x : Indications) (p : ℕ) → not (gives Dont p x || shows Green p x) ≡ false → (signal_of x p ≡ Dont) ⊎ (colour_of x p ≡ Green)
on-green x p none = elim (either (gives Dont p x) (shows Green p x) (not-false _ none)) [
  | inl e ↦ inl (same-is-signal (signal_of x p) Dont e)
  | inr e ↦ inr (same-is (colour_of x p) Green e)
]

pub green-on : (x : Indications) (p : ℕ) → (signal_of x p ≡ Dont) ⊎ (colour_of x p ≡ Green) → not (gives Dont p x || shows Green p x) ≡ false
green-on x p (inl e) = false-not (gives Dont p x || shows Green p x) (or-first (gives Dont p x) (shows Green p x) (is-given Dont p x e))
green-on x p (inr e) = false-not (gives Dont p x || shows Green p x) (or-second (gives Dont p x) (shows Green p x) (is-shown Green p x e))

-- the test of what follows
follows-colour : (new old next : Colour) → (same_colour new old || same_colour new next) ≡ true → new ≢ old → new ≡ next
follows-colour new old next h ne = elim (either (same_colour new old) (same_colour new next) h) [
  | inl e ↦ absurd (ne (same-is new old e))
  | inr e ↦ same-is new next e
]

colour-follows : (new old next : Colour) → (new ≢ old → new ≡ next) → (same_colour new old || same_colour new next) ≡ true
colour-follows new old next f = split (same_colour new old) refl
  where
    split : (b : Bool) → same_colour new old ≡ b → (b || same_colour new next) ≡ true
    split true e = refl
    split false e = ap (λ (y : Colour). same_colour y next) (f (differs new old e)) ∙ same-self next

follows-signal : (new old next : Ped) → (same_signal new old || same_signal new next) ≡ true → new ≢ old → new ≡ next
follows-signal new old next h ne = elim (either (same_signal new old) (same_signal new next) h) [
  | inl e ↦ absurd (ne (same-is-signal new old e))
  | inr e ↦ same-is-signal new next e
]

signal-follows : (new old next : Ped) → (new ≢ old → new ≡ next) → (same_signal new old || same_signal new next) ≡ true
signal-follows new old next f = split (same_signal new old) refl
  where
    split : (b : Bool) → same_signal new old ≡ b → (b || same_signal new next) ≡ true
    split true e = refl
    split false e = ap (λ (y : Ped). same_signal y next) (f (differs-signal new old e)) ∙ same-self-signal next

module _ (tables : ℕ → Tables) where
  pub in-order : (last x : Indications) (p : ℕ) → is_out_of_order (tables x.version) last x p ≡ false → Moved tables p last x
  in-order last x p none =
      let b : ((same_colour (colour_of x p) (colour_of last p) || same_colour (colour_of x p) (next_colour (tables x.version) p (colour_of last p))) ≡ true)
      × ((same_signal (signal_of x p) (signal_of last p) || same_signal (signal_of x p) (next_signal (tables x.version) x.mode p (signal_of last p))) ≡ true)
      = both-of (same_colour (colour_of x p) (colour_of last p) || same_colour (colour_of x p) (next_colour (tables x.version) p (colour_of last p))) _ (not-false _ none) in
      record {
        colour = follows-colour (colour_of x p) (colour_of last p) _ b.0;
        signal = follows-signal (signal_of x p) (signal_of last p) _ b.1;
      }

  pub order-in : (last x : Indications) (p : ℕ) → Moved tables p last x → is_out_of_order (tables x.version) last x p ≡ false
  order-in last x p m = false-not _ (of-both _ _
      (colour-follows (colour_of x p) (colour_of last p) (next_colour (tables x.version) p (colour_of last p)) m.colour)
      (signal-follows (signal_of x p) (signal_of last p) (next_signal (tables x.version) x.mode p (signal_of last p)) m.signal))

  module _ (cab : ℕ) (older : List (ℕ × Indications)) (line : ℕ × Indications) where
    -- no test of phase p finds any
    pub record Nothing (p : ℕ) : Type 0 where
      pub apart : (q : ℕ) → is_phase q ≡ true → (nat_lt p q && are_together (tables line.1.version) line.1 p q) ≡ false
      pub lit : is_lit_off (tables line.1.version) line.1 p ≡ false
      pub order : breaks_order false tables p older line ≡ false
      pub yellow : ends_wrong false (shows Yellow p) (yellow_lasts 0 tables p) older line ≡ false
      pub clear : ends_wrong false (shows Clear p) (clear_lasts 0 tables p) older line ≡ false
      pub green : ends_wrong false (shows Green p) (green_lasts 0 tables p) older line ≡ false
      pub walk : ends_wrong false (gives Walk p) (walk_lasts 0 tables p) older line ≡ false
      pub flash : ends_wrong false (gives Flash p) (flash_lasts 0 tables p) older line ≡ false
      pub on_green : not (gives Dont p line.1 || shows Green p line.1) ≡ false

    abbrev pairs : ℕ → ℕ → List Breach
    pairs p q = found (nat_lt p q && are_together (tables line.1.version) line.1 p q) (breach_at cab line.0 Apart p q)

    pub nothing-of : (p : ℕ) → phase_breaches exact cab tables older line p ≡ [] → Nothing p
    nothing-of p h =
        let a = append-none (each (pairs p) all_phases) _ h in
        let b = append-none (found (is_lit_off (tables line.1.version) line.1 p) (breach_at cab line.0 Apart p 0)) _ a.1 in
        let c = append-none (found (breaks_order false tables p older line) (breach_at cab line.0 Order p 0)) _ b.1 in
        let d = append-none (found (ends_clearance_wrong exact tables p older line) (breach_at cab line.0 Clearance p 0)) _ c.1 in
        let f = append-none (found (ends_green_wrong exact tables p older line) (breach_at cab line.0 ShortGreen p 0)) _ d.1 in
        let i = append-none (found (ends_walk_wrong exact tables p older line) (breach_at cab line.0 Pedestrian p 0)) _ f.1 in
        let k = neither-of (ends_wrong false (shows Yellow p) (yellow_lasts 0 tables p) older line) _ (found-none _ _ d.0) in
        let w = neither-of (ends_wrong false (gives Walk p) (walk_lasts 0 tables p) older line) _ (found-none _ _ i.0) in
        record {
          apart = λ q ph. found-none _ _ (each-none (pairs p) all_phases a.0 q (phase-listed q ph));
          lit = found-none _ _ b.0;
          order = found-none _ _ c.0;
          yellow = k.0;
          clear = k.1;
          green = found-none _ _ f.0;
          walk = w.0;
          flash = w.1;
          on_green = found-none _ _ i.1;
        }

    pub of-nothing : (p : ℕ) → Nothing p → phase_breaches exact cab tables older line p ≡ []
    of-nothing p n =
        none-append _ _ (none-each (pairs p) all_phases (λ q i. none-found _ (breach_at cab line.0 Apart p q) (n.apart q (listed-phase q i))))
        (none-append _ _ (none-found _ (breach_at cab line.0 Apart p 0) n.lit)
        (none-append _ _ (none-found _ (breach_at cab line.0 Order p 0) n.order)
        (none-append _ _ (none-found _ (breach_at cab line.0 Clearance p 0) (of-neither _ _ n.yellow n.clear))
        (none-append _ _ (none-found _ (breach_at cab line.0 ShortGreen p 0) n.green)
        (none-append _ _ (none-found _ (breach_at cab line.0 Pedestrian p 0) (of-neither _ _ n.walk n.flash))
        (none-found _ (breach_at cab line.0 OnGreen p 0) n.on_green))))))

    -- for all phases
    together : ((p : ℕ) → is_phase p ≡ true → Nothing p) → (p q : ℕ) → are_incompatible (tables line.1.version) p q ≡ true
        → ((colour_of line.1 p ≡ Red) ⊎ (colour_of line.1 q ≡ Red)) × ((signal_of line.1 p ≡ Dont) ⊎ (signal_of line.1 q ≡ Dont))
    together n p q h =
        let ph : (is_phase p ≡ true) × (is_phase q ≡ true) = of-phases (tables line.1.version) p q h in
        elim (cases_lt p q) [
          | inl low ↦ not-together (tables line.1.version) line.1 p q (found-low p q low ((n p ph.0).apart q ph.1)) h
          | inr high ↦
              let ne : p ≢ q = apart-phases (tables line.1.version) p q h in
              let low : q < p = omega (arith, high, ne) in
              let b : ((colour_of line.1 q ≡ Red) ⊎ (colour_of line.1 p ≡ Red)) × ((signal_of line.1 q ≡ Dont) ⊎ (signal_of line.1 p ≡ Dont))
              = not-together (tables line.1.version) line.1 q p (found-low q p low ((n q ph.1).apart p ph.0)) (turned (tables line.1.version) p q h) in
              (swap b.0, swap b.1)
        ]
      where
        found-low : (p q : ℕ) → p < q → (nat_lt p q && are_together (tables line.1.version) line.1 p q) ≡ false → are_together (tables line.1.version) line.1 p q ≡ false
        found-low p q low h = sym (ap (λ (b : Bool). b && are_together (tables line.1.version) line.1 p q) (lt-ltb p q low)) ∙ h

    pub nothing-fine : ((p : ℕ) → is_phase p ≡ true → Nothing p) → Fine tables older line
    nothing-fine n = record {
      still = record {
        colours = λ p q h. (together n p q h).0;
        signals = λ p q h. (together n p q h).1;
        disabled = λ p ph off. not-lit (tables line.1.version) line.1 p (n p ph).lit off;
        on_green = λ p ph. on-green line.1 p (n p ph).on_green;
      };
      moved = λ p ph some. in-order (newest older) line.1 p
          (sym (ap (λ (b : Bool). b && is_out_of_order (tables line.1.version) (newest older) line.1 p) (lt-ltb 0 line.0 some))
          ∙ sym (and-true (nat_lt 0 line.0) (is_out_of_order (tables line.1.version) (newest older) line.1 p)) ∙ (n p ph).order);
      yellow = λ p ph. ends-none (shows Yellow p) (yellow_lasts 0 tables p) (YellowDue tables p)
          (λ first end e. exactly end.0 first.0 (yellow_time (tables first.1.version) p) e) older line (n p ph).yellow;
      clear = λ p ph. ends-none (shows Clear p) (clear_lasts 0 tables p) (ClearDue tables p)
          (λ first end e. exactly end.0 first.0 (red_clear_time (tables first.1.version) p) e) older line (n p ph).clear;
      green = λ p ph. ends-none (shows Green p) (green_lasts 0 tables p) (GreenDue tables p)
          (λ first end e. early end.0 first.0 _ e) older line (n p ph).green;
      walk = λ p ph. ends-none (gives Walk p) (walk_lasts 0 tables p) (WalkDue tables p)
          (λ first end e. between end.0 first.0 _ _ e)
          older line (n p ph).walk;
      flash = λ p ph. ends-none (gives Flash p) (flash_lasts 0 tables p) (FlashDue tables p)
          (λ first end e. between end.0 first.0 _ _ e)
          older line (n p ph).flash;
    }

    pub fine-nothing : Fine tables older line → (p : ℕ) → is_phase p ≡ true → Nothing p
    fine-nothing fine p ph = record {
      apart = λ q qh. second (nat_lt p q) (together-not (tables line.1.version) line.1 p q (λ h. (fine.still.colours p q h, fine.still.signals p q h)));
      lit = lit-not (tables line.1.version) line.1 p (λ off. fine.still.disabled p ph off);
      order = and-true (nat_lt 0 line.0) (is_out_of_order (tables line.1.version) (newest older) line.1 p) ∙ first-none (nat_lt 0 line.0) (is_out_of_order (tables line.1.version) (newest older) line.1 p) (λ e. order-in (newest older) line.1 p (fine.moved p ph (ltb-true 0 line.0 e)));
      yellow = none-ends (shows Yellow p) (yellow_lasts 0 tables p) (YellowDue tables p)
          (λ first end e. as-exactly end.0 first.0 (yellow_time (tables first.1.version) p) e) older line (fine.yellow p ph);
      clear = none-ends (shows Clear p) (clear_lasts 0 tables p) (ClearDue tables p)
          (λ first end e. as-exactly end.0 first.0 (red_clear_time (tables first.1.version) p) e) older line (fine.clear p ph);
      green = none-ends (shows Green p) (green_lasts 0 tables p) (GreenDue tables p)
          (λ first end e. as-early end.0 first.0 _ e) older line (fine.green p ph);
      walk = none-ends (gives Walk p) (walk_lasts 0 tables p) (WalkDue tables p)
          (λ first end e. as-between end.0 first.0 _ _ e) older line (fine.walk p ph);
      flash = none-ends (gives Flash p) (flash_lasts 0 tables p) (FlashDue tables p)
          (λ first end e. as-between end.0 first.0 _ _ e) older line (fine.flash p ph);
      on_green = green-on line.1 p (fine.still.on_green p ph);
    }
      where
        second : (a : Bool) {b : Bool} → b ≡ false → (a && b) ≡ false
        second true e = e
        second false e = refl

        first-none : (a b : Bool) → (a ≡ true → b ≡ false) → (a && b) ≡ false
        first-none true b f = f refl
        first-none false b f = refl

    pub none-fine : frame_breaches exact cab tables older line ≡ [] → Fine tables older line
    none-fine h = nothing-fine (λ p ph. nothing-of p (each-none (phase_breaches exact cab tables older line) all_phases h p (phase-listed p ph)))

    pub fine-none : Fine tables older line → frame_breaches exact cab tables older line ≡ []
    fine-none fine = none-each (phase_breaches exact cab tables older line) all_phases (λ p i. of-nothing p (fine-nothing fine p (listed-phase p i)))
