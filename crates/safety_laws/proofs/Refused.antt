-- What the definition of a safe street refuses.
use Rattle.std.proofs.Common.{◌≡◌, ◌<◌, ◌≤◌, ℕ, true, false, nat_le, [], ◌∷◌, inl, inr, refl, arith}
use Rattle.std.proofs.lemmas.Bool.{le-leb, lt-leb, cases_lt}
use Rattle.sig_types.specs.declared.frame.Colour.{Colour}
use Rattle.sig_types.specs.declared.frame.Colour.TheVariants.{Green, Yellow, Clear, Red}
use Rattle.sig_types.specs.declared.frame.Ped.{Ped}
use Rattle.sig_types.specs.declared.frame.Ped.TheVariants.{Walk, Flash, Dont}
use Rattle.sig_types.specs.declared.frame.Mode.{Mode}
use Rattle.sig_types.specs.declared.frame.Mode.TheVariants.{Free, Entry}
use Rattle.sig_tables.specs.declared.tables.Tables.{Tables}
use Rattle.sig_tables.specs.Standard.{max8, standard, pair}
use Rattle.tick_laws.proofs.Choices.{differs, differs-signal}
use Rattle.safety_laws.specs.Safe.{Intersection, intersection_of, colour_at, signal_at, Interval}
use Rattle.safety_laws.specs.Rows.{IsRefused, IsRefusedWith, line_in, second_line, conflict, two_walks, disabled_lit, no_yellow, short_yellow}
use Rattle.safety_laws.specs.Rows.{long_yellow, no_clear, short_clear, long_clear, short_green, short_walk, long_walk, no_flash, short_flash, long_flash}
use Rattle.safety_laws.specs.Rows.{walk_on_red, slow_yellow, newest_yellow, preempted, short_green_on_entry, short_yellow_on_entry, short_walk_on_entry, short_flash_on_entry}

-- the first of two lines holds until the second
module _ (tables : ℕ → Tables) (mode : Mode) (colour next : Colour) (signal later : Ped) (end : ℕ) where
  abbrev two_lines : Intersection
  two_lines = intersection_of 1 tables (second_line 0 colour signal ∷ line_in mode 0 end next later ∷ [])

  colour-stands : (tick : ℕ) → tick < end → colour_at two_lines 2 tick ≡ colour
  colour-stands tick h =
      let n : 0 ≤ tick = omega arith in
      let first : nat_le 0 tick ≡ true = le-leb 0 tick n in
      let second : nat_le end tick ≡ false = lt-leb end tick h in
      rw (first, second) refl

  signal-stands : (tick : ℕ) → tick < end → signal_at two_lines 2 tick ≡ signal
  signal-stands tick h =
      let n : 0 ≤ tick = omega arith in
      let first : nat_le 0 tick ≡ true = le-leb 0 tick n in
      let second : nat_le end tick ≡ false = lt-leb end tick h in
      rw (first, second) refl

  colour-interval : 0 < end → (colour_at two_lines 2 end ≡ colour → ⊥) → Interval (λ tick. colour_at two_lines 2 tick ≡ colour) 0 end
  colour-interval some ends = record {
    some = some;
    during = λ tick low high. colour-stands tick high;
    before = λ tick e. absurd (omega (arith, e));
    after = ends;
  }

  signal-interval : 0 < end → (signal_at two_lines 2 end ≡ signal → ⊥) → Interval (λ tick. signal_at two_lines 2 tick ≡ signal) 0 end
  signal-interval some ends = record {
    some = some;
    during = λ tick low high. signal-stands tick high;
    before = λ tick e. absurd (omega (arith, e));
    after = ends;
  }

abbrev fixed : ℕ → Tables
fixed version = max8

pub conflict-refused : IsRefused conflict
unfolding max8 standard
conflict-refused safe = elim ((safe.apart 0).colours 1 2 refl) [ inl e ↦ differs Green Red refl e | inr e ↦ differs Green Red refl e ]

pub two_walks-refused : IsRefused two_walks
unfolding max8 standard
two_walks-refused safe = elim ((safe.apart 0).signals 2 4 refl) [ inl e ↦ differs-signal Walk Dont refl e | inr e ↦ differs-signal Walk Dont refl e ]

pub disabled_lit-refused : IsRefused disabled_lit
unfolding max8 standard
disabled_lit-refused safe = differs Green Red refl ((safe.apart 0).disabled 9 refl refl).0

pub no_yellow-refused : IsRefused no_yellow
unfolding max8 standard
no_yellow-refused safe = differs Red Yellow refl ((safe.follows 2 99 refl).colour (differs Red Green refl))

pub short_yellow-refused : IsRefused short_yellow
unfolding max8 standard
short_yellow-refused safe =
    let e : 39 ≡ 40 = (safe.lasts 2 0 39 refl).yellow (colour-interval fixed Free Yellow Clear Dont Dont 39 (omega arith) (differs Clear Yellow refl)) in
    absurd (omega (arith, e))

pub long_yellow-refused : IsRefused long_yellow
unfolding max8 standard
long_yellow-refused safe =
    let e : 41 ≡ 40 = (safe.lasts 2 0 41 refl).yellow (colour-interval fixed Free Yellow Clear Dont Dont 41 (omega arith) (differs Clear Yellow refl)) in
    absurd (omega (arith, e))

pub no_clear-refused : IsRefused no_clear
unfolding max8 standard
no_clear-refused safe = differs Red Clear refl ((safe.follows 2 39 refl).colour (differs Red Yellow refl))

pub short_clear-refused : IsRefused short_clear
unfolding max8 standard
short_clear-refused safe =
    let e : 14 ≡ 15 = (safe.lasts 2 0 14 refl).clear (colour-interval fixed Free Clear Red Dont Dont 14 (omega arith) (differs Red Clear refl)) in
    absurd (omega (arith, e))

pub long_clear-refused : IsRefused long_clear
unfolding max8 standard
long_clear-refused safe =
    let e : 16 ≡ 15 = (safe.lasts 2 0 16 refl).clear (colour-interval fixed Free Clear Red Dont Dont 16 (omega arith) (differs Red Clear refl)) in
    absurd (omega (arith, e))

pub short_green-refused : IsRefused short_green
unfolding max8 standard
short_green-refused safe =
    let e : 100 ≤ 99 = (safe.lasts 2 0 99 refl).green (colour-interval fixed Free Green Yellow Dont Dont 99 (omega arith) (differs Yellow Green refl)) in
    absurd (omega (arith, e))

pub short_walk-refused : IsRefused short_walk
unfolding max8 standard
short_walk-refused safe =
    let e : 70 ≤ 69 = ((safe.lasts 2 0 69 refl).walk (signal-interval fixed Free Green Green Walk Flash 69 (omega arith) (differs-signal Flash Walk refl))).0 in
    absurd (omega (arith, e))

pub long_walk-refused : IsRefused long_walk
unfolding max8 standard
long_walk-refused safe =
    let e : 71 ≤ 70 = ((safe.lasts 2 0 71 refl).walk (signal-interval fixed Free Green Green Walk Flash 71 (omega arith) (differs-signal Flash Walk refl))).1 in
    absurd (omega (arith, e))

pub no_flash-refused : IsRefused no_flash
unfolding max8 standard
no_flash-refused safe = differs-signal Dont Flash refl ((safe.follows 2 69 refl).signal (differs-signal Dont Walk refl))

pub short_flash-refused : IsRefused short_flash
unfolding max8 standard
short_flash-refused safe =
    let e : 120 ≤ 119
    = ((safe.lasts 2 0 119 refl).flash (signal-interval fixed Free Green Green Flash Dont 119 (omega arith) (differs-signal Dont Flash refl))).0 in
    absurd (omega (arith, e))

pub long_flash-refused : IsRefused long_flash
unfolding max8 standard
long_flash-refused safe =
    let e : 121 ≤ 120
    = ((safe.lasts 2 0 121 refl).flash (signal-interval fixed Free Green Green Flash Dont 121 (omega arith) (differs-signal Dont Flash refl))).1 in
    absurd (omega (arith, e))

pub walk_on_red-refused : IsRefused walk_on_red
walk_on_red-refused safe = elim (safe.on_green 2 0 refl) [ inl e ↦ differs-signal Walk Dont refl e | inr e ↦ differs Red Green refl e ]

-- of three lines the first two are of one colour
newest-stands : (tick : ℕ) → tick < 50 → colour_at (intersection_of 1 slow_yellow newest_yellow) 2 tick ≡ Yellow
newest-stands tick h =
    let n : 0 ≤ tick = omega arith in
    let first : nat_le 0 tick ≡ true = le-leb 0 tick n in
    let third : nat_le 50 tick ≡ false = lt-leb 50 tick h in
    elim (cases_lt tick 10) [
      | inl low ↦ let second : nat_le 10 tick ≡ false = lt-leb 10 tick low in rw (first, second, third) refl
      | inr high ↦ let second : nat_le 10 tick ≡ true = le-leb 10 tick high in rw (first, second, third) refl
    ]

pub newest_yellow-refused : IsRefusedWith slow_yellow newest_yellow
unfolding max8 standard slow_yellow
newest_yellow-refused safe =
    let e : 50 ≡ 40 = (safe.lasts 2 0 50 refl).yellow (record {
      some = omega arith;
      during = λ tick low high. newest-stands tick high;
      before = λ tick e. absurd (omega (arith, e));
      after = differs Clear Yellow refl;
    }) in
    absurd (omega (arith, e))

pub short_green_on_entry-refused : IsRefusedWith (preempted (pair 4 8)) short_green_on_entry
unfolding max8 standard preempted
short_green_on_entry-refused safe =
    let e : 50 ≤ 49
    = (safe.lasts 2 0 49 refl).green (colour-interval (preempted (pair 4 8)) (Entry 1) Green Yellow Dont Dont 49 (omega arith) (differs Yellow Green refl)) in
    absurd (omega (arith, e))

pub short_yellow_on_entry-refused : IsRefusedWith (preempted (pair 4 8)) short_yellow_on_entry
unfolding max8 standard preempted
short_yellow_on_entry-refused safe =
    let e : 39 ≡ 40
    = (safe.lasts 2 0 39 refl).yellow (colour-interval (preempted (pair 4 8)) (Entry 1) Yellow Clear Dont Dont 39 (omega arith) (differs Clear Yellow refl)) in
    absurd (omega (arith, e))

pub short_walk_on_entry-refused : IsRefusedWith (preempted (pair 4 8)) short_walk_on_entry
unfolding max8 standard preempted
short_walk_on_entry-refused safe =
    let e : 40 ≤ 39
    = ((safe.lasts 2 0 39 refl).walk
    (signal-interval (preempted (pair 4 8)) (Entry 1) Green Green Walk Flash 39 (omega arith) (differs-signal Flash Walk refl))).0 in
    absurd (omega (arith, e))

pub short_flash_on_entry-refused : IsRefusedWith (preempted (pair 4 8)) short_flash_on_entry
unfolding max8 standard preempted
short_flash_on_entry-refused safe =
    let e : 80 ≤ 79
    = ((safe.lasts 2 0 79 refl).flash
    (signal-interval (preempted (pair 4 8)) (Entry 1) Green Green Flash Dont 79 (omega arith) (differs-signal Dont Flash refl))).0 in
    absurd (omega (arith, e))
