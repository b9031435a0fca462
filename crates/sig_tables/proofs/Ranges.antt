-- What the ranges of the cells say of the numbers in the rows.
use Rattle.std.proofs.Common.{◌≡◌, ℕ, ◌≤◌, true, List, length, refl, arith, rules, Ok}
use Rattle.std.proofs.lemmas.Bool.Decides.{nat_tests}
use Rattle.sig_tables.specs.declared.tables.Tables.{Tables}
use Rattle.sig_tables.specs.declared.cells.Allowed.TheVariants.{Numbers, Lists}
use Rattle.sig_tables.specs.declared.cells.Cell.TheVariants.{Phase, Sequence, Split, Pattern as PatternCell, Preempt as PreemptCell, Unit as UnitCell}
use Rattle.sig_tables.specs.Cells.{Number, Octets, lies, phase_content, preempt_content, pattern_of, preempt_of, entry_of}
use Rattle.sig_tables.specs.Columns.{split_number, pattern_number, unit_number}
use Rattle.sig_tables.specs.Ranges.{fits_in, phase_allowed, split_allowed, preempt_allowed, unit_allowed}
use Rattle.sig_tables.specs.Tables.{listed, list_of, row}
use Rattle.sig_tables.specs.Putting.{EachFits}
use Rattle.sig_tables.specs.InRange.{PhaseInRange, EntryInRange, PatternInRange, PreemptInRange, UnitInRange, InRange}

-- a column lies there
lies-true : (n least most : ℕ) → lies n least most ≡ true → (least ≤ n) × (n ≤ most)
lies-true n least most t = search (rules, nat_tests)

-- a number that fits lies in the range
number-lies : (least most n : ℕ) → fits_in (Numbers least most) (Number n) ≡ Ok tt → (least ≤ n) × (n ≤ most)
number-lies least most n f = (grind (arith, nat_tests), grind (arith, nat_tests))

at-most : (most n : ℕ) → fits_in (Numbers 0 most) (Number n) ≡ Ok tt → n ≤ most
at-most most n f = (number-lies 0 most n f).1

-- a list that fits has at most 16 octets
few-octets : (octets : List ℕ) → fits_in Lists (Octets octets) ≡ Ok tt → length octets ≤ 16
few-octets octets f = grind (arith, nat_tests)

phase-in-range : (t : Tables) → EachFits t → (p : ℕ) → 1 ≤ p → p ≤ 16 → PhaseInRange (row t p)
phase-in-range t fits p first last = record {
  walk = at-most 255 (row t p).walk (at 2 refl);
  pedestrian_clear = at-most 255 (row t p).pedestrian_clear (at 3 refl);
  minimum_green = at-most 255 (row t p).minimum_green (at 4 refl);
  passage = at-most 255 (row t p).passage (at 5 refl);
  maximum = at-most 255 (row t p).maximum (at 6 refl);
  second_maximum = at-most 255 (row t p).second_maximum (at 7 refl);
  yellow_change = at-most 255 (row t p).yellow_change (at 8 refl);
  red_clear = at-most 255 (row t p).red_clear (at 9 refl);
  red_revert = at-most 255 (row t p).red_revert (at 10 refl);
  least_startup = (number-lies 1 6 (row t p).startup (at 20 refl)).0;
  startup = (number-lies 1 6 (row t p).startup (at 20 refl)).1;
  options = at-most 65535 (row t p).options (at 21 refl);
  ring = at-most 255 (row t p).ring (at 22 refl);
  concurrency = few-octets (listed (row t p).concurrency) (at 23 refl);
}
  where
    at : (c : ℕ) → lies c 2 23 ≡ true → fits_in (phase_allowed c) (phase_content (row t p) c) ≡ Ok tt
    at c there = let column = lies-true c 2 23 there in fits (Phase p c) (first, last, column.0, column.1)

entry-in-range : (t : Tables) → EachFits t → (s p : ℕ) → 1 ≤ s → s ≤ 32 → 1 ≤ p → p ≤ 16 → EntryInRange (entry_of t s p)
entry-in-range t fits s p least most first last = record {
  time = at-most 255 (entry_of t s p).time (at 3 refl);
  least_mode = (number-lies 1 7 (entry_of t s p).mode (at 4 refl)).0;
  mode = (number-lies 1 7 (entry_of t s p).mode (at 4 refl)).1;
  coordinated = at-most 1 (entry_of t s p).coordinated (at 5 refl);
}
  where
    at : (c : ℕ) → lies c 3 5 ≡ true → fits_in (split_allowed c) (Number (split_number (entry_of t s p) c)) ≡ Ok tt
    at c there = let column = lies-true c 3 5 there in fits (Split s p c) (least, most, first, last, column.0, column.1)

pattern-in-range : (t : Tables) → EachFits t → (n : ℕ) → 1 ≤ n → n ≤ 48 → PatternInRange (pattern_of t n)
pattern-in-range t fits n first last = record {
  cycle = at-most 255 (pattern_of t n).cycle (at 2 refl);
  offset = at-most 255 (pattern_of t n).offset (at 3 refl);
  split = at-most 255 (pattern_of t n).split (at 4 refl);
  sequence = at-most 255 (pattern_of t n).sequence (at 5 refl);
}
  where
    at : (c : ℕ) → lies c 2 5 ≡ true → fits_in (Numbers 0 255) (Number (pattern_number (pattern_of t n) c)) ≡ Ok tt
    at c there = let column = lies-true c 2 5 there in fits (PatternCell n c) (first, last, column.0, column.1)

preempt-in-range : (t : Tables) → EachFits t → (i : ℕ) → 1 ≤ i → i ≤ 8 → PreemptInRange (preempt_of t i)
preempt-in-range t fits i first last = record {
  delay = at-most 600 (preempt_of t i).delay (at 4 refl);
  minimum_duration = at-most 65535 (preempt_of t i).minimum_duration (at 5 refl);
  minimum_green = at-most 255 (preempt_of t i).minimum_green (at 6 refl);
  minimum_walk = at-most 255 (preempt_of t i).minimum_walk (at 7 refl);
  enter_pedestrian_clear = at-most 255 (preempt_of t i).enter_pedestrian_clear (at 8 refl);
  track_green = at-most 255 (preempt_of t i).track_green (at 9 refl);
  dwell_green = at-most 255 (preempt_of t i).dwell_green (at 10 refl);
  maximum_presence = at-most 65535 (preempt_of t i).maximum_presence (at 11 refl);
  track_phases = few-octets (listed (preempt_of t i).track_phases) (at 12 refl);
  dwell_phases = few-octets (listed (preempt_of t i).dwell_phases) (at 13 refl);
  dwell_pedestrians = few-octets (listed (preempt_of t i).dwell_pedestrians) (at 14 refl);
  exit_phases = few-octets (listed (preempt_of t i).exit_phases) (at 15 refl);
}
  where
    at : (c : ℕ) → lies c 4 15 ≡ true → fits_in (preempt_allowed c) (preempt_content (preempt_of t i) c) ≡ Ok tt
    at c there = let column = lies-true c 4 15 there in fits (PreemptCell i c) (first, last, column.0, column.1)

unit-in-range : (t : Tables) → EachFits t → UnitInRange t.unit
unit-in-range t fits = record {
  least_mode = (number-lies 1 4 t.unit.mode (at 1 refl)).0;
  mode = (number-lies 1 4 t.unit.mode (at 1 refl)).1;
  dwell = at-most 2550 t.unit.dwell (at 2 refl);
  add = at-most 2550 t.unit.add (at 3 refl);
  subtract = at-most 2550 t.unit.subtract (at 4 refl);
  backup = at-most 65535 t.unit.backup (at 5 refl);
  extension = at-most 2550 t.unit.extension (at 6 refl);
  least_force_mode = (number-lies 1 2 t.unit.force_mode (at 7 refl)).0;
  force_mode = (number-lies 1 2 t.unit.force_mode (at 7 refl)).1;
  least_reference = (number-lies 1 2 t.unit.reference (at 8 refl)).0;
  reference = (number-lies 1 2 t.unit.reference (at 8 refl)).1;
}
  where
    at : (n : ℕ) → lies n 1 8 ≡ true → fits_in (unit_allowed n) (Number (unit_number t.unit n)) ≡ Ok tt
    at n there = let place = lies-true n 1 8 there in fits (UnitCell n) (place.0, place.1)

pub in-range : (t : Tables) → EachFits t → InRange t
in-range t fits = record {
  phases = phase-in-range t fits;
  sequences = λ s r ls hs lr hr. few-octets (listed (list_of t s r)) (fits (Sequence s r) (ls, hs, lr, hr));
  splits = entry-in-range t fits;
  patterns = pattern-in-range t fits;
  preempts = preempt-in-range t fits;
  unit = unit-in-range t fits;
}
