-- The numbers that an answer tells stay those of an INTEGER.
use Rattle.std.proofs.Common.{◌≡◌, ◌≤◌, ◌<◌, ℕ, ◌==◌, ◌&&◌, ◌∙◌, Bool, true, false, inl, inr, if◌then◌else◌, nat_le, [], ◌∷◌, refl, sym, ap, subst, arith}
use Rattle.std.proofs.lemmas.Nat.{mod_below}
use Rattle.std.proofs.lemmas.Bool.{and_parts, and_from, leb-true, false≢true}
use Rattle.std.proofs.lemmas.Bool.Decides.{eqb_tells}
use Rattle.sig_types.specs.declared.frame.Mode.{Mode}
use Rattle.sig_types.specs.declared.frame.Mode.TheVariants.{Start, Free, Seek, Coord, Ending, Flash, Entry, Track, Dwell, Exit}
use Rattle.sig_types.specs.Colour.{same_mode}
use Rattle.sig_tables.specs.declared.tables.Tables.{Tables}
use Rattle.sig_tables.specs.Cells.{pattern_of}
use Rattle.sig_tables.specs.Putting.{EachFits}
use Rattle.sig_tables.specs.Slots.{is_defined, cycle_time}
use Rattle.sig_tables.specs.Clock.{clock_now, target_in}
use Rattle.sig_tables.specs.Choosing.{mode_reached}
use Rattle.sig_tables.specs.Counters.{counter_in}
use Rattle.sig_tables.specs.Past.{Past}
use Rattle.sig_tables.specs.Seen.{mode_seen}
use Rattle.sig_tables.specs.Decide.{next_moment, with_moment}
use Rattle.sig_tables.proofs.Ranges.{in-range}
use Rattle.cab_book.specs.declared.control.Control.{Control}
use Rattle.cab_book.specs.Controls.{ControlKeeps}
use Rattle.cab_book.proofs.Facts.{within-cycle}
use Rattle.tick_context.proofs.Steps.{coord-defined, seek-defined}
use Rattle.tick_context.proofs.Counted.{some-cycle}
use Rattle.cab_book.specs.CabinetStands.{IsShowable}

same_number : (n : ℕ) → (n == n) ≡ true
same_number n = elim (eqb_tells n n) [ inl (t, e) ↦ t | inr (t, ne) ↦ absurd (ne refl) ]

cycle-few : (t : Tables) (n : ℕ) → EachFits t → is_defined t n ≡ true → cycle_time t n ≤ 2550
cycle-few t n fits d =
    let parts = and_parts (nat_le 1 n && nat_le n 48) (nat_le 1 (pattern_of t n).cycle) d in
    let place = and_parts (nat_le 1 n) (nat_le n 48) parts.0 in
    let few : (pattern_of t n).cycle ≤ 255 = ((in-range t fits).patterns n (leb-true 1 n place.0) (leb-true n 48 place.1)).cycle in
    omega (arith, few)

-- coordinated the counter is within the cycle
in-step-few : (c : Control) (past : Past) (n : ℕ) → ControlKeeps c (with_moment past (next_moment past)) → EachFits past.tables
    → mode_seen past ≡ Coord n → (next_moment past).frame.counter ≤ 2147483647
in-step-few c past n k fits e =
    let f = (next_moment past).frame in
    let mode : f.mode ≡ Coord n = ap (λ (x : Mode). mode_reached x past.tables f.veh) e in
    let same : same_mode f.mode (Coord n) ≡ true = subst (λ (x : Mode). same_mode x (Coord n) ≡ true) (sym mode) (same_number n) in
    let version : (f.version == past.version) ≡ true = same_number past.version in
    let within = within-cycle c (with_moment past (next_moment past)) n k
    (and_from (same_mode f.mode (Coord n)) (f.version == past.version) same version) in
    omega (arith, within, cycle-few past.tables n fits (coord-defined past n e))

none : (past : Past) (mode : Mode) → mode_seen past ≡ mode
    → counter_in past.tables mode (target_in past.tables (mode_seen past) (clock_now past)) past.moments ≡ 0
    → (next_moment past).frame.counter ≤ 2147483647
none past mode e zero =
    let given : (next_moment past).frame.counter ≡ 0 =
    ap (λ (x : Mode). counter_in past.tables x (target_in past.tables (mode_seen past) (clock_now past)) past.moments) e ∙ zero in
    omega (arith, given)

counter-few : (c : Control) (past : Past) → ControlKeeps c (with_moment past (next_moment past)) → EachFits past.tables
    → (mode : Mode) → mode_seen past ≡ mode → (next_moment past).frame.counter ≤ 2147483647
counter-few c past k fits (Coord n) e = in-step-few c past n k fits e
counter-few c past k fits Start e = none past Start e refl
counter-few c past k fits Free e = none past Free e refl
counter-few c past k fits (Seek n) e = none past (Seek n) e refl
counter-few c past k fits Ending e = none past Ending e refl
counter-few c past k fits Flash e = none past Flash e refl
counter-few c past k fits (Entry i) e = none past (Entry i) e refl
counter-few c past k fits (Track i) e = none past (Track i) e refl
counter-few c past k fits (Dwell i) e = none past (Dwell i) e refl
counter-few c past k fits (Exit i) e = none past (Exit i) e refl

target-few : (past : Past) → EachFits past.tables → (mode : Mode) → mode_seen past ≡ mode → target_in past.tables mode (clock_now past) ≤ 2147483647
target-few past fits (Seek n) e =
    let d = seek-defined past n e in
    let less : target_in past.tables (Seek n) (clock_now past) < cycle_time past.tables n = mod_below _ (cycle_time past.tables n) (some-cycle past.tables n d) in
    omega (arith, less, cycle-few past.tables n fits d)
target-few past fits (Coord n) e =
    let d = coord-defined past n e in
    let less : target_in past.tables (Coord n) (clock_now past) < cycle_time past.tables n = mod_below _ (cycle_time past.tables n) (some-cycle past.tables n d) in
    omega (arith, less, cycle-few past.tables n fits d)
target-few past fits Start e = omega arith
target-few past fits Free e = omega arith
target-few past fits Ending e = omega arith
target-few past fits Flash e = omega arith
target-few past fits (Entry i) e = omega arith
target-few past fits (Track i) e = omega arith
target-few past fits (Dwell i) e = omega arith
target-few past fits (Exit i) e = omega arith

pub ticked-shows : (c : Control) (past : Past) → ControlKeeps c (with_moment past (next_moment past)) → EachFits past.tables
    → IsShowable (with_moment past (next_moment past))
ticked-shows c past k fits = record {
  clock = mod_below _ 864000 (omega arith);
  counter = counter-few c past k fits (mode_seen past) refl;
  target = target-few past fits (mode_seen past) refl;
}
