-- What is put into cells leaves octets in each cell of lists, where what is put there is octets.
use Rattle.std.proofs.Common.{◌≡◌, ℕ, zero, suc, ◌-◌, ◌==◌, Bool, true, false, ◌&&◌, nat_le, nat_lt, if◌then◌else◌, List, [], ◌∷◌, get_or, set, refl, sym, subst}
use Rattle.std.specs.Prelude.{is_ok}
use Rattle.std.proofs.lemmas.Bool.{and_parts, ltb-true}
use Rattle.std.proofs.Math.Seq.{take-append_seam}
use Rattle.sig_tables.specs.declared.tables.Tables.{Tables}
use Rattle.sig_tables.specs.declared.tables.PhaseList.{PhaseList}
use Rattle.sig_tables.specs.declared.tables.PhaseTimes.{PhaseTimes}
use Rattle.sig_tables.specs.declared.tables.Preempt.{Preempt}
use Rattle.sig_tables.specs.declared.cells.Cell.{Cell}
use Rattle.sig_tables.specs.declared.cells.Cell.TheVariants.{Phase, Sequence, Split, Pattern as PatternCell, Preempt as PreemptCell, Unit as UnitCell}
use Rattle.sig_tables.specs.Tables.{row, no_row, no_list, listed}
use Rattle.sig_tables.specs.Columns.{packed, with_phase_number, with_preempt_number, preempt_list, with_preempt_list}
use Rattle.sig_tables.specs.Cells.{Content, Number, Octets, is_cell, phase_content, preempt_content, preempt_of, missing_preempt, with_number, with_octets, with_content}
use Rattle.sig_tables.specs.Ranges.{fits_of}
use Rattle.sig_tables.specs.Putting.{with_put, with_cells}
use Rattle.sig_tables.specs.Standard.{standard, std8, max8}
use Rattle.sig_tables.proofs.ColumnLemmas.{phase-list, preempt-list-kept}
use Rattle.sig_tables.proofs.CellLemmas.{set-keeps}
use Rattle.snmp_msg.specs.Shortest.{AreOctets}
use Rattle.scenario_data.specs.declared.scenario.Base.{Base}
use Rattle.scenario_data.specs.declared.scenario.Base.TheVariants.{Std8, Max8}
use Rattle.scenario_data.specs.Opening.{base_tables, opening_tables}
use Rattle.scenario_data.specs.Content.{CabinetContent}
use Rattle.runnable.specs.Octets.{HoldsOctets, PutOctets}
use Rattle.trace_laws.specs.Tables.{EachHolds}

-- a list is of octets
abbrev ListHolds : PhaseList → Type 0
ListHolds l = AreOctets (listed l)

-- a row of a phase, and the four lists of a preempt
abbrev RowHolds : PhaseTimes → Type 0
RowHolds r = ListHolds r.concurrency

record FourHold (r : Preempt) : Type 0 where
  track : ListHolds r.track_phases
  dwell : ListHolds r.dwell_phases
  walkers : ListHolds r.dwell_pedestrians
  exit : ListHolds r.exit_phases

pick : (b : Bool) (x y : PhaseList) → ListHolds x → ListHolds y → ListHolds (if b then x else y)
pick true x y p q = p
pick false x y p q = q

pick-four : (b : Bool) (x y : Preempt) → FourHold x → FourHold y → FourHold (if b then x else y)
pick-four true x y p q = p
pick-four false x y p q = q

four-at : (r : Preempt) (c : ℕ) → FourHold r → ListHolds (preempt_list r c)
four-at r c f =
    pick (c == 12) r.track_phases _ f.track
    (pick (c == 13) r.dwell_phases _ f.dwell (pick (c == 14) r.dwell_pedestrians r.exit_phases f.walkers f.exit))

four-of : (r : Preempt) → ((c : ℕ) → ListHolds (preempt_list r c)) → FourHold r
four-of r all = record { track = all 12; dwell = all 13; walkers = all 14; exit = all 15 }

four-put : (r : Preempt) (c : ℕ) (l : PhaseList) → ListHolds l → FourHold r → FourHold (with_preempt_list r c l)
four-put r c l own f =
    pick-four (c == 12) (record r { track_phases = l }) _ (record { track = own; dwell = f.dwell; walkers = f.walkers; exit = f.exit })
    (pick-four (c == 13) (record r { dwell_phases = l }) _ (record { track = f.track; dwell = own; walkers = f.walkers; exit = f.exit })
    (pick-four (c == 14) (record r { dwell_pedestrians = l }) (record r { exit_phases = l })
    (record { track = f.track; dwell = f.dwell; walkers = own; exit = f.exit })
    (record { track = f.track; dwell = f.dwell; walkers = f.walkers; exit = own })))

four-number : (r : Preempt) (c v : ℕ) → FourHold r → FourHold (with_preempt_number r c v)
four-number r c v f = four-of (with_preempt_number r c v) (λ d. subst ListHolds (sym (preempt-list-kept r c d v)) (four-at r d f))

-- what they hold, as cells
either-holds : (b : Bool) (x y : Content) → HoldsOctets x → HoldsOctets y → HoldsOctets (if b then x else y)
either-holds true x y p q = p
either-holds false x y p q = q

row-cell : (r : PhaseTimes) (c : ℕ) → RowHolds r → HoldsOctets (phase_content r c)
row-cell r c is = either-holds (c == 23) _ _ is tt

four-cell : (r : Preempt) (c : ℕ) → FourHold r → HoldsOctets (preempt_content r c)
four-cell r c f = either-holds (nat_le 12 c) _ _ (four-at r c f) tt

row-of : (t : Tables) (p : ℕ) → EachHolds t → RowHolds (row t p)
row-of t p all = all (Phase p 23)

four-in : (t : Tables) (n : ℕ) → EachHolds t → FourHold (preempt_of t n)
four-in t n all = record {
  track = all (PreemptCell n 12);
  dwell = all (PreemptCell n 13);
  walkers = all (PreemptCell n 14);
  exit = all (PreemptCell n 15);
}

number-holds : (t : Tables) (cell : Cell) (v : ℕ) → EachHolds t → EachHolds (with_number t cell v)
number-holds t (Phase p c) v all (Phase q d) =
    row-cell _ d (set-keeps RowHolds t.phases (p - 1) (q - 1) (with_phase_number (row t p) c v) no_row
    (λ e. subst ListHolds (sym (phase-list (row t p) c v)) (row-of t p all))
    (row-of t q all))
number-holds t (PreemptCell n c) v all (PreemptCell m d) =
    four-cell _ d (set-keeps FourHold t.preempts (n - 1) (m - 1) (with_preempt_number (preempt_of t n) c v) missing_preempt
    (λ e. four-number (preempt_of t n) c v (four-in t n all))
    (four-in t m all))
number-holds t (Split s p c) v all (Split z q d) = tt
number-holds t (PatternCell n c) v all (PatternCell m d) = tt
number-holds t (UnitCell n) v all (UnitCell m) = tt
number-holds t cell v all other = all other

packed-holds : (octets : List ℕ) → AreOctets octets → ListHolds (packed octets)
packed-holds octets is = subst AreOctets (sym (take-append_seam octets _)) is

octets-hold : (t : Tables) (cell : Cell) (xs : List ℕ) → AreOctets xs → EachHolds t → EachHolds (with_octets t cell xs)
octets-hold t (Phase p c) xs own all (Phase q d) =
    row-cell _ d (set-keeps RowHolds t.phases (p - 1) (q - 1) (record (row t p) { concurrency = packed xs }) no_row
    (λ e. packed-holds xs own)
    (row-of t q all))
octets-hold t (Sequence s r) xs own all (Sequence z q) =
    set-keeps (λ ls. ListHolds (get_or ls (q - 1) no_list)) t.sequences (s - 1) (z - 1)
    (set (get_or t.sequences (s - 1) []) (r - 1) (packed xs)) []
    (λ e. set-keeps ListHolds (get_or t.sequences (s - 1) []) (r - 1) (q - 1) (packed xs) no_list
    (λ k. packed-holds xs own)
    (all (Sequence s q)))
    (all (Sequence z q))
octets-hold t (PreemptCell n c) xs own all (PreemptCell m d) =
    four-cell _ d (set-keeps FourHold t.preempts (n - 1) (m - 1) (with_preempt_list (preempt_of t n) c (packed xs)) missing_preempt
    (λ e. four-put (preempt_of t n) c (packed xs) (packed-holds xs own) (four-in t n all))
    (four-in t m all))
octets-hold t cell xs own all other = all other

content-holds : (t : Tables) (cell : Cell) (k : Content) → HoldsOctets k → EachHolds t → EachHolds (with_content t cell k)
content-holds t cell (Number v) own all = number-holds t cell v all
content-holds t cell (Octets xs) own all = octets-hold t cell xs own all

put-holds : (t : Tables) (put : Cell × Content) → HoldsOctets put.1 → EachHolds t → EachHolds (with_put t put)
put-holds t put own all = split (is_cell put.0 && is_ok (fits_of put.0 put.1))
  where
    split : (b : Bool) → EachHolds (if b then with_content t put.0 put.1 else t)
    split true = content-holds t put.0 put.1 own all
    split false = all

-- cells put in order leave octets
pub cells-hold : (t : Tables) (puts : List (Cell × Content)) → PutOctets puts → EachHolds t → EachHolds (with_cells t puts)
cells-hold t [] own all = all
cells-hold t (put ∷ puts) own all = cells-hold (with_put t put) puts own.1 (put-holds t put own.0 all)

-- ---- the standard tables, which pass a test

all_pass : {A : Type 0} → (A → Bool) → List A → Bool
all_pass test [] = true
all_pass test (x ∷ xs) = test x && all_pass test xs

pass-at : {A : Type 0} (test : A → Bool) (xs : List A) (d : A) → all_pass test xs ≡ true → test d ≡ true → (i : ℕ) → test (get_or xs i d) ≡ true
unfolding all_pass
pass-at test [] d all default i = default
pass-at test (x ∷ xs) d all default zero = (and_parts (test x) (all_pass test xs) all).0
pass-at test (x ∷ xs) d all default (suc i) = pass-at test xs d (and_parts (test x) (all_pass test xs) all).1 default i

octets-from : (xs : List ℕ) → all_pass (λ x. nat_lt x 256) xs ≡ true → AreOctets xs
unfolding all_pass
octets-from [] e = tt
octets-from (x ∷ xs) e =
    let parts = and_parts (nat_lt x 256) (all_pass (λ y. nat_lt y 256) xs) e in
    (ltb-true x 256 parts.0, octets-from xs parts.1)

list_passes : PhaseList → Bool
list_passes l = all_pass (λ x. nat_lt x 256) (listed l)

four_pass : Preempt → Bool
four_pass r = list_passes r.track_phases && (list_passes r.dwell_phases && (list_passes r.dwell_pedestrians && list_passes r.exit_phases))

list-from : (l : PhaseList) → list_passes l ≡ true → ListHolds l
unfolding list_passes
list-from l e = octets-from (listed l) e

four-from : (r : Preempt) → four_pass r ≡ true → FourHold r
unfolding four_pass
four-from r e =
    let a = and_parts (list_passes r.track_phases) _ e in
    let b = and_parts (list_passes r.dwell_phases) _ a.1 in
    let c = and_parts (list_passes r.dwell_pedestrians) (list_passes r.exit_phases) b.1 in
    record {
      track = list-from r.track_phases a.0;
      dwell = list-from r.dwell_phases b.0;
      walkers = list-from r.dwell_pedestrians c.0;
      exit = list-from r.exit_phases c.1;
    }

phases_pass : Tables → Bool
phases_pass t = all_pass (λ r. list_passes r.concurrency) t.phases

sequences_pass : Tables → Bool
sequences_pass t = all_pass (λ ls. all_pass list_passes ls) t.sequences

preempts_pass : Tables → Bool
preempts_pass t = all_pass four_pass t.preempts

tested : (t : Tables) → phases_pass t ≡ true → sequences_pass t ≡ true → preempts_pass t ≡ true → EachHolds t
unfolding phases_pass sequences_pass preempts_pass list_passes four_pass all_pass
tested t phases sequences preempts = each
  where
    each : EachHolds t
    each (Phase p c) = row-cell (row t p) c (list-from (row t p).concurrency (pass-at (λ r. list_passes r.concurrency) t.phases no_row phases refl (p - 1)))
    each (Sequence s r) =
        list-from (get_or (get_or t.sequences (s - 1) []) (r - 1) no_list)
        (pass-at list_passes (get_or t.sequences (s - 1) []) no_list
        (pass-at (λ ls. all_pass list_passes ls) t.sequences [] sequences refl (s - 1)) refl (r - 1))
    each (Split s p c) = tt
    each (PatternCell n c) = tt
    each (PreemptCell n c) = four-cell (preempt_of t n) c (four-from (preempt_of t n) (pass-at four_pass t.preempts missing_preempt preempts refl (n - 1)))
    each (UnitCell n) = tt

std8-holds : EachHolds std8
unfolding std8 standard phases_pass sequences_pass preempts_pass list_passes four_pass all_pass
std8-holds = tested std8 refl refl refl

max8-holds : EachHolds max8
unfolding max8 standard phases_pass sequences_pass preempts_pass list_passes four_pass all_pass
max8-holds = tested max8 refl refl refl

base-holds : (base : Base) → EachHolds (base_tables base)
base-holds Std8 = std8-holds
base-holds Max8 = max8-holds

-- so do the tables that a cabinet opens with
pub opening-holds : (c : CabinetContent) → PutOctets c.cells → EachHolds (opening_tables c)
opening-holds c own = cells-hold (base_tables c.base) c.cells own (base-holds c.base)
