-- Each cabinet of a value without faults can open, and each input has its place.
use Rattle.std.proofs.Common.{◌≡◌, ◌≤◌, ◌+◌, ◌⊎◌, ◌==◌, ◌&&◌, inl, inr, ℕ, Bool, true, false, if◌then◌else◌, nat_lt, nat_le, List, [], ◌∷◌, refl, arith}
use Rattle.std.specs.List.{AllByRecursion}
use Rattle.std.proofs.lemmas.Bool.{lt-ltb, le-leb, ltb-false}
use Rattle.sig_types.specs.declared.notes.Broken.{Broken}
use Rattle.sig_types.specs.declared.frame.Field.{Field as Street}
use Rattle.sig_types.specs.declared.frame.Field.TheVariants.{Veh, Ped, Preempt}
use Rattle.sig_types.specs.Phases.{is_phase}
use Rattle.rule_book.specs.Rules.{broken, Consistent}
use Rattle.plan_facts.specs.Disturbances.{IsSlow}
use Rattle.serde_json.specs.Data.{Data, Items, no_items, item}
use Rattle.scenario_data.specs.Content.{CabinetContent}
use Rattle.scenario_data.specs.Opening.{opening_tables}
use Rattle.scenario_read.specs.Paths.{Step, then_named, then_item}
use Rattle.scenario_read.specs.Kinds.{Fits, Wrong, fault_at, each, items_in}
use Rattle.scenario_read.specs.Fields.{Field, held, field_faults, fields_faults, stands, only_one, chosen_faults, object_of}
use Rattle.scenario_read.specs.Table.{number_at, base, cells, pattern, clock, section, gain, lose, drift_fields, cabinet_shape, drift_faults, cabinet, veh, on, ped, preempt}
use Rattle.scenario_read.specs.Table.{input_shape, round, cabinet_number}
use Rattle.scenario_read.specs.Content.{whole_of, flag_of, each_of, cabinet_of, input_of}
use Rattle.scenario_read.specs.CellLists.{cell, cell_of}
use Rattle.scenario_read.specs.Faults.{broken_causes, table_faults, all_table_faults}
use Rattle.scenario_read.proofs.NoFaults.{none-left}
use Rattle.runnable.specs.Octets.{HoldsOctets, PutOctets}
use Rattle.runnable.specs.Runnable.{HasPlace, AllOpen, AllHeard, InReach, AllInReach}
use Rattle.scenario_checked.proofs.RangesParts.{whole-in, list-in, rare-in, held-in, object-in, AllClean, all-clean}
use Rattle.scenario_checked.proofs.RangesLists.{each-holds}
use Rattle.scenario_checked.proofs.RangesCells.{cell-in}

no-causes : (cabinet : ℕ) (found : List Broken) → broken_causes cabinet found ≡ [] → found ≡ []
no-causes cabinet [] e = refl
no-causes cabinet (b ∷ found) e = absurd (cc)

consistent : (cabinet : ℕ) (c : CabinetContent) → table_faults cabinet c ≡ [] → Consistent (opening_tables c)
unfolding table_faults
consistent cabinet c e = no-causes cabinet (broken (opening_tables c) (opening_tables c) false) e

-- the fields of a cabinet without faults have none
cabinet-clean : (version : ℕ) (path : List Step) (d : Data) → cabinet version path d ≡ []
    → AllClean path d (base ∷ cells ∷ pattern ∷ clock ∷ section ∷ drift_fields version) × (drift_faults version path d ≡ [])
cabinet-clean version path d e =
    let parts = none-left (object_of (cabinet_shape version) path d) (drift_faults version path d) e in
    let fields = (object-in (cabinet_shape version) path d parts.0).0 in
    (all-clean path d (base ∷ cells ∷ pattern ∷ clock ∷ section ∷ drift_fields version) fields, parts.1)

none-above : (n : ℕ) → nat_lt 0 n ≡ false → n ≡ 0
none-above n e = let most : n ≤ 0 = ltb-false 0 n e in omega (arith, most)

-- a clock without faults gains or loses, and not both
never-both : (path : List Step) (gains loses : ℕ) → fault_at path (if nat_lt 0 gains && nat_lt 0 loses then Wrong else Fits) ≡ []
    → (gains ≡ 0) ⊎ (loses ≡ 0)
never-both path gains loses e = from (nat_lt 0 gains) (nat_lt 0 loses) refl refl e
  where
    from : (a b : Bool) → nat_lt 0 gains ≡ a → nat_lt 0 loses ≡ b → fault_at path (if a && b then Wrong else Fits) ≡ [] → (gains ≡ 0) ⊎ (loses ≡ 0)
    from true true p q k = absurd (cc)
    from true false p q k = inr (none-above loses q)
    from false b p q k = inl (none-above gains p)

-- it drifts slowly or not at all; in version 1 not at all
slow-in : (path : List Step) (d : Data) (second : Bool) → AllClean path d (if second then gain ∷ lose ∷ [] else [])
    → fault_at path (if second && (nat_lt 0 (number_at gain d) && nat_lt 0 (number_at lose d)) then Wrong else Fits) ≡ []
    → IsSlow (record { gain = if second then number_at gain d else 0; lose = if second then number_at lose d else 0 })
slow-in path d false clean e = record { gain = inl refl; lose = inl refl; one = inl refl }
slow-in path d true clean e = record {
  gain = rare-in 12000 864000 (then_named path gain.name) (held gain d) (held-in path d gain clean.0);
  lose = rare-in 12000 864000 (then_named path lose.name) (held lose d) (held-in path d lose clean.1.0);
  one = never-both path (number_at gain d) (number_at lose d) e;
}

pub all-open : (version : ℕ) (path : List Step) (place number : ℕ) (ds : Items) → each (cabinet version) path place ds ≡ []
    → all_table_faults number (each_of (cabinet_of version) ds) ≡ []
    → AllOpen (each_of (cabinet_of version) ds)
all-open version path place number no_items e t = tt
all-open version path place number (item d ds) e t =
    let parts = none-left (cabinet version (then_item path place) d) (each (cabinet version) path (place + 1) ds) e in
    let tables = none-left (table_faults number (cabinet_of version d)) (all_table_faults (number + 1) (each_of (cabinet_of version) ds)) t in
    let own = cabinet-clean version (then_item path place) d parts.0 in
    let early = (whole-in 0 863999 (then_named (then_item path place) clock.name) (held clock d)
    (held-in (then_item path place) d clock own.0.1.1.1.0)).1 in (
      record {
        consistent = consistent number (cabinet_of version d) tables.0;
        of_day = omega (arith, early);
        slow = slow-in (then_item path place) d (version == 2) own.0.1.1.1.1.1 own.1;
      },
      all-open version path (place + 1) (number + 1) ds parts.1 tables.1,
    )

-- what each of them puts into its cells is octets
cabinet-puts : (version : ℕ) (path : List Step) (d : Data) → cabinet version path d ≡ [] → PutOctets (cabinet_of version d).cells
cabinet-puts version path d e =
    let own = (cabinet-clean version path d e).0 in
    let at : List Step = then_named path cells.name in
    let list = list-in 0 4096 cell at (held cells d) (held-in path d cells own.1.0) in
    each-holds cell cell_of (λ put. HoldsOctets put.1) (λ p x k. (cell-in p x k).1) at 0 (items_in (held cells d)) list.2

pub all-puts : (version : ℕ) (path : List Step) (ds : Items) → each (cabinet version) path 0 ds ≡ []
    → AllByRecursion (λ c. PutOctets c.cells) (each_of (cabinet_of version) ds)
all-puts version path ds e = each-holds (cabinet version) (cabinet_of version) (λ c. PutOctets c.cells) (cabinet-puts version) path 0 ds e

-- the field of an input, by which of its names are there
abbrev field_if : Bool → Bool → Data → Street
field_if is_veh is_ped d =
    if is_veh then Veh (whole_of (held veh d)) (flag_of (held on d)) else
    if is_ped then Ped (whole_of (held ped d)) else Preempt (whole_of (held preempt d)) (flag_of (held on d))

is-phase : (p : ℕ) → 1 ≤ p → p ≤ 16 → is_phase p ≡ true
is-phase p low high =
    let a : nat_lt 0 p ≡ true = lt-ltb 0 p (omega (arith, low)) in
    let b : nat_le p 16 ≡ true = le-leb p 16 high in
    rw (a, b) refl

-- of the three the ones that are there
abbrev last_standing : Bool → List (List Field)
last_standing c = if c then (preempt ∷ on ∷ []) ∷ [] else []

abbrev later_standing : Bool → Bool → List (List Field)
later_standing b c = if b then (ped ∷ []) ∷ last_standing c else last_standing c

abbrev all_standing : Bool → Bool → Bool → List (List Field)
all_standing a b c = if a then (veh ∷ on ∷ []) ∷ later_standing b c else later_standing b c

has-place : (path : List Step) (d : Data) (a b c : Bool) → chosen_faults path d (only_one (all_standing a b c)) ≡ [] → HasPlace (field_if a b d)
has-place path d true true c e = absurd (cc)
has-place path d true false true e = absurd (cc)
has-place path d true false false e =
    let own = (none-left (field_faults path d veh) (fields_faults path d (on ∷ [])) e).0 in
    let range = whole-in 1 16 (then_named path veh.name) (held veh d) (held-in path d veh own) in
    is-phase _ range.0 range.1
has-place path d false true true e = absurd (cc)
has-place path d false true false e =
    let own = (none-left (field_faults path d ped) [] e).0 in
    let range = whole-in 1 16 (then_named path ped.name) (held ped d) (held-in path d ped own) in
    is-phase _ range.0 range.1
has-place path d false false true e =
    let own = (none-left (field_faults path d preempt) (fields_faults path d (on ∷ [])) e).0 in
    whole-in 1 8 (then_named path preempt.name) (held preempt d) (held-in path d preempt own)
has-place path d false false false e = absurd (cc)

pub all-heard : (rounds cabinets : ℕ) (path : List Step) (place : ℕ) (ds : Items) → each (object_of (input_shape rounds cabinets)) path place ds ≡ []
    → AllHeard (each_of (input_of rounds cabinets) ds)
all-heard rounds cabinets path place no_items e = tt
all-heard rounds cabinets path place (item d ds) e =
    let parts = none-left (object_of (input_shape rounds cabinets) (then_item path place) d)
    (each (object_of (input_shape rounds cabinets)) path (place + 1) ds) e in
    let other = (object-in (input_shape rounds cabinets) (then_item path place) d parts.0).1 in (
      has-place (then_item path place) d (stands d (veh ∷ on ∷ [])) (stands d (ped ∷ [])) (stands d (preempt ∷ on ∷ [])) other,
      all-heard rounds cabinets path (place + 1) ds parts.1,
    )

-- the round and the cabinet of an input without faults
reaches : (rounds cabinets : ℕ) (path : List Step) (d : Data) → object_of (input_shape rounds cabinets) path d ≡ []
    → InReach rounds cabinets (input_of rounds cabinets d)
reaches rounds cabinets path d e =
    let fields = (object-in (input_shape rounds cabinets) path d e).0 in
    let first = none-left (field_faults path d (round rounds)) (fields_faults path d (cabinet_number cabinets ∷ [])) fields in
    let second = none-left (field_faults path d (cabinet_number cabinets)) [] first.1 in
    let in_rounds = whole-in 1 rounds (then_named path (round rounds).name) (held (round rounds) d) (held-in path d (round rounds) first.0) in
    let in_cabinets = whole-in 1 cabinets (then_named path (cabinet_number cabinets).name) (held (cabinet_number cabinets) d)
    (held-in path d (cabinet_number cabinets) second.0) in
    record { some_round = in_rounds.0; in_rounds = in_rounds.1; some_cabinet = in_cabinets.0; in_cabinets = in_cabinets.1 }

pub all-reach : (rounds cabinets : ℕ) (path : List Step) (place : ℕ) (ds : Items) → each (object_of (input_shape rounds cabinets)) path place ds ≡ []
    → AllInReach rounds cabinets (each_of (input_of rounds cabinets) ds)
all-reach rounds cabinets path place no_items e = tt
all-reach rounds cabinets path place (item d ds) e =
    let parts = none-left (object_of (input_shape rounds cabinets) (then_item path place) d)
    (each (object_of (input_shape rounds cabinets)) path (place + 1) ds) e in
    (reaches rounds cabinets (then_item path place) d parts.0, all-reach rounds cabinets path (place + 1) ds parts.1)
