-- A scenario without faults has none with calls after its inputs, and none with a schedule in its master.
use Rattle.std.proofs.Common.{◌≡◌, ◌≤◌, ◌+◌, ◌*◌, inl, inr, ℕ, true, false, List, [], ◌∷◌, ◌++◌, length, map, bytes_eq, codes, Option, Some, None, refl, sym, ap, ◌∙◌, subst}
use Rattle.serde_json.specs.Data.{Data, null, boolean, number, string, array, object, Items, Members, put}
use Rattle.serde_json.specs.Events.{items_len}
use Rattle.serde_json.specs.View.{items_of}
use Rattle.scenario_data.specs.declared.scenario.Entry.{Entry}
use Rattle.scenario_data.specs.Causes.{Cause}
use Rattle.scenario_data.specs.Content.{CabinetContent}
use Rattle.scenario_read.specs.Paths.{Step, Named, then_named}
use Rattle.scenario_read.specs.Kinds.{Kind, is_among, items_in, list_of}
use Rattle.scenario_read.specs.Fields.{Field, held, names, object_of}
use Rattle.scenario_read.specs.Table.{rounds, ticks, version, cabinets, master, inputs, input_shape, entry_shape, master_shape, setup_fields, event_fields, scenario_shape}
use Rattle.scenario_read.specs.Content.{list_in, whole_of, cabinet_of, version_number, round_count, tick_count, cabinet_count, cabinets_of}
use Rattle.scenario_read.specs.Faults.{named_faults, product_faults, all_table_faults, faults}
use Rattle.scenario_read.proofs.NoFaults.{none-of-three}
use Rattle.scenario_read.proofs.Whole.{faultless-parts}
use Rattle.scenario_checked.proofs.RangesParts.{list-in, held-in, object-in, all-clean, AllClean}
use Rattle.detector_bank.specs.declared.bank.Call.{Call}
use Rattle.scenario_file.specs.Source.{with_member, inputs_and, master_and}
use Rattle.field_file.specs.Written.{call_value, entry_value, with_inputs, with_schedule, with_traffic}
use Rattle.field_file.proofs.Every.{Every}
use Rattle.field_file.proofs.Listed.{IsCalled, IsListed, call-clean, entry-clean, made-clean, made-length, list-clean, list-and-clean}
use Rattle.field_file.proofs.Puts.{held-other, AllFit, object-put}

-- a name that is not one of those by which the checks go
pub record IsApart (k : List ℕ) : Type 0 where
  pub version : bytes_eq (codes "version") k ≡ false
  pub rounds : bytes_eq (codes "rounds") k ≡ false
  pub ticks : bytes_eq (codes "ticks") k ≡ false
  pub cabinets : bytes_eq (codes "cabinets") k ≡ false

pub same-version : (k : List ℕ) (v : Data) (ms : Members) → IsApart k → version_number (object (put k v ms)) ≡ version_number (object ms)
same-version k v ms apart = ap whole_of (held-other version k v ms apart.version)

pub same-rounds : (k : List ℕ) (v : Data) (ms : Members) → IsApart k → round_count (object (put k v ms)) ≡ round_count (object ms)
same-rounds k v ms apart = ap whole_of (held-other rounds k v ms apart.rounds)

pub same-ticks : (k : List ℕ) (v : Data) (ms : Members) → IsApart k → tick_count (object (put k v ms)) ≡ tick_count (object ms)
same-ticks k v ms apart = ap whole_of (held-other ticks k v ms apart.ticks)

pub same-cabinets : (k : List ℕ) (v : Data) (ms : Members) → IsApart k → cabinets_of (object (put k v ms)) ≡ cabinets_of (object ms)
same-cabinets k v ms apart =
    ap (λ (n : ℕ). list_in (cabinet_of n) (held (cabinets n) (object (put k v ms)))) (same-version k v ms apart)
    ∙ ap (list_in (cabinet_of (version_number (object ms)))) (held-other (cabinets (version_number (object ms))) k v ms apart.cabinets)

at-three : (P : ℕ → ℕ → ℕ → Type 0) (a b c x y z : ℕ) → a ≡ x → b ≡ y → c ≡ z → P x y z → P a b c
at-three P a b c x y z p q r h =
    subst (λ (n : ℕ). P n b c) (sym p) (subst (λ (n : ℕ). P x n c) (sym q) (subst (λ (n : ℕ). P x y n) (sym r) h))

-- the fields of a scenario's value
abbrev pub fields_at : Data → List Field
fields_at d = version ∷ (setup_fields (version_number d) ++ event_fields (round_count d) (cabinet_count d))

-- a value without fault at a name of a scenario, apart from these
pub scenario-put : (k : List ℕ) (v : Data) (ms : Members) → IsApart k → is_among (names (fields_at (object ms) ++ [])) k ≡ true → AllFit [] k v (fields_at (object ms))
    → faults (object ms) ≡ [] → faults (object (put k v ms)) ≡ []
scenario-put k v ms apart known fit e =
    let d : Data = object ms in
    let n : Data = object (put k v ms) in
    let parts = faultless-parts d e in
    let count : cabinet_count n ≡ cabinet_count d = ap length (same-cabinets k v ms apart) in
    let named : named_faults n ≡ [] =
    at-three (λ (a b c : ℕ). object_of (scenario_shape a b c) [] n ≡ []) _ _ _ (version_number d) (round_count d) (cabinet_count d)
    (same-version k v ms apart) (same-rounds k v ms apart) count (object-put (fields_at d) [] k v ms known parts.0 fit) in
    let product : product_faults (cabinet_count n * round_count n * tick_count n) ≡ [] =
    at-three (λ (a b c : ℕ). product_faults (a * b * c) ≡ []) _ _ _ (cabinet_count d) (round_count d) (tick_count d)
    count (same-rounds k v ms apart) (same-ticks k v ms apart) parts.1 in
    let tables : all_table_faults 1 (cabinets_of n) ≡ [] =
    subst (λ (cs : List CabinetContent). all_table_faults 1 cs ≡ []) (sym (same-cabinets k v ms apart)) parts.2 in
    none-of-three _ _ _ named product tables

-- what is at each name of a scenario without faults
fields-clean : (d : Data) → faults d ≡ [] → AllClean [] d (fields_at d)
fields-clean d e =
    all-clean [] d (fields_at d) (object-in (scenario_shape (version_number d) (round_count d) (cabinet_count d)) [] d (faultless-parts d e).0).0

-- the schedule in a master
schedule-clean : (entries : List Entry) → length entries ≤ 1000 → Every IsListed entries → (path : List Step)
    → list_of 0 1000 (object_of entry_shape) path (array (items_of (map entry_value entries))) ≡ []
schedule-clean entries few listed path =
    list-clean 1000 (object_of entry_shape) path (items_of (map entry_value entries)) (subst (λ (n : ℕ). n ≤ 1000) (sym (made-length entry_value entries)) few)
    (made-clean (object_of entry_shape) entry_value IsListed entry-clean path 0 entries listed)

master-clean : (path : List Step) (m : Data) (v : Data) → ((at : List Step) → list_of 0 1000 (object_of entry_shape) at v ≡ []) → object_of master_shape path m ≡ []
    → object_of master_shape path (with_member (codes "schedule") v m) ≡ []
master-clean path null v h e = absurd (cc)
master-clean path (boolean b) v h e = absurd (cc)
master-clean path (number n) v h e = absurd (cc)
master-clean path (string s) v h e = absurd (cc)
master-clean path (array ds) v h e = absurd (cc)
master-clean path (object ms) v h e =
    object-put master_shape.fields path (codes "schedule") v ms refl e
    (inl refl, (inl refl, (inl refl, (inl refl, (inl refl, (inr (refl, h (then_named path (codes "schedule"))), tt))))))

master-apart : IsApart (codes "master")
master-apart = record { version = refl; rounds = refl; ticks = refl; cabinets = refl }

inputs-apart : IsApart (codes "inputs")
inputs-apart = record { version = refl; rounds = refl; ticks = refl; cabinets = refl }

-- what a scenario without faults keeps with a schedule
pub record IsKept (s n : Data) : Type 0 where
  pub faultless : faults n ≡ []
  pub rounds : round_count n ≡ round_count s
  pub count : cabinet_count n ≡ cabinet_count s
  pub inputs : held (inputs (round_count s) (cabinet_count s)) n ≡ held (inputs (round_count s) (cabinet_count s)) s

-- no schedule, or one of at most 1,000 entries in range
abbrev pub AreListed : Option (List Entry) → Type 0
AreListed None = Unit {0}
AreListed (Some entries) = (length entries ≤ 1000) × Every IsListed entries

none-there : (causes more : List Cause) (cause : Cause) → (cause ∷ causes) ++ more ≡ [] → ⊥
none-there causes more cause e = absurd (cc)

schedule-kept : (entries : List Entry) (s : Data) → length entries ≤ 1000 → Every IsListed entries → faults s ≡ [] → IsKept s (with_member (codes "master") (master_and (array (items_of (map entry_value entries))) s) s)
schedule-kept entries null few listed e = absurd (cc)
schedule-kept entries (boolean b) few listed e = absurd (cc)
schedule-kept entries (number n) few listed e = absurd (cc)
schedule-kept entries (string s) few listed e = absurd (cc)
schedule-kept entries (array ds) few listed e = absurd (cc)
schedule-kept entries (object ms) few listed e =
    let d : Data = object ms in
    let v : Data = master_and (array (items_of (map entry_value entries))) d in
    let own = fields-clean d e in
    let clean : object_of master_shape (Named (codes "master") ∷ []) v ≡ [] =
    master-clean (Named (codes "master") ∷ []) (held master d) (array (items_of (map entry_value entries))) (schedule-clean entries few listed) (held-in [] d master own.1.1.1.1.1.0) in record {
      faultless = scenario-put (codes "master") v ms master-apart refl
          (inl refl, (inl refl, (inl refl, (inl refl, (inl refl, (inr (refl, clean), (inl refl, (inl refl, (inl refl, (inl refl, (inl refl, tt))))))))))) e;
      rounds = same-rounds (codes "master") v ms master-apart;
      count = ap length (same-cabinets (codes "master") v ms master-apart);
      inputs = held-other (inputs (round_count d) (cabinet_count d)) (codes "master") v ms refl;
    }

pub with-schedule-kept : (o : Option (List Entry)) (s : Data) → AreListed o → faults s ≡ [] → IsKept s (with_schedule o s)
with-schedule-kept None s h e = record { faultless = e; rounds = refl; count = refl; inputs = refl }
with-schedule-kept (Some entries) s h e = schedule-kept entries s h.0 h.1 e

pub with-inputs-clean : (calls : List Call) (s : Data) → Every (IsCalled (round_count s) (cabinet_count s)) calls
    → items_len (items_in (held (inputs (round_count s) (cabinet_count s)) s)) + length calls ≤ 1000000 → faults s ≡ [] → faults (with_inputs calls s) ≡ []
with-inputs-clean calls null called few e = absurd (cc)
with-inputs-clean calls (boolean b) called few e = absurd (cc)
with-inputs-clean calls (number n) called few e = absurd (cc)
with-inputs-clean calls (string s) called few e = absurd (cc)
with-inputs-clean calls (array ds) called few e = absurd (cc)
with-inputs-clean calls (object ms) called few e =
    let d : Data = object ms in
    let r : ℕ = round_count d in
    let c : ℕ = cabinet_count d in
    let own = fields-clean d e in
    let kind : Kind = object_of (input_shape r c) in
    let path : List Step = Named (codes "inputs") ∷ [] in
    let old = list-in 0 1000000 kind path (held (inputs r c) d) (held-in [] d (inputs r c) own.1.1.1.1.1.1.0) in
    let room : items_len (items_in (held (inputs r c) d)) + items_len (items_of (map call_value calls)) ≤ 1000000 =
    subst (λ (n : ℕ). items_len (items_in (held (inputs r c) d)) + n ≤ 1000000) (sym (made-length call_value calls)) few in
    let clean : list_of 0 1000000 kind path (inputs_and (items_of (map call_value calls)) d) ≡ [] =
    list-and-clean 1000000 kind path (items_in (held (inputs r c) d)) (items_of (map call_value calls)) room old.2
    (λ at. made-clean kind call_value (IsCalled r c) (call-clean r c) path at calls called) in
    scenario-put (codes "inputs") (inputs_and (items_of (map call_value calls)) d) ms inputs-apart refl
    (inl refl, (inl refl, (inl refl, (inl refl, (inl refl, (inl refl, (inr (refl, clean), (inl refl, (inl refl, (inl refl, (inl refl, tt))))))))))) e

-- both
pub with-traffic-clean : (calls : List Call) (o : Option (List Entry)) (s : Data) → AreListed o → Every (IsCalled (round_count s) (cabinet_count s)) calls
    → items_len (items_in (held (inputs (round_count s) (cabinet_count s)) s)) + length calls ≤ 1000000 → faults s ≡ [] → faults (with_traffic calls o s) ≡ []
with-traffic-clean calls o s listed called few e =
    let n : Data = with_schedule o s in
    let kept = with-schedule-kept o s listed e in
    let same : (r c : ℕ) → items_in (held (inputs r c) n) ≡ items_in (held (inputs r c) s) = λ r c. ap items_in kept.inputs in
    with-inputs-clean calls n
    (subst (λ (c : ℕ). Every (IsCalled (round_count n) c) calls) (sym kept.count) (subst (λ (r : ℕ). Every (IsCalled r (cabinet_count s)) calls) (sym kept.rounds) called))
    (subst (λ (ds : Items). items_len ds + length calls ≤ 1000000) (sym (same (round_count n) (cabinet_count n))) few) kept.faultless
