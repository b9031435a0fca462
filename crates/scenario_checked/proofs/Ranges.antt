-- A scenario that was read without a fault can be run.
use Rattle.std.proofs.Common.{◌≡◌, ◌<◌, ◌≤◌, ◌*◌, ℕ, Bool, true, false, nat_le, if◌then◌else◌, List, [], ◌∷◌, ◌++◌, length, codes, refl, sym, subst}
use Rattle.std.proofs.lemmas.Bool.{leb-true}
use Rattle.serde_json.specs.Data.{Data, Items}
use Rattle.serde_json.specs.Written.{compact_text}
use Rattle.scenario_data.specs.Causes.{Limit}
use Rattle.scenario_data.specs.Content.{ScenarioContent}
use Rattle.scenario_read.specs.Paths.{Step, then_named}
use Rattle.scenario_read.specs.Kinds.{Kind, each, items_in, list_of}
use Rattle.scenario_read.specs.Fields.{held, object_of}
use Rattle.scenario_read.specs.Table.{cabinet, input_shape, load_cabinet, load, priority_item, frame_shape, fault_shape, version, rounds, ticks, community, cabinets, master, inputs, loads, priority, frames, link_faults, setup_fields, event_fields, scenario_shape}
use Rattle.scenario_read.specs.Content.{version_number, round_count, tick_count, cabinet_count, cabinets_of, cabinet_of, each_of, input_of, load_of, priority_of, frame_of, fault_of, scenario_of}
use Rattle.scenario_read.specs.Faults.{named_faults, product_faults, all_table_faults, faults}
use Rattle.scenario_read.specs.Answers.{IsScenario}
use Rattle.scenario_read.proofs.NoFaults.{none-left}
use Rattle.scenario_read.proofs.Walks.{each_of-len}
use Rattle.snmp_msg.specs.Shortest.{AreOctets}
use Rattle.master_load.specs.Downloads.{IsLoad}
use Rattle.runnable.specs.Octets.{PutOctets, IsShortAct}
use Rattle.runnable.specs.Runnable.{Runnable}
use Rattle.scenario_checked.proofs.RangesParts.{whole-in, list-in, held-in, object-in, AllClean, all-clean}
use Rattle.scenario_checked.proofs.RangesLine.{line-lacks, compact-line}
use Rattle.scenario_checked.proofs.RangesLists.{each-holds, behind-holds, behind-in}
use Rattle.scenario_checked.proofs.RangesCells.{text-in}
use Rattle.scenario_checked.proofs.RangesCabinets.{all-open, all-puts, all-heard, all-reach}
use Rattle.scenario_checked.proofs.RangesLoads.{load-in, loads-in}
use Rattle.scenario_checked.proofs.RangesMessages.{schedule-in, priority-in, frame-in, fault-in}

product-in : (n : ℕ) → product_faults n ≡ [] → n ≤ 55296000
product-in n e = from (nat_le n 55296000) refl e
  where
    from : (b : Bool) → nat_le n 55296000 ≡ b → (if b then [] else Limit (codes "rounds") ∷ []) ≡ [] → n ≤ 55296000
    from true is k = leb-true n 55296000 is
    from false is k = absurd (cc)

-- the fields of the whole have no faults
clean : (d : Data) → named_faults d ≡ []
    → AllClean [] d (version ∷ (setup_fields (version_number d) ++ event_fields (round_count d) (cabinet_count d)))
clean d e =
    let shape = scenario_shape (version_number d) (round_count d) (cabinet_count d) in
    all-clean [] d shape.fields (object-in shape [] d e).0

-- the counts of a list that may be absent, and that no item has a fault
abbrev Counted : {A : Type 0} → Kind → ℕ → List Step → (Data → A) → Items → Type 0
Counted kind most path says ds = (length (each_of says ds) ≤ most) × (each kind path 0 ds ≡ [])

counted-in : {A : Type 0} (kind : Kind) (most : ℕ) (path : List Step) (says : Data → A) (d : Data) → list_of 0 most kind path d ≡ []
    → Counted kind most path says (items_in d)
counted-in kind most path says d e =
    let list = list-in 0 most kind path d e in
    (subst (λ (n : ℕ). n ≤ most) (sym (each_of-len says (items_in d))) list.1, list.2)

value-runs : (d : Data) → faults d ≡ [] → Runnable (scenario_of d)
value-runs d e =
    let v = version_number d in
    let r = round_count d in
    let n = cabinet_count d in
    let front = none-left (named_faults d) (product_faults (n * r * tick_count d) ++ all_table_faults 1 (cabinets_of d)) e in
    let back = none-left (product_faults (n * r * tick_count d)) (all_table_faults 1 (cabinets_of d)) front.1 in
    let own = clean d front.0 in
    let in_rounds = whole-in 1 86400 (then_named [] rounds.name) (held rounds d) (held-in [] d rounds own.1.0) in
    let in_ticks = whole-in 1 600 (then_named [] ticks.name) (held ticks d) (held-in [] d ticks own.1.1.0) in
    let in_community = text-in 1 32 (then_named [] community.name) (held community d) (held-in [] d community own.1.1.1.0) in
    let in_cabinets = list-in 1 64 (cabinet v) (then_named [] (cabinets v).name) (held (cabinets v) d) (held-in [] d (cabinets v) own.1.1.1.1.0) in
    let some_cabinets = each_of-len (cabinet_of v) (items_in (held (cabinets v) d)) in
    let few_cabinets : n ≤ 64 = subst (λ (k : ℕ). k ≤ 64) (sym some_cabinets) in_cabinets.1 in
    let events = own.1.1.1.1.1.1 in
    let in_inputs = counted-in (object_of (input_shape r n)) 1000000 (then_named [] (inputs r n).name) (input_of r n) (held (inputs r n) d)
    (held-in [] d (inputs r n) events.0) in
    let in_loads = behind-in (load r n) (load_cabinet n) (then_named [] (loads r n).name) (held (loads r n) d) (held-in [] d (loads r n) events.1.0) in
    let in_priority = counted-in (priority_item r n) 100000 (then_named [] (priority r n).name) (priority_of r n) (held (priority r n) d)
    (held-in [] d (priority r n) events.1.1.0) in
    let in_frames = counted-in (object_of (frame_shape r n)) 100000 (then_named [] (frames r n).name) (frame_of r n) (held (frames r n) d)
    (held-in [] d (frames r n) events.1.1.1.0) in
    let in_faults = counted-in (object_of (fault_shape r n)) 100000 (then_named [] (link_faults r n).name) (fault_of r n) (held (link_faults r n) d)
    (held-in [] d (link_faults r n) events.1.1.1.1.0) in
    record {
      some_rounds = in_rounds.0;
      few_rounds = in_rounds.1;
      some_ticks = in_ticks.0;
      few_ticks = in_ticks.1;
      some_cabinets = rw some_cabinets in_cabinets.0;
      few_cabinets = few_cabinets;
      few_inputs = in_inputs.0;
      short = product-in (n * r * tick_count d) back.0;
      can_open = all-open v (then_named [] (cabinets v).name) 0 1 (items_in (held (cabinets v) d)) in_cabinets.2 back.1;
      heard = all-heard r n (then_named [] (inputs r n).name) 0 (items_in (held (inputs r n) d)) in_inputs.1;
      in_reach = all-reach r n (then_named [] (inputs r n).name) 0 (items_in (held (inputs r n) d)) in_inputs.1;
      few_loads = loads-in r n (then_named [] (loads r n).name) (items_in (held (loads r n) d)) few_cabinets in_loads;
      loads = behind-holds (load r n) (load_cabinet n) (load_of r n) IsLoad (λ earlier p x k. (load-in r n earlier p x k).0)
          (then_named [] (loads r n).name) 0 [] (items_in (held (loads r n) d)) in_loads;
      few_priority = in_priority.0;
      few_frames = in_frames.0;
      few_faults = in_faults.0;
      patterns = schedule-in (then_named [] master.name) (held master d) (held-in [] d master own.1.1.1.1.1.0);
      octets = record {
        community = in_community.1;
        short = in_community.0;
        cabinets = all-puts v (then_named [] (cabinets v).name) (items_in (held (cabinets v) d)) in_cabinets.2;
        loads = behind-holds (load r n) (load_cabinet n) (load_of r n) (λ l. PutOctets l.cells) (λ earlier p x k. (load-in r n earlier p x k).1)
            (then_named [] (loads r n).name) 0 [] (items_in (held (loads r n) d)) in_loads;
        priority = each-holds (priority_item r n) (priority_of r n) (λ p. IsShortAct p.act) (priority-in r n)
            (then_named [] (priority r n).name) 0 (items_in (held (priority r n) d)) in_priority.1;
        frames = each-holds (object_of (frame_shape r n)) (frame_of r n) (λ f. AreOctets f.hex) (frame-in r n)
            (then_named [] (frames r n).name) 0 (items_in (held (frames r n) d)) in_frames.1;
        faults = each-holds (object_of (fault_shape r n)) (fault_of r n) (λ f. f.octet < 256) (fault-in r n)
            (then_named [] (link_faults r n).name) 0 (items_in (held (link_faults r n) d)) in_faults.1;
      };
      one_line = line-lacks (compact_text d) (compact-line d);
    }

pub runs : (bytes : List ℕ) (s : ScenarioContent) → IsScenario bytes s → Runnable s
runs bytes s (d, reads, none, is) = subst Runnable (sym is) (value-runs d none)
