-- A scenario has no faults where its frame has none, and the items of its lists are of rounds and cabinets that there are.
use Rattle.std.proofs.Common.{◌≡◌, ◌≤◌, ℕ, ◌*◌, false, List, [], ◌∷◌, ◌++◌, codes, length, map, Option, Some, None, unwrap_or, option_map, refl, sym, ap, ◌∙◌, subst}
use Rattle.std.proofs.lemmas.List.{length-map}
use Rattle.serde_json.specs.Data.{Data, null, array, object, Items, no_items, Members}
use Rattle.serde_json.specs.Events.{items_len}
use Rattle.serde_json.specs.Find.{get_member}
use Rattle.serde_json.specs.Written.{compact_text}
use Rattle.scenario_data.specs.Causes.{Cause}
use Rattle.scenario_data.specs.Content.{CabinetContent, cabinet_content, master_content}
use Rattle.scenario_read.specs.declared.scenario.Parts.{Parts}
use Rattle.scenario_read.specs.Kinds.{fault_at, within, each}
use Rattle.scenario_read.specs.Fields.{Field, either, faults_of, field_faults, fields_faults, held, names, known_fields, unknown_faults, object_of}
use Rattle.scenario_read.specs.Table.{version, rounds, ticks, community, cabinet, cabinets, master, round, cabinet_number, setup_fields, inputs, loads, priority, frames, link_faults, event_fields, scenario_shape, input_shape, priority_item, frame_shape, fault_shape}
use Rattle.scenario_read.specs.Content.{number_at, text_of, list_in, cabinet_of, master_of, input_of, load_of, priority_of, frame_of, fault_of, each_of, events_at, version_number, round_count, tick_count, cabinets_of, cabinet_count, scenario_of}
use Rattle.scenario_read.specs.Faults.{faults, named_faults, product_faults, all_table_faults}
use Rattle.scenario_read.specs.Readers.{Says, content_from}
use Rattle.scenario_read.proofs.NoFaults.{none-left, none-both}
use Rattle.scenario_read.proofs.Objects.{both-fields, at-same}
use Rattle.scenario_read.proofs.Walks.{each_of-len}
use Rattle.scenario_read.proofs.Whole.{faultless-parts, whole-content}
use Rattle.scenario_file.specs.declared.lists.Lists.{Lists}
use Rattle.scenario_file.specs.Growing.{blanks}
use Rattle.scenario_file.specs.Listing.{AllOf, AsksWithin, InRounds, list_path, any_input, any_priority, any_frame, any_fault}
use Rattle.scenario_file.specs.Framing.{value_in, with_lists, IsHeld, AllStand, setup_with}
use Rattle.scenario_file.proofs.Growth.{within-more, chain}
use Rattle.scenario_file.proofs.Filled.{unknown-same, kept, kept-fields, same-held, same-number, Becomes, stood, list-faults}
use Rattle.scenario_file.proofs.Masters.{master-kept, master-said, master-value}
use Rattle.scenario_file.proofs.Frames.{get-through}
use Rattle.scenario_file.proofs.Blanks.{blanks-len}
use Rattle.scenario_file.proofs.Versions.{HasNames, each-version, said-version}
use Rattle.scenario_file.proofs.Rounds.{input-within, priority-within, frame-within, fault-within, each-within, loads-within, said-same}

-- the names before the lists of what happens in the rounds
abbrev before_lists : ℕ → List Field
before_lists v = version ∷ setup_fields v

-- ---- the cabinets

-- the faults of what represents the cabinets
abbrev cabinets_faults : ℕ → Option Data → List Cause
cabinets_faults v o = faults_of (cabinets v).kind (list_path (codes "cabinets")) (either o None)

-- where they are without fault, they are in the frame
stand-blank : (v : ℕ) (o : Option Data) (ds : Items) → cabinets_faults v o ≡ [] → IsHeld (codes "cabinets") o ds → o ≡ Some (array (blanks (items_len ds)))
stand-blank v None ds e held = absurd (cc)
stand-blank v (Some d) ds e held = ap Some held

-- the items are in the value then
stand-whole : (rows : List ℕ → Items) (ms : Members) → get_member (codes "cabinets") ms ≡ Some (array (blanks (items_len (rows (codes "cabinets")))))
    → get_member (codes "cabinets") (with_lists rows ms) ≡ Some (array (rows (codes "cabinets")))
stand-whole rows ms frame =
    let name = codes "cabinets" in
    get-through (value_in rows) name ms ∙ ap (option_map (value_in rows name)) frame

-- they are without fault as they are: as many as in the frame, and each of the version
cabinets-kept : (v : ℕ) (lists : Lists) (ms : Members) (rows : List ℕ → Items) → AllStand lists ms rows → HasNames v lists.last
    → field_faults [] (object ms) (cabinets v) ≡ [] → field_faults [] (object (with_lists rows ms)) (cabinets v) ≡ []
cabinets-kept v lists ms rows s has e =
    let name = codes "cabinets" in
    let path = list_path name in
    let ds = rows name in
    let n = items_len ds in
    let frame = stand-blank v (get_member name ms) ds e s.cabinets.held in
    let blank : cabinets_faults v (Some (array (blanks n))) ≡ [] = sym (ap (cabinets_faults v) frame) ∙ e in
    let few = (none-left (fault_at path (within 1 64 (items_len (blanks n)))) (each (cabinet v) path 0 (blanks n)) blank).0 in
    ap (cabinets_faults v) (stand-whole rows ms frame)
    ∙ none-both (fault_at path (within 1 64 n)) (each (cabinet v) path 0 ds) (ap (λ m. fault_at path (within 1 64 m)) (sym (blanks-len n)) ∙ few)
    (each-version v lists.last has path ds 0 s.cabinets.holds.causes s.cabinets.within)

-- a frame without faults has none at its cabinets
frame-cabinets : (ms : Members) → faults (object ms) ≡ [] → field_faults [] (object ms) (cabinets (version_number (object ms))) ≡ []
frame-cabinets ms e =
    let d = object ms in
    let v = version_number d in
    let r = round_count d in
    let k = cabinet_count d in
    let known = names (known_fields (scenario_shape v r k) d) in
    let a = none-left (unknown_faults known [] ms) (fields_faults [] d (before_lists v ++ event_fields r k) ++ []) (faultless-parts d e).0 in
    let b = none-left (fields_faults [] d (before_lists v ++ event_fields r k)) [] a.1 in
    let c = none-left (fields_faults [] d (before_lists v)) (fields_faults [] d (event_fields r k)) (sym (both-fields [] d (before_lists v) (event_fields r k)) ∙ b.0) in
    let f = none-left (field_faults [] d version) (fields_faults [] d (setup_fields v)) c.0 in
    let g = none-left (field_faults [] d rounds) (fields_faults [] d (ticks ∷ community ∷ cabinets v ∷ master ∷ [])) f.1 in
    let h = none-left (field_faults [] d ticks) (fields_faults [] d (community ∷ cabinets v ∷ master ∷ [])) g.1 in
    let i = none-left (field_faults [] d community) (fields_faults [] d (cabinets v ∷ master ∷ [])) h.1 in
    (none-left (field_faults [] d (cabinets v)) (fields_faults [] d (master ∷ [])) i.1).0

-- what a value says of its cabinets where this is there
abbrev cabinets_said : ℕ → Option Data → List CabinetContent
cabinets_said v o = list_in (cabinet_of v) (unwrap_or (either o None) null)

-- the value has the cabinets that were found
new-cabinets : (lists : Lists) (ms : Members) (rows : List ℕ → Items) → faults (object ms) ≡ [] → AllStand lists ms rows → HasNames (version_number (object ms)) lists.last
    → cabinets_of (object (with_lists rows ms)) ≡ map cabinet_content lists.cabinets.items
new-cabinets lists ms rows none s has =
    let v = version_number (object ms) in
    let name = codes "cabinets" in
    let new = object (with_lists rows ms) in
    let frame = stand-blank v (get_member name ms) (rows name) (frame-cabinets ms none) s.cabinets.held in
    ap (λ w. cabinets_said w (get_member name (with_lists rows ms))) (same-number version (value_in rows) (object ms) (λ e. refl)) ∙ ap (cabinets_said v) (stand-whole rows ms frame)
    ∙ said-version v lists.last has (rows name) s.cabinets.within ∙ sym s.cabinets.holds.said

-- as many as in the frame
same-count : (lists : Lists) (ms : Members) (rows : List ℕ → Items) → faults (object ms) ≡ [] → AllStand lists ms rows → HasNames (version_number (object ms)) lists.last
    → cabinet_count (object (with_lists rows ms)) ≡ cabinet_count (object ms)
same-count lists ms rows none s has =
    let v = version_number (object ms) in
    let name = codes "cabinets" in
    let ds = rows name in
    let n = items_len ds in
    let frame = stand-blank v (get_member name ms) ds (frame-cabinets ms none) s.cabinets.held in
    let blank : cabinet_count (object ms) ≡ n = ap (λ o. length (cabinets_said v o)) frame ∙ each_of-len (cabinet_of v) (blanks n) ∙ blanks-len n in
    ap length (new-cabinets lists ms rows none s has ∙ s.cabinets.holds.said) ∙ each_of-len (cabinet_of 2) ds ∙ sym blank

-- ---- the whole

lists-faultless : (r k : ℕ) (lists : Lists) (ms : Members) (rows : List ℕ → Items) → AllStand lists ms rows → lists.last.round ≤ r → lists.last.cabinet ≤ k
    → fields_faults [] (object (with_lists rows ms)) (event_fields r k) ≡ []
lists-faultless r k lists ms rows s far_round far_cabinet =
    let new = object (with_lists rows ms) in
    let last = lists.last in
    let far = λ (ds : Items) (w : AllOf (AsksWithin false last) ds). within-more (AsksWithin false last) (InRounds r k) ds
    (λ e asks. (chain (number_at (round 86400) e) last.round r asks.0 far_round, chain (number_at (cabinet_number 64) e) last.cabinet k asks.1 far_cabinet)) w in
    let a = list-faults (codes "inputs") [] 1000000 any_input (object_of (input_shape r k)) (input_of 86400 64) _ (value_in rows) (object ms) (rows (codes "inputs")) (λ e. refl) s.inputs.held s.inputs.holds
    (each-within any_input (object_of (input_shape r k)) r k (input-within r k) (list_path (codes "inputs")) _ 0 s.inputs.holds.causes (far _ s.inputs.within)) in
    let b : field_faults [] new (loads r k) ≡ [] = ap (faults_of (loads r k).kind (list_path (loads r k).name)) (stood (loads r k).name (value_in rows) (object ms) (rows (loads r k).name) (λ e. refl) s.loads.held)
    ∙ loads-within r k (list_path (codes "loads")) _ 0 [] s.loads.holds.causes (far _ s.loads.within) in
    let c = list-faults (codes "priority") [] 100000 any_priority (priority_item r k) (priority_of 86400 64) _ (value_in rows) (object ms) (rows (codes "priority")) (λ e. refl) s.priority.held s.priority.holds
    (each-within any_priority (priority_item r k) r k (priority-within r k) (list_path (codes "priority")) _ 0 s.priority.holds.causes (far _ s.priority.within)) in
    let d = list-faults (codes "frames") [] 100000 any_frame (object_of (frame_shape r k)) (frame_of 86400 64) _ (value_in rows) (object ms) (rows (codes "frames")) (λ e. refl) s.frames.held s.frames.holds
    (each-within any_frame (object_of (frame_shape r k)) r k (frame-within r k) (list_path (codes "frames")) _ 0 s.frames.holds.causes (far _ s.frames.within)) in
    let e = list-faults (codes "faults") [] 100000 any_fault (object_of (fault_shape r k)) (fault_of 86400 64) _ (value_in rows) (object ms) (rows (codes "faults")) (λ e. refl) s.faults.held s.faults.holds
    (each-within any_fault (object_of (fault_shape r k)) r k (fault-within r k) (list_path (codes "faults")) _ 0 s.faults.holds.causes (far _ s.faults.within)) in
    none-both (field_faults [] new (inputs r k)) (fields_faults [] new (loads r k ∷ priority r k ∷ frames r k ∷ link_faults r k ∷ [])) a
    (none-both (field_faults [] new (loads r k)) (fields_faults [] new (priority r k ∷ frames r k ∷ link_faults r k ∷ [])) b
    (none-both (field_faults [] new (priority r k)) (fields_faults [] new (frames r k ∷ link_faults r k ∷ [])) c
    (none-both (field_faults [] new (frames r k)) (fields_faults [] new (link_faults r k ∷ [])) d (none-both (field_faults [] new (link_faults r k)) [] e refl))))

names-faultless : (v r k : ℕ) (lists : Lists) (ms : Members) (rows : List ℕ → Items) → AllStand lists ms rows → HasNames v lists.last → lists.last.round ≤ r → lists.last.cabinet ≤ k
    → object_of (scenario_shape v r k) [] (object ms) ≡ [] → object_of (scenario_shape v r k) [] (object (with_lists rows ms)) ≡ []
names-faultless v r k lists ms rows s has round cabinet e =
    let d = object ms in
    let new = object (with_lists rows ms) in
    let known = names (known_fields (scenario_shape v r k) d) in
    let a = none-left (unknown_faults known [] ms) (fields_faults [] d (before_lists v ++ event_fields r k) ++ []) e in
    let b = none-left (fields_faults [] d (before_lists v ++ event_fields r k)) [] a.1 in
    let c = none-left (fields_faults [] d (before_lists v)) (fields_faults [] d (event_fields r k)) (sym (both-fields [] d (before_lists v) (event_fields r k)) ∙ b.0) in
    let g = kept-fields (before_lists v) (value_in rows) [] (object ms) (
      kept version (value_in rows) [] (object ms) (λ e. refl),
      (kept rounds (value_in rows) [] (object ms) (λ e. refl), (kept ticks (value_in rows) [] (object ms) (λ e. refl), (kept community (value_in rows) [] (object ms) (λ e. refl), (cabinets-kept v lists ms rows s has, (master-kept rows lists.schedule.items ms s.schedule.holds s.schedule.held, tt))))),
    ) c.0 in
    let fields : fields_faults [] new (before_lists v ++ event_fields r k) ≡ [] =
    both-fields [] new (before_lists v) (event_fields r k)
    ∙ none-both (fields_faults [] new (before_lists v)) (fields_faults [] new (event_fields r k)) g (lists-faultless r k lists ms rows s round cabinet) in
    none-both (unknown_faults known [] (with_lists rows ms)) (fields_faults [] new (before_lists v ++ event_fields r k) ++ [])
    (unknown-same known [] (value_in rows) ms ∙ a.0) (none-both (fields_faults [] new (before_lists v ++ event_fields r k)) [] fields refl)

-- these parts, with the cabinets, the schedule and what happens in the rounds that were found
abbrev pub with_found : Parts → Lists → Parts
with_found parts lists = record { version = parts.version; setup = setup_with parts.setup lists.cabinets lists.schedule; events = lists.events }

-- what is said where there are this number of rounds and cabinets, is said where there are as many
at-three : (P : ℕ → ℕ → ℕ → Type 0) (a b c x y z : ℕ) → a ≡ x → b ≡ y → c ≡ z → P a b c → P x y z
at-three P a b c x y z e f g h = at-same (P x) b c y z f g (subst (λ n. P n b c) e h)

pub whole-faultless : (parts : Parts) (lists : Lists) (ms : Members) (rows : List ℕ → Items) → Says parts (object ms) → faults (object ms) ≡ [] → AllStand lists ms rows
    → HasNames (version_number (object ms)) lists.last → lists.last.round ≤ parts.setup.rounds → lists.last.cabinet ≤ length parts.setup.cabinets.items
    → all_table_faults 1 (map cabinet_content lists.cabinets.items) ≡ [] → faults (object (with_lists rows ms)) ≡ []
whole-faultless parts lists ms rows says none stands has round cabinet judged =
    let d = object ms in
    let new = object (with_lists rows ms) in
    let old = faultless-parts d none in
    let count : length parts.setup.cabinets.items ≡ cabinet_count d = sym (length-map parts.setup.cabinets.items cabinet_content) ∙ ap length says.setup.cabinets in
    let here =
    names-faultless (version_number d) (round_count d) (cabinet_count d) lists ms rows stands has (subst (λ n. lists.last.round ≤ n) says.setup.rounds round) (subst (λ n. lists.last.cabinet ≤ n) count cabinet) old.0 in
    let as-many = same-count lists ms rows none stands has in
    let names-none : named_faults new ≡ [] =
    at-three (λ v r k. object_of (scenario_shape v r k) [] new ≡ []) (version_number d) (round_count d) (cabinet_count d) (version_number new) (round_count new) (cabinet_count new)
    (sym (same-number version (value_in rows) (object ms) (λ e. refl))) (sym (same-number rounds (value_in rows) (object ms) (λ e. refl))) (sym as-many) here in
    let product : product_faults (cabinet_count new * round_count new * tick_count new) ≡ [] =
    ap (λ n. product_faults (n * round_count new * tick_count new)) as-many ∙ ap (λ n. product_faults (cabinet_count d * n * tick_count new)) (same-number rounds (value_in rows) (object ms) (λ e. refl))
    ∙ ap (λ n. product_faults (cabinet_count d * round_count d * n)) (same-number ticks (value_in rows) (object ms) (λ e. refl)) ∙ old.1 in
    let tables : all_table_faults 1 (cabinets_of new) ≡ [] = ap (all_table_faults 1) (new-cabinets lists ms rows none stands has) ∙ judged in
    none-both (named_faults new)
    (product_faults (cabinet_count new * round_count new * tick_count new) ++ all_table_faults 1 (cabinets_of new)) names-none
    (none-both (product_faults (cabinet_count new * round_count new * tick_count new)) (all_table_faults 1 (cabinets_of new)) product tables)

-- what the items of a list say is what its name says
said-at : {A : Type 0} (f : ℕ → ℕ → Field) (says : ℕ → ℕ → Data → A) (r k : ℕ) (found : List A) (ms : Members) (rows : List ℕ → Items) → Becomes (value_in rows) (f r k).name (rows (f r k).name)
    → (f r k).default ≡ Some (array no_items) → IsHeld (f r k).name (get_member (f r k).name ms) (rows (f r k).name) → found ≡ each_of (says 86400 64) (rows (f r k).name) → ((d : Data) → says 86400 64 d ≡ says r k d)
    → found ≡ events_at f says r k (object (with_lists rows ms))
said-at f says r k found ms rows becomes default held said same =
    let new = get_member (f r k).name (with_lists rows ms) in
    let there : either new (f r k).default ≡ Some (array (rows (f r k).name)) = ap (either new) default ∙ stood (f r k).name (value_in rows) (object ms) (rows (f r k).name) becomes held in
    said ∙ said-same (says 86400 64) (says r k) same (rows (f r k).name) ∙ ap (λ o. list_in (says r k) (unwrap_or o null)) (sym there)

pub whole-said : (parts : Parts) (lists : Lists) (text : List ℕ) (ms : Members) (rows : List ℕ → Items) → Says parts (object ms) → faults (object ms) ≡ [] → AllStand lists ms rows
    → HasNames (version_number (object ms)) lists.last → text ≡ compact_text (object (with_lists rows ms))
    → content_from (with_found parts lists) text ≡ scenario_of (object (with_lists rows ms))
whole-said parts lists text ms rows says none stands has is =
    let new = object (with_lists rows ms) in
    let setup = says.setup in
    let r = round_count new in
    let k = cabinet_count new in
    whole-content (with_found parts lists) text new
    record {
      version = says.version ∙ sym (same-number version (value_in rows) (object ms) (λ e. refl));
      setup = record {
        rounds = setup.rounds ∙ sym (same-number rounds (value_in rows) (object ms) (λ e. refl));
        ticks = setup.ticks ∙ sym (same-number ticks (value_in rows) (object ms) (λ e. refl));
        community = setup.community ∙ sym (ap text_of (same-held community (value_in rows) (object ms) (λ e. refl)));
        cabinets = sym (new-cabinets lists ms rows none stands has);
        master = master-said (master_content parts.setup.master) lists.schedule.items (rows (codes "schedule")) (held master (object ms)) setup.master stands.schedule.holds.said stands.schedule.held
            ∙ ap master_of (sym (master-value rows ms));
      };
      events = record {
        inputs = said-at inputs input_of r k _ ms rows (λ e. refl) refl stands.inputs.held stands.inputs.holds.said (λ d. refl);
        loads = said-at loads load_of r k _ ms rows (λ e. refl) refl stands.loads.held stands.loads.holds.said (λ d. refl);
        priority = said-at priority priority_of r k _ ms rows (λ e. refl) refl stands.priority.held stands.priority.holds.said (λ d. refl);
        frames = said-at frames frame_of r k _ ms rows (λ e. refl) refl stands.frames.held stands.frames.holds.said (λ d. refl);
        faults = said-at link_faults fault_of r k _ ms rows (λ e. refl) refl stands.faults.held stands.faults.holds.said (λ d. refl);
      };
    }
    is
