-- The master with its schedule is without fault where the master and the schedule are, and says what they say.
use Rattle.std.proofs.Common.{◌≡◌, ℕ, List, [], ◌∷◌, ◌++◌, codes, Option, Some, None, unwrap_or, option_map, refl, sym, ap, ◌∙◌}
use Rattle.serde_json.specs.Data.{Data, null, boolean, number, string, array, object, Items, Members, no_members}
use Rattle.serde_json.specs.Find.{get, get_member}
use Rattle.scenario_data.specs.declared.scenario.Entry.{Entry}
use Rattle.scenario_data.specs.Content.{MasterContent}
use Rattle.scenario_read.specs.Paths.{Step, Named}
use Rattle.scenario_read.specs.Fields.{either, faults_of, field_faults, fields_faults, held, names, known_fields, unknown_faults, object_of}
use Rattle.scenario_read.specs.Table.{clock, poll_every, clock_every, pattern_every, retries, schedule, master_shape, master}
use Rattle.scenario_read.specs.Content.{each_of, list_in, entry_of, master_of}
use Rattle.scenario_read.proofs.NoFaults.{none-left, none-both}
use Rattle.scenario_file.specs.Listing.{ToldEntries, any_entry}
use Rattle.scenario_file.specs.Framing.{filled, scheduled, master_with, value_in, with_lists, HoldsPlace}
use Rattle.scenario_file.proofs.Frames.{get-in}
use Rattle.scenario_file.proofs.Filled.{unknown-same, kept, kept-fields, same-number, stood, list-faults}
use Rattle.scenario_file.proofs.Standing.{master_or_none}

abbrev master_path : List Step
master_path = Named (codes "master") ∷ []

schedule-kept : (ds : Items) (found : List Entry) (d : Data) → ToldEntries found ds → HoldsPlace d ds → object_of master_shape master_path d ≡ [] → object_of master_shape master_path (master_with ds d) ≡ []
schedule-kept ds found null told held e = e
schedule-kept ds found (boolean b) told held e = e
schedule-kept ds found (number n) told held e = e
schedule-kept ds found (string s) told held e = e
schedule-kept ds found (array es) told held e = e
schedule-kept ds found (object ms) told held e =
    let d = object ms in
    let new = object (filled (scheduled ds) ms) in
    let path = master_path in
    let fields = master_shape.fields in
    let known = names (known_fields master_shape d) in
    let a = none-left (unknown_faults known path ms) (fields_faults path d fields ++ []) e in
    let b = none-left (fields_faults path d fields) [] a.1 in
    let entries : field_faults path new schedule ≡ [] =
    list-faults (codes "schedule") path 1000 any_entry any_entry entry_of found (scheduled ds) d ds (λ x. refl) held told told.causes in
    let g = kept-fields fields (scheduled ds) path d (
      kept clock (scheduled ds) path d (λ x. refl),
      (
        kept poll_every (scheduled ds) path d (λ x. refl),
        (
          kept clock_every (scheduled ds) path d (λ x. refl),
          (kept pattern_every (scheduled ds) path d (λ x. refl), (kept retries (scheduled ds) path d (λ x. refl), (λ x. entries, tt))),
        ),
      ),
    ) b.0 in
    none-both (unknown_faults known path (filled (scheduled ds) ms)) (fields_faults path new fields ++ []) (unknown-same known path (scheduled ds) ms ∙ a.0)
    (none-both (fields_faults path new fields) [] g refl)

-- the master of the value is that of the frame, with the schedule
pub master-value : (rows : List ℕ → Items) (ms : Members) → held master (object (with_lists rows ms)) ≡ master_with (rows (codes "schedule")) (held master (object ms))
master-value rows ms = ap master_or_none (get-in (value_in rows) (codes "master") (object ms)) ∙ through (get_member (codes "master") ms)
  where
    through : (o : Option Data) → master_or_none (option_map (value_in rows (codes "master")) o) ≡ master_with (rows (codes "schedule")) (master_or_none o)
    through None = refl
    through (Some d) = refl

faults-at : (d : Data) → field_faults [] d master ≡ object_of master_shape master_path (held master d)
faults-at d = at (get (codes "master") d)
  where
    at : (o : Option Data) → faults_of (object_of master_shape) master_path (either o (Some (object no_members))) ≡ object_of master_shape master_path (master_or_none o)
    at None = refl
    at (Some e) = refl

pub master-kept : (rows : List ℕ → Items) (found : List Entry) (ms : Members) → ToldEntries found (rows (codes "schedule")) → HoldsPlace (held master (object ms)) (rows (codes "schedule"))
    → field_faults [] (object ms) master ≡ [] → field_faults [] (object (with_lists rows ms)) master ≡ []
master-kept rows found ms told place e =
    faults-at (object (with_lists rows ms)) ∙ ap (object_of master_shape master_path) (master-value rows ms)
    ∙ schedule-kept (rows (codes "schedule")) found (held master (object ms)) told place (sym (faults-at (object ms)) ∙ e)

-- ---- what it says

abbrev content : ℕ → ℕ → ℕ → ℕ → ℕ → List Entry → MasterContent
content c p o a r entries = record { clock = c; poll_every = p; clock_every = o; pattern_every = a; retries = r; schedule = entries }

by-parts : (c p o a r d q s b t : ℕ) (entries other : List Entry) → c ≡ d → p ≡ q → o ≡ s → a ≡ b → r ≡ t → entries ≡ other → content c p o a r entries ≡ content d q s b t other
by-parts c p o a r d q s b t entries other e f g h i j = rw (e, f, g, h, i, j) refl

pub master-said : (m : MasterContent) (entries : List Entry) (ds : Items) (d : Data) → m ≡ master_of d → entries ≡ each_of entry_of ds → HoldsPlace d ds
    → content m.clock m.poll_every m.clock_every m.pattern_every m.retries entries ≡ master_of (master_with ds d)
master-said m entries ds d is said place =
    let fill = scheduled ds in
    by-parts _ _ _ _ _ _ _ _ _ _ entries (list_in entry_of (held schedule (master_with ds d)))
    (ap (λ (x : MasterContent). x.clock) is ∙ sym (same-number clock fill d (λ x. refl)))
    (ap (λ (x : MasterContent). x.poll_every) is ∙ sym (same-number poll_every fill d (λ x. refl)))
    (ap (λ (x : MasterContent). x.clock_every) is ∙ sym (same-number clock_every fill d (λ x. refl)))
    (ap (λ (x : MasterContent). x.pattern_every) is ∙ sym (same-number pattern_every fill d (λ x. refl)))
    (ap (λ (x : MasterContent). x.retries) is ∙ sym (same-number retries fill d (λ x. refl)))
    (said ∙ ap (λ o. list_in entry_of (unwrap_or o null)) (sym (stood (codes "schedule") fill d ds (λ x. refl) place)))
