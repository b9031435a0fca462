-- What is kept of a scenario's value has its first fault.
use Rattle.std.proofs.Common.{◌≡◌, ◌≤◌, ◌<◌, ℕ, zero, suc, ◌+◌, ◌*◌, ◌==◌, ◌&&◌, nat_le, Bool, true, false, if◌then◌else◌, List, [], ◌∷◌, ◌++◌, length, codes, Option, Some, None, option_map, unwrap_or, refl, sym, ap, ap₂, ◌∙◌, subst, arith}
use Rattle.std.proofs.lemmas.Bool.{leb-false}
use Rattle.serde_json.specs.Data.{Data, null, boolean, number, string, array, object, Items, no_items, item, Members}
use Rattle.serde_json.specs.Events.{items_len}
use Rattle.serde_json.specs.Find.{get}
use Rattle.scenario_data.specs.declared.refusal.ReadFail.{ReadFail}
use Rattle.scenario_data.specs.declared.refusal.ReadFail.TheVariants.{Refused, NoMemory}
use Rattle.scenario_read.specs.Readers.{Refuses}
use Rattle.scenario_data.specs.Causes.{Cause, Names}
use Rattle.scenario_data.specs.Content.{CabinetContent}
use Rattle.scenario_read.specs.Paths.{Step, then_named, then_item}
use Rattle.scenario_read.specs.Kinds.{Fits, Beyond, Kind, fault_at, within, list_fits, list_of, list_behind, items_in, each, is_among}
use Rattle.scenario_read.specs.Fields.{Field, held, either, faults_of, field_faults, fields_faults, object_of, unknown_faults, names, known_fields}
use Rattle.scenario_read.specs.CellLists.{cell, cell_of, whole_of}
use Rattle.scenario_read.specs.Table
use Rattle.scenario_read.specs.Table.{load, load_cabinet}
use Rattle.scenario_read.specs.Content.{each_of, list_in, base_of, cabinet_of, drift_at, version_number, round_count, tick_count, cabinets_of, cabinet_count}
use Rattle.scenario_read.specs.Faults.{named_faults, product_faults, all_table_faults, faults, first_cause}
use Rattle.scenario_read.proofs.NoFaults.{fits-alone}
use Rattle.scenario_read.proofs.Walks.{each_of-len}
use Rattle.scenario_cut.specs.Cutting.{Whole, Cabinets, Cabinet, Events, Event, Rows, Row, Bare, names_at, cut, cut_items, member_form}
use Rattle.scenario_cut.proofs.Same.{Same, Faulty, same-both, same-ended, faulty-first, faulty-later}
use Rattle.scenario_cut.proofs.Members.{IsObject, AllKeep, object-same, held-cut, get-cut}
use Rattle.scenario_cut.proofs.Items.{KeepsItem, Stops, len-few, past-most, few-same, list-same, each-event, each-behind-event, behind-same, says-counted}
use Rattle.scenario_cut.proofs.Bare.{bare-says, cell-said}
use Rattle.scenario_cut.proofs.Kept.{whole-same, text-same, bare-number, is-cabinet, cabinet-same, master-same, input-same, load-same, load-cabinet-same, priority-same, frame-same, fault-same, object-stops, load-stops, priority-stops, le-of}

is-whole : IsObject Whole
is-whole = record { opens = refl; closed = refl }

-- ---- the lists

cabinets-same : (version : ℕ) → KeepsItem Cabinets (list_of 1 64 (Table.cabinet version))
cabinets-same version path d = few-same Cabinets (record { opens = refl; closed = refl }) (λ n d. refl) 1 64 (omega arith) (Table.cabinet version) (cabinet-same version) path d

pub events-same : (most : ℕ) (kind : Kind) → KeepsItem Event kind → Stops kind → KeepsItem Events (list_of 0 most kind)
events-same most kind keeps stops path d = list-same Events (record { opens = refl; closed = refl }) refl 0 most kind path d (λ ds few. each-event kind keeps stops path 0 0 ds)

loads-same : (rounds cabinets : ℕ) → KeepsItem Events (list_behind (load rounds cabinets) (load_cabinet cabinets))
loads-same rounds cabinets path d =
    behind-same (load rounds cabinets) (load_cabinet cabinets) path d
    (λ ds. each-behind-event (load rounds cabinets) (load_cabinet cabinets) (load-same rounds cabinets) (load-stops rounds cabinets) (load-cabinet-same cabinets) path 0 0 [] ds)

all-keep : (version rounds cabinets : ℕ) → AllKeep Whole (Table.version ∷ (Table.setup_fields version ++ Table.event_fields rounds cabinets))
all-keep version rounds cabinets = (
  whole-same 1 2,
  (
    whole-same 1 86400,
    (
      whole-same 1 600,
      (
        text-same 1 32,
        (
          cabinets-same version,
          (
            master-same,
            (
              events-same 1000000 (object_of (Table.input_shape rounds cabinets)) (input-same rounds cabinets) (object-stops rounds cabinets [] Table.input_fields),
              (
                loads-same rounds cabinets,
                (
                  events-same 100000 (Table.priority_item rounds cabinets) (priority-same rounds cabinets) (priority-stops rounds cabinets),
                  (
                    events-same 100000 (object_of (Table.frame_shape rounds cabinets)) (frame-same rounds cabinets) (object-stops rounds cabinets (Table.stream ∷ Table.frame_hex ∷ []) []),
                    (
                      events-same 100000 (object_of (Table.fault_shape rounds cabinets)) (fault-same rounds cabinets)
                          (object-stops rounds cabinets (Table.stream ∷ Table.way ∷ Table.index ∷ Table.fault_kind ∷ Table.by ∷ Table.octet ∷ []) []),
                      tt,
                    ),
                  ),
                ),
              ),
            ),
          ),
        ),
      ),
    ),
  ),
)

-- ---- the numbers of the whole

version-same : (d : Data) → version_number (cut Whole d) ≡ version_number d
version-same = held-cut Whole is-whole Table.version refl whole_of bare-number

pub rounds-same : (d : Data) → round_count (cut Whole d) ≡ round_count d
rounds-same = held-cut Whole is-whole Table.rounds refl whole_of bare-number

ticks-same : (d : Data) → tick_count (cut Whole d) ≡ tick_count d
ticks-same = held-cut Whole is-whole Table.ticks refl whole_of bare-number

-- the number of cabinets, however they are read
abbrev pub cabinets_in : Data → ℕ
cabinets_in d = items_len (items_in (held (Table.cabinets 1) d))

counted : (version : ℕ) (d : Data) → length (list_in (cabinet_of version) (held (Table.cabinets version) d)) ≡ cabinets_in d
counted version d = each_of-len (cabinet_of version) (items_in (held (Table.cabinets version) d))

abbrev value_or_null : Option Data → Data
value_or_null o = unwrap_or (either o None) null

few-kept : (d : Data) → items_len (items_in d) ≤ 64 → items_len (items_in (cut Cabinets d)) ≡ items_len (items_in d)
few-kept null few = refl
few-kept (boolean b) few = refl
few-kept (number n) few = refl
few-kept (string s) few = refl
few-kept (array ds) few = len-few Cabinet (λ n d. refl) 65 ds (omega (arith, few))
few-kept (object ms) few = refl

-- of no more cabinets than a scenario may have as many are kept
pub count-same : (d : Data) → cabinets_in d ≤ 64 → cabinet_count (cut Whole d) ≡ cabinet_count d
count-same d few = counted (version_number (cut Whole d)) (cut Whole d) ∙ held-few ∙ sym (counted (version_number d) d)
  where
    at : (o : Option Data) → items_len (items_in (value_or_null o)) ≤ 64 → items_len (items_in (value_or_null (option_map (cut Cabinets) o))) ≡ items_len (items_in (value_or_null o))
    at None low = refl
    at (Some v) low = few-kept v low

    held-few : cabinets_in (cut Whole d) ≡ cabinets_in d
    held-few = ap (λ o. items_len (items_in (value_or_null o))) (get-cut Whole is-whole (codes "cabinets") refl d) ∙ at (get (codes "cabinets") d) few

-- more are at fault
many-items : (version : ℕ) (path : List Step) (d : Data) → 64 < items_len (items_in d) → Faulty (list_of 1 64 (Table.cabinet version) path d)
many-items version path null many = absurd (omega (arith, many))
many-items version path (boolean b) many = absurd (omega (arith, many))
many-items version path (number n) many = absurd (omega (arith, many))
many-items version path (string s) many = absurd (omega (arith, many))
many-items version path (array ds) many =
    faulty-first (fault_at path (within 1 64 (items_len ds))) _ (subst (λ fit. Faulty (fault_at path fit)) (sym (past-most 1 64 (items_len ds) many)) tt)
many-items version path (object ms) many = absurd (omega (arith, many))

many-cabinets : (version : ℕ) (d : Data) → 64 < cabinets_in d → Faulty (field_faults [] d (Table.cabinets version))
many-cabinets version d many = at (get (codes "cabinets") d) many
  where
    path : List Step
    path = then_named [] (codes "cabinets")

    at : (o : Option Data) → 64 < items_len (items_in (value_or_null o)) → Faulty (faults_of (list_of 1 64 (Table.cabinet version)) path (either o None))
    at None low = absurd (omega (arith, low))
    at (Some v) low = many-items version path v low

-- a fault of the cabinets comes before all that hangs on their number
behind-fifth : (v r t c a m e g : List Cause) → Faulty a → Same (v ++ (r ++ (t ++ (c ++ (a ++ (m ++ e)))))) (v ++ (r ++ (t ++ (c ++ (a ++ (m ++ g))))))
behind-fifth (x ∷ v) r t c a m e g f = refl
behind-fifth [] (x ∷ r) t c a m e g f = refl
behind-fifth [] [] (x ∷ t) c a m e g f = refl
behind-fifth [] [] [] (x ∷ c) a m e g f = refl
behind-fifth [] [] [] [] (x ∷ a) m e g f = refl
behind-fifth [] [] [] [] [] m e g f = absurd f

counts-same : (version rounds n k : ℕ) (d : Data) → Faulty (field_faults [] d (Table.cabinets version))
    → Same (object_of (Table.scenario_shape version rounds n) [] d) (object_of (Table.scenario_shape version rounds k) [] d)
counts-same version rounds n k null f = refl
counts-same version rounds n k (boolean b) f = refl
counts-same version rounds n k (number m) f = refl
counts-same version rounds n k (string s) f = refl
counts-same version rounds n k (array ds) f = refl
counts-same version rounds n k (object ms) f =
    let d = object ms in
    let unknown = unknown_faults (names (known_fields (Table.scenario_shape version rounds n) d)) [] ms in
    same-both unknown unknown _ _ refl
    (same-both (fields_faults [] d (Table.scenario_shape version rounds n).fields) (fields_faults [] d (Table.scenario_shape version rounds k).fields) [] []
    (behind-fifth (field_faults [] d Table.version) (field_faults [] d Table.rounds) (field_faults [] d Table.ticks) (field_faults [] d Table.community)
    (field_faults [] d (Table.cabinets version)) (field_faults [] d Table.master) (fields_faults [] d (Table.event_fields rounds n)) (fields_faults [] d (Table.event_fields rounds k)) f)
    refl)

named-same : (d : Data) → Same (named_faults (cut Whole d)) (named_faults d)
named-same d =
    ap (λ v. first_cause (object_of (Table.scenario_shape v (round_count (cut Whole d)) (cabinet_count (cut Whole d))) [] (cut Whole d))) (version-same d)
    ∙ ap (λ r. first_cause (object_of (Table.scenario_shape (version_number d) r (cabinet_count (cut Whole d))) [] (cut Whole d))) (rounds-same d)
    ∙ object-same Whole is-whole (Table.scenario_shape (version_number d) (round_count d) (cabinet_count (cut Whole d))) refl [] d (all-keep (version_number d) (round_count d) (cabinet_count (cut Whole d))) tt
    ∙ at (nat_le (cabinets_in d) 64) refl
  where
    at : (b : Bool) → nat_le (cabinets_in d) 64 ≡ b
        → Same (object_of (Table.scenario_shape (version_number d) (round_count d) (cabinet_count (cut Whole d))) [] d) (object_of (Table.scenario_shape (version_number d) (round_count d) (cabinet_count d)) [] d)
    at true few = ap (λ c. first_cause (object_of (Table.scenario_shape (version_number d) (round_count d) c) [] d)) (count-same d (le-of (cabinets_in d) 64 few))
    at false many = counts-same (version_number d) (round_count d) (cabinet_count (cut Whole d)) (cabinet_count d) d (many-cabinets (version_number d) d (leb-false (cabinets_in d) 64 many))

named-fault : (d : Data) → 64 < cabinets_in d → Faulty (named_faults d)
named-fault null many = absurd (omega (arith, many))
named-fault (boolean b) many = absurd (omega (arith, many))
named-fault (number n) many = absurd (omega (arith, many))
named-fault (string s) many = absurd (omega (arith, many))
named-fault (array ds) many = absurd (omega (arith, many))
named-fault (object ms) many =
    let d = object ms in
    let version = version_number d in
    let shape = Table.scenario_shape version (round_count d) (cabinet_count d) in
    faulty-later (unknown_faults (names (known_fields shape d)) [] ms) _
    (faulty-first (fields_faults [] d shape.fields) []
    (faulty-later (field_faults [] d Table.version) _ (faulty-later (field_faults [] d Table.rounds) _ (faulty-later (field_faults [] d Table.ticks) _
    (faulty-later (field_faults [] d Table.community) _ (faulty-first (field_faults [] d (Table.cabinets version)) _ (many-cabinets version d many)))))))

pub count-fault : (d : Data) → 64 < cabinets_in d → Faulty (faults d)
count-fault d many = faulty-first (named_faults d) _ (named-fault d many)

few-named : (d : Data) → named_faults d ≡ [] → cabinets_in d ≤ 64
few-named d none = at (nat_le (cabinets_in d) 64) refl
  where
    at : (b : Bool) → nat_le (cabinets_in d) 64 ≡ b → cabinets_in d ≤ 64
    at true few = le-of (cabinets_in d) 64 few
    at false many = absurd (subst Faulty none (named-fault d (leb-false (cabinets_in d) 64 many)))

-- ---- the tables

none-first : (xs ys : List Cause) → xs ++ ys ≡ [] → xs ≡ []
none-first [] ys e = refl
none-first (x ∷ xs) ys e = absurd (cc)

none-later : (xs ys : List Cause) → xs ++ ys ≡ [] → ys ≡ []
none-later [] ys e = e
none-later (x ∷ xs) ys e = absurd (cc)

few-of : (least most n : ℕ) → within least most n ≡ Fits → n ≤ most
few-of least most n fits = le-of n most (at (nat_le least n) (nat_le n most) refl fits)
  where
    at : (a b : Bool) → nat_le n most ≡ b → (if a && b then Fits else Beyond) ≡ Fits → nat_le n most ≡ true
    at true true is k = is
    at true false is k = absurd (cc)
    at false true is k = absurd (cc)
    at false false is k = absurd (cc)

-- where there are no more cells than are kept
cells-said : (d : Data) → list_fits 0 4096 d ≡ Fits → list_in cell_of (cut Rows d) ≡ list_in cell_of d
cells-said null fits = refl
cells-said (boolean b) fits = refl
cells-said (number n) fits = refl
cells-said (string s) fits = refl
cells-said (array ds) fits = let few = few-of 0 4096 (items_len ds) fits in says-counted Row cell_of cell-said (λ n d. refl) 4097 ds (omega (arith, few))
cells-said (object ms) fits = refl

-- the cells that a cabinet has, or none
abbrev cells_or_none : Option Data → Data
cells_or_none o = unwrap_or (either o (Some (array no_items))) null

abbrev pub CellsFit : Data → Type 0
CellsFit d = list_fits 0 4096 (cells_or_none (get (codes "cells") d)) ≡ Fits

held-cells : (d : Data) → CellsFit d → list_in cell_of (held Table.cells (cut Cabinet d)) ≡ list_in cell_of (held Table.cells d)
held-cells d fits = ap (λ o. list_in cell_of (cells_or_none o)) (get-cut Cabinet is-cabinet (codes "cells") refl d) ∙ at (get (codes "cells") d) fits
  where
    at : (o : Option Data) → list_fits 0 4096 (cells_or_none o) ≡ Fits → list_in cell_of (cells_or_none (option_map (cut Rows) o)) ≡ list_in cell_of (cells_or_none o)
    at None k = refl
    at (Some v) k = cells-said v k

drift-said : (version : ℕ) (field : Field) → is_among (names_at Cabinet) field.name ≡ true → member_form Cabinet field.name ≡ Bare → (d : Data) → drift_at version field (cut Cabinet d) ≡ drift_at version field d
drift-said version field has bare d = ap (λ n. if version == 2 then n else 0) (held-cut Cabinet is-cabinet field has whole_of (λ v. ap (λ f. whole_of (cut f v)) bare ∙ bare-number v) d)

pub cabinet-said : (version : ℕ) (d : Data) → CellsFit d → cabinet_of version (cut Cabinet d) ≡ cabinet_of version d
cabinet-said version d fits =
    rw (
      held-cut Cabinet is-cabinet Table.base refl base_of (bare-says base_of (λ (ds : Items). refl) (λ (ms : Members). refl)) d,
      held-cells d fits,
      held-cut Cabinet is-cabinet Table.pattern refl whole_of bare-number d,
      held-cut Cabinet is-cabinet Table.clock refl whole_of bare-number d,
      held-cut Cabinet is-cabinet Table.section refl whole_of bare-number d,
      drift-said version Table.gain refl refl d,
      drift-said version Table.lose refl refl d,
    ) refl

-- a cabinet without faults has cells that fit
pub cells-fit : (version : ℕ) (path : List Step) (d : Data) → Table.cabinet version path d ≡ [] → CellsFit d
cells-fit version path null e = absurd (cc)
cells-fit version path (boolean b) e = absurd (cc)
cells-fit version path (number n) e = absurd (cc)
cells-fit version path (string s) e = absurd (cc)
cells-fit version path (array ds) e = absurd (cc)
cells-fit version path (object ms) e =
    let d = object ms in
    let shape = Table.cabinet_shape version in
    let named = none-first (object_of shape path d) (Table.drift_faults version path d) e in
    let fields = none-first (fields_faults path d shape.fields) [] (none-later (unknown_faults (names (known_fields shape d)) path ms) (fields_faults path d shape.fields ++ []) named) in
    let behind = Table.pattern ∷ Table.clock ∷ Table.section ∷ Table.drift_fields version in
    let at-base = none-later (field_faults path d Table.base) (fields_faults path d (Table.cells ∷ behind)) fields in
    at (then_named path (codes "cells")) (get (codes "cells") d) (none-first (field_faults path d Table.cells) (fields_faults path d behind) at-base)
  where
    at : (here : List Step) (o : Option Data) → faults_of (list_of 0 4096 cell) here (either o (Some (array no_items))) ≡ [] → list_fits 0 4096 (cells_or_none o) ≡ Fits
    at here None k = refl
    at here (Some v) k = fits-alone here (list_fits 0 4096 v) (none-first (fault_at here (list_fits 0 4096 v)) (each cell here 0 (items_in v)) k)

-- cabinets without faults
each-said : (version : ℕ) (path : List Step) (n p : ℕ) (ds : Items) → items_len ds ≤ n → each (Table.cabinet version) path p ds ≡ [] → each_of (cabinet_of version) (cut_items Cabinet n ds) ≡ each_of (cabinet_of version) ds
each-said version path n p no_items few e = refl
each-said version path zero p (item d ds) few e = absurd (omega (arith, few))
each-said version path (suc n) p (item d ds) few e =
    let here = none-first (Table.cabinet version (then_item path p) d) (each (Table.cabinet version) path (p + 1) ds) e in
    let later = none-later (Table.cabinet version (then_item path p) d) (each (Table.cabinet version) path (p + 1) ds) e in
    ap₂ (λ (c : CabinetContent) cs. c ∷ cs) (cabinet-said version d (cells-fit version (then_item path p) d here)) (each-said version path n (p + 1) ds (omega (arith, few)) later)

cabinets-said : (version : ℕ) (path : List Step) (d : Data) → list_of 1 64 (Table.cabinet version) path d ≡ [] → list_in (cabinet_of version) (cut Cabinets d) ≡ list_in (cabinet_of version) d
cabinets-said version path null e = refl
cabinets-said version path (boolean b) e = refl
cabinets-said version path (number n) e = refl
cabinets-said version path (string s) e = refl
cabinets-said version path (array ds) e =
    let own = fault_at path (within 1 64 (items_len ds)) in
    let inner = each (Table.cabinet version) path 0 ds in
    let few = few-of 1 64 (items_len ds) (fits-alone path (within 1 64 (items_len ds)) (none-first own inner e)) in
    each-said version path 65 0 ds (omega (arith, few)) (none-later own inner e)
cabinets-said version path (object ms) e = refl

cabinets-clean : (d w : Data) → named_faults d ≡ [] → get (codes "cabinets") d ≡ Some w → list_of 1 64 (Table.cabinet (version_number d)) (then_named [] (codes "cabinets")) w ≡ []
cabinets-clean null w none is = absurd (cc)
cabinets-clean (boolean b) w none is = absurd (cc)
cabinets-clean (number n) w none is = absurd (cc)
cabinets-clean (string s) w none is = absurd (cc)
cabinets-clean (array ds) w none is = absurd (cc)
cabinets-clean (object ms) w none is =
    let d = object ms in
    let version = version_number d in
    let events = Table.event_fields (round_count d) (cabinet_count d) in
    let shape = Table.scenario_shape version (round_count d) (cabinet_count d) in
    let path = then_named [] (codes "cabinets") in
    let fields = none-first (fields_faults [] d shape.fields) [] (none-later (unknown_faults (names (known_fields shape d)) [] ms) (fields_faults [] d shape.fields ++ []) none) in
    let at-rounds = none-later (field_faults [] d Table.version) (fields_faults [] d (Table.setup_fields version ++ events)) fields in
    let at-ticks = none-later (field_faults [] d Table.rounds) (fields_faults [] d (Table.ticks ∷ Table.community ∷ Table.cabinets version ∷ Table.master ∷ events)) at-rounds in
    let at-community = none-later (field_faults [] d Table.ticks) (fields_faults [] d (Table.community ∷ Table.cabinets version ∷ Table.master ∷ events)) at-ticks in
    let at-cabinets = none-later (field_faults [] d Table.community) (fields_faults [] d (Table.cabinets version ∷ Table.master ∷ events)) at-community in
    let here = none-first (field_faults [] d (Table.cabinets version)) (fields_faults [] d (Table.master ∷ events)) at-cabinets in
    subst (λ o. faults_of (list_of 1 64 (Table.cabinet version)) path (either o None) ≡ []) is here

tables-said : (d : Data) → named_faults d ≡ [] → cabinets_of (cut Whole d) ≡ cabinets_of d
tables-said d none =
    ap (λ v. list_in (cabinet_of v) (held (Table.cabinets v) (cut Whole d))) (version-same d)
    ∙ ap (λ o. list_in (cabinet_of version) (unwrap_or (either o None) null)) (get-cut Whole is-whole (codes "cabinets") refl d) ∙ at (get (codes "cabinets") d) refl
  where
    version : ℕ
    version = version_number d

    at : (o : Option Data) → get (codes "cabinets") d ≡ o → list_in (cabinet_of version) (unwrap_or (either (option_map (cut Cabinets) o) None) null) ≡ list_in (cabinet_of version) (unwrap_or (either o None) null)
    at None is = refl
    at (Some w) is = cabinets-said version (then_named [] (codes "cabinets")) w (cabinets-clean d w none is)

pub first-kept : (d : Data) → Same (faults (cut Whole d)) (faults d)
first-kept d = at (named_faults d) refl
  where
    here : List Cause
    here = product_faults (cabinet_count d * round_count d * tick_count d) ++ all_table_faults 1 (cabinets_of d)

    there : List Cause
    there = product_faults (cabinet_count (cut Whole d) * round_count (cut Whole d) * tick_count (cut Whole d)) ++ all_table_faults 1 (cabinets_of (cut Whole d))

    same-product : cabinets_in d ≤ 64 → cabinet_count (cut Whole d) * round_count (cut Whole d) * tick_count (cut Whole d) ≡ cabinet_count d * round_count d * tick_count d
    same-product few = ap₂ (λ (a b : ℕ). a * b) (ap₂ (λ (a b : ℕ). a * b) (count-same d few) (rounds-same d)) (ticks-same d)

    at : (xs : List Cause) → named_faults d ≡ xs → Same (named_faults (cut Whole d) ++ there) (named_faults d ++ here)
    at [] none = same-both (named_faults (cut Whole d)) (named_faults d) there here (named-same d) (ap₂ (λ n (cs : List CabinetContent). first_cause (product_faults n ++ all_table_faults 1 cs)) (same-product (few-named d none)) (tables-said d none))
    at (x ∷ xs) some = same-ended (named_faults (cut Whole d)) (named_faults d) there here (named-same d) (subst Faulty (sym some) tt)

-- a refusal of what is kept is one of the value
pub refuses-kept : (fail : ReadFail) (d : Data) → Refuses fail (faults (cut Whole d)) → Refuses fail (faults d)
refuses-kept (Refused refusal) d h = subst (λ o. Names refusal o) (first-kept d) h
refuses-kept NoMemory d h = tt
