-- A value without faults is kept whole: an array or an object is only where one may be, each list has room for its
-- items, and what represents a different thing from itself is at fault.
use Rattle.std.proofs.Common.{◌≡◌, ◌≤◌, ℕ, zero, suc, ◌+◌, ◌==◌, ◌&&◌, nat_le, Bool, true, false, if◌then◌else◌, List, [], ◌∷◌, ◌++◌, codes, refl, ap, ap₂, ◌∙◌, subst, arith}
use Rattle.std.proofs.lemmas.Bool.{and_parts}
use Rattle.serde_json.specs.Data.{Data, null, boolean, number, string, array, object, Items, no_items, item, Members, no_members, member}
use Rattle.serde_json.specs.Events.{items_len}
use Rattle.scenario_data.specs.Causes.{Cause}
use Rattle.scenario_read.specs.Faults.{faults}
use Rattle.scenario_read.specs.Content.{version_number, round_count, cabinet_count}
use Rattle.scenario_read.specs.Paths.{Step, then_item}
use Rattle.scenario_read.specs.Kinds.{Fit, Fits, Wrong, Beyond, Kind, fault_at, within, whole, rare, text, word, flag, whole_fits, rare_fits, text_fits, word_fits, flag_fits, each, list_of, each_behind, list_behind}
use Rattle.scenario_read.specs.CellLists.{cell, octets_fits, hex_text}
use Rattle.scenario_read.specs.Fields.{Shape, fields_faults, alternative_faults, known_fields, names, unknown_faults, object_of}
use Rattle.scenario_read.specs.Sorted.{Sorted, ItemsSorted}
use Rattle.scenario_read.specs.Table
use Rattle.scenario_read.proofs.NoFaults.{none-left}
use Rattle.scenario_read.proofs.Whole.{faultless-parts}
use Rattle.scenario_cut.specs.Cutting.{Form, Whole, Cabinets, Cabinet, Events, Event, Pulses, Pulse, Master, Entries, Entry, Rows, Row, Bare, is_of_a_round, is_a_pulse, room_behind, member_form, names_at, few, cut, cut_items, cut_members}
use Rattle.scenario_cut.proofs.Same.{Faulty}
use Rattle.scenario_cut.proofs.Known.{AtEach, AllGive, EachGives, at-each}
use Rattle.scenario_cut.proofs.Plain.{cell-whole}
use Rattle.scenario_cut.proofs.Few.{all_among, each_among, covers, known-among, whole-few}
use Rattle.scenario_cut.proofs.Members.{IsObject, kept-object}
use Rattle.scenario_cut.proofs.Items.{IsArray, kept, kept-list, Stops, PulseStops}
use Rattle.scenario_cut.proofs.Kept.{le-of, is-cabinet, covers-cabinet, is-event, object-stops, load-stops, priority-stops}

-- a value of the kind that has no faults is kept whole there
abbrev pub Entire : Form → Kind → Type 0
Entire f kind = (path : List Step) (d : Data) → Sorted d → kind path d ≡ [] → cut f d ≡ d

-- what else may be at fault after a kind's own faults
more-entire : (f : Form) (kind : Kind) (more : List Step → Data → List Cause) → Entire f kind → Entire f (λ path d. kind path d ++ more path d)
more-entire f kind more good path d sorted e = good path d sorted (none-left (kind path d) (more path d) e).0

-- ---- a place where only a number, a text or a word may be

wrong : (path : List Step) (fit : Fit) → fit ≡ Wrong → fault_at path fit ≡ [] → ⊥
wrong path Fits is e = cc
wrong path Wrong is e = cc
wrong path Beyond is e = cc

bare-entire : (fits : Data → Fit) → ((ds : Items) → fits (array ds) ≡ Wrong) → ((ms : Members) → fits (object ms) ≡ Wrong) → Entire Bare (λ path d. fault_at path (fits d))
bare-entire fits arrays objects path null sorted e = refl
bare-entire fits arrays objects path (boolean b) sorted e = refl
bare-entire fits arrays objects path (number n) sorted e = refl
bare-entire fits arrays objects path (string s) sorted e = refl
bare-entire fits arrays objects path (array ds) sorted e = absurd (wrong path (fits (array ds)) (arrays ds) e)
bare-entire fits arrays objects path (object ms) sorted e = absurd (wrong path (fits (object ms)) (objects ms) e)

pub whole-entire : (least most : ℕ) → Entire Bare (whole least most)
whole-entire least most = bare-entire (whole_fits least most) (λ (ds : Items). refl) (λ (ms : Members). refl)

rare-entire : (least most : ℕ) → Entire Bare (rare least most)
rare-entire least most = bare-entire (rare_fits least most) (λ (ds : Items). refl) (λ (ms : Members). refl)

text-entire : (least most : ℕ) → Entire Bare (text least most)
text-entire least most = bare-entire (text_fits least most) (λ (ds : Items). refl) (λ (ms : Members). refl)

word-entire : (words : List (List ℕ)) → Entire Bare (word words)
word-entire words = bare-entire (word_fits words) (λ (ds : Items). refl) (λ (ms : Members). refl)

pub flag-entire : Entire Bare flag
flag-entire = bare-entire flag_fits (λ (ds : Items). refl) (λ (ms : Members). refl)

hex-entire : (most : ℕ) → Entire Bare (hex_text most)
hex-entire most = bare-entire (octets_fits most) (λ (ds : Items). refl) (λ (ms : Members). refl)

-- ---- cells

cell-entire : Entire Row cell
cell-entire path null sorted e = refl
cell-entire path (boolean b) sorted e = refl
cell-entire path (number n) sorted e = refl
cell-entire path (string s) sorted e = refl
cell-entire path (array ds) sorted e = ap array (cell-whole path ds e)
cell-entire path (object ms) sorted e = absurd (cc)

-- ---- lists

-- after an item without faults there is room for any number
abbrev pub Roomy : Form → Kind → Type 0
Roomy f kind = (path : List Step) (n : ℕ) (d : Data) → kind path d ≡ [] → room_behind f n d ≡ suc n

pub each-entire : (f : Form) (kind : Kind) → Entire f kind → Roomy f kind → (path : List Step) (n p : ℕ) (ds : Items) → ItemsSorted ds → each kind path p ds ≡ [] → cut_items f (suc n) ds ≡ ds
each-entire f kind good room path n p no_items sorted e = refl
each-entire f kind good room path n p (item d ds) sorted e =
    let here = then_item path p in
    let parts = none-left (kind here d) (each kind path (p + 1) ds) e in
    ap₂ item (good here d sorted.0 parts.0) (ap (λ m. cut_items f m ds) (room here n d parts.0) ∙ each-entire f kind good room path n (p + 1) ds sorted.1 parts.1)

-- a list of that many items at the most
pub counted-entire : (f : Form) (kind : Kind) → Entire f kind → ((n : ℕ) (d : Data) → room_behind f n d ≡ n) → (path : List Step) (n p : ℕ) (ds : Items) → ItemsSorted ds → items_len ds ≤ n → each kind path p ds ≡ [] → cut_items f n ds ≡ ds
counted-entire f kind good counts path n p no_items sorted few e = refl
counted-entire f kind good counts path zero p (item d ds) sorted few e = absurd (omega (arith, few))
counted-entire f kind good counts path (suc n) p (item d ds) sorted few e =
    let parts = none-left (kind (then_item path p) d) (each kind path (p + 1) ds) e in
    ap₂ item (good (then_item path p) d sorted.0 parts.0) (ap (λ m. cut_items f m ds) (counts n d) ∙ counted-entire f kind good counts path n (p + 1) ds sorted.1 (omega (arith, few)) parts.1)

few-of : (path : List Step) (least most n : ℕ) → fault_at path (within least most n) ≡ [] → nat_le n most ≡ true
few-of path least most n e = at (nat_le least n) (nat_le n most) refl e
  where
    at : (a b : Bool) → nat_le n most ≡ b → fault_at path (if a && b then Fits else Beyond) ≡ [] → nat_le n most ≡ true
    at true true is k = is
    at true false is k = absurd (cc)
    at false b is k = absurd (cc)

pub list-entire : (f : Form) → IsArray f → (least most : ℕ) (kind : Kind) → ((path : List Step) (ds : Items) → ItemsSorted ds → nat_le (items_len ds) most ≡ true → each kind path 0 ds ≡ [] → kept f ds ≡ ds)
    → Entire f (list_of least most kind)
list-entire f is least most kind good path null sorted e = refl
list-entire f is least most kind good path (boolean b) sorted e = refl
list-entire f is least most kind good path (number n) sorted e = refl
list-entire f is least most kind good path (string s) sorted e = refl
list-entire f is least most kind good path (array ds) sorted e =
    let parts = none-left (fault_at path (within least most (items_len ds))) (each kind path 0 ds) e in
    kept-list f is ds ∙ ap array (good path ds sorted (few-of path least most (items_len ds) parts.0) parts.1)
list-entire f is least most kind good path (object ms) sorted e = absurd (cc)

-- what happens in a round, at a cabinet
event-room : (kind : Kind) → Stops kind → Roomy Event kind
event-room kind stops path n d e = at (is_of_a_round d) refl
  where
    at : (b : Bool) → is_of_a_round d ≡ b → (if b then suc n else 0) ≡ suc n
    at true is = refl
    at false is = absurd (subst Faulty e (stops path d is))

pulse-room : (kind : Kind) → PulseStops kind → Roomy Pulse kind
pulse-room kind stops path n d e = at (is_a_pulse d) refl
  where
    at : (b : Bool) → is_a_pulse d ≡ b → (if b then suc n else 0) ≡ suc n
    at true is = refl
    at false is = absurd (subst Faulty e (stops path d is))

pub pulses-entire : (most : ℕ) (kind : Kind) → Entire Pulse kind → PulseStops kind → Entire Pulses (list_of 0 most kind)
pulses-entire most kind good stops =
    list-entire Pulses (record { opens = refl; closed = refl }) 0 most kind (λ path ds sorted few e. each-entire Pulse kind good (pulse-room kind stops) path 0 0 ds sorted e)

pub events-entire : (most : ℕ) (kind : Kind) → Entire Event kind → Stops kind → Entire Events (list_of 0 most kind)
events-entire most kind good stops =
    list-entire Events (record { opens = refl; closed = refl }) 0 most kind (λ path ds sorted few e. each-entire Event kind good (event-room kind stops) path 0 0 ds sorted e)

module _ {A : Type 0} (kind : List A → Kind) (says : Data → A) (good : (earlier : List A) → Entire Event (kind earlier)) (stops : (earlier : List A) → Stops (kind earlier)) where
  behind-each : (path : List Step) (n p : ℕ) (earlier : List A) (ds : Items) → ItemsSorted ds → each_behind kind says path p earlier ds ≡ [] → cut_items Event (suc n) ds ≡ ds
  behind-each path n p earlier no_items sorted e = refl
  behind-each path n p earlier (item d ds) sorted e =
      let here = then_item path p in
      let now = earlier ++ says d ∷ [] in
      let parts = none-left (kind earlier here d) (each_behind kind says path (p + 1) now ds) e in
      ap₂ item (good earlier here d sorted.0 parts.0)
      (ap (λ m. cut_items Event m ds) (event-room (kind earlier) (stops earlier) here n d parts.0) ∙ behind-each path n (p + 1) now ds sorted.1 parts.1)

  behind-entire : Entire Events (list_behind kind says)
  behind-entire path null sorted e = refl
  behind-entire path (boolean b) sorted e = refl
  behind-entire path (number n) sorted e = refl
  behind-entire path (string s) sorted e = refl
  behind-entire path (array ds) sorted e = ap array (behind-each path 0 0 [] ds sorted e)
  behind-entire path (object ms) sorted e = absurd (cc)

-- ---- objects

-- what is at a name is kept whole
abbrev pub KeptAt : Form → List ℕ → Data → Type 0
KeptAt f name d = cut (member_form f name) d ≡ d

members-kept : (f : Form) (ms : Members) → AtEach (KeptAt f) ms → cut_members f ms ≡ ms
members-kept f no_members each = refl
members-kept f (member name d ms) each = ap₂ (member name) each.0 (members-kept f ms each.1)

pub object-entire : (f : Form) → IsObject f → (shape : Shape) → covers f shape ≡ true → AllGive (KeptAt f) shape.fields → EachGives (KeptAt f) shape.alternatives → Entire f (object_of shape)
object-entire f is shape has good goods path null sorted e = refl
object-entire f is shape has good goods path (boolean b) sorted e = refl
object-entire f is shape has good goods path (number n) sorted e = refl
object-entire f is shape has good goods path (string s) sorted e = refl
object-entire f is shape has good goods path (array ds) sorted e = absurd (cc)
object-entire f is shape has good goods path (object ms) sorted e =
    let d = object ms in
    let parts = and_parts (all_among (names_at f) shape.fields) (each_among (names_at f) shape.alternatives) has in
    let asked = known_fields shape d in
    let clean = none-left (unknown_faults (names asked) path ms) (fields_faults path d shape.fields ++ alternative_faults path d shape.alternatives) e in
    kept-object f is ms ∙ ap (λ some. object (few (names_at f) some)) (members-kept f ms (at-each (KeptAt f) shape good goods path ms sorted e))
    ∙ ap object (whole-few (names_at f) asked (known-among (names_at f) shape d parts.0 parts.1) path ms clean.0)

-- ---- the parts of a scenario

cells-entire : (least most : ℕ) → most ≤ 4096 → Entire Rows (list_of least most cell)
cells-entire least most low =
    list-entire Rows (record { opens = refl; closed = refl }) least most cell
    (λ path ds sorted few e. counted-entire Row cell cell-entire (λ n d. refl) path 4097 0 ds sorted (omega (arith, low, le-of (items_len ds) most few)) e)

drift-entire : (two : Bool) → AllGive (KeptAt Cabinet) (if two then Table.gain ∷ Table.lose ∷ [] else [])
drift-entire true = (rare-entire 12000 864000, (rare-entire 12000 864000, tt))
drift-entire false = tt

cabinet-entire : (version : ℕ) → Entire Cabinet (Table.cabinet version)
cabinet-entire version =
    more-entire Cabinet (object_of (Table.cabinet_shape version)) (Table.drift_faults version)
    (object-entire Cabinet is-cabinet (Table.cabinet_shape version) (covers-cabinet version)
    (word-entire (codes "std8" ∷ codes "max8" ∷ []), (cells-entire 0 4096 (omega arith), (whole-entire 0 255, (whole-entire 0 863999, (whole-entire 1 8, drift-entire (version == 2)))))) tt)

cabinets-entire : (version : ℕ) → Entire Cabinets (list_of 1 64 (Table.cabinet version))
cabinets-entire version =
    list-entire Cabinets (record { opens = refl; closed = refl }) 1 64 (Table.cabinet version)
    (λ path ds sorted few e. counted-entire Cabinet (Table.cabinet version) (cabinet-entire version) (λ n d. refl) path 65 0 ds sorted (let low = le-of (items_len ds) 64 few in omega (arith, low)) e)

entry-entire : Entire Entry (object_of Table.entry_shape)
entry-entire = object-entire Entry (record { opens = refl; closed = refl }) Table.entry_shape refl (whole-entire 0 86399, (whole-entire 1 8, (whole-entire 0 255, tt))) tt

-- a list of no more entries than are kept
pub entries-entire : (most : ℕ) → most ≤ 1000 → (kind : Kind) → Entire Entry kind → Entire Entries (list_of 0 most kind)
entries-entire most low kind good =
    list-entire Entries (record { opens = refl; closed = refl }) 0 most kind
    (λ path ds sorted few e. counted-entire Entry kind good (λ n d. refl) path 1001 0 ds sorted (omega (arith, low, le-of (items_len ds) most few)) e)

schedule-entire : Entire Entries (list_of 0 1000 (object_of Table.entry_shape))
schedule-entire = entries-entire 1000 (omega arith) (object_of Table.entry_shape) entry-entire

master-entire : Entire Master (object_of Table.master_shape)
master-entire =
    object-entire Master (record { opens = refl; closed = refl }) Table.master_shape refl
    (whole-entire 0 863999, (whole-entire 0 86400, (whole-entire 0 86400, (whole-entire 0 86400, (whole-entire 1 10, (schedule-entire, tt)))))) tt

input-entire : (rounds cabinets : ℕ) → Entire Event (object_of (Table.input_shape rounds cabinets))
input-entire rounds cabinets =
    object-entire Event is-event (Table.input_shape rounds cabinets) refl (whole-entire 1 rounds, (whole-entire 1 cabinets, tt))
    ((whole-entire 1 16, (flag-entire, tt)), ((whole-entire 1 16, tt), ((whole-entire 1 8, (flag-entire, tt)), tt)))

load-entire : (rounds cabinets : ℕ) (earlier : List ℕ) → Entire Event (Table.load rounds cabinets earlier)
load-entire rounds cabinets earlier =
    more-entire Event (object_of (Table.load_shape rounds cabinets)) (λ path d. Table.full_faults earlier path (Table.load_cabinet cabinets d))
    (object-entire Event is-event (Table.load_shape rounds cabinets) refl (whole-entire 1 rounds, (whole-entire 1 cabinets, (cells-entire 1 768 (omega arith), tt))) tt)

priority-entire : (rounds cabinets : ℕ) → Entire Event (Table.priority_item rounds cabinets)
priority-entire rounds cabinets =
    more-entire Event (object_of (Table.priority_shape rounds cabinets)) (λ path d. Table.departure_faults path (Table.act_of d))
    (object-entire Event is-event (Table.priority_shape rounds cabinets) refl (whole-entire 1 rounds, (whole-entire 1 cabinets, tt)) (
      (whole-entire 1 10, tt),
      ((whole-entire 1 10, (whole-entire 1 10, (whole-entire 1 10, (whole-entire 1 16, (whole-entire 0 65535, (whole-entire 0 65535, tt)))))), tt),
    ))

frame-entire : (rounds cabinets : ℕ) → Entire Event (object_of (Table.frame_shape rounds cabinets))
frame-entire rounds cabinets =
    object-entire Event is-event (Table.frame_shape rounds cabinets) refl (whole-entire 1 rounds, (whole-entire 1 cabinets, (word-entire Table.stream_words, (hex-entire 1472, tt)))) tt

fault-entire : (rounds cabinets : ℕ) → Entire Event (object_of (Table.fault_shape rounds cabinets))
fault-entire rounds cabinets =
    object-entire Event is-event (Table.fault_shape rounds cabinets) refl
    (whole-entire 1 rounds, (whole-entire 1 cabinets, (word-entire Table.stream_words, (word-entire Table.way_words, (whole-entire 0 65535, (word-entire Table.fault_kind_words, (whole-entire 0 86400, (whole-entire 1 255, tt)))))))) tt

events-kept : (rounds cabinets : ℕ) → AllGive (KeptAt Whole) (Table.event_fields rounds cabinets)
events-kept r k = (
  events-entire 1000000 (object_of (Table.input_shape r k)) (input-entire r k) (object-stops r k [] Table.input_fields),
  (
    behind-entire (Table.load r k) (Table.load_cabinet k) (load-entire r k) (load-stops r k),
    (
      events-entire 100000 (Table.priority_item r k) (priority-entire r k) (priority-stops r k),
      (
        events-entire 100000 (object_of (Table.frame_shape r k)) (frame-entire r k) (object-stops r k (Table.stream ∷ Table.frame_hex ∷ []) []),
        (
          events-entire 100000 (object_of (Table.fault_shape r k)) (fault-entire r k)
              (object-stops r k (Table.stream ∷ Table.way ∷ Table.index ∷ Table.fault_kind ∷ Table.by ∷ Table.octet ∷ []) []),
          tt,
        ),
      ),
    ),
  ),
)

-- ---- the whole

names-entire : (version rounds cabinets : ℕ) → Entire Whole (object_of (Table.scenario_shape version rounds cabinets))
names-entire version rounds cabinets =
    object-entire Whole (record { opens = refl; closed = refl }) (Table.scenario_shape version rounds cabinets) refl
    (whole-entire 1 2, (whole-entire 1 86400, (whole-entire 1 600, (text-entire 1 32, (cabinets-entire version, (master-entire, events-kept rounds cabinets)))))) tt

-- a value without faults is kept whole
pub faultless-entire : (d : Data) → Sorted d → faults d ≡ [] → cut Whole d ≡ d
faultless-entire d sorted e = names-entire (version_number d) (round_count d) (cabinet_count d) [] d sorted (faultless-parts d e).0
