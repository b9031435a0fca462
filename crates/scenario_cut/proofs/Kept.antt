-- At each place of a scenario what is kept has the same first fault.
use Rattle.std.proofs.Common.{◌≡◌, ◌≤◌, ℕ, ◌&&◌, ◌==◌, nat_lt, nat_le, Bool, true, false, if◌then◌else◌, List, [], ◌∷◌, codes, Option, Some, None, is_some, refl, sym, ap, ap₂, ◌∙◌, subst, arith}
use Rattle.std.proofs.lemmas.Bool.{leb-true}
use Rattle.serde_json.specs.Data.{Data, null, boolean, number, string, array, object, Items, Members}
use Rattle.serde_json.specs.Find.{get}
use Rattle.scenario_data.specs.declared.scenario.PriorityAct.TheVariants.{Request as AskRequest, Cancel}
use Rattle.scenario_read.specs.Faults.{first_cause}
use Rattle.scenario_read.specs.Paths.{Step, then_named}
use Rattle.scenario_read.specs.Kinds.{Fit, Fits, Wrong, Kind, fault_at, whole, rare, text, word, flag, whole_fits, rare_fits, text_fits, word_fits, flag_fits, list_of}
use Rattle.scenario_read.specs.CellLists.{whole_of, cell, octets_fits, hex_text}
use Rattle.scenario_read.specs.Fields.{Field, either, faults_of, field_faults, fields_faults, object_of, unknown_faults, known_fields, names}
use Rattle.scenario_read.specs.Table
use Rattle.scenario_read.specs.Table.{number_at, act_of, request_of, load, full_faults, load_cabinet, priority_item, departure_faults, drift_faults, drifts_both_ways, round, cabinet_number}
use Rattle.scenario_cut.specs.Cutting.{Cabinet, Event, Master, Entries, Entry, Rows, Row, Bare, is_of_a_round, cut}
use Rattle.scenario_cut.proofs.Same.{Same, Faulty, same-both, faulty-first, faulty-later}
use Rattle.scenario_cut.proofs.Few.{covers}
use Rattle.scenario_cut.proofs.Members.{IsObject, AllKeep, object-same, held-cut, some-cut}
use Rattle.scenario_cut.proofs.Items.{KeepsItem, Stops, few-same}
use Rattle.scenario_cut.proofs.Bare.{bare-says, cell-fits}

-- ---- a place where only a number, a text or a word may be

bare-same : (fits : Data → Fit) → ((ds : Items) → fits (array ds) ≡ fits null) → ((ms : Members) → fits (object ms) ≡ fits null) → (path : List Step) (d : Data) → Same (fault_at path (fits (cut Bare d))) (fault_at path (fits d))
bare-same fits arrays objects path d = ap (λ fit. first_cause (fault_at path fit)) (bare-says fits arrays objects d)

pub whole-same : (least most : ℕ) → KeepsItem Bare (whole least most)
whole-same least most = bare-same (whole_fits least most) (λ (ds : Items). refl) (λ (ms : Members). refl)

pub rare-same : (least most : ℕ) → KeepsItem Bare (rare least most)
rare-same least most = bare-same (rare_fits least most) (λ (ds : Items). refl) (λ (ms : Members). refl)

pub text-same : (least most : ℕ) → KeepsItem Bare (text least most)
text-same least most = bare-same (text_fits least most) (λ (ds : Items). refl) (λ (ms : Members). refl)

pub word-same : (words : List (List ℕ)) → KeepsItem Bare (word words)
word-same words = bare-same (word_fits words) (λ (ds : Items). refl) (λ (ms : Members). refl)

pub flag-same : KeepsItem Bare flag
flag-same = bare-same flag_fits (λ (ds : Items). refl) (λ (ms : Members). refl)

pub hex-same : (most : ℕ) → KeepsItem Bare (hex_text most)
hex-same most = bare-same (octets_fits most) (λ (ds : Items). refl) (λ (ms : Members). refl)

pub bare-number : (d : Data) → whole_of (cut Bare d) ≡ whole_of d
bare-number = bare-says whole_of (λ (ds : Items). refl) (λ (ms : Members). refl)

-- ---- cells

pub le-of : (n m : ℕ) → nat_le n m ≡ true → n ≤ m
le-of n m e = leb-true n m e

cell-same : KeepsItem Row cell
cell-same path d = ap (λ fit. first_cause (fault_at path fit)) (cell-fits d)

-- a list of no more cells than are kept
pub cells-same : (least most : ℕ) → most ≤ 4096 → KeepsItem Rows (list_of least most cell)
cells-same least most low path d =
    few-same Rows (record { opens = refl; closed = refl }) (λ n d. refl) least most (omega (arith, low)) cell cell-same path d

-- ---- a cabinet

pub is-cabinet : IsObject Cabinet
is-cabinet = record { opens = refl; closed = refl }

-- a cabinet has the names of its version
pub covers-cabinet : (version : ℕ) → covers Cabinet (Table.cabinet_shape version) ≡ true
covers-cabinet version = at (version == 2)
  where
    at : (b : Bool) → covers Cabinet (record { fields = Table.base ∷ Table.cells ∷ Table.pattern ∷ Table.clock ∷ Table.section ∷ (if b then Table.gain ∷ Table.lose ∷ [] else []); alternatives = [] }) ≡ true
    at true = refl
    at false = refl

drift-fields : (version : ℕ) → AllKeep Cabinet (Table.drift_fields version)
drift-fields version = at (version == 2)
  where
    at : (b : Bool) → AllKeep Cabinet (if b then Table.gain ∷ Table.lose ∷ [] else [])
    at true = (rare-same 12000 864000, (rare-same 12000 864000, tt))
    at false = tt

drift-same : (version : ℕ) (path : List Step) (d : Data) → drift_faults version path (cut Cabinet d) ≡ drift_faults version path d
drift-same version path d =
    ap₂ (λ (g l : ℕ). fault_at path (if version == 2 && (nat_lt 0 g && nat_lt 0 l) then Wrong else Fits))
    (held-cut Cabinet is-cabinet Table.gain refl whole_of bare-number d) (held-cut Cabinet is-cabinet Table.lose refl whole_of bare-number d)

pub cabinet-same : (version : ℕ) → KeepsItem Cabinet (Table.cabinet version)
cabinet-same version path d =
    same-both (object_of (Table.cabinet_shape version) path (cut Cabinet d)) (object_of (Table.cabinet_shape version) path d) (drift_faults version path (cut Cabinet d)) (drift_faults version path d)
    (object-same Cabinet is-cabinet (Table.cabinet_shape version) (covers-cabinet version) path d
    (word-same (codes "std8" ∷ codes "max8" ∷ []), (cells-same 0 4096 (omega arith), (whole-same 0 255, (whole-same 0 863999, (whole-same 1 8, drift-fields version))))) tt)
    (ap first_cause (drift-same version path d))

-- ---- the master

entry-same : KeepsItem Entry (object_of Table.entry_shape)
entry-same path d = object-same Entry (record { opens = refl; closed = refl }) Table.entry_shape refl path d (whole-same 0 86399, (whole-same 1 8, (whole-same 0 255, tt))) tt

-- a list of no more entries than are kept
pub entries-same : (most : ℕ) → most ≤ 1000 → (kind : Kind) → KeepsItem Entry kind → KeepsItem Entries (list_of 0 most kind)
entries-same most low kind keeps path d =
    few-same Entries (record { opens = refl; closed = refl }) (λ n d. refl) 0 most (omega (arith, low)) kind keeps path d

schedule-same : KeepsItem Entries (list_of 0 1000 (object_of Table.entry_shape))
schedule-same = entries-same 1000 (omega arith) (object_of Table.entry_shape) entry-same

pub master-same : KeepsItem Master (object_of Table.master_shape)
master-same path d = object-same Master (record { opens = refl; closed = refl }) Table.master_shape refl path d
    (whole-same 0 863999, (whole-same 0 86400, (whole-same 0 86400, (whole-same 0 86400, (whole-same 1 10, (schedule-same, tt)))))) tt

-- ---- what happens

pub is-event : IsObject Event
is-event = record { opens = refl; closed = refl }

pub input-same : (rounds cabinets : ℕ) → KeepsItem Event (object_of (Table.input_shape rounds cabinets))
input-same rounds cabinets path d = object-same Event is-event (Table.input_shape rounds cabinets) refl path d (whole-same 1 rounds, (whole-same 1 cabinets, tt))
    ((whole-same 1 16, (flag-same, tt)), ((whole-same 1 16, tt), ((whole-same 1 8, (flag-same, tt)), tt)))

pub load-cabinet-same : (cabinets : ℕ) (d : Data) → load_cabinet cabinets (cut Event d) ≡ load_cabinet cabinets d
load-cabinet-same cabinets d = held-cut Event is-event (cabinet_number cabinets) refl whole_of bare-number d

pub load-same : (rounds cabinets : ℕ) (earlier : List ℕ) → KeepsItem Event (load rounds cabinets earlier)
load-same rounds cabinets earlier path d =
    same-both (object_of (Table.load_shape rounds cabinets) path (cut Event d)) (object_of (Table.load_shape rounds cabinets) path d) (full_faults earlier path (load_cabinet cabinets (cut Event d))) (full_faults earlier path (load_cabinet cabinets d))
    (object-same Event is-event (Table.load_shape rounds cabinets) refl path d (whole-same 1 rounds, (whole-same 1 cabinets, (cells-same 1 768 (omega arith), tt))) tt)
    (ap (λ c. first_cause (full_faults earlier path c)) (load-cabinet-same cabinets d))

pub act-same : (d : Data) → act_of (cut Event d) ≡ act_of d
act-same d =
    ap (λ b. if b then Cancel (number_at Table.cancel (cut Event d)) else AskRequest (request_of (cut Event d))) (some-cut Event is-event (codes "cancel") refl d)
    ∙ ap₂ (λ n r. if is_some (get (codes "cancel") d) then Cancel n else AskRequest r) (held-cut Event is-event Table.cancel refl whole_of bare-number d) request
  where
    request : request_of (cut Event d) ≡ request_of d
    request = rw (
      held-cut Event is-event Table.request_number refl whole_of bare-number d,
      held-cut Event is-event Table.class refl whole_of bare-number d,
      held-cut Event is-event Table.level refl whole_of bare-number d,
      held-cut Event is-event Table.phase refl whole_of bare-number d,
      held-cut Event is-event Table.arrival refl whole_of bare-number d,
      held-cut Event is-event Table.departure refl whole_of bare-number d,
    ) refl

pub priority-same : (rounds cabinets : ℕ) → KeepsItem Event (priority_item rounds cabinets)
priority-same rounds cabinets path d =
    same-both (object_of (Table.priority_shape rounds cabinets) path (cut Event d)) (object_of (Table.priority_shape rounds cabinets) path d) (departure_faults path (act_of (cut Event d))) (departure_faults path (act_of d))
    (object-same Event is-event (Table.priority_shape rounds cabinets) refl path d (whole-same 1 rounds, (whole-same 1 cabinets, tt))
    ((whole-same 1 10, tt), ((whole-same 1 10, (whole-same 1 10, (whole-same 1 10, (whole-same 1 16, (whole-same 0 65535, (whole-same 0 65535, tt)))))), tt)))
    (ap (λ act. first_cause (departure_faults path act)) (act-same d))

pub frame-same : (rounds cabinets : ℕ) → KeepsItem Event (object_of (Table.frame_shape rounds cabinets))
frame-same rounds cabinets path d = object-same Event is-event (Table.frame_shape rounds cabinets) refl path d (whole-same 1 rounds, (whole-same 1 cabinets, (word-same Table.stream_words, (hex-same 1472, tt)))) tt

pub fault-same : (rounds cabinets : ℕ) → KeepsItem Event (object_of (Table.fault_shape rounds cabinets))
fault-same rounds cabinets path d = object-same Event is-event (Table.fault_shape rounds cabinets) refl path d
    (whole-same 1 rounds, (whole-same 1 cabinets, (word-same Table.stream_words, (word-same Table.way_words, (whole-same 0 65535, (word-same Table.fault_kind_words, (whole-same 0 86400, (whole-same 1 255, tt)))))))) tt

-- ---- what happens in no round or at no cabinet is at fault

missing : (path : List Step) (d : Data) (rounds cabinets : ℕ) (more : List Field) → is_of_a_round d ≡ false → Faulty (fields_faults path d (round rounds ∷ cabinet_number cabinets ∷ more))
missing path d rounds cabinets more none = at (get (codes "round") d) (get (codes "cabinet") d) refl refl none
  where
    at : (r c : Option Data) → get (codes "round") d ≡ r → get (codes "cabinet") d ≡ c → (is_some r && is_some c) ≡ false → Faulty (fields_faults path d (round rounds ∷ cabinet_number cabinets ∷ more))
    at None c is was none = faulty-first (field_faults path d (round rounds)) _ (subst (λ o. Faulty (faults_of (whole 1 rounds) (then_named path (codes "round")) (either o None))) (sym is) tt)
    at (Some v) None is was none = faulty-later (field_faults path d (round rounds)) _ (faulty-first (field_faults path d (cabinet_number cabinets)) _ (subst (λ o. Faulty (faults_of (whole 1 cabinets) (then_named path (codes "cabinet")) (either o None))) (sym was) tt))
    at (Some v) (Some w) is was none = absurd (cc)

pub object-stops : (rounds cabinets : ℕ) (more : List Field) (alternatives : List (List Field)) → Stops (object_of (record { fields = round rounds ∷ cabinet_number cabinets ∷ more; alternatives = alternatives }))
object-stops rounds cabinets more alternatives path null none = tt
object-stops rounds cabinets more alternatives path (boolean b) none = tt
object-stops rounds cabinets more alternatives path (number n) none = tt
object-stops rounds cabinets more alternatives path (string s) none = tt
object-stops rounds cabinets more alternatives path (array ds) none = tt
object-stops rounds cabinets more alternatives path (object ms) none =
    faulty-later (unknown_faults (names (known_fields (record { fields = round rounds ∷ cabinet_number cabinets ∷ more; alternatives = alternatives }) (object ms))) path ms) _
    (faulty-first (fields_faults path (object ms) (round rounds ∷ cabinet_number cabinets ∷ more)) _ (missing path (object ms) rounds cabinets more none))

pub load-stops : (rounds cabinets : ℕ) (earlier : List ℕ) → Stops (load rounds cabinets earlier)
load-stops rounds cabinets earlier path d none = faulty-first (object_of (Table.load_shape rounds cabinets) path d) _ (object-stops rounds cabinets (Table.load_cells ∷ []) [] path d none)

pub priority-stops : (rounds cabinets : ℕ) → Stops (priority_item rounds cabinets)
priority-stops rounds cabinets path d none = faulty-first (object_of (Table.priority_shape rounds cabinets) path d) _ (object-stops rounds cabinets [] Table.priority_fields path d none)
