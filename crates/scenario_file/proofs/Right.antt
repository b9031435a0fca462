-- A scenario that was read in parts is the one that its value says, and that its compact text says.
use Rattle.std.proofs.Common.{◌≡◌, ◌≤◌, ℕ, nat_lt, List, [], ◌∷◌, false, length, map, Some, None, codes, refl, sym, ap, ◌∙◌, subst, arith}
use Rattle.std.specs.Prelude.{IsUtf8}
use Rattle.std.proofs.lemmas.List.{length-map}
use Rattle.json.specs.Token.{Token}
use Rattle.json.specs.Json.{value, members, parse_map}
use Rattle.json.proofs.Grammar.{value-begin_object}
use Rattle.json.proofs.Nesting.{value-depth}
use Rattle.serde_json.specs.Data.{Data, object, Items, no_items, Members, no_members, depth}
use Rattle.serde_json.specs.Find.{get_member}
use Rattle.serde_json.specs.Read.{read, of_json, of_members, converted}
use Rattle.serde_json.specs.View.{members_view}
use Rattle.serde_json.specs.Written.{has_float, members_have_float, compact_text}
use Rattle.serde_json.proofs.Nesting.{depth-read}
use Rattle.scenario_data.specs.Content.{cabinet_content, scenario_content}
use Rattle.scenario_read.specs.declared.scenario.Parts.{Parts}
use Rattle.scenario_read.specs.Faults.{faults, all_table_faults}
use Rattle.scenario_read.specs.Content.{version_number, input_of, scenario_of}
use Rattle.scenario_read.specs.Answers.{Reads}
use Rattle.scenario_read.specs.Readers.{Says, content_from}
use Rattle.scenario_read.specs.Sorted.{MembersSorted}
use Rattle.scenario_read.proofs.Rising.{tree-sorted}
use Rattle.scenario_read.proofs.Compact.{faultless-floatless}
use Rattle.scenario_read.proofs.Whole.{faultless-parts}
use Rattle.scenario_file.specs.declared.source.ScenarioText.{ScenarioText}
use Rattle.scenario_file.specs.declared.source.Source.{Source}
use Rattle.scenario_file.specs.declared.top.Whole.{Whole}
use Rattle.scenario_cut.proofs.Turns.{converted-object, converted_some}
use Rattle.scenario_file.specs.Framing.{with_lists, AllStand, TextsStand}
use Rattle.scenario_file.specs.Source.{Writes, IsRead, IsSource}
use Rattle.scenario_file.proofs.Faultless.{with_found, whole-faultless, whole-said}
use Rattle.scenario_file.proofs.Versions.{HasNames}
use Rattle.scenario_file.proofs.Standing.{texts-stand}
use Rattle.scenario_file.proofs.Depths.{tree-low}
use Rattle.scenario_file.proofs.Back.{reads-back, tree-of, tree-numerals}
use Rattle.scenario_file.proofs.Parts.{some-found, none-held}

-- the parts of the text of a value that was read
pub parts-write : (new : ScenarioText) (whole : Whole) (d : Data) (read : IsRead whole d) → members_view new.frame.entries ≡ members_view whole.frame.entries → new.texts ≡ whole.lists.texts
    → new.some ≡ nat_lt 0 (length whole.lists.events.inputs.items) → members_have_float (members_view whole.frame.entries) ≡ false → Writes new d
parts-write new whole d read frame texts some plain =
    let ms = members_view whole.frame.entries in
    let found = read.stands.inputs in record {
      rows = read.rows;
      whole = subst (λ es. d ≡ object (with_lists read.rows es)) (sym frame) read.is;
      texts = subst (λ t. TextsStand t read.rows) (sym texts) (texts-stand whole.lists ms read.rows read.stands);
      floatless = subst (λ es. members_have_float es ≡ false) (sym frame) plain;
      sorted = subst MembersSorted (sym frame) read.sorted;
      some = some ∙ ap (λ xs. nat_lt 0 (length xs)) found.holds.said ∙ some-found (input_of 86400 64) (read.rows (codes "inputs"));
      absent = subst (λ es. get_member (codes "inputs") es ≡ None → read.rows (codes "inputs") ≡ no_items) (sym frame) (none-held (get_member (codes "inputs") ms) (read.rows (codes "inputs")) found.held);
    }

-- the frame of a scenario has no float
pub frame-plain : (ms : Members) → MembersSorted ms → faults (object ms) ≡ [] → members_have_float ms ≡ false
frame-plain ms sorted none = faultless-floatless (object ms) sorted (faultless-parts (object ms) none).0

-- a value without faults that was read, and its text
pub text-reads : (whole : Whole) (d : Data) (text : List ℕ) → IsRead whole d → faults d ≡ [] → IsUtf8 text → text ≡ compact_text d → Reads text d
text-reads whole d text was none utf8 is =
    let sorted = tree-sorted was.tree d was.from in
    let plain : has_float d ≡ false = faultless-floatless d sorted (faultless-parts d none).0 in
    (utf8, ap read is ∙ reads-back d (tree-numerals was.tree d was.from) sorted was.nests plain)

pub same-members : (ms es : Members) → object ms ≡ object es → ms ≡ es
same-members ms es is = cc

-- there are as many cabinets as a scenario may have
pub few-found : (whole : Whole) (d : Data) → IsRead whole d → length whole.lists.cabinets.items ≤ 64
few-found whole d was = subst (λ n. n ≤ 64) (length-map whole.lists.cabinets.items cabinet_content) was.stands.cabinets.holds.few

pub source-is : (source : Source) (whole : Whole) (parts : Parts) (d : Data) (was : IsRead whole d) → faults (object (members_view whole.frame.entries)) ≡ [] → Says parts (object (members_view whole.frame.entries))
    → HasNames parts.version whole.lists.last → whole.lists.last.round ≤ parts.setup.rounds → whole.lists.last.cabinet ≤ length parts.setup.cabinets.items
    → all_table_faults 1 (map cabinet_content whole.lists.cabinets.items) ≡ []
    → (text : List ℕ) → IsUtf8 text → (members_have_float (members_view whole.frame.entries) ≡ false → text ≡ compact_text (object (with_lists was.rows (members_view whole.frame.entries))))
    → scenario_content source.scenario ≡ content_from (with_found parts whole.lists) text → source.scenario.compact.items ≡ text
    → members_view source.text.frame.entries ≡ members_view whole.frame.entries → source.text.texts ≡ whole.lists.texts → source.text.some ≡ nat_lt 0 (length whole.lists.events.inputs.items) → IsSource source d
source-is source whole parts d was none says names round cabinet judged text utf8 text-is content-is compact frame texts some =
    let lists = whole.lists in
    let ms = members_view whole.frame.entries in
    let rows = was.rows in
    let plain = frame-plain ms was.sorted none in
    let has : HasNames (version_number (object ms)) lists.last = subst (λ v. HasNames v lists.last) says.version names in
    let faultless : faults d ≡ [] = subst (λ e. faults e ≡ []) (sym was.is) (whole-faultless parts lists ms rows says none was.stands has round cabinet judged) in
    let written = text-is plain in record {
      faultless = faultless;
      said = content-is ∙ whole-said parts lists text ms rows says none was.stands has written ∙ ap scenario_of (sym was.is);
      writes = parts-write source.text whole d was frame texts some plain;
      back = subst (λ t. Reads t d) (sym compact) (text-reads whole d text was faultless utf8 (written ∙ ap compact_text (sym was.is)));
    }

-- a whole text that was read
pub read-whole : (bytes : List ℕ) (whole : Whole) (rows : List ℕ → Items) → read bytes ≡ Some (object (with_lists rows (members_view whole.frame.entries)))
    → AllStand whole.lists (members_view whole.frame.entries) rows → MembersSorted (members_view whole.frame.entries) → IsRead whole (object (with_lists rows (members_view whole.frame.entries)))
read-whole bytes whole rows reading stands sorted =
    let d = object (with_lists rows (members_view whole.frame.entries)) in
    let tree = tree-of bytes d reading in
    record { rows = rows; is = refl; stands = stands; sorted = sorted; tree = tree.0; from = tree.1; nests = depth-read bytes d reading }

-- an object that is the reader's next value
pub read-here : (ts rest r : List Token) (whole : Whole) (rows : List ℕ → Items) → ts ≡ Token.begin_object ∷ rest
    → converted (λ ms. of_members ms no_members) (members (value 125) (length rest) rest) ≡ Some (with_lists rows (members_view whole.frame.entries), r)
    → AllStand whole.lists (members_view whole.frame.entries) rows → MembersSorted (members_view whole.frame.entries)
    → (converted of_json (value 126 ts) ≡ Some (object (with_lists rows (members_view whole.frame.entries)), r)) × IsRead whole (object (with_lists rows (members_view whole.frame.entries)))
read-here ts rest r whole rows first found stands sorted =
    let d = object (with_lists rows (members_view whole.frame.entries)) in
    let opened = ap (converted of_json) (ap (value 126) first ∙ value-begin_object 126 rest (omega arith)) ∙ converted-object (members (value 125) (length rest) rest) in
    let all : converted of_json (value 126 ts) ≡ Some (d, r) = opened ∙ ap (parse_map object) found in
    let j = converted_some of_json (value 126 ts) d r all in
    let low : depth d ≤ 126 = tree-low j.0 d 126 j.2 (value-depth 126 ts r j.0 j.1) in
    (all, record { rows = rows; is = refl; stands = stands; sorted = sorted; tree = j.0; from = j.2; nests = omega (arith, low) })
