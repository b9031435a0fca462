-- A scenario's text in parts: more inputs go to the end of their text, and a schedule takes the place of another.
use Rattle.std.proofs.Common.{◌≡◌, ◌<◌, ◌≤◌, ◌+◌, ℕ, zero, suc, nat_lt, List, [], ◌∷◌, ◌++◌, true, false, length, take, get_or, Option, Some, None, is_some, option_map, unwrap_or, codes, refl, sym, ap, ◌∙◌, subst, arith}
use Rattle.std.proofs.lemmas.Bool.{or_parts, lt-ltb}
use Rattle.std.proofs.lemmas.List.{take_more, take_all}
use Rattle.serde_json.specs.Data.{Data, null, boolean, number, string, array, object, Items, no_items, item, Members, no_members, put}
use Rattle.serde_json.specs.Find.{get_member}
use Rattle.serde_json.specs.View.{view, items_view, members_view}
use Rattle.serde_json.specs.Written.{has_float, items_have_float, members_have_float, comma_if, compact_text}
use Rattle.serde_json.specs.declared.value.Value.{Value}
use Rattle.serde_json.proofs.Views.{get_member-put, get_member-put_other}
use Rattle.scenario_read.specs.Content.{each_of}
use Rattle.scenario_read.specs.Fields.{held, either}
use Rattle.scenario_read.specs.Kinds.{items_in}
use Rattle.scenario_read.specs.Sorted.{Sorted, MembersSorted}
use Rattle.scenario_read.specs.Table.{master}
use Rattle.scenario_read.proofs.Rising.{sorted-put}
use Rattle.scenario_cut.specs.Growing.{both}
use Rattle.scenario_cut.proofs.Turns.{both-end, both-push}
use Rattle.scenario_cut.proofs.Lasting.{put-through}
use Rattle.scenario_file.specs.declared.lists.Texts.{Texts}
use Rattle.scenario_file.specs.declared.source.ScenarioText.{ScenarioText}
use Rattle.scenario_file.specs.declared.written.Written.{Written}
use Rattle.scenario_file.specs.Growing.{written, inner_text, follows}
use Rattle.scenario_file.specs.Framing.{scheduled, master_with, value_in, with_lists, with_rows, IsHeld, text_named, TextsStand}
use Rattle.scenario_file.specs.Source.{with_member, with_inputs, master_and, with_schedule, Writes}
use Rattle.scenario_file.proofs.Growth.{text-next, follows-next}
use Rattle.scenario_file.proofs.Frames.{by-name, enters-list, enters-master, enters-schedule, get-through}
use Rattle.scenario_file.proofs.Masters.{master-value}
use Rattle.scenario_file.proofs.Standing.{apart}
use Rattle.scenario_file.proofs.Putting.{Plain, each-there, each-sorted, each-plain, put-again, put-same, plain-put, with-sorted, with-plain}

-- ---- more inputs

-- the inputs of the value are the items of their list
own-inputs : (rows : List ℕ → Items) (ms : Members) → (get_member (codes "inputs") ms ≡ None → rows (codes "inputs") ≡ no_items)
    → items_in (unwrap_or (either (get_member (codes "inputs") (with_lists rows ms)) (Some (array no_items))) null) ≡ rows (codes "inputs")
own-inputs rows ms absent =
    ap (λ o. items_in (unwrap_or (either o (Some (array no_items))) null)) (get-through (value_in rows) (codes "inputs") ms) ∙ at (get_member (codes "inputs") ms) absent
  where
    at : (o : Option Data) → (o ≡ None → rows (codes "inputs") ≡ no_items)
        → items_in (unwrap_or (either (option_map (value_in rows (codes "inputs")) o) (Some (array no_items))) null) ≡ rows (codes "inputs")
    at None none = sym (none refl)
    at (Some d) none = refl

-- they are put after the others
inputs-through : (rows : List ℕ → Items) (ms : Members) (more : Items) (standing : Data) → MembersSorted ms → (get_member (codes "inputs") ms ≡ None → rows (codes "inputs") ≡ no_items)
    → with_inputs more (object (with_lists rows ms)) ≡ object (with_lists (with_rows rows (codes "inputs") (both (rows (codes "inputs")) more)) (put (codes "inputs") standing ms))
inputs-through rows ms more standing sorted absent =
    let ds = both (rows (codes "inputs")) more in
    let now = with_rows rows (codes "inputs") ds in
    ap (λ es. object (put (codes "inputs") (array (both es more)) (with_lists rows ms))) (own-inputs rows ms absent)
    ∙ ap object (put-through (codes "inputs") (value_in rows) (value_in now) (array ds) standing (enters-list (codes "inputs") rows ds standing refl) ms sorted)

-- the texts, with this of the inputs
abbrev pub inputs_text : Texts → Written → Texts
inputs_text texts text = record {
  cabinets = texts.cabinets;
  inputs = text;
  loads = texts.loads;
  priority = texts.priority;
  frames = texts.frames;
  faults = texts.faults;
  schedule = texts.schedule;
}

inputs-texts : (texts : Texts) (text : Written) (rows : List ℕ → Items) (ds : Items) → TextsStand texts rows → written text ≡ inner_text false ds
    → TextsStand (inputs_text texts text) (with_rows rows (codes "inputs") ds)
inputs-texts texts text rows ds stand is = record {
  top = λ name named.
      by-name (λ n. text_named (inputs_text texts text) n ≡ inner_text false (with_rows rows (codes "inputs") ds n)) name named (stand.top (codes "cabinets") refl) is (stand.top (codes "loads") refl)
      (stand.top (codes "priority") refl) (stand.top (codes "frames") refl) (stand.top (codes "faults") refl);
  schedule = stand.schedule;
}

no-value : (v : Data) → Some v ≡ None → ⊥
no-value v e = absurd (cc)

-- the parts are those of the scenario with more inputs, whatever represents the inputs in the frame
pub more-inputs : (old new : ScenarioText) (d : Data) (more : Items) (standing : Data) (text : Written) (w : Writes old d)
    → members_view new.frame.entries ≡ put (codes "inputs") standing (members_view old.frame.entries)
    → MembersSorted (members_view new.frame.entries) → members_have_float (members_view new.frame.entries) ≡ false
    → new.texts ≡ inputs_text old.texts text → written text ≡ inner_text false (both (w.rows (codes "inputs")) more)
    → new.some ≡ follows false (both (w.rows (codes "inputs")) more) → Writes new (with_inputs more d)
more-inputs old new d more standing text w frame sorted plain texts is some =
    let rows = w.rows in
    let ds = both (rows (codes "inputs")) more in
    let now = with_rows rows (codes "inputs") ds in record {
      rows = now;
      whole = ap (with_inputs more) w.whole ∙ inputs-through rows (members_view old.frame.entries) more standing w.sorted w.absent ∙ ap (λ ms. object (with_lists now ms)) (sym frame);
      texts = subst (λ t. TextsStand t now) (sym texts) (inputs-texts old.texts text rows ds w.texts is);
      floatless = plain;
      sorted = sorted;
      some = some;
      absent = λ none. absurd (no-value standing (sym (get_member-put (codes "inputs") standing (members_view old.frame.entries)) ∙ ap (get_member (codes "inputs")) (sym frame) ∙ none));
    }

-- what is found at a name
found-there : (o : Option Data) → is_some o ≡ true → (v : Data) × (o ≡ Some v)
found-there None e = absurd (cc)
found-there (Some v) e = (v, refl)

-- no more inputs, where an empty list was put into the frame
pub begun : (old new : ScenarioText) (d : Data) → members_view new.frame.entries ≡ put (codes "inputs") (array no_items) (members_view old.frame.entries) → new.texts ≡ old.texts → new.some ≡ old.some
    → Writes old d → Writes new (with_inputs no_items d)
begun old new d frame texts some w =
    let ds = w.rows (codes "inputs") in
    let ms = members_view old.frame.entries in
    more-inputs old new d no_items (array no_items) old.texts.inputs w frame (subst MembersSorted (sym frame) (sorted-put (codes "inputs") (array no_items) ms tt w.sorted))
    (subst (λ es. members_have_float es ≡ false) (sym frame) (plain-put (codes "inputs") (array no_items) ms refl w.floatless)) texts
    (w.texts.top (codes "inputs") refl ∙ ap (inner_text false) (sym (both-end ds))) (some ∙ w.some ∙ ap (follows false) (sym (both-end ds)))

-- nor where there are some
pub same-inputs : (old : ScenarioText) (d : Data) → is_some (get_member (codes "inputs") (members_view old.frame.entries)) ≡ true → Writes old d → Writes old (with_inputs no_items d)
same-inputs old d stand w =
    let v = found-there (get_member (codes "inputs") (members_view old.frame.entries)) stand in
    let ds = w.rows (codes "inputs") in
    more-inputs old old d no_items v.0 old.texts.inputs w (sym (put-same (codes "inputs") v.0 (members_view old.frame.entries) w.sorted v.1)) w.sorted w.floatless refl
    (w.texts.top (codes "inputs") refl ∙ ap (inner_text false) (sym (both-end ds))) (w.some ∙ ap (follows false) (sym (both-end ds)))

-- more inputs twice
pub inputs-twice : (first more : Items) (d : Data) → with_inputs more (with_inputs first d) ≡ with_inputs (both first more) d
inputs-twice first more null = refl
inputs-twice first more (boolean b) = refl
inputs-twice first more (number n) = refl
inputs-twice first more (string s) = refl
inputs-twice first more (array ds) = refl
inputs-twice first more (object ms) =
    let own = items_in (unwrap_or (either (get_member (codes "inputs") ms) (Some (array no_items))) null) in
    let one = array (both own first) in
    ap (λ o. object (put (codes "inputs") (array (both (items_in (unwrap_or (either o (Some (array no_items))) null)) more)) (put (codes "inputs") one ms))) (get_member-put (codes "inputs") one ms)
    ∙ ap object (put-again (codes "inputs") (array (both (both own first) more)) one ms refl) ∙ ap (λ es. object (put (codes "inputs") (array es) ms)) (both-both own first more)
  where
    both-both : (a b c : Items) → both (both a b) c ≡ both a (both b c)
    both-both no_items b c = refl
    both-both (item d a) b c = ap (item d) (both-both a b c)

-- one input more, where there are some
pub added : (old new : ScenarioText) (d v : Data) (text : Written) → is_some (get_member (codes "inputs") (members_view old.frame.entries)) ≡ true
    → new.frame ≡ old.frame → new.texts ≡ inputs_text old.texts text → new.some ≡ true → written text ≡ (written old.texts.inputs ++ comma_if old.some) ++ compact_text v
    → Writes old (with_inputs no_items d) → Writes new (with_inputs (item v no_items) d)
added old new d v text stand frame texts some is w =
    let there = found-there (get_member (codes "inputs") (members_view old.frame.entries)) stand in
    let ms = members_view old.frame.entries in
    let same : members_view new.frame.entries ≡ ms = ap (λ f. members_view f.entries) frame in
    let ds = w.rows (codes "inputs") in
    let grown : written text ≡ inner_text false (both ds (item v no_items)) =
    is ∙ ap (λ t. (t ++ comma_if old.some) ++ compact_text v) (w.texts.top (codes "inputs") refl) ∙ ap (λ b. (inner_text false ds ++ comma_if b) ++ compact_text v) w.some ∙ sym (text-next false v ds) in
    subst (Writes new) (inputs-twice no_items (item v no_items) d)
    (more-inputs old new (with_inputs no_items d) (item v no_items) there.0 text w (same ∙ sym (put-same (codes "inputs") there.0 ms w.sorted there.1))
    (subst MembersSorted (sym same) w.sorted) (subst (λ es. members_have_float es ≡ false) (sym same) w.floatless) texts grown (some ∙ sym (follows-next false ds v)))

-- ---- entries one by one

plain-at : (vs : List Value) (i : ℕ) (v : Value) → i < length vs → v ≡ get_or vs i v → items_have_float (items_view vs) ≡ false → has_float (view v) ≡ false
plain-at [] i v within is plain = absurd (omega (arith, within))
plain-at (w ∷ vs) zero v within is plain = ap (λ x. has_float (view x)) is ∙ (or_parts (has_float (view w)) (items_have_float (items_view vs)) plain).0
plain-at (w ∷ vs) (suc i) v within is plain = plain-at vs i v (omega (arith, within)) is (or_parts (has_float (view w)) (items_have_float (items_view vs)) plain).1

follows-some : (vs : List Value) (i : ℕ) → i < length vs → follows false (items_view (take i vs)) ≡ nat_lt 0 i
follows-some [] i within = absurd (omega (arith, within))
follows-some (v ∷ vs) zero within = refl
follows-some (v ∷ vs) (suc i) within = sym (lt-ltb 0 (suc i) (omega arith))

pub entry-next : (vs : List Value) (i : ℕ) (v : Value) (before now : List ℕ) → i < length vs → v ≡ get_or vs i v → items_have_float (items_view vs) ≡ false → before ≡ inner_text false (items_view (take i vs))
    → (has_float (view v) ≡ false → now ≡ (before ++ comma_if (nat_lt 0 i)) ++ compact_text (view v)) → now ≡ inner_text false (items_view (take (i + 1) vs))
entry-next vs i v before now within is plain so more =
    let ds = items_view (take i vs) in
    more (plain-at vs i v within is plain) ∙ ap (λ t. (t ++ comma_if (nat_lt 0 i)) ++ compact_text (view v)) so
    ∙ ap (λ b. (inner_text false ds ++ comma_if b) ++ compact_text (view v)) (sym (follows-some vs i within)) ∙ sym (text-next false (view v) ds)
    ∙ ap (inner_text false) (sym (both-push (take i vs) v) ∙ ap items_view (ap (λ w. take i vs ++ w ∷ []) is ∙ sym (take_more vs i v within)))

pub entries-end : (vs : List Value) (i : ℕ) (text : List ℕ) → length vs ≤ i → text ≡ inner_text false (items_view (take i vs)) → text ≡ inner_text false (items_view vs)
entries-end vs i text all is = is ∙ ap (λ ws. inner_text false (items_view ws)) (take_all i vs all)

-- ---- another schedule

-- the schedule that is put into the master with one before
schedule-through : (old ds : Items) (m : Data) → Sorted m → with_member (codes "schedule") (array ds) (master_with old m) ≡ master_with ds (with_member (codes "schedule") (array no_items) m)
schedule-through old ds null sorted = refl
schedule-through old ds (boolean b) sorted = refl
schedule-through old ds (number n) sorted = refl
schedule-through old ds (string s) sorted = refl
schedule-through old ds (array es) sorted = refl
schedule-through old ds (object ms) sorted =
    ap object (put-through (codes "schedule") (scheduled old) (scheduled ds) (array ds) (array no_items) (enters-schedule old ds (array no_items)) ms sorted)

-- the master of the frame
pub frame-master : (P : Data → Type 0) (ms : Members) → P (object no_members) → ((v : Data) → get_member (codes "master") ms ≡ Some v → P v) → P (held master (object ms))
frame-master P ms none there = at (get_member (codes "master") ms) refl
  where
    at : (o : Option Data) → get_member (codes "master") ms ≡ o → P (unwrap_or (either o (Some (object no_members))) null)
    at None is = none
    at (Some v) is = there v is

abbrev pub schedule_text : Texts → Written → Texts
schedule_text texts text = record {
  cabinets = texts.cabinets;
  inputs = texts.inputs;
  loads = texts.loads;
  priority = texts.priority;
  frames = texts.frames;
  faults = texts.faults;
  schedule = text;
}

schedule-texts : (texts : Texts) (text : Written) (rows : List ℕ → Items) (ds : Items) → TextsStand texts rows → written text ≡ inner_text false ds
    → TextsStand (schedule_text texts text) (with_rows rows (codes "schedule") ds)
schedule-texts texts text rows ds stand is = record {
  top = λ name named.
      by-name (λ n. text_named (schedule_text texts text) n ≡ inner_text false (with_rows rows (codes "schedule") ds n)) name named (stand.top (codes "cabinets") refl) (stand.top (codes "inputs") refl)
      (stand.top (codes "loads") refl) (stand.top (codes "priority") refl) (stand.top (codes "frames") refl) (stand.top (codes "faults") refl);
  schedule = is;
}

-- the parts are those of the scenario with these entries
pub another-schedule : (old new : ScenarioText) (d : Data) (ds : Items) (text : Written) (w : Writes old d)
    → members_view new.frame.entries ≡ put (codes "master") (master_and (array no_items) (object (members_view old.frame.entries))) (members_view old.frame.entries)
    → new.texts ≡ schedule_text old.texts text → written text ≡ inner_text false ds → new.some ≡ old.some → Writes new (with_schedule ds d)
another-schedule old new d ds text w frame texts is some =
    let rows = w.rows in
    let ms = members_view old.frame.entries in
    let own = held master (object ms) in
    let standing = master_and (array no_items) (object ms) in
    let now = with_rows rows (codes "schedule") ds in
    let own-sorted : Sorted own = frame-master Sorted ms tt (λ v there. each-there Sorted (codes "master") ms v there (each-sorted ms w.sorted)) in
    let own-plain : has_float own ≡ false = frame-master Plain ms refl (λ v there. each-there Plain (codes "master") ms v there (each-plain ms w.floatless)) in
    let entries : master_and (array ds) (object (with_lists rows ms)) ≡ master_with ds standing =
    ap (with_member (codes "schedule") (array ds)) (master-value rows ms) ∙ schedule-through (rows (codes "schedule")) ds own own-sorted in record {
      rows = now;
      whole =
          ap (with_schedule ds) w.whole ∙ ap (λ m. object (put (codes "master") m (with_lists rows ms))) entries
          ∙ ap object (put-through (codes "master") (value_in rows) (value_in now) (master_with ds standing) standing (enters-master rows ds standing) ms w.sorted)
          ∙ ap (λ es. object (with_lists now es)) (sym frame);
      texts = subst (λ t. TextsStand t now) (sym texts) (schedule-texts old.texts text rows ds w.texts is);
      floatless = subst (λ es. members_have_float es ≡ false) (sym frame) (plain-put (codes "master") standing ms (with-plain (codes "schedule") (array no_items) own refl own-plain) w.floatless);
      sorted = subst MembersSorted (sym frame) (sorted-put (codes "master") standing ms (with-sorted (codes "schedule") (array no_items) own tt own-sorted) w.sorted);
      some = some ∙ w.some;
      absent = λ none. w.absent (sym (get_member-put_other (codes "inputs") (codes "master") standing ms (apart (codes "master") (codes "inputs") refl)) ∙ ap (get_member (codes "inputs")) (sym frame) ∙ none);
    }

-- ---- the parts as they are read

-- inputs were found where there are items
pub some-found : {A : Type 0} (says : Data → A) (ds : Items) → nat_lt 0 (length (each_of says ds)) ≡ follows false ds
some-found says no_items = refl
some-found says (item d ds) = lt-ltb 0 (suc (length (each_of says ds))) (omega arith)

-- inputs that are nowhere are none
pub none-held : (o : Option Data) (ds : Items) → IsHeld (codes "inputs") o ds → o ≡ None → ds ≡ no_items
none-held None ds held e = held
none-held (Some d) ds held e = absurd (cc)
