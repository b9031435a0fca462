-- What is known of pulses that are judged one at a time, and of what is at their name.
use Rattle.std.proofs.Common.{◌≡◌, ◌≤◌, ◌<◌, ℕ, ◌+◌, List, [], ◌++◌, codes, None, is_some, true, false, Result, Ok, Err, bytes_eq, refl, sym, ap, ◌∙◌, subst, arith}
use Rattle.std.specs.Result.{result_err}
use Rattle.std.proofs.lemmas.Slice.Eq.{bytes_eq-Decides}
use Rattle.serde_json.specs.Data.{Data, array, object, Items, no_items, item, Members, put}
use Rattle.serde_json.specs.Events.{items_len}
use Rattle.serde_json.specs.Find.{get}
use Rattle.serde_json.proofs.Views.{get_member-put, get_member-put_other}
use Rattle.scenario_data.specs.declared.refusal.ReadFail.{ReadFail}
use Rattle.scenario_read.specs.Faults.{first_cause}
use Rattle.scenario_read.specs.Fields.{Field, either, faults_of, field_faults}
use Rattle.scenario_read.specs.Kinds.{Wrong, Beyond, fault_at, within}
use Rattle.scenario_read.specs.Paths.{Step, then_item, then_named}
use Rattle.scenario_read.specs.Readers.{Refuses, Answers}
use Rattle.scenario_read.proofs.NameOrder.{apart}
use Rattle.scenario_read.proofs.Refusing.{refuses_more}
use Rattle.scenario_read.proofs.Walks.{within-fits, within-beyond}
use Rattle.scenario_cut.specs.declared.form.Form.TheVariants.{Pulse}
use Rattle.scenario_cut.specs.declared.judge.Extent.{Extent}
use Rattle.scenario_cut.specs.Cutting.{cut}
use Rattle.scenario_cut.specs.Growing.{both}
use Rattle.scenario_cut.specs.Judging.{TellsUpTo, Counted, IsNoList}
use Rattle.scenario_cut.proofs.Judging.{each-more, no-first, refuses-same, counted-next, counted-past, tells-past, tells-behind, tells-next}
use Rattle.scenario_cut.proofs.Verdicts.{list-wrong}
use Rattle.scenario_file.specs.Listing.{list_path}
use Rattle.field_read.specs.declared.judged.Judged.{Judged}
use Rattle.field_read.specs.Judging.{pulse_kind, pulses_field, each_pulse, IsJudged, IsListAnswer, IsAnswer}
use Rattle.field_read.proofs.Kept.{pulse-same}

abbrev here : List Step
here = list_path (codes "pulses")

-- ---- what is kept of a pulse

pub kept-clean : (e : Extent) (path : List Step) (d v : Data) → v ≡ cut Pulse d → pulse_kind e path v ≡ [] → pulse_kind e path d ≡ []
kept-clean e path d v is clean =
    let none : pulse_kind e path (cut Pulse d) ≡ [] = subst (λ w. pulse_kind e path w ≡ []) is clean in
    no-first (pulse_kind e path d) (sym (pulse-same e.rounds e.cabinets path d) ∙ ap first_cause none)

pub kept-refused : (e : Extent) (path : List Step) (d v : Data) (fail : ReadFail) → v ≡ cut Pulse d → Refuses fail (pulse_kind e path v) → Refuses fail (pulse_kind e path d)
kept-refused e path d v fail is h =
    refuses-same fail (pulse_kind e path (cut Pulse d)) (pulse_kind e path d) (pulse-same e.rounds e.cabinets path d) (subst (λ w. Refuses fail (pulse_kind e path w)) is h)

-- ---- one pulse more

pulse-more : (e : Extent) (ds : Items) (d : Data) (n : ℕ) → n ≡ items_len ds → each_pulse e (both ds (item d no_items)) ≡ each_pulse e ds ++ pulse_kind e (then_item here n) d
pulse-more e ds d n is = each-more (pulse_kind e) here d n ds 0 (omega (arith, is))

pub judged-none : (e : Extent) → IsJudged e (record { count = 0; refusal = None }) no_items
judged-none e = record {
  counted = record { few = omega arith; exact = λ k. refl; many = λ k. absurd (omega (arith, k)) };
  told = λ k. (refl, tt);
}

-- past a million, after one at fault, and where it is judged
pub judged-past : (e : Extent) (judged : Judged) (ds : Items) (d : Data) → 1000000 < judged.count → IsJudged e judged ds → IsJudged e judged (both ds (item d no_items))
judged-past e judged ds d past j = record {
  counted = counted-past 1000000 judged.count ds d past j.counted;
  told = subst (λ causes. TellsUpTo 1000000 judged.refusal judged.count causes (Unit {0})) (sym (pulse-more e ds d (items_len ds) refl))
      (tells-past 1000000 judged.refusal judged.count (each_pulse e ds) _ (Unit {0}) (Unit {0}) past j.told);
}

pub judged-behind : (e : Extent) (old : Judged) (ds : Items) (d : Data) → old.count ≤ 1000000 → is_some old.refusal ≡ true → IsJudged e old ds
    → IsJudged e (record { count = old.count + 1; refusal = old.refusal }) (both ds (item d no_items))
judged-behind e old ds d low some j = record {
  counted = counted-next 1000000 old.count ds d low j.counted;
  told = subst (λ causes. TellsUpTo 1000000 old.refusal (old.count + 1) causes (Unit {0})) (sym (pulse-more e ds d (items_len ds) refl))
      (tells-behind 1000000 old.refusal old.count (old.count + 1) (each_pulse e ds) _ (Unit {0}) (Unit {0}) some j.told);
}

pub judged-next : (e : Extent) (old : Judged) (ds : Items) (d : Data) (answer : Result (Unit {0}) ReadFail) → old.count ≤ 1000000 → is_some old.refusal ≡ false
    → Answers answer (pulse_kind e (then_item here old.count) d) (λ _. Unit {0}) → IsJudged e old ds
    → IsJudged e (record { count = old.count + 1; refusal = result_err answer }) (both ds (item d no_items))
judged-next e old ds d answer low none judged j = record {
  counted = counted-next 1000000 old.count ds d low j.counted;
  told = subst (λ causes. TellsUpTo 1000000 (result_err answer) (old.count + 1) causes (Unit {0})) (sym (pulse-more e ds d old.count (j.counted.exact low)))
      (tells-next 1000000 old.refusal old.count (old.count + 1) (each_pulse e ds) _ (Unit {0}) (Unit {0}) answer low none (λ _. judged) j.told);
}

-- ---- what is given as the pulses

pub too-many : (e : Extent) (count : ℕ) (ds : Items) (fail : ReadFail) → 1000000 < count → Counted 1000000 count (items_len ds) → Refuses fail (fault_at here Beyond)
    → Refuses fail ((pulses_field e).kind here (array ds))
too-many e count ds fail past c h =
    let many = c.many past in
    let own : fault_at here Beyond ≡ fault_at here (within 0 1000000 (items_len ds)) = ap (fault_at here) (sym (within-beyond 0 1000000 (items_len ds) (λ low high. omega (arith, many, high)))) in
    refuses_more fail (fault_at here (within 0 1000000 (items_len ds))) (each_pulse e ds) (subst (Refuses fail) own h)

few-enough : (e : Extent) (count : ℕ) (ds : Items) → count ≤ 1000000 → Counted 1000000 count (items_len ds) → (pulses_field e).kind here (array ds) ≡ each_pulse e ds
few-enough e count ds low c =
    let is = c.exact low in
    ap (λ fit. fault_at here fit ++ each_pulse e ds) (within-fits 0 1000000 (items_len ds) (omega arith) (omega (arith, low, is)))

pub list-answered : (e : Extent) (judged : Judged) (ds : Items) (answer : Result (Unit {0}) ReadFail) → judged.count ≤ 1000000 → judged.refusal ≡ result_err answer → IsJudged e judged ds
    → IsListAnswer e answer (array ds)
list-answered e judged ds answer low is j = at answer (subst (λ o. TellsUpTo 1000000 o judged.count (each_pulse e ds) (Unit {0})) is j.told)
  where
    whole : (pulses_field e).kind here (array ds) ≡ each_pulse e ds
    whole = few-enough e judged.count ds low j.counted

    at : (r : Result (Unit {0}) ReadFail) → TellsUpTo 1000000 (result_err r) judged.count (each_pulse e ds) (Unit {0}) → IsListAnswer e r (array ds)
    at (Ok u) told = (whole ∙ (told low).0, tt)
    at (Err fail) told = subst (Refuses fail) (sym whole) told

pub no-list : (e : Extent) (d : Data) (fail : ReadFail) → IsNoList d → Refuses fail (fault_at here Wrong) → Refuses fail ((pulses_field e).kind here d)
no-list e d fail bare h = subst (Refuses fail) (sym (list-wrong 0 1000000 (pulse_kind e) here d bare)) h

-- ---- what is at the name

put-here : (f : Field) (name : List ℕ) (d : Data) (ms : Members) → bytes_eq name f.name ≡ true → field_faults [] (object (put name d ms)) f ≡ f.kind (then_named [] f.name) d
put-here f name d ms is =
    let same : f.name ≡ name = sym ((bytes_eq-Decides name f.name).0 is) in
    ap (λ o. faults_of f.kind (then_named [] f.name) (either o f.default)) (ap (λ n. get n (object (put name d ms))) same ∙ get_member-put name d ms)

put-other : (f : Field) (name : List ℕ) (d : Data) (ms : Members) → bytes_eq name f.name ≡ false → field_faults [] (object (put name d ms)) f ≡ field_faults [] (object ms) f
put-other f name d ms is =
    ap (λ o. faults_of f.kind (then_named [] f.name) (either o f.default)) (get_member-put_other f.name name d ms (λ (same : f.name ≡ name). apart name f.name is (sym same)))

pub answer-here : (e : Extent) (answer : Result (Unit {0}) ReadFail) (name : List ℕ) (d : Data) (ms : Members) → bytes_eq name (codes "pulses") ≡ true → IsListAnswer e answer d
    → IsAnswer e answer (object (put name d ms))
answer-here e answer name d ms is h = subst (λ causes. Answers answer causes (λ _. Unit {0})) (sym (put-here (pulses_field e) name d ms is)) h

pub answer-other : (e : Extent) (answer : Result (Unit {0}) ReadFail) (name : List ℕ) (d : Data) (ms : Members) → bytes_eq name (codes "pulses") ≡ false → IsAnswer e answer (object ms)
    → IsAnswer e answer (object (put name d ms))
answer-other e answer name d ms is h = subst (λ causes. Answers answer causes (λ _. Unit {0})) (sym (put-other (pulses_field e) name d ms is)) h

-- the answer for a value is that for the other value of the same text
pub one-answer : (e : Extent) (answer : Result (Unit {0}) ReadFail) (v d : Data) → v ≡ d → IsAnswer e answer v → IsAnswer e answer d
one-answer e answer v d same h = subst (λ w. IsAnswer e answer w) same h
