use Rattle.std.proofs.Common.{rules, ◌≡◌, ◌≤◌, [], false, true, length, map, nat_lt, string_bytes, refl, sym, ap, ◌∙◌, subst, arith}
use Rattle.std.proofs.lemmas.List.{length-map}
use Rattle.std.proofs.lemmas.Str.{IsUtf8-string_bytes}
use Rattle.serde_json.specs.Data.{object}
use Rattle.serde_json.specs.View.{view, members_view}
use Rattle.serde_json.specs.Written.{members_have_float, compact_text}
use Rattle.serde_json.specs.declared.value.Value.{Object}
use Rattle.serde_json.proofs.Views.{view-Object}
use Rattle.scenario_data.specs.Content.{cabinet_content, scenario_content}
use Rattle.scenario_read.specs.Faults.{faults, all_table_faults}
use Rattle.scenario_read.specs.Readers.{Says, content_from}
use Rattle.scenario_file.specs.Framing.{with_lists}
use Rattle.scenario_file.proofs.Faultless.{with_found}
use Rattle.scenario_file.proofs.Standing.{texts-stand}
use Rattle.scenario_file.proofs.Right.{source-is, same-members, few-found}
use Rattle.scenario_file.proofs.source.source_of.Goals as goal

pub all_judged-requires : goal.all_judged-requires
all_judged-requires c = few-found c.args.whole c.requires.read.0 c.requires.read.1

pub returns-clause-source : goal.returns-clause-source
returns-clause-source c = λ d was.
    let whole = c.args.whole in
    let lists = whole.lists in
    let ms = members_view whole.frame.entries in
    let text = string_bytes c.in_ok-text.text in
    let parts = c.in-Ok.parts in
    let object-is : view (Object whole.frame) ≡ object ms = view-Object whole.frame in
    let none : faults (object ms) ≡ [] = subst (λ d. faults d ≡ []) object-is c.in-Ok.ensures.0 in
    let says : Says parts (object ms) = subst (λ d. Says parts d) object-is c.in-Ok.ensures.1 in
    let inside : c.lies_within.result ≡ true = grind arith in
    let counted : c.len.result ≡ length parts.setup.cabinets.items = search rules in
    let round : lists.last.round ≤ parts.setup.rounds = c.lies_within.ensures.round inside in
    let cabinet : lists.last.cabinet ≤ length parts.setup.cabinets.items = subst (λ n. lists.last.cabinet ≤ n) counted (c.lies_within.ensures.cabinet inside) in
    let judged : all_table_faults 1 (map cabinet_content lists.cabinets.items) ≡ [] = c.in-Ok-all_judged.ensures.0 in
    let text-is : members_have_float ms ≡ false → text ≡ compact_text (object (with_lists was.rows ms)) = λ plain. c.in_ok-text.ensures was.rows (texts-stand lists ms was.rows was.stands) plain in
    let content-is : scenario_content c.scenario_from.result ≡ content_from (with_found parts lists) text =
    c.scenario_from.ensures.content ∙ ap (λ setup. content_from record { version = parts.version; setup = setup; events = lists.events } c.into_bytes.result.items) c.with_found.ensures
    ∙ ap (λ v. content_from (with_found parts lists) v.items) c.into_bytes.ensures.value in
    let compact-is : c.scenario_from.result.compact.items ≡ text = ap (λ v. v.items) (c.scenario_from.ensures.text ∙ c.into_bytes.ensures.value) in
    let frame-is : members_view c.in_ok-frame.frame.entries ≡ ms = same-members (members_view c.in_ok-frame.frame.entries) ms (c.in_ok-frame.ensures ∙ object-is) in
    let some : nat_lt 0 c.len-some.result ≡ nat_lt 0 (length lists.events.inputs.items) = search rules in
    source-is _ whole parts d was none says (c.lies_within.ensures.version inside) round cabinet judged text (IsUtf8-string_bytes c.in_ok-text.text) text-is content-is compact-is frame-is refl some

pub returns-clause-few : goal.returns-clause-few
returns-clause-few c =
    let cabinets = c.args.whole.lists.cabinets.items in
    let content = ap (λ s. s.cabinets) c.scenario_from.ensures.content ∙ ap (λ setup. map cabinet_content setup.cabinets.items) c.with_found.ensures in
    let same : length c.scenario_from.result.cabinets.items ≡ length cabinets = sym (length-map c.scenario_from.result.cabinets.items cabinet_content) ∙ ap length content ∙ length-map cabinets cabinet_content in
    subst (λ n. n ≤ 64) (sym same) (few-found c.args.whole c.requires.read.0 c.requires.read.1)
