use Rattle.std.proofs.Common.{rules, ◌≡◌, ◌∷◌, ◌++◌, [], false, string_bytes, ap, ◌∙◌}
use Rattle.json.specs.Print.{quoted}
use Rattle.serde_json.specs.Data.{member}
use Rattle.serde_json.specs.View.{view, members_view}
use Rattle.serde_json.specs.Written.{comma_if, compact_text, members_text}
use Rattle.scenario_file.specs.Framing.{filled, scheduled}
use Rattle.scenario_file.proofs.Texts.{one-member}
use Rattle.scenario_file.proofs.compact.add_settings.Goals as goal

pub loop-name-preserved : goal.loop-name-preserved
loop-name-preserved c = λ ds is plain.
    let l = c.loop-name in
    let so-far = l.invariant ds is plain in
    let name = string_bytes c.in-Some.name.now in
    let d = view c.in-Some.value.now in
    let rest = members_view c.next.new.self in
    let first : members_view l.name-iterator ≡ member name d rest = search rules in
    let called : c.as_str-in-loop-name.result.now ≡ name = c.as_str-in-loop-name.ensures.value in
    let whole = string_bytes c.args.text.now ++ (123 ∷ members_text false (filled (scheduled ds) (members_view c.args.members.now.entries))) in
    one-member (scheduled ds) name d rest (members_view l.name-iterator) l.later (string_bytes l.text) (string_bytes c.add_name.new.text) (string_bytes c.add_setting.new.text) whole
    first so-far.0 so-far.1
    (c.in_ok-add_name.ensures ∙ ap (λ n. ((string_bytes l.text ++ comma_if l.later) ++ quoted n) ++ 58 ∷ []) c.as_str.ensures.value)
    (λ none. c.in_ok-add_setting.ensures ds is none ∙ ap (λ n. string_bytes c.add_name.new.text ++ compact_text (scheduled ds n d)) called)
