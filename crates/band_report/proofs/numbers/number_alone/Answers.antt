use Rattle.std.proofs.Common.{rules, ◌≡◌, ◌∷◌, sym, ap, ◌∙◌, arith}
use Rattle.json.specs.Token.{Token}
use Rattle.json.specs.Json.{value}
use Rattle.json.specs.Reads.{token_of}
use Rattle.json.proofs.Grammar.{value_is}
use Rattle.serde_json.specs.Data.{null, number}
use Rattle.serde_json.specs.Read.{of_json, converted}
use Rattle.serde_json.specs.View.{view, number_view}
use Rattle.serde_json.specs.declared.value.Value.{Null, Number, the_lemmas}
use Rattle.band_report.proofs.Alone.{alone-null}
use Rattle.band_report.proofs.numbers.number_alone.Goals as goal

pub returns-in-Some-clause-ok : goal.returns-in-Some-clause-ok
returns-in-Some-clause-ok c =
    let first : c.args.reader.now ≡ token_of c.in_ok-token.token ∷ c.next.new.self = grind arith in
    let is : c.args.reader.now ≡ Token.number c.in-Number.text.now ∷ c.next.new.self = grind (arith, first) in
    let seen : view (Number c.in-Some.number) ≡ number (number_view c.in-Some.number) = search (rules, the_lemmas) in
    (number (number_view c.in-Some.number), ap (converted of_json) (ap (value c.args.depth) is ∙ value_is c.args.depth _) ∙ rw (← c.in-Some.ensures), seen)

pub returns-then-pass_rest-clause-ok : goal.returns-then-pass_rest-clause-ok
returns-then-pass_rest-clause-ok c =
    let done = c.pass_rest.ensures.passed c.if-pass_rest.true in
    let first : c.args.reader.now ≡ token_of c.in_ok-token.token ∷ c.next.new.self = grind arith in
    let seen : view Null ≡ null = search (rules, the_lemmas) in
    let none = alone-null done.0 (done.2.no_number c.in_default.not-Number) in
    (done.0, ap (λ ts. converted of_json (value c.args.depth ts)) first ∙ done.1, seen ∙ sym none)
