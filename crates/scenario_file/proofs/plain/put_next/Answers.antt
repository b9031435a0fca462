use Rattle.std.proofs.Common.{◌≡◌, ◌∷◌, refl, sym, ap, ◌∙◌, arith}
use Rattle.json.specs.Token.{Token}
use Rattle.json.specs.Json.{value}
use Rattle.json.specs.Reads.{token_of}
use Rattle.json.proofs.Grammar.{value_is}
use Rattle.serde_json.specs.Data.{boolean, number, unsigned, put}
use Rattle.serde_json.specs.Read.{of_json, converted}
use Rattle.scenario_file.specs.Plain.{plain_members}
use Rattle.scenario_file.proofs.plain.put_next.Goals as goal

pub returns-in_ok-whole-in-Number-clause-ok : goal.returns-in_ok-whole-in-Number-clause-ok
returns-in_ok-whole-in-Number-clause-ok c = λ depth.
    let d = number (unsigned c.in_ok-whole-in-Number.whole) in
    let first : c.args.reader.now ≡ token_of c.in_ok-token.token ∷ c.next.new.self = grind arith in
    let is : c.args.reader.now ≡ Token.number c.in-Number.text.now ∷ c.next.new.self = grind (arith, first) in (
      d,
      ap (converted of_json) (ap (value depth) is ∙ value_is depth _) ∙ rw c.in_ok-whole-in-Number.ensures refl,
      c.put_number.ensures ∙ ap (λ k. put k d (plain_members c.args.plain.now)) (sym c.in_ok-at-in-Number.ensures),
    )

pub returns-in_ok-put_flag-in-Bool-clause-ok : goal.returns-in_ok-put_flag-in-Bool-clause-ok
returns-in_ok-put_flag-in-Bool-clause-ok c = λ depth.
    let first : c.args.reader.now ≡ token_of c.in_ok-token.token ∷ c.next.new.self = grind arith in
    let is : c.args.reader.now ≡ Token.boolean c.in-Bool.flag ∷ c.next.new.self = grind (arith, first) in
    (boolean c.in-Bool.flag, ap (converted of_json) (ap (value depth) is ∙ value_is depth _), c.in_ok-put_flag-in-Bool.ensures)
