use Rattle.std.proofs.Common.{◌≡◌, ◌∷◌, true, ap, ◌∙◌, arith}
use Rattle.json.specs.Json.{value}
use Rattle.json.specs.Reads.{token_of}
use Rattle.serde_json.specs.Read.{of_json, converted}
use Rattle.band_report.proofs.PutIn.{scenario-none}
use Rattle.band_report.proofs.parts.no_scenario.Goals as goal

pub returns-else-not-pass_rest-clause-ok : goal.returns-else-not-pass_rest-clause-ok
returns-else-not-pass_rest-clause-ok c =
    let yes : c.pass_rest.result ≡ true = grind arith in
    let done = c.pass_rest.ensures.passed yes in
    let first : c.args.reader.now ≡ token_of c.in_ok-token.token ∷ c.next.new.self = grind arith in (
      done.0,
      ap (λ ts. converted of_json (value 126 ts)) first ∙ done.1,
      λ ms stand. scenario-none c.args.parts.now ms done.0 stand c.refuse_member-fail.result (done.2.no_object c.in_default.not-BeginObject) c.refuse_member-fail.ensures,
    )
