use Rattle.std.proofs.Common.{◌≤◌, ℕ, codes, map, string_bytes, arith}
use Rattle.command_words.specs.Words.{IsOptional}
use Rattle.command_words.proofs.OneCommand.{not_found}
use Rattle.command_words.proofs.OneJudge.{optional_few, same_terms, its_terms}
use Rattle.command_words.proofs.judges.given_terms.Goals as goal

pub overflow_cast-result : goal.overflow_cast-result
overflow_cast-result c =
    let few : c.in-Some.tolerance ≤ 20 = optional_few _ (codes "--tolerance") 20 c.in-Some.tolerance ((c.optional_number.ensures c.in-Some.tolerance).0 c.in-Some.is) in omega (arith, few)

pub returns-in-Some : goal.returns-in-Some
returns-in-Some c =
    its_terms (map string_bytes c.args.words.now) (record { tolerance = c.in-Some.tolerance; joined = c.first_joined-joined.result.0 }) (
      map string_bytes c.first_joined-joined.result.1.now,
      c.first_joined-joined.ensures.rest,
      (c.optional_number.ensures c.in-Some.tolerance).0 c.in-Some.is,
    )

pub returns-in-None : goal.returns-in-None
returns-in-None c = λ terms. (
  λ e. absurd (cc),
  λ is.
      let so = same_terms (map string_bytes c.args.words.now) (map string_bytes c.first_joined-joined.result.1.now) c.first_joined-joined.result.0 terms
      c.first_joined-joined.ensures.rest c.first_joined-joined.ensures.none is in
      absurd (not_found (λ (n : ℕ). IsOptional (map string_bytes c.first_joined-joined.result.1.now) (codes "--tolerance") 20 n) _ c.in-None.is c.optional_number.ensures terms.tolerance so.1),
)
