use Rattle.std.proofs.Common.{◌≡◌, ◌∷◌, ◌∙◌, ℕ, List, codes, decimal, map, string_bytes, ap, subst, true, sym}
use Rattle.gen_arterial.specs.Written.{CanMake}
use Rattle.command_words.specs.declared.command.Seeding.{Seeding}
use Rattle.command_words.proofs.Decimals.{none_of}
use Rattle.command_words.proofs.OneCommand.{read_seeding, its_seeding}
use Rattle.command_words.proofs.telling.given_seeding.Goals as goal

pub returns-then-can_make : goal.returns-then-can_make
returns-then-can_make c =
    let read : Seeding = record { seed = c.in-Some.found.0; cabinets = c.in-Some-option_number.found.0; rounds = c.in-Some-option_number-2.found.0 } in
    let third = c.in-Some-option_number-2.ensures.some.0
    ∙ ap (λ (ws : List (List ℕ)). codes "--rounds" ∷ decimal read.rounds ∷ ws)
    (none_of string_bytes c.in-Some-option_number-2.found.1.now c.is_empty.result c.is_empty.ensures c.if-not-is_empty.false) in
    let second = c.in-Some-option_number.ensures.some.0 ∙ ap (λ (ws : List (List ℕ)). codes "--cabinets" ∷ decimal read.cabinets ∷ ws) third in
    let whole = c.in-Some.ensures.some.0 ∙ ap (λ (ws : List (List ℕ)). codes "--seed" ∷ decimal read.seed ∷ ws) second in
    its_seeding (map string_bytes c.args.words.now) read whole (c.in-Some.ensures.some.1, c.can_make.ensures.0 c.if-can_make.true)

pub returns-else-can_make : goal.returns-else-can_make
returns-else-can_make c = λ from. (
  λ e. absurd (cc),
  λ both.
      let read : Seeding = record { seed = c.in-Some.found.0; cabinets = c.in-Some-option_number.found.0; rounds = c.in-Some-option_number-2.found.0 } in
      let same : read ≡ from =
      (read_seeding (map string_bytes c.args.words.now) _ _ _ read from c.in-Some.ensures.some.0 c.in-Some-option_number.ensures.some.0 c.in-Some-option_number-2.ensures.some.0
      c.in-Some.ensures.some.1 c.in-Some-option_number.ensures.some.1 c.in-Some-option_number-2.ensures.some.1 both.0 both.1).0 in
      let can : CanMake read.cabinets read.rounds = subst (λ (x : Seeding). CanMake x.cabinets x.rounds) (sym same) both.1.1 in
      let yes : c.can_make.result ≡ true = c.can_make.ensures.1 can in
      absurd (cc),
)
