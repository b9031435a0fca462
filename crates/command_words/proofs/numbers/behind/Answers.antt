use Rattle.std.proofs.Common.{◌≡◌, ◌∷◌, ◌∙◌, List, ℕ, sym, ap, map, string_bytes, drop, take, length, ◌-◌}
use Rattle.std.proofs.lemmas.Slice.Eq.{bytes_eq-Decides}
use Rattle.command_words.proofs.Decimals.{first_and_rest}
use Rattle.command_words.proofs.numbers.behind.Goals as goal

pub returns-then-eq-clause-some : goal.returns-then-eq-clause-some
returns-then-eq-clause-some c =
    let word : string_bytes c.word-item.result ≡ c.args.name.now =
    sym c.as_str.ensures.value ∙ (bytes_eq-Decides c.as_str.result.now c.args.name.now).0 (sym c.eq.ensures ∙ c.if-eq.true) in
    ap (map string_bytes) (first_and_rest c.args.words.now c.word-item.result c.in-len1-up.len_at_least c.word-item.is)
    ∙ ap (λ (w : List ℕ). w ∷ map string_bytes (take (length c.args.words.now - 1) (drop 1 c.args.words.now))) word
