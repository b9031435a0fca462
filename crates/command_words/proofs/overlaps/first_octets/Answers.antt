use Rattle.std.proofs.Common.{◌≡◌, ◌≤◌, ◌∙◌, ℕ, List, [], Ok, length, map, string_bytes, get_or, sym, ap, subst}
use Rattle.arrayvec.specs.ArrayVec.{ArrayVec}
use Rattle.hex.specs.Hex.{decode_of}
use Rattle.command_words.proofs.Decimals.{first_and_rest}
use Rattle.command_words.proofs.OneCommand.{not_found}
use Rattle.command_words.proofs.overlaps.first_octets.Goals as goal

pub returns-in-Some-clause-some : goal.returns-in-Some-clause-some
returns-in-Some-clause-some c =
    let read = (c.octets_of.ensures c.in-Some.octets).0 c.in-Some.is in (
      string_bytes c.word-item.result,
      ap (map string_bytes) (first_and_rest c.args.words.now c.word-item.result c.in-len1-up.len_at_least c.word-item.is),
      subst (λ (hex : List ℕ). decode_of hex ≡ Ok c.in-Some.octets.items) c.as_str.ensures.value read.0,
      read.1,
      read.2,
    )

pub returns-in-None-clause-none : goal.returns-in-None-clause-none
returns-in-None-clause-none c = λ none hex octets rest decoded some few is.
    let whole = ap (map string_bytes) (first_and_rest c.args.words.now c.word-item.result c.in-len1-up.len_at_least c.word-item.is) in
    let digits : hex ≡ c.as_str.result.now = ap (λ (ws : List (List ℕ)). get_or ws 0 []) (sym is ∙ whole) ∙ sym c.as_str.ensures.value in
    not_found (λ (found : ArrayVec ℕ). (decode_of c.as_str.result.now ≡ Ok found.items) × (1 ≤ length found.items) × (length found.items ≤ 16)) c.octets_of.result
    c.in-None.is c.octets_of.ensures (record { items = octets }) (subst (λ (text : List ℕ). decode_of text ≡ Ok octets) digits decoded, some, few)
