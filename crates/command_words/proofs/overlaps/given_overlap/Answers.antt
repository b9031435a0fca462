use Rattle.std.proofs.Common.{◌∷◌, ◌∙◌, ℕ, List, codes, decimal, map, string_bytes, ap}
use Rattle.command_words.specs.declared.command.Overlap.{Overlap}
use Rattle.command_words.proofs.Decimals.{none_of}
use Rattle.command_words.proofs.OneOverlap.{read_words, its_overlap, no_overlap, no_yellow, no_red}
use Rattle.command_words.proofs.overlaps.given_overlap.Goals as goal

pub returns-in-None-option_within-2 : goal.returns-in-None-option_within-2
returns-in-None-option_within-2 c =
    no_overlap (map string_bytes c.args.words.now)
    (no_yellow (map string_bytes c.args.words.now) _ _ _ c.in-Some-option_octets.ensures.some.0 c.in-Some.found.0 c.in-Some-option_within.found.0
    c.in-Some.ensures.some.0 c.in-Some-option_octets.ensures.some.1 c.in-Some-option_within.ensures.some.0 (c.option_within-3.ensures.none c.in-None-option_within-2.is))

pub returns-in-None-option_within-3 : goal.returns-in-None-option_within-3
returns-in-None-option_within-3 c =
    no_overlap (map string_bytes c.args.words.now)
    (no_red (map string_bytes c.args.words.now) _ _ _ _ c.in-Some-option_octets.ensures.some.0 c.in-Some.found.0 c.in-Some-option_within.found.0 c.in-Some-option_within-2.found.0
    c.in-Some.ensures.some.0 c.in-Some-option_octets.ensures.some.1 c.in-Some-option_within.ensures.some.0 c.in-Some-option_within-2.ensures.some.0
    (c.option_within-4.ensures.none c.in-None-option_within-3.is))

pub returns : goal.returns
returns c =
    let read : Overlap =
    record { cabinet = c.in-Some.found.0; parents = c.in-Some-option_octets.found.0; trail = c.in-Some-option_within.found.0; yellow = c.in-Some-option_within-2.found.0; red = c.in-Some-option_within-3.found.0 } in
    let last = c.in-Some-option_within-3.ensures.some.0
    ∙ ap (λ (ws : List (List ℕ)). codes "--red" ∷ decimal read.red ∷ ws)
    (none_of string_bytes c.in-Some-option_within-3.found.1.now c.is_empty.result c.is_empty.ensures c.if-not-is_empty.false) in
    let whole = read_words (map string_bytes c.args.words.now) _ _ _ _ _ c.in-Some-option_octets.ensures.some.0 read c.in-Some.ensures.some.0
    c.in-Some-option_octets.ensures.some.1 c.in-Some-option_within.ensures.some.0 c.in-Some-option_within-2.ensures.some.0 last in
    its_overlap (map string_bytes c.args.words.now) read (
      c.in-Some-option_octets.ensures.some.0,
      whole,
      c.in-Some-option_octets.ensures.some.2,
      record {
        numbered = (c.in-Some.ensures.some.1, c.in-Some.ensures.some.2);
        parented = (c.in-Some-option_octets.ensures.some.3, c.in-Some-option_octets.ensures.some.4);
        trailed = c.in-Some-option_within.ensures.some.2;
        yellowed = c.in-Some-option_within-2.ensures.some.2;
        cleared = c.in-Some-option_within-3.ensures.some.2;
      },
    )
