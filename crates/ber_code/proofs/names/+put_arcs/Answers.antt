use Rattle.std.proofs.Common.{List, ℕ, ◌∷◌, [], ◌++◌, get_or, sym, ap, ◌∙◌, append_assoc, arith, length}
use Rattle.std.specs.List.{flat_map}
use Rattle.std.proofs.lemmas.List.{length-append}
use Rattle.ber_code.specs.Names.{arc_text}
use Rattle.ber_code.proofs.Fours.{behind_four, four_sizes, four_texts}
use Rattle.ber_code.proofs.names.+put_arcs.Goals as goal

pub put-requires : goal.put-requires
put-requires t c =
    let all = four_sizes c.args.arcs.now c.in-len4-up.len_at_least c.if-a-lt128.true c.if-b-lt128.true c.if-c-lt128.true c.if-d-lt128.true in
    omega (arith, all, c.requires)

pub put_arcs-requires : goal.put_arcs-requires
put_arcs-requires t c =
    let xs = c.args.arcs.now in
    let four : List ℕ = get_or xs 0 0 ∷ get_or xs 1 0 ∷ get_or xs 2 0 ∷ get_or xs 3 0 ∷ [] in
    let all = four_sizes xs c.in-len4-up.len_at_least c.if-a-lt128.true c.if-b-lt128.true c.if-c-lt128.true c.if-d-lt128.true in
    (grind arith, omega (arith, all, c.requires, ap length c.put.ensures, length-append c.args.out.now.items four))

pub returns-in-len4-up : goal.returns-in-len4-up
returns-in-len4-up t c =
    let xs = c.args.arcs.now in
    let old = c.args.out.now.items in
    let four : List ℕ = get_or xs 0 0 ∷ get_or xs 1 0 ∷ get_or xs 2 0 ∷ get_or xs 3 0 ∷ [] in
    let rest : List ℕ = flat_map arc_text (behind_four xs) in
    let all = four_texts xs c.in-len4-up.len_at_least c.if-a-lt128.true c.if-b-lt128.true c.if-c-lt128.true c.if-d-lt128.true in
    c.put_arcs.ensures ∙ ap (λ (s : List ℕ). s ++ rest) c.put.ensures ∙ append_assoc old four rest ∙ ap (λ (s : List ℕ). old ++ s) (sym all)
