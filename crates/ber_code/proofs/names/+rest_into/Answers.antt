use Rattle.std.proofs.Common.{◌≡◌, ◌≢◌, ℕ, suc, ◌-◌, List, ◌∷◌, [], ◌++◌, length, get_or, Option, None, arith, sym, ap, subst, ◌∙◌, refl}
use Rattle.std.proofs.lemmas.Grind.{common_steps}
use Rattle.ber_code.specs.Reading.{Gives, arc_at, all_at, with_front}
use Rattle.ber_code.proofs.Exact.{goes_on, gives_up, is_done, is_full}
use Rattle.ber_code.proofs.Fours.{behind_four, four_read}
use Rattle.ber_code.proofs.names.+rest_into.Goals as goal

pub returns-then-is_empty : goal.returns-then-is_empty
returns-then-is_empty t c =
    let none : length c.args.octets.now ≡ 0 = grind arith in
    is_done arc_at c.args.name.now.items c.args.most c.args.octets.now none

pub returns-then-most-eq0 : goal.returns-then-most-eq0
returns-then-most-eq0 t c =
    let some : length c.args.octets.now ≢ 0 = grind arith in
    is_full arc_at c.args.name.now.items c.args.most c.args.octets.now c.if-most-eq0.true some

pub returns-in_err-arc-in_default : goal.returns-in_err-arc-in_default
returns-in_err-arc-in_default t c =
    let most = c.args.most in
    let some : length c.args.octets.now ≢ 0 = grind arith in
    let less : most ≡ suc (most - 1) = omega arith in
    let nothing : c.from_residual.result ≡ None = grind (arith, common_steps) in
    rw nothing (gives_up arc_at c.args.name.now.items most (most - 1) c.args.octets.now less some c.in_err-arc-in_default.ensures)

pub returns-in_ok-arc-in_default : goal.returns-in_ok-arc-in_default
returns-in_ok-arc-in_default t c =
    let most = c.args.most in
    let front = c.args.name.now.items in
    let after = c.in_ok-arc-in_default.after.now in
    let some : length c.args.octets.now ≢ 0 = grind arith in
    let less : most ≡ suc (most - 1) = omega arith in
    let step = goes_on arc_at front most (most - 1) c.args.octets.now c.in_ok-arc-in_default.arc after less some c.in_ok-arc-in_default.ensures
    ∙ ap (λ (f : List ℕ). with_front f (all_at arc_at (most - 1) after)) (sym c.push.ensures.items) in
    subst (λ (r : Option (List ℕ)). Gives (λ (x : Unit {0}). c.rest_into-in_default.new.name.items) c.rest_into-in_default.result r) (sym step) c.rest_into-in_default.ensures

pub returns-in-len4-up : goal.returns-in-len4-up
returns-in-len4-up t c =
    let most = c.args.most in
    let front = c.args.name.now.items in
    let xs = c.args.octets.now in
    let same : c.push_all.new.name.items ≡ front ++ get_or xs 0 0 ∷ get_or xs 1 0 ∷ get_or xs 2 0 ∷ get_or xs 3 0 ∷ [] =
    c.push_all.ensures ∙ rw (c.from.ensures, c.from-in-len4-up.ensures, c.from-in-len4-up-2.ensures, c.from-in-len4-up-3.ensures) refl in
    let step = four_read front most xs c.if-most-ge4.true c.in-len4-up.len_at_least c.if-a-lt128.true c.if-b-lt128.true c.if-c-lt128.true c.if-d-lt128.true
    ∙ ap (λ (f : List ℕ). with_front f (all_at arc_at (most - 4) (behind_four xs))) (sym same) in
    subst (λ (r : Option (List ℕ)). Gives (λ (x : Unit {0}). c.rest_into.new.name.items) c.rest_into.result r) (sym step) c.rest_into.ensures
