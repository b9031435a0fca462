use Rattle.std.proofs.Common.{◌≡◌, ◌-◌, length, Some, sym, ap, ◌∙◌, arith}
use Rattle.json.specs.Json.{read_key, members, value}
use Rattle.json.proofs.Grammar.{read_key-shorter}
use Rattle.serde_json.specs.Read.{of_members, converted}
use Rattle.scenario_cut.proofs.Turns.{member_read, members_over}
use Rattle.scenario_file.specs.Plain.{plain_members}
use Rattle.scenario_file.proofs.plain.members_of.Goals as goal

pub members-init : goal.members-init
members-init c =
    let r = c.args.reader.now in (
      length r,
      omega arith,
      λ depth. ap (λ found. converted (λ ms. of_members ms found) (members (value depth) (length r) r)) (sym c.nothing-plain.ensures),
      omega arith,
    )

pub members-preserved : goal.members-preserved
members-preserved c =
    let l = c.members in
    let n = l.invariant.0 in
    let old = plain_members l.plain in
    let k = c.in-Ok-Some.name.now in
    let s = c.next_key.new.self in
    let named : read_key l.reader ≡ Some (Some k, s) = grind arith in
    let done = c.in_ok-put_next.ensures in
    let r = c.put_next.new.reader in
    let less = read_key-shorter l.reader (Some k) s named in
    let lesser = done.shorter in (
      n - 1,
      omega (arith, l.invariant.1),
      λ depth.
          let put = done.ok depth in
          l.invariant.2 depth ∙ member_read (value depth) old n k l.reader s r put.0 (omega (arith, l.invariant.1)) named put.1
          ∙ ap (λ found. converted (λ ms. of_members ms found) (members (value depth) (n - 1) r)) (sym put.2),
      omega (arith, l.invariant.3),
    )

pub returns-in-Ok-None-clause-ok : goal.returns-in-Ok-None-clause-ok
returns-in-Ok-None-clause-ok c = λ depth.
    let l = c.members in
    l.invariant.2 depth ∙ members_over (value depth) (plain_members l.plain) l.invariant.0 l.reader c.next_key.new.self l.invariant.1 (grind arith)
