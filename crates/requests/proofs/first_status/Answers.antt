use Rattle.std.proofs.Common.{◌≡◌, ◌∙◌, ℤ, Some, sym, ap, subst, rules, w32, to_z, of_z}
use Rattle.std.proofs.lemmas.Int.{to_z-of_z}
use mir.Val.{SFits}
use Rattle.requests.proofs.Statuses.{first, first_there, first_beyond}
use Rattle.requests.proofs.first_status.Goals as goal

pub returns-in-Some : goal.returns-in-Some
returns-in-Some c =
    let id = c.args.id in
    let passed : to_z w32 (of_z w32 id) ≡ id = to_z-of_z w32 id c.ranges.id in
    let x = c.octets-item.result in
    let there = first_there (to_z w32 (of_z w32 id)) c.args.arrived.now c.loop-octets.octets-index x c.in-Some.status c.loop-octets-test.true c.octets-item.is
    (sym c.status_in.ensures ∙ c.in-Some.is) in
    let whole : first (to_z w32 (of_z w32 id)) c.args.arrived.now ≡ Some c.in-Some.status = sym c.loop-octets.invariant ∙ there in
    let fits : SFits w32 c.in-Some.status = search rules in
    let same : to_z w32 (of_z w32 c.in-Some.status) ≡ c.in-Some.status = to_z-of_z w32 c.in-Some.status fits in
    ap Some same ∙ sym (subst (λ (n : ℤ). first n c.args.arrived.now ≡ Some c.in-Some.status) passed whole)

pub loop-octets-preserved : goal.loop-octets-preserved
loop-octets-preserved c =
    let id = to_z w32 (of_z w32 c.args.id) in
    first_beyond id c.args.arrived.now c.loop-octets.octets-index c.octets-item.result c.loop-octets-test.true c.octets-item.is (sym c.status_in.ensures ∙ c.in_default.is)
    ∙ c.loop-octets.invariant
