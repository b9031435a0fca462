use Rattle.std.proofs.Common.{◌+◌, map, refl, subst, arith}
use Rattle.std.proofs.lemmas.Option.{get_or_from_slice_get, slice_get_within}
use Rattle.scenario_data.specs.Content.{load_content}
use Rattle.master_poll.specs.Channels.{IsNew}
use Rattle.master_poll.proofs.master.Master.open.Goals as goal

pub invariant_of-result : goal.invariant_of-result
invariant_of-result c = record { counted = λ k d low. omega (arith, (c.in-Ok.ensures.new k d low).none) }

pub returns-clause-stands : goal.returns-clause-stands
returns-clause-stands c = λ place p k found there.
    let channels = c.in-Ok.channels.items in
    let new = subst IsNew (get_or_from_slice_get channels place p p found) (c.in-Ok.ensures.new place p (slice_get_within channels place p found)) in
    record { stands = new.stands c.args.s.now.master.retries (place + 1) (map load_content c.args.s.now.loads.items); count = refl }
