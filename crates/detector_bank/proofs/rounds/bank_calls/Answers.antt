use Rattle.std.proofs.Common.{◌+◌, ◌++◌, refl, ap, ◌∙◌}
use Rattle.detector_bank.specs.Lists.{round_changes}
use Rattle.detector_bank.proofs.Calling.{calls-more, sets-called}
use Rattle.detector_bank.proofs.rounds.bank_calls.Goals as goal

pub loop-done-init : goal.loop-done-init
loop-done-init c =
    let ds = c.args.bank.now.items in
    let ps = c.args.pulses.now.items in
    let w = c.in_ok-walk.ensures in
    let tallies = c.new-calling.ensures ds c.in_ok-walk.walk.detector_states.items w.none in record {
      fits = w.fits;
      stands = w.stands;
      tallies = tallies;
      before = sets-called c.new-calling.result ds c.in_ok-walk.walk.detector_states.items ps 0 w.fits.detector_states (λ k p d low. (w.stands.each k p d low).told) tallies;
      calls = c.new-calls.ensures.items;
    }

pub loop-done-preserved : goal.loop-done-preserved
loop-done-preserved c =
    let l = c.loop-done in
    let ps = c.args.pulses.now.items in
    let ds = c.args.bank.now.items in
    let detector_states = c.call_round.new.walk.detector_states.items in
    let fits = c.call_round.ensures.fits in
    let stands = c.call_round.ensures.stands ps l.done refl l.invariant.stands in
    let tallies = c.call_round.ensures.tallies l.invariant.tallies in
    let now = sets-called c.call_round.new.calling ds detector_states ps (l.done + 1) fits.detector_states (λ k p d low. (stands.each k p d low).told) tallies in record {
      fits = fits;
      stands = stands;
      tallies = tallies;
      before = now;
      calls = c.in_ok-push_changes.ensures ds ps l.done refl now l.invariant.before ∙ ap (λ cs. cs ++ round_changes ds ps l.done) l.invariant.calls ∙ calls-more ds ps l.done;
    }
