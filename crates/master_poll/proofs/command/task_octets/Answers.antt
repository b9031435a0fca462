use Rattle.std.proofs.Common.{◌∙◌, map, refl, sym, ap, arith, w32, to_z, of_z}
use Rattle.std.specs.Prelude.{ℤ}
use Rattle.std.proofs.lemmas.Int.{to_z-of_z}
use Rattle.requests.specs.Requests.{asked_for}
use Rattle.master_poll.specs.declared.command.Task.TheVariants.{Poll}
use Rattle.master_poll.specs.Sends.{polled, task_text}
use Rattle.master_poll.proofs.Polled.{polled_is}
use Rattle.master_poll.proofs.Fits.{clock_fits, pattern_fits, poll_fits}
use Rattle.master_poll.proofs.command.task_octets.Goals as goal

pub write_set-requires-clause-fits : goal.write_set-requires-clause-fits
write_set-requires-clause-fits c = pattern_fits c.args.community.now.items _ _ c.setting.result (omega arith) c.setting.ensures.bound

pub write_set-requires-in-Clock-clause-fits : goal.write_set-requires-in-Clock-clause-fits
write_set-requires-in-Clock-clause-fits c =
    clock_fits c.args.community.now.items _ _ c.setting-in-Clock.result (omega arith) c.setting-in-Clock.ensures.bound

pub returns-in-Poll : goal.returns-in-Poll
returns-in-Poll c =
    let community = c.args.community.now.items in
    let id = to_z w32 (of_z w32 c.args.id) in
    let gets = c.write_get_around.ensures (map asked_for polled) polled_is (poll_fits community id (map asked_for polled) (omega arith) refl) in
    gets ∙ ap (λ (n : ℤ). task_text community n Poll) (to_z-of_z w32 c.args.id c.ranges.id) ∙ ap (task_text community c.args.id) (sym c.in-Poll.is)
