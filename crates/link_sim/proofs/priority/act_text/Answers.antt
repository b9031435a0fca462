use Rattle.std.proofs.Common.{◌≤◌, length, arith}
use Rattle.std.proofs.lemmas.Grind.{common_steps}
use Rattle.link_sim.proofs.Fits.{act_fits}
use Rattle.link_sim.proofs.priority.act_text.Goals as goal

pub write_set-requires-clause-fits : goal.write_set-requires-clause-fits
write_set-requires-clause-fits c =
    let short : length c.args.community.now.items ≤ 32 = grind (arith, common_steps) in
    act_fits c.args.community.now.items _ c.args.act c.act_binds-binds.result short c.act_binds-binds.ensures
