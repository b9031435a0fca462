use Rattle.std.proofs.Common.{◌≡◌, ◌≤◌, map, length, subst, sym, arith, w32, to_z, of_z}
use Rattle.std.proofs.lemmas.Int.{to_z-of_z}
use Rattle.sig_tables.specs.Putting.{put_content}
use Rattle.requests.specs.Requests.{set_text}
use Rattle.master_load.proofs.Fits.{step_fits}
use Rattle.master_load.proofs.download.step_octets.Goals as goal

pub write_set-requires-clause-fits : goal.write_set-requires-clause-fits
write_set-requires-clause-fits c =
    let id : to_z w32 (of_z w32 c.args.id) ≡ c.args.id = to_z-of_z w32 c.args.id c.ranges.id in
    rw (id, c.as_slice.ensures.value) (subst (λ binds. length (set_text c.args.community.now.items c.args.id binds) ≤ 1472) (sym c.step_binds-binds.ensures.binds)
    (step_fits c.args.community.now.items c.args.id c.args.number (map put_content c.args.cells.now) c.args.step (omega arith) c.requires.puts))
