use Rattle.std.proofs.Common.{◌<◌, ◌+◌, inr, subst}
use Rattle.sig_types.specs.Phases.{is_in}
use Rattle.sig_tables.specs.declared.tables.Tables.{Tables}
use Rattle.sig_tables.specs.Tables.{gap_time}
use Rattle.sig_tables.specs.Looking.{in_a_row}
use Rattle.observer.proofs.LookingBackMemory.gap_left.Goals as goal

pub returns : goal.returns
returns c = record {
  left = λ past o k keeps x some within.
      inr (subst (λ (t : Tables). in_a_row (λ m. is_in m.quiet c.args.phase) past.moments + k < gap_time t c.args.phase) x.tables
      (c.gap_left.ensures.left past.moments k (c.window.ensures past.moments keeps.frame_history) some within));
}
