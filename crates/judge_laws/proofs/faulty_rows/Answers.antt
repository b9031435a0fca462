use Rattle.std.proofs.Common.{refl}
use Rattle.sig_tables.specs.Standard.{max8, standard}
use Rattle.safety_laws.specs.Rows.{slow_yellow}
use Rattle.judge_laws.proofs.faulty_rows.Goals as goal

pub returns : goal.returns
unfolding max8 standard slow_yellow
returns c = record { short = refl; together = refl; left_out = refl; long = refl; on_red = refl; newest = refl; tolerated = refl; conflicts_stay = refl; joined = refl }
