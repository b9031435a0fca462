use Rattle.std.proofs.Common.{length}
use Rattle.scenario_file.proofs.look.behind_blanks.Given as goal

abbrev pub decreases-blanks : goal.decreases-blanks
decreases-blanks l = length l.text
