use Rattle.session_words.proofs.Cuts.{first_line-cut, behind_first-cut, whole_lines-cut, whole_lines-none}
use Rattle.session_words.proofs.lines.lines_are_cut.Goals as goal

pub returns : goal.returns
returns c = record { first = first_line-cut; behind = behind_first-cut; whole = whole_lines-cut; none = whole_lines-none }
