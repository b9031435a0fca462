use Rattle.trace_laws.proofs.Small.{whole, nothing, colour, kind, round, too-many, no-such-pass, other-cabinet, cut-off, short, other-end, behind}
use Rattle.trace_laws.proofs.small_faults.Goals as goal

pub returns-clause-whole : goal.returns-clause-whole
returns-clause-whole c = whole

pub returns-clause-nothing : goal.returns-clause-nothing
returns-clause-nothing c = nothing

pub returns-clause-colour : goal.returns-clause-colour
returns-clause-colour c = colour

pub returns-clause-kind : goal.returns-clause-kind
returns-clause-kind c = kind

pub returns-clause-round : goal.returns-clause-round
returns-clause-round c = round

pub returns-clause-too_many : goal.returns-clause-too_many
returns-clause-too_many c = too-many

pub returns-clause-no_such_pass : goal.returns-clause-no_such_pass
returns-clause-no_such_pass c = no-such-pass

pub returns-clause-other_cabinet : goal.returns-clause-other_cabinet
returns-clause-other_cabinet c = other-cabinet

pub returns-clause-cut_off : goal.returns-clause-cut_off
returns-clause-cut_off c = cut-off

pub returns-clause-short : goal.returns-clause-short
returns-clause-short c = short

pub returns-clause-other_end : goal.returns-clause-other_end
returns-clause-other_end c = other-end

pub returns-clause-behind : goal.returns-clause-behind
returns-clause-behind c = behind
