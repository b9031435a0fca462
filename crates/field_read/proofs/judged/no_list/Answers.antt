use Rattle.field_read.proofs.Judging.{no-list}
use Rattle.field_read.proofs.judged.no_list.Goals as goal

pub returns : goal.returns
returns c = λ e d bare. no-list e d c.refuse_member.result bare c.refuse_member.ensures
