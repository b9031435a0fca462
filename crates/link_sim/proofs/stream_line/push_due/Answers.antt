use Rattle.std.proofs.Common.{◌≡◌, ◌%◌, ◌++◌, List, sym, subst, arith}
use Rattle.std.specs.Prelude.{OnOk}
use Rattle.sig_types.specs.Items.{texts_of}
use Rattle.link_sim.specs.declared.stream_line.Late.{Late}
use Rattle.link_sim.specs.Due.{due_texts}
use Rattle.link_sim.proofs.LateLists.{on_late_list-get}
use Rattle.link_sim.proofs.stream_line.push_due.Goals as goal

pub returns : goal.returns
returns c =
    subst
    (λ (copies : List Late). OnOk c.push_all_due.result (texts_of c.push_all_due.new.out.items ≡ texts_of c.args.out.now.items ++ due_texts c.args.round c.args.round copies))
    (sym (on_late_list-get c.args.late.now (c.args.round % 32) c.index-late-round.result (omega arith)))
    c.push_all_due.ensures
