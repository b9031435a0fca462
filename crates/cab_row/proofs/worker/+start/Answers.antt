use Rattle.std.proofs.Common.{◌≡◌, sym, subst, arith, Vec, vec_len}
use Rattle.std.specs.declared.alloc.Global.{Global}
use Rattle.cab_row.specs.declared.worker.Worker.{Worker}
use Rattle.cab_row.specs.Hands.{IsReady, HaveWorked}
use Rattle.cab_row.proofs.Gathered.{gathered}
use Rattle.cab_row.proofs.worker.+start.Goals.{work_from-then-has_work+then-have_work, work_from-else-has_work}
use Rattle.cab_row.proofs.worker.+start.Goals as goal

pub work_from-returns : goal.work_from-returns
work_from-returns g t c = let code = g.row.B.coded.code in let left = g.B.Logged.left_of in let row = c.args.row.now in
    let front = c.pop.new.self in let was = c.in-Some.worker in let took = c.in-Some.ensures in let put = c.push_reserved.ensures in
    let P : Worker × Vec Worker Global → Type 0 = λ both. (IsReady code left row both.0 × (vec_len both.0.passes ≡ vec_len was.passes)) × HaveWorked code left row front both.1 in
    let both : P c.if-has_work.worker = elim c.if-has_work.branch [
      | work_from-then-has_work+then-have_work w ↦ subst P (sym w.worker-is) (w.work_beside.ensures.worker, w.work_beside.ensures.others)
      | work_from-else-has_work w ↦ subst P (sym w.worker-is) (w.worked_out-worker.ensures, w.work_from.ensures)
    ] in
    gathered code left row c.args.workers front c.if-has_work.worker.1 c.push_reserved.new.self was c.if-has_work.worker.0
    took.items (omega (arith, took.len)) c.pop.ensures.capacity both.0 both.1 put.items put.len put.capacity
