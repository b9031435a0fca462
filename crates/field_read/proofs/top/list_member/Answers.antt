use Rattle.std.proofs.Common.{ℕ, List, subst}
use Rattle.serde_json.specs.Data.{array}
use Rattle.field_read.specs.Parts.{Puts}
use Rattle.field_read.proofs.top.list_member.Goals as goal

pub returns-clause-ok : goal.returns-clause-ok
returns-clause-ok c =
    let done = c.in_ok-list.ensures in
    let ds = done.ok.0 in
    let d = array ds in
    (d, done.ok.1, subst (λ (n : List ℕ). Puts c.args.parts.now c.put_list.new.parts n d) done.list (λ ms s. c.put_list.ensures ms ds s done.ok.2))
