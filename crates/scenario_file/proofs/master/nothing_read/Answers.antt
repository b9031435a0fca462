use Rattle.std.proofs.Common.{sym, ap, subst}
use Rattle.serde_json.specs.Data.{no_items}
use Rattle.serde_json.specs.View.{members_view}
use Rattle.scenario_read.specs.Sorted.{MembersSorted}
use Rattle.scenario_file.specs.Framing.{filled, scheduled, MasterStands}
use Rattle.scenario_file.proofs.master.nothing_read.Goals as goal

pub returns : goal.returns
returns c =
    let empty = sym c.new-members.ensures.empty in
    record {
      entries = no_items;
      is = ap (λ es. filled (scheduled no_items) (members_view es)) empty;
      stands = subst (λ es. MasterStands c.no_schedule-schedule.result (members_view es) no_items) empty c.no_schedule-schedule.ensures;
      sorted = subst (λ es. MembersSorted (members_view es)) empty tt;
    }
