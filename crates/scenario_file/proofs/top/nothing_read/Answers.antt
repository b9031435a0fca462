use Rattle.std.proofs.Common.{ℕ, List, sym, ap, subst}
use Rattle.serde_json.specs.Data.{Items, no_items}
use Rattle.serde_json.specs.View.{members_view}
use Rattle.scenario_read.specs.Sorted.{MembersSorted}
use Rattle.scenario_file.specs.Framing.{with_lists, AllStand}
use Rattle.scenario_file.proofs.top.nothing_read.Goals as goal

pub returns : goal.returns
returns c =
    let empty = sym c.new-frame.ensures.empty in
    let none : List ℕ → Items = λ (name : List ℕ). no_items in
    record {
      rows = none;
      is = ap (λ es. with_lists none (members_view es)) empty;
      stands = subst (λ es. AllStand c.no_lists-lists.result (members_view es) none) empty c.no_lists-lists.ensures;
      sorted = subst (λ es. MembersSorted (members_view es)) empty tt;
    }
