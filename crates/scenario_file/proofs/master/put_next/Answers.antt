use Rattle.std.proofs.Common.{rules, ◌≡◌, string_bytes, sym, ap, ◌∙◌, subst}
use Rattle.serde_json.specs.Data.{put}
use Rattle.serde_json.specs.View.{view, members_view}
use Rattle.scenario_read.specs.Sorted.{MembersSorted}
use Rattle.scenario_read.proofs.Rising.{sorted-put}
use Rattle.scenario_cut.proofs.Lasting.{put-through}
use Rattle.scenario_file.specs.Framing.{filled, scheduled, MasterStands}
use Rattle.scenario_file.proofs.master.put_next.Goals as goal

pub returns-clause-ok : goal.returns-clause-ok
returns-clause-ok c =
    let done = c.in_ok-value.ensures in
    let d = done.ok.0 in
    let v = view c.in_ok-value.value in
    let k = c.args.name.now in
    let old = members_view c.args.master.now.members.entries in
    let copied : string_bytes c.in-Ok.key ≡ k = search rules in
    let inserted : members_view c.put_member.new.members.entries ≡ put k v old = c.in_ok-put_member.ensures ∙ ap (λ name. put name v old) copied in (
      d,
      done.ok.1,
      λ entries stands sorted.
          let puts = done.ok.2 old entries stands in
          let now = puts.0 in (
            now,
            put-through k (scheduled entries) (scheduled now) d v puts.1 old sorted ∙ ap (filled (scheduled now)) (sym inserted),
            subst (λ ms. MasterStands c.member_at.new.schedule ms now) (sym inserted) puts.2,
            subst MembersSorted (sym inserted) (sorted-put k v old done.sorted sorted),
          ),
    )
