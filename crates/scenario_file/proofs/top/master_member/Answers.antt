use Rattle.std.proofs.Common.{◌≡◌, ℕ, List, codes, sym, subst}
use Rattle.serde_json.specs.Data.{object, Items, put}
use Rattle.serde_json.specs.View.{view, members_view}
use Rattle.serde_json.specs.declared.value.Value.{Object}
use Rattle.serde_json.proofs.Views.{view-Object}
use Rattle.scenario_read.specs.Sorted.{Sorted}
use Rattle.scenario_file.specs.Framing.{filled, scheduled, value_in, with_rows, Enters, AllStand}
use Rattle.scenario_file.proofs.Frames.{enters-master}
use Rattle.scenario_file.proofs.top.master_member.Goals as goal

pub returns-clause-ok : goal.returns-clause-ok
returns-clause-ok c =
    let done = c.in_ok-master.ensures in
    let ds = done.ok.0 in
    let ms = members_view c.in_ok-master.master.members.entries in
    let d = object (filled (scheduled ds) ms) in
    let new = c.put_list.new.lists in
    let seen : object ms ≡ view (Object c.in_ok-master.master.members) = sym (view-Object c.in_ok-master.master.members) in (
      d,
      done.ok.1,
      λ frame rows stands. subst (λ v. (now : List ℕ → Items) × Enters (value_in rows) (value_in now) (codes "master") d v × AllStand new (put (codes "master") v frame) now) seen (
        with_rows rows (codes "schedule") ds,
        enters-master rows ds (object ms),
        c.put_list.ensures.schedule done.ok.2.list frame rows ds (object ms) stands done.ok.2.items done.ok.2.held,
      ),
    )

pub returns-clause-sorted : goal.returns-clause-sorted
returns-clause-sorted c = subst Sorted (sym (view-Object c.in_ok-master.master.members)) c.in_ok-master.ensures.sorted
