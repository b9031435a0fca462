use Rattle.std.proofs.Common.{◌≡◌, ◌+◌, ◌-◌, true, ℕ, List, Some, sym, ap, ◌∙◌, subst, arith}
use Rattle.json.specs.Json.{value}
use Rattle.serde_json.specs.Data.{array, Items, put}
use Rattle.serde_json.specs.Read.{of_json, converted}
use Rattle.serde_json.specs.View.{view}
use Rattle.scenario_read.specs.Sorted.{Sorted}
use Rattle.scenario_file.specs.Listing.{name_of}
use Rattle.scenario_file.specs.Framing.{is_list, stand_in, value_in, with_rows, Enters, AllStand}
use Rattle.scenario_file.proofs.Blanks.{stand_in-sorted}
use Rattle.scenario_file.proofs.Frames.{enters-list}
use Rattle.scenario_file.proofs.top.list_member.Goals as goal

pub returns-clause-ok : goal.returns-clause-ok
returns-clause-ok c =
    let done = c.in_ok-listed.ensures in
    let ds = done.ok.0 in
    let name = name_of c.in_ok-listed.listed.found in
    let v = view c.in_ok-standing.standing in
    let new = c.put_list.new.lists in
    let top : is_list name ≡ true = ap is_list done.list ∙ c.requires.top in
    let within : c.args.depth - 1 + 1 ≡ c.args.depth = omega (arith, c.requires.deep) in
    let standing : stand_in name ds ≡ v = sym (c.in_ok-standing.ensures ds done.ok.2.holds) in (
      array ds,
      subst (λ n. converted of_json (value n c.args.reader.now) ≡ Some (array ds, c.list_at.new.reader)) within done.ok.1,
      λ frame rows stands. subst (λ n. (now : List ℕ → Items) × Enters (value_in rows) (value_in now) n (array ds) v × AllStand new (put n v frame) now) done.list (
        with_rows rows name ds,
        enters-list name rows ds v top,
        subst (λ x. AllStand new (put name x frame) (with_rows rows name ds)) standing (c.put_list.ensures.top top frame rows ds stands done.ok.2),
      ),
    )

pub returns-clause-sorted : goal.returns-clause-sorted
returns-clause-sorted c =
    let done = c.in_ok-listed.ensures in
    let name = name_of c.in_ok-listed.listed.found in
    subst Sorted (sym (c.in_ok-standing.ensures done.ok.0 done.ok.2.holds)) (stand_in-sorted name done.ok.0)
