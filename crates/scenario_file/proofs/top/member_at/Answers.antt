use Rattle.std.proofs.Common.{◌≡◌, ℕ, List, Bool, false, Some, IfSome, if◌then◌else◌, bytes_eq, codes, sym, ap₂, ◌∙◌, subst}
use Rattle.std.proofs.lemmas.Slice.Eq.{bytes_eq-Decides}
use Rattle.json.specs.Json.{value}
use Rattle.serde_json.specs.Data.{Data, array}
use Rattle.serde_json.specs.Read.{of_json, converted}
use Rattle.serde_json.specs.View.{view}
use Rattle.scenario_read.proofs.Rising.{tree-sorted}
use Rattle.scenario_cut.proofs.Turns.{converted_some}
use Rattle.scenario_file.specs.Framing.{is_list, value_in, master_with, Puts}
use Rattle.scenario_file.proofs.Frames.{enters-same}
use Rattle.scenario_file.proofs.Standing.{all-stand-other}
use Rattle.scenario_file.proofs.top.member_at.Goals as goal

pub returns-in-Some-clause-ok : goal.returns-in-Some-clause-ok
returns-in-Some-clause-ok c =
    subst (λ (n : List ℕ). IfSome c.list_member.result (λ v. (d : Data) × (converted of_json (value c.args.depth c.args.reader.now) ≡ Some (d, c.list_member.new.reader)) × Puts c.args.lists.now c.list_member.new.lists n d (view v)))
    c.in-Some.ensures.0 c.list_member.ensures.ok

pub returns-then-eq-clause-ok : goal.returns-then-eq-clause-ok
returns-then-eq-clause-ok c =
    let same : codes "master" ≡ c.args.name.now = sym ((bytes_eq-Decides c.args.name.now (codes "master")).0 (sym c.eq.ensures ∙ c.if-eq.true)) in
    subst (λ (n : List ℕ). IfSome c.master_member.result (λ v. (d : Data) × (converted of_json (value c.args.depth c.args.reader.now) ≡ Some (d, c.master_member.new.reader)) × Puts c.args.lists.now c.master_member.new.lists n d (view v)))
    same c.master_member.ensures.ok

pub returns-in-Some-tree-clause-ok : goal.returns-in-Some-tree-clause-ok
returns-in-Some-tree-clause-ok c =
    let v = view c.in-Some-tree.value in
    let name = c.args.name.now in
    let none : is_list name ≡ false = c.in-None.ensures in
    let other : bytes_eq name (codes "master") ≡ false = sym c.eq.ensures ∙ c.if-eq.false in (
      v,
      c.in-Some-tree.ensures.ok,
      λ frame rows stands. (
        rows,
        enters-same (value_in rows) name v (ap₂ (λ (a b : Bool). if a then array (rows name) else (if b then master_with (rows (codes "schedule")) v else v)) none other),
        all-stand-other c.args.lists.now frame rows name v none other stands,
      ),
    )

pub returns-in-Some-tree-clause-sorted : goal.returns-in-Some-tree-clause-sorted
returns-in-Some-tree-clause-sorted c =
    let v = view c.in-Some-tree.value in
    let tree = converted_some of_json (value c.args.depth c.args.reader.now) v c.tree.new.reader c.in-Some-tree.ensures.ok in
    tree-sorted tree.0 v tree.2
