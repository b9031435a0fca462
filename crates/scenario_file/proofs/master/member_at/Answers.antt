use Rattle.std.proofs.Common.{◌≡◌, ◌+◌, ◌-◌, Some, false, if◌then◌else◌, bytes_eq, codes, sym, ap, ◌∙◌, subst, arith}
use Rattle.std.proofs.lemmas.Slice.Eq.{bytes_eq-Decides}
use Rattle.json.specs.Json.{value}
use Rattle.serde_json.specs.Data.{array, Items, put}
use Rattle.serde_json.specs.Read.{of_json, converted}
use Rattle.serde_json.specs.View.{view}
use Rattle.scenario_read.proofs.Rising.{tree-sorted}
use Rattle.scenario_cut.proofs.Turns.{converted_some}
use Rattle.scenario_file.specs.Framing.{scheduled, Enters, MasterStands}
use Rattle.scenario_file.proofs.Frames.{enters-same, enters-schedule}
use Rattle.scenario_file.proofs.Standing.{master-other, master-here}
use Rattle.scenario_file.proofs.master.member_at.Goals as goal

pub returns-in_ok-listed-clause-ok : goal.returns-in_ok-listed-clause-ok
returns-in_ok-listed-clause-ok c =
    let done = c.in_ok-listed.ensures in
    let listed = c.in_ok-listed.listed in
    let es = done.ok.0 in
    let v = view c.no_entries.result in
    let same : codes "schedule" ≡ c.args.name.now = sym ((bytes_eq-Decides c.args.name.now (codes "schedule")).0 (sym c.eq.ensures ∙ c.if-eq.true)) in
    let within : c.args.depth - 1 + 1 ≡ c.args.depth = omega (arith, c.requires.deep) in (
      array es,
      subst (λ n. converted of_json (value n c.args.reader.now) ≡ Some (array es, c.list_at.new.reader)) within done.ok.1,
      λ ms ds stands. subst (λ n. (now : Items) × Enters (scheduled ds) (scheduled now) n (array es) v × MasterStands listed (put n v ms) now) same
          (es, enters-schedule ds es v, master-here listed ms es v done.list done.ok.2 c.no_entries.ensures),
    )

pub returns-in-Some-clause-ok : goal.returns-in-Some-clause-ok
returns-in-Some-clause-ok c =
    let v = view c.in-Some.value in
    let name = c.args.name.now in
    let other : bytes_eq name (codes "schedule") ≡ false = sym c.eq.ensures ∙ c.if-eq.false in (
      v,
      c.in-Some.ensures.ok,
      λ ms ds stands. (ds, enters-same (scheduled ds) name v (ap (λ b. if b then array ds else v) other), master-other c.args.schedule.now ms ds name v other stands),
    )

pub returns-in-Some-clause-sorted : goal.returns-in-Some-clause-sorted
returns-in-Some-clause-sorted c =
    let v = view c.in-Some.value in
    let tree = converted_some of_json (value c.args.depth c.args.reader.now) v c.tree.new.reader c.in-Some.ensures.ok in
    tree-sorted tree.0 v tree.2
