use Rattle.std.proofs.Common.{◌≡◌, ◌≤◌, map, length, sym, ◌∙◌, ap, subst, arith}
use Rattle.std.proofs.lemmas.List.{length-map}
use Rattle.std.proofs.lemmas.Option.{slice_get_past}
use Rattle.sig_tables.specs.Putting.{put_content}
use Rattle.scenario_data.specs.Content.{load_content}
use Rattle.master_load.specs.Downloads.{ArePuts, cells_in}
use Rattle.master_load.proofs.Places.{is_load}
use Rattle.master_load.proofs.loader.cells_at.Goals as goal

pub returns-then-place-loads-clause-few : goal.returns-then-place-loads-clause-few
returns-then-place-loads-clause-few c =
    let held : c.as_slice.result.now ≡ c.index-loads-place.result.cells.items = c.as_slice.ensures.value ∙ ap (λ l. l.cells.items) (sym c.index-loads-place.is) in
    let is = is_load c.args.loads.now c.args.place c.index-loads-place.result c.requires.loads c.if-place-loads.true c.index-loads-place.is in
    omega (arith, is.0, length-map c.index-loads-place.result.cells.items put_content, ap length held)

pub returns-then-place-loads-clause-puts : goal.returns-then-place-loads-clause-puts
returns-then-place-loads-clause-puts c =
    let held : c.as_slice.result.now ≡ c.index-loads-place.result.cells.items = c.as_slice.ensures.value ∙ ap (λ l. l.cells.items) (sym c.index-loads-place.is) in
    subst (λ cells. ArePuts (map put_content cells)) (sym held)
    (is_load c.args.loads.now c.args.place c.index-loads-place.result c.requires.loads c.if-place-loads.true c.index-loads-place.is).1

pub returns-else-place-loads-clause-cells : goal.returns-else-place-loads-clause-cells
returns-else-place-loads-clause-cells c =
    let past : length (map load_content c.args.loads.now) ≤ c.args.place = omega (arith, c.if-place-loads.false, length-map c.args.loads.now load_content) in
    sym (ap cells_in (slice_get_past (map load_content c.args.loads.now) c.args.place past))
