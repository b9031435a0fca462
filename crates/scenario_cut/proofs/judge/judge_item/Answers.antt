use Rattle.std.proofs.Common.{sym, subst}
use Rattle.serde_json.specs.Data.{item, no_items}
use Rattle.serde_json.specs.View.{view}
use Rattle.scenario_read.specs.Paths.{then_item}
use Rattle.scenario_read.specs.Readers.{Answers}
use Rattle.scenario_cut.specs.Growing.{both}
use Rattle.scenario_cut.specs.Judging.{list_path, item_kind, cabinets_of, Stays}
use Rattle.scenario_cut.specs.declared.judge.Found.{Found}
use Rattle.scenario_cut.specs.declared.judge.Listing.TheVariants.{Cabinets, Loads}
use Rattle.scenario_cut.proofs.Judging.{cabinet-judged, load-judged}
use Rattle.scenario_cut.proofs.judge.judge_item.Goals as goal

pub returns-in-Cabinets : goal.returns-in-Cabinets
returns-in-Cabinets c = λ ds.
    let e = c.args.extent in
    let d = view c.args.object.now in
    let old = c.args.found.now in
    let new : Found = record { cabinets = c.judge_cabinet.new.cabinets; loads = old.loads } in
    let answer = c.judge_cabinet.result in
    subst (λ l. Stays l e old ds → Answers answer (item_kind l e (cabinets_of e ds) (then_item (list_path l) c.args.place) d) (λ _. Stays l e new (both ds (item d no_items))))
    (sym c.in-Cabinets.is) (cabinet-judged e old new ds d (then_item (list_path Cabinets) c.args.place) answer c.judge_cabinet.ensures)

pub returns-in-Loads : goal.returns-in-Loads
returns-in-Loads c = λ ds.
    let e = c.args.extent in
    let d = view c.args.object.now in
    let old = c.args.found.now in
    let new : Found = record { cabinets = old.cabinets; loads = c.judge_load.new.loads } in
    let answer = c.judge_load.result in
    subst (λ l. Stays l e old ds → Answers answer (item_kind l e (cabinets_of e ds) (then_item (list_path l) c.args.place) d) (λ _. Stays l e new (both ds (item d no_items))))
    (sym c.in-Loads.is) (load-judged e old new ds d (then_item (list_path Loads) c.args.place) answer c.judge_load.ensures)
