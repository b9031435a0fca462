use Rattle.std.proofs.Common.{List, [], map, refl, sym, subst}
use Rattle.scenario_data.specs.declared.scenario.Cabinet.{Cabinet as Setup}
use Rattle.scenario_data.specs.Content.{cabinet_content, scenario_content}
use Rattle.runnable.specs.Runnable.{AllOpen}
use Rattle.run_definition.specs.CabinetState.{opened_cabinet_states}
use Rattle.round_run.specs.CabinetStates.{AreAt}
use Rattle.round_run.proofs.Streams.{can-be-served}
use Rattle.round_run.proofs.Opening.{opened-answered, opened-cabinets}
use Rattle.round_run.proofs.rounds.ClosedLoop.open.Goals as goal

pub open-requires : goal.open-requires
open-requires c = record { served = can-be-served (scenario_content c.args.s.now) c.requires }

pub open_books-requires : goal.open_books-requires
open_books-requires c = subst (λ (setups : List Setup). AllOpen (map cabinet_content setups)) (sym c.as_slice.ensures.value) c.requires.can_open

pub returns-in-Ok-open_books-clause-between : goal.returns-in-Ok-open_books-clause-between
returns-in-Ok-open_books-clause-between c =
    let s = scenario_content c.args.s.now in
    record {
      cabinets = opened-cabinets s s.cabinets;
      books = subst (λ (setups : List Setup). AreAt c.in-Ok-open_books.books.items (opened_cabinet_states s (map cabinet_content setups))) c.as_slice.ensures.value
          (c.in-Ok-open_books.ensures.at s refl);
      ticks = c.in-Ok-open_books.ensures.ticks;
      answered = λ cab. [];
      told = opened-answered s;
      master_rounds = c.in-Ok.ensures.stands;
    }
