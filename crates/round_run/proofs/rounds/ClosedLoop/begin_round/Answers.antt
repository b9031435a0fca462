use Rattle.std.proofs.Common.{◌+◌, ◌*◌, ◌∙◌, ℕ, sym, ap}
use Rattle.std.proofs.lemmas.List.{length-map}
use Rattle.scenario_data.specs.Content.{scenario_content, cabinet_content}
use Rattle.round_run.proofs.Streams.{can-be-served, streams-open, streams-come, ticks-most, ticks-small, notes-told}
use Rattle.round_run.proofs.rounds.ClosedLoop.begin_round.Goals as goal

pub begin-requires-clause-order : goal.begin-requires-clause-order
begin-requires-clause-order c = let (ts, so) = c.requires.between in ap (λ (n : ℕ). n + 1) (sym so.master_rounds.rounds)

pub begin-requires-clause-cabinets : goal.begin-requires-clause-cabinets
begin-requires-clause-cabinets c = let (ts, so) = c.requires.between in so.master_rounds.cabinets ∙ length-map c.args.s.now.cabinets.items cabinet_content

pub begin-requires-clause-served : goal.begin-requires-clause-served
begin-requires-clause-served c = can-be-served (scenario_content c.args.s.now) c.requires.runnable

pub open_rounds-requires : goal.open_rounds-requires
open_rounds-requires c =
    let s = scenario_content c.args.s.now in
    let (ts, so) = c.requires.between in
    streams-open s ts so.cabinets _ so.answered so.told (c.in-Ok.ensures.begun c.args.done so.answered so.master_rounds) c.args.done _ c.requires.runnable so.books so.ticks c.requires.few

pub returns-in-Ok-open_rounds-clause-notes : goal.returns-in-Ok-open_rounds-clause-notes
returns-in-Ok-open_rounds-clause-notes c = λ ts so.
    notes-told (scenario_content c.args.s.now) ts so.cabinets _ so.answered so.told (c.in-Ok.ensures.begun c.args.done so.answered so.master_rounds)

pub returns-in-Ok-open_rounds-clause-begun : goal.returns-in-Ok-open_rounds-clause-begun
returns-in-Ok-open_rounds-clause-begun c = λ ts so.
    record { cabinets = so.cabinets; answered = so.answered; told = so.told; master_rounds = c.in-Ok.ensures.stands c.args.done so.answered so.master_rounds }

pub returns-in-Ok-open_rounds-clause-books : goal.returns-in-Ok-open_rounds-clause-books
returns-in-Ok-open_rounds-clause-books c = λ ts so.
    let s = scenario_content c.args.s.now in
    c.in-Ok-open_rounds.ensures.run s ts so.books
    (streams-come s ts so.cabinets _ so.answered so.told (c.in-Ok.ensures.begun c.args.done so.answered so.master_rounds))

pub returns-in-Ok-open_rounds-clause-small : goal.returns-in-Ok-open_rounds-clause-small
returns-in-Ok-open_rounds-clause-small c =
    let s = scenario_content c.args.s.now in
    let (ts, so) = c.requires.between in
    c.in-Ok-open_rounds.ensures.small (ticks-small s ts so.cabinets _ so.answered so.told (c.in-Ok.ensures.begun c.args.done so.answered so.master_rounds))

pub returns-in-Ok-open_rounds-clause-ticks : goal.returns-in-Ok-open_rounds-clause-ticks
returns-in-Ok-open_rounds-clause-ticks c =
    let s = scenario_content c.args.s.now in
    let (ts, so) = c.requires.between in
    c.in-Ok-open_rounds.ensures.ticks (c.args.done * 600) 600 so.ticks
    (ticks-most s ts so.cabinets _ so.answered so.told (c.in-Ok.ensures.begun c.args.done so.answered so.master_rounds))
