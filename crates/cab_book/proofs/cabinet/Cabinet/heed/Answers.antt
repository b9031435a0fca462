use Rattle.std.proofs.Common.{◌∙◌, ◌<◌, ap, arith, is_some}
use Rattle.std.specs.Coded.{le_prop, Coded-set, coded_bool}
use Rattle.std.proofs.Math.Logic.{∥∥₁_elim, ∥∥₁_map}
use Rattle.cabinet_history.specs.CabinetAnswers.{wish_end}
use Rattle.sig_types.specs.declared.notes.StageAnswer.{StageAnswer}
use Rattle.std.specs.Prelude.{Option}
use Rattle.stage_txn.specs.Answers.{answered, kept, stage_state}
use Rattle.cabinet_history.specs.Coming.{Coming, past_of}
use Rattle.cab_book.specs.CabinetStands.{CabinetKeeps}
use Rattle.cabinet_history.proofs.Installing.{few-within}
use Rattle.cab_book.proofs.Wishes.{has-outcome}
use Rattle.cab_book.proofs.Heeding.{carried-sound}
use Rattle.cab_book.proofs.Answering.{shown-is, seen-is, text-is, shown-within}
use Rattle.cab_book.proofs.cabinet.Cabinet.heed.Goals as goal

pub answer-text-requires : goal.answer-text-requires
answer-text-requires c =
    let within = λ (some : (has : Coming) × CabinetKeeps c.args.self.now has).
    shown-within c.args.self.now.ticks some.0 c.shown-shown.result some.1.sound (c.shown-shown.ensures.shown some.0.history some.1.control) in
    record {
      asked = c.requires.asked;
      within = record {
        clock = ∥∥₁_elim c.requires.some le_prop (λ some. (within some).clock);
        version = ∥∥₁_elim c.requires.some le_prop (λ some. (within some).version);
        counter = ∥∥₁_elim c.requires.some le_prop (λ some. (within some).counter);
        target = ∥∥₁_elim c.requires.some le_prop (λ some. (within some).target);
      };
      outcome = ∥∥₁_elim c.requires.some (Coded-set coded_bool _ _) (λ some.
          ap (λ (o : Option StageAnswer). is_some o) (c.call_stage-outcome.ensures.outcome some.0 some.1.control some.1.stage)
          ∙ has-outcome some.0 c.args.self.now.ask.wish);
    }

pub end_of-load-requires : goal.end_of-load-requires
end_of-load-requires c = record {
  few = ∥∥₁_elim c.requires.some le_prop (λ some.
      let has = some.0 in
      let is = some.1 in
      let shown = c.shown-shown.ensures.shown has.history is.control in
      omega (arith, shown.version, few-within (past_of has).version (kept (answered has.calls)) (stage_state (answered has.calls)) is.sound.few, is.sound.ids));
}

pub carry_out-requires : goal.carry_out-requires
carry_out-requires c =
    record {
      can = c.requires.can;
      answered = ∥∥₁_map c.requires.some (λ some. (
        some.0,
        record {
          controller_stands = some.1.control;
          stage_stands = c.call_stage-outcome.ensures.stands some.0 some.1.control some.1.stage;
          answer_is = c.call_stage-outcome.ensures.outcome some.0 some.1.control some.1.stage;
          few = some.1.sound.few;
          ids = some.1.sound.ids;
        },
      ));
    }

pub returns-clause-text : goal.returns-clause-text
returns-clause-text c = λ has is.
    let vehicle : c.shown-shown.result.veh_calls.0 < 65536 = omega (arith, c.shown-shown.type_inv.1.1.1.0) in
    let pedestrian : c.shown-shown.result.ped_calls.0 < 65536 = omega (arith, c.shown-shown.type_inv.1.1.1.1.0) in
    let shown = shown-is c.shown-shown.result (past_of has) vehicle pedestrian
    (c.shown-shown.ensures.shown has.history is.control) in
    text-is has c.args.self.now.ask _ c.call_stage-outcome.result c.answer-text.result
    (seen-is has c.tables.result.now c.shown-shown.result c.state-state.result c.last-last.result (c.tables.ensures.tables has.history is.control) shown
    (c.state-state.ensures has.calls is.stage) (c.last-last.ensures has.calls is.stage))
    (c.call_stage-outcome.ensures.outcome has is.control is.stage) c.answer-text.ensures

pub returns-clause-load : goal.returns-clause-load
returns-clause-load c = λ has is.
    let shown = c.shown-shown.ensures.shown has.history is.control in
    let o = c.call_stage-outcome.ensures.outcome has is.control is.stage in
    c.end_of-load.ensures
    ∙ ap (λ v. wish_end v c.args.self.now.ask.wish c.call_stage-outcome.result) shown.version
    ∙ ap (λ (x : Option StageAnswer). wish_end (past_of has).version c.args.self.now.ask.wish x) o

pub returns-clause-keeps : goal.returns-clause-keeps
returns-clause-keeps c = λ has is.
    let stands = c.call_stage-outcome.ensures.stands has is.control is.stage in
    record {
      control = c.carry_out.ensures.stands has (record {
        controller_stands = is.control;
        stage_stands = stands;
        answer_is = c.call_stage-outcome.ensures.outcome has is.control is.stage;
        few = is.sound.few;
        ids = is.sound.ids;
      });
      stage = stands;
      counted = c.carry_out.ensures.counted ∙ is.counted;
      sound = carried-sound c.args.self.now.ticks has c.args.self.now.ask.wish c.requires.can is.sound;
    }
