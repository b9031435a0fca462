use Rattle.std.proofs.Common.{◌∙◌}
use Rattle.sig_types.specs.Passes.{number_of}
use Rattle.round_run.proofs.InSerial.{journal-more}
use Rattle.round_run.proofs.serial.bring_all.Goals as goal

pub loop-stream-preserved : goal.loop-stream-preserved
loop-stream-preserved c =
    let brings = c.bring_some.ensures.brings in
    record {
      stands = λ cabinet_history stood. brings.stands cabinet_history (c.loop-stream.invariant.stands cabinet_history stood);
      streams = brings.streams ∙ c.loop-stream.invariant.streams;
      journal = journal-more (number_of c.args.stream) _ _ _ _ _ _ brings.journal brings.own c.loop-stream.invariant.journal;
      others = λ p other. brings.others p other ∙ c.loop-stream.invariant.others p other;
      ticks = brings.ticks ∙ c.loop-stream.invariant.ticks;
    }
