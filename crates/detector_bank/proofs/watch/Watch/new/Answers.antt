use Rattle.detector_bank.proofs.Watched.{watch-start}
use Rattle.detector_bank.proofs.watch.Watch.new.Goals as goal

pub returns : goal.returns
returns c = λ d ps few. watch-start d ps few
