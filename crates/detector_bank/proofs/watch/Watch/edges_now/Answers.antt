use Rattle.std.proofs.Common.{◌∙◌}
use Rattle.detector_bank.proofs.Watched.{edges-here}
use Rattle.detector_bank.proofs.watch.Watch.edges_now.Goals as goal

pub returns : goal.returns
returns c = λ d ps h. c.edges_at.ensures ∙ edges-here c.args.self.now d ps c.args.round h
