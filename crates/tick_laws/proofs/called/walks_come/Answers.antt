use Rattle.tick_laws.specs.Waiting.{with_more}
use Rattle.tick_laws.proofs.Waiting.{pedestrian-pressed, pedestrian-stays, walk-comes}
use Rattle.tick_laws.proofs.called.walks_come.Goals as goal

pub returns-clause-pressed : goal.returns-clause-pressed
returns-clause-pressed c = λ h field p ph l n. pedestrian-pressed h field p ph l n

pub returns-clause-stays : goal.returns-clause-stays
returns-clause-stays c = λ h later p ph s n. pedestrian-stays h later p ph s n

pub returns-clause-comes : goal.returns-clause-comes
returns-clause-comes c = λ h later p ph s n b walk. walk-comes (with_more later h) p ph (pedestrian-stays h later p ph s n) b walk
