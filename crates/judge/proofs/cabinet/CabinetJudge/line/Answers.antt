use Rattle.judge.proofs.Listing.{what-is-found-is-listed}
use Rattle.judge.proofs.cabinet.CabinetJudge.line.Goals as goal

pub returns : goal.returns
returns c = λ joined tables older line cab follows shows.
    let both = c.steps.ensures joined tables older line follows shows in
    (what-is-found-is-listed cab c.args.tolerance joined tables older line c.args.tick shows.at c.steps.result both.0, both.1)
