use Rattle.judge.specs.Watches.{ShowsColour}
use Rattle.judge.specs.Signals.{ShowsSignal}
use Rattle.judge.proofs.phases.PhaseWatch.after.Goals as goal

pub returns : goal.returns
returns c = λ p joined tables older line follows shows.
    let colour : ShowsColour joined c.args.step c.args.colour c.args.times.now c.args.left tables p older line
    = record { at = shows.at; known = shows.known; shown = shows.shown; row = shows.row; way = shows.way } in
    let signal : ShowsSignal joined c.args.step c.args.signal c.args.times.now c.args.left tables p older line
    = record { at = shows.at; known = shows.known; given = shows.given; row = shows.row; way = shows.way } in (
      record {
        order = c.is_out_of_order.ensures p joined tables older line follows shows;
        clearance = c.after-colours.ensures.clearance p joined tables older line follows.colour colour;
        green = c.after-colours.ensures.green p joined tables older line follows.colour colour;
        pedestrian = c.after-signals.ensures.wrong p joined tables older line follows.signal signal;
        on_green = rw (shows.given, shows.shown) c.is_off_green.ensures;
      },
      record {
        colour = c.after-colours.ensures.watches p joined tables older line follows.colour colour;
        signal = c.after-signals.ensures.heeds p joined tables older line follows.signal signal;
      },
    )
