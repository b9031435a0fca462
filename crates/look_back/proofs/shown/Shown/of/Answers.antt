use Rattle.look_back.proofs.Showing.{is-shown}
use Rattle.look_back.proofs.shown.Shown.of.Goals as goal

pub returns : goal.returns
returns c = record {
  shown = is-shown _ _ _ c.shows_sixteen.ensures.sixteen
      c.showing-green.ensures.shown c.showing-yellow.ensures.shown c.showing-clear.ensures.shown c.showing-red.ensures.shown
      c.signalling-walk.ensures.shown c.signalling-flash.ensures.shown c.signalling-dont.ensures.shown;
}
