-- What is kept of a frame that is pushed describes the moment that was seen.
use Rattle.std.proofs.Common.{◌≡◌, ◌≤◌, ℕ, ◌&&◌, not, Bool, List, sym, ◌∙◌, ap}
use Rattle.sig_types.specs.declared.frame.Colour.{Colour}
use Rattle.sig_types.specs.declared.frame.Colour.TheVariants.{Green}
use Rattle.sig_types.specs.declared.phase_set.PhaseSet.{PhaseSet}
use Rattle.sig_types.specs.PhaseSet.{has}
use Rattle.sig_types.specs.Colour.{same_colour, colour_in, on_in}
use Rattle.sig_types.proofs.Lists.{phase-in}
use Rattle.sig_tables.specs.Past.{Moment}
use Rattle.sig_tables.specs.Looking.{last_frame}
use Rattle.sig_tables.specs.Calls.{is_green}
use Rattle.sig_tables.specs.Layout.{Has}
use Rattle.look_back.specs.declared.sample.Sample.{Sample}
use Rattle.look_back.specs.declared.window.Seen.{Seen}
use Rattle.look_back.specs.declared.window.Window.{Window}
use Rattle.look_back.specs.Shown.{IsShown}
use Rattle.look_back.specs.FrameRunsKeep.{newest_of}
use Rattle.look_back.specs.Look.{Tells}
use Rattle.look_back.specs.WindowStands.{WindowStands, Saw}

-- the set that is kept of the last frame is that of its Green phases
pub green-before : (w : Window) (past : List Moment) → WindowStands w past → Has (newest_of w.kept).shown.green (is_green (last_frame past))
green-before w past stands p is =
    stands.shown.colours Green p is ∙ ap (λ (veh : List Colour). same_colour (colour_in veh p) Green) stands.veh

pub sample-tells : (g : Sample) (m : Moment) (s : Seen) (past : List Moment) (green : PhaseSet)
    → IsShown g.shown s.frame.veh s.frame.ped → g.first ≡ on_in s.frame 1 → g.second ≡ on_in s.frame 2 → g.mode ≡ s.frame.mode → Saw m s past → Has green (is_green (last_frame past))
    → ((p : ℕ) → p ≤ 16 → has g.quiet p ≡ (has green p && not (has s.active p)))
    → ((p : ℕ) → has g.opposed p ≡ (has green p && has s.opposed p)) → Tells g m
sample-tells g m s past green shown first second mode saw before quiet opposed = record {
  wide = rw saw.frame shown.wide;
  colours = λ colour p is. rw saw.frame (shown.colours colour p is);
  signals = λ signal p is. rw saw.frame (shown.signals signal p is);
  first = rw saw.frame first;
  second = rw saw.frame second;
  mode = rw saw.frame mode;
  quiet = λ p is.
      quiet p (phase-in p is).1 ∙ ap (λ (b : Bool). b && not (has s.active p)) (before p is) ∙ sym (saw.quiet p is);
  opposed = λ p is. opposed p ∙ ap (λ (b : Bool). b && has s.opposed p) (before p is) ∙ sym (saw.opposed p is);
}
