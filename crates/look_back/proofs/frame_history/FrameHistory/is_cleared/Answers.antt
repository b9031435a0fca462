use Rattle.std.proofs.Common.{◌≡◌, refl, ◌∙◌}
use Rattle.sig_types.specs.declared.frame.Colour.TheVariants.{Green}
use Rattle.sig_types.specs.declared.frame.Ped.TheVariants.{Dont}
use Rattle.sig_types.specs.Colour.{same_signal, signal_of}
use Rattle.sig_tables.specs.Looking.{last_frame, run}
use Rattle.sig_tables.specs.Modes.{stage_of}
use Rattle.sig_tables.specs.Lesser.{signal_runs_within}
use Rattle.sig_tables.specs.Goals.{lesser_times}
use Rattle.look_back.proofs.Latching.{same_signal-is}
use Rattle.look_back.proofs.Clearing.{long-enough}
use Rattle.look_back.proofs.frame_history.FrameHistory.is_cleared.Goals as goal

pub returns : goal.returns
returns c = λ past looks green signal.
    let told : c.eq.result
    ≡ same_signal (signal_runs_within (lesser_times c.args.t.now (stage_of c.args.mode)) c.args.phase c.args.t.now past
    (signal_of (last_frame past) c.args.phase)) Dont =
    c.eq.ensures ∙ same_signal-is c.signal_runs_on.result Dont
    ∙ rw (c.signal_runs_on.ensures past looks signal, c.cut_in.ensures, ← signal) refl in
    told
    ∙ long-enough c.least_in-least.result _ (run c.args.phase Green past) c.run.result _
    (c.least_in-least.ensures.least past c.args.t.now looks green) (c.run.ensures past (c.window.ensures past looks)) c.if-run-least.false
