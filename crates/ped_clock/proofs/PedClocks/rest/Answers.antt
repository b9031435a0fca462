use Rattle.std.proofs.Common.{◌≡◌, ◌-◌, ◌∙◌, get_or, arith}
use Rattle.sig_tables.specs.Looking.{signals, signal_run, signal_latched}
use Rattle.phase_clock.specs.Interval.{no_interval}
use Rattle.ped_clock.specs.Signals.{signal_time, SignalStands}
use Rattle.ped_clock.proofs.Nexts.{stands-in}
use Rattle.ped_clock.proofs.PedClocks.rest.Goals as goal

pub returns : goal.returns
returns c = record {
  rest = λ past now k signal stands is some within.
      let i : SignalStands (get_or c.args.self.now.intervals (c.args.phase - 1) no_interval) c.args.self.now.steps c.args.phase signal past =
      stands-in c.args.self.now past c.args.phase signal stands c.requires.above c.requires.within is in
      let run : c.run.result ≡ signal_run c.args.phase signal past = c.run.ensures (signals c.args.phase signal) (λ t. signal_time t c.args.phase signal) past i in
      let time : c.time.result ≡ signal_time (signal_latched c.args.phase signal now past) c.args.phase signal = c.time.ensures ∙ i.time now in
      omega (arith, run, time, some, within);
}
