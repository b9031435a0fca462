use Rattle.std.proofs.Common.{◌≡◌, ◌<◌, ℕ, Bool, true, false, ◌&&◌, nat_le, sym, ◌∙◌, ap, arith}
use Rattle.std.proofs.lemmas.Bool.{le-leb}
use Rattle.std.proofs.lemmas.Bool.Decides.{nat_tests}
use Rattle.sig_types.specs.declared.frame.Mode.TheVariants.{Dwell}
use Rattle.sig_tables.specs.Tables.{listed}
use Rattle.sig_tables.specs.Looking.{lasts}
use Rattle.preempt_stages.specs.Dwelling.{dwells, each_green, each_off}
use Rattle.preempt_run.proofs.Dwelt.{dwelt, dwelt-short, dwell-lasts}
use Rattle.preempt_run.proofs.Runs.{mode-lasts}
use Rattle.preempt_run.proofs.Preempts.has_dwelt.Goals as goal

short : (n run : ℕ) → run < n → nat_le n run ≡ false
short n run h = grind (arith, nat_tests)

pub returns-then-mode_run-ticks : goal.returns-then-mode_run-ticks
returns-then-mode_run-ticks c = record {
  dwelt = λ past i stands at.
      sym (dwelt-short c.args.ticks i (listed c.args.goal.now) past.moments
      (mode-lasts c.args.self.now past (Dwell i) c.args.ticks c.mode_run.result stands at (c.mode_run.ensures.run past stands)
      ∙ short c.args.ticks c.mode_run.result c.if-mode_run-ticks.true));
}

pub returns-then-have_been_green : goal.returns-then-have_been_green
returns-then-have_been_green c = record {
  dwelt = λ past i stands at.
      let lasted : lasts c.args.ticks (dwells i) past.moments ≡ true =
      mode-lasts c.args.self.now past (Dwell i) c.args.ticks c.mode_run.result stands at (c.mode_run.ensures.run past stands)
      ∙ le-leb c.args.ticks c.mode_run.result c.if-mode_run-ticks.false in
      let green : each_green c.args.ticks (listed c.args.goal.now) past.moments ≡ true =
      sym (c.have_been_green.ensures.green past stands (dwell-lasts c.args.ticks i past.moments lasted)) ∙ c.if-have_been_green.true in
      c.have_been_off.ensures.off past stands
      ∙ sym (dwelt c.args.ticks i (listed c.args.goal.now) past.moments stands.fits lasted
      ∙ ap (λ (b : Bool). b && each_off c.args.ticks (listed c.args.goal.now) past.moments) green);
}

pub returns-else-have_been_green : goal.returns-else-have_been_green
returns-else-have_been_green c = record {
  dwelt = λ past i stands at.
      let lasted : lasts c.args.ticks (dwells i) past.moments ≡ true =
      mode-lasts c.args.self.now past (Dwell i) c.args.ticks c.mode_run.result stands at (c.mode_run.ensures.run past stands)
      ∙ le-leb c.args.ticks c.mode_run.result c.if-mode_run-ticks.false in
      let green : each_green c.args.ticks (listed c.args.goal.now) past.moments ≡ false =
      sym (c.have_been_green.ensures.green past stands (dwell-lasts c.args.ticks i past.moments lasted)) ∙ c.if-have_been_green.false in
      c.if-have_been_green.false
      ∙ sym (dwelt c.args.ticks i (listed c.args.goal.now) past.moments stands.fits lasted
      ∙ ap (λ (b : Bool). b && each_off c.args.ticks (listed c.args.goal.now) past.moments) green);
}
