use Rattle.std.proofs.Common.{◌≡◌, ◌≢◌, sym, ◌∙◌, ap, arith}
use Rattle.sig_types.specs.declared.frame.Frame.{Frame}
use Rattle.sig_types.specs.declared.frame.Colour.TheVariants.{Yellow, Clear}
use Rattle.sig_types.specs.Colour.{colour_of}
use Rattle.sig_tables.specs.declared.tables.Tables.{Tables}
use Rattle.sig_tables.specs.declared.tables.PhaseTimes.{PhaseTimes}
use Rattle.sig_tables.specs.Tables.{red_clear_time}
use Rattle.sig_tables.specs.Seen.{frame_seen}
use Rattle.tick_context.proofs.Colours.{yellow-stays, yellow-clears, yellow-ends, clear-stays, clear-ends}
use Rattle.controller.proofs.RegistersMemory.runs_on.Goals as goal

pub returns-then-run-latched_yellow : goal.returns-then-run-latched_yellow
returns-then-run-latched_yellow c = record {
  follows = λ past k x.
      let shown : colour_of (frame_seen past) c.args.phase ≡ Yellow = ap (λ (f : Frame). colour_of f c.args.phase) (sym x.frame) ∙ c.in-Yellow.is in
      yellow-stays c.args.phase past.tables past.moments _ shown
      (λ e. c.if-run-latched_yellow.true (c.run.ensures.run past.moments k.clocks ∙ e
      ∙ sym (c.latched_yellow.ensures.latched past.moments past.tables k.clocks shown)));
}

pub returns-then-phase-eq0 : goal.returns-then-phase-eq0
returns-then-phase-eq0 c = record {
  follows = λ past k x.
      let shown : colour_of (frame_seen past) c.args.phase ≡ Yellow = ap (λ (f : Frame). colour_of f c.args.phase) (sym x.frame) ∙ c.in-Yellow.is in
      let same : c.run.result ≡ c.latched_yellow.result = omega arith in
      let none : red_clear_time past.tables c.args.phase ≡ 0 = ap (λ (t : Tables). red_clear_time t c.args.phase) (sym x.tables)
      ∙ ap (λ (r : PhaseTimes). r.red_clear) (sym c.phase.ensures.row) ∙ c.if-phase-eq0.true in
      yellow-ends c.args.phase past.tables past.moments _ shown
      (sym (c.run.ensures.run past.moments k.clocks) ∙ same ∙ c.latched_yellow.ensures.latched past.moments past.tables k.clocks shown) none;
}

pub returns-else-phase-eq0 : goal.returns-else-phase-eq0
returns-else-phase-eq0 c = record {
  follows = λ past k x.
      let shown : colour_of (frame_seen past) c.args.phase ≡ Yellow = ap (λ (f : Frame). colour_of f c.args.phase) (sym x.frame) ∙ c.in-Yellow.is in
      let same : c.run.result ≡ c.latched_yellow.result = omega arith in
      let here : red_clear_time past.tables c.args.phase ≡ c.phase.result.now.red_clear =
      ap (λ (t : Tables). red_clear_time t c.args.phase) (sym x.tables) ∙ ap (λ (r : PhaseTimes). r.red_clear) (sym c.phase.ensures.row) in
      let some : c.phase.result.now.red_clear ≢ 0 = omega arith in
      yellow-clears c.args.phase past.tables past.moments _ shown
      (sym (c.run.ensures.run past.moments k.clocks) ∙ same
      ∙ c.latched_yellow.ensures.latched past.moments past.tables k.clocks shown) (λ e. some (sym here ∙ e));
}

pub returns-then-run-latched_clear : goal.returns-then-run-latched_clear
returns-then-run-latched_clear c = record {
  follows = λ past k x.
      let shown : colour_of (frame_seen past) c.args.phase ≡ Clear = ap (λ (f : Frame). colour_of f c.args.phase) (sym x.frame) ∙ c.in-Clear.is in
      clear-ends c.args.phase past.tables past.moments _ shown
      (sym (c.run-in-Clear.ensures.run past.moments k.clocks) ∙ c.if-run-latched_clear.true
      ∙ c.latched_clear.ensures.latched past.moments past.tables k.clocks shown);
}

pub returns-else-run-latched_clear : goal.returns-else-run-latched_clear
returns-else-run-latched_clear c = record {
  follows = λ past k x.
      let shown : colour_of (frame_seen past) c.args.phase ≡ Clear = ap (λ (f : Frame). colour_of f c.args.phase) (sym x.frame) ∙ c.in-Clear.is in
      clear-stays c.args.phase past.tables past.moments _ shown
      (λ e. c.if-run-latched_clear.false (c.run-in-Clear.ensures.run past.moments k.clocks ∙ e
      ∙ sym (c.latched_clear.ensures.latched past.moments past.tables k.clocks shown)));
}
