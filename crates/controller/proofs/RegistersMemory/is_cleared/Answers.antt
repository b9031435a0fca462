use Rattle.std.proofs.Common.{◌≡◌, ◌∙◌, ap}
use Rattle.sig_types.specs.declared.frame.Colour.{Colour}
use Rattle.sig_types.specs.declared.frame.Colour.TheVariants.{Green}
use Rattle.sig_types.specs.declared.frame.Mode.{Mode}
use Rattle.sig_types.specs.Colour.{colour_of, signal_of}
use Rattle.sig_tables.specs.declared.tables.Tables.{Tables}
use Rattle.sig_tables.specs.Modes.{stage_of}
use Rattle.sig_tables.specs.Lesser.{Lesser, signal_runs_within}
use Rattle.sig_tables.specs.Goals.{lesser_green}
use Rattle.sig_tables.specs.Looking.{run}
use Rattle.sig_tables.specs.Seen.{frame_seen, mode_seen}
use Rattle.call_store.proofs.Same.{same_signal-is}
use Rattle.tick_context.proofs.Seen.{green-is, cleared-early, cleared-signal}
use Rattle.controller.proofs.RegistersMemory.is_cleared.Goals as goal

pub returns-then-run-least : goal.returns-then-run-least
returns-then-run-least c = record {
  cleared = λ past k r green.
      let shown : colour_of (frame_seen past) c.args.phase ≡ Green = green-is _ green in
      cleared-early past c.args.phase c.run.result c.lesser_green-least.result
      (c.run.ensures.run past.moments k.clocks ∙ ap (λ (x : Colour). run c.args.phase x past.moments) shown)
      (c.lesser_green-least.ensures
      ∙ ap (λ (t : Tables). lesser_green t (stage_of c.args.tick_state.now.mode) c.latched_least.result) r.context.tables
      ∙ ap (λ (m : Mode). lesser_green past.tables (stage_of m) c.latched_least.result) r.tick_state.mode
      ∙ ap (lesser_green past.tables (stage_of (mode_seen past))) (c.latched_least.ensures.latched past.moments past.tables k.clocks shown))
      c.if-run-least.true;
}

pub returns-else-run-least : goal.returns-else-run-least
returns-else-run-least c = record {
  cleared = λ past k r green.
      let shown : colour_of (frame_seen past) c.args.phase ≡ Green = green-is _ green in
      c.eq.ensures ∙ same_signal-is _ _
      ∙ cleared-signal past c.args.phase c.run.result c.lesser_green-least.result c.signal_on.result
      (c.run.ensures.run past.moments k.clocks ∙ ap (λ (x : Colour). run c.args.phase x past.moments) shown)
      (c.lesser_green-least.ensures
      ∙ ap (λ (t : Tables). lesser_green t (stage_of c.args.tick_state.now.mode) c.latched_least.result) r.context.tables
      ∙ ap (λ (m : Mode). lesser_green past.tables (stage_of m) c.latched_least.result) r.tick_state.mode
      ∙ ap (lesser_green past.tables (stage_of (mode_seen past))) (c.latched_least.ensures.latched past.moments past.tables k.clocks shown))
      c.if-run-least.false
      (c.signal_on.ensures.follows past k r.context
      ∙ ap (λ (l : Lesser). signal_runs_within l c.args.phase past.tables past.moments (signal_of (frame_seen past) c.args.phase)) r.tick_state.lesser);
}
