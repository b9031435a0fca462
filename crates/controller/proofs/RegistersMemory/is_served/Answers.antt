use Rattle.std.proofs.Common.{◌≡◌, ◌∙◌, ap}
use Rattle.sig_types.specs.declared.frame.Colour.{Colour}
use Rattle.sig_types.specs.declared.frame.Colour.TheVariants.{Green}
use Rattle.sig_types.specs.Colour.{colour_of}
use Rattle.sig_tables.specs.Looking.{run}
use Rattle.sig_tables.specs.Seen.{frame_seen}
use Rattle.call_store.proofs.Same.{same_signal-is}
use Rattle.tick_context.proofs.Seen.{green-is, served-early, served-signal}
use Rattle.controller.proofs.RegistersMemory.is_served.Goals as goal

pub returns-then-run-latched_least : goal.returns-then-run-latched_least
returns-then-run-latched_least c = record {
  served = λ past k x green.
      let shown : colour_of (frame_seen past) c.args.phase ≡ Green = green-is _ green in
      served-early past c.args.phase c.run.result c.latched_least.result
      (c.run.ensures.run past.moments k.clocks ∙ ap (λ (x : Colour). run c.args.phase x past.moments) shown)
      (c.latched_least.ensures.latched past.moments past.tables k.clocks shown) c.if-run-latched_least.true;
}

pub returns-else-run-latched_least : goal.returns-else-run-latched_least
returns-else-run-latched_least c = record {
  served = λ past k x green.
      let shown : colour_of (frame_seen past) c.args.phase ≡ Green = green-is _ green in
      c.eq.ensures ∙ same_signal-is _ _
      ∙ served-signal past c.args.phase c.run.result c.latched_least.result c.signal_on.result
      (c.run.ensures.run past.moments k.clocks ∙ ap (λ (x : Colour). run c.args.phase x past.moments) shown)
      (c.latched_least.ensures.latched past.moments past.tables k.clocks shown) c.if-run-latched_least.false
      (c.signal_on.ensures.follows past k x);
}
