use Rattle.std.proofs.Common.{◌≡◌, ◌≤◌, ◌+◌, inl, ◌∙◌, ap, arith}
use Rattle.sig_types.specs.declared.frame.Colour.{Colour}
use Rattle.sig_types.specs.declared.frame.Colour.TheVariants.{Green}
use Rattle.sig_types.specs.Colour.{colour_of}
use Rattle.sig_tables.specs.Tables.{least_green}
use Rattle.sig_tables.specs.Looking.{run, latched}
use Rattle.sig_tables.specs.Seen.{frame_seen}
use Rattle.tick_context.proofs.Seen.{green-is}
use Rattle.controller.proofs.RegistersMemory.least_left.Goals as goal

pub returns : goal.returns
returns c = record {
  left = λ past k keeps green some within.
      let shown : colour_of (frame_seen past) c.args.phase ≡ Green = green-is _ green in
      let run : c.run.result ≡ run c.args.phase Green past.moments =
      c.run.ensures.run past.moments keeps.clocks ∙ ap (λ (x : Colour). run c.args.phase x past.moments) shown in
      let least : c.latched_least-least.result ≡ least_green (latched c.args.phase Green past.tables past.moments) c.args.phase =
      c.latched_least-least.ensures.latched past.moments past.tables keeps.clocks shown in
      let sum : c.run.result + k ≤ c.latched_least-least.result = omega arith in
      inl (omega (arith, run, least, sum));
}
