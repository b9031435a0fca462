use Rattle.std.proofs.Common.{sym, ◌∙◌}
use Rattle.std.proofs.lemmas.Bool.{and_parts, false≢true}
use Rattle.sig_tables.specs.Tables.{is_enabled}
use Rattle.sig_tables.specs.Calls.{is_green}
use Rattle.sig_tables.specs.Seen.{frame_seen}
use Rattle.sig_tables.proofs.Below.{phase-is}
use Rattle.engine.proofs.Engine.green_left.Goals as goal

pub returns-then-not-has : goal.returns-then-not-has
returns-then-not-has g c = record {
  unforced = λ past k keeps b on some within.
      let h = phase-is c.args.phase c.requires.above c.requires.within in
      let parts = and_parts (is_enabled past.tables c.args.phase) (is_green (frame_seen past) c.args.phase) on in
      absurd (false≢true (sym c.if-not-has.true ∙ c.has.ensures.has ∙ keeps.shown.green c.args.phase h ∙ parts.1));
}

pub returns : goal.returns
returns g c = record { unforced = λ past k keeps b on some within. c.unforced_left.ensures.left past k keeps.context b some within }
