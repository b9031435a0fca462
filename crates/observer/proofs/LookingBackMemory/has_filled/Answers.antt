use Rattle.std.proofs.Common.{◌≡◌, ℕ, List, sym, ◌∙◌, ap, arith}
use Rattle.sig_types.specs.declared.frame.Mode.{Mode}
use Rattle.sig_types.specs.declared.frame.Mode.TheVariants.{Coord}
use Rattle.sig_tables.specs.declared.tables.Tables.{Tables}
use Rattle.sig_tables.specs.declared.tables.Corrections.{Corrections}
use Rattle.sig_tables.specs.declared.tables.SplitEntry.{SplitEntry}
use Rattle.sig_tables.specs.Tables.{clearance}
use Rattle.sig_tables.specs.Slots.{split_time}
use Rattle.sig_tables.specs.Laying.{time_of}
use Rattle.sig_tables.specs.Seen.{view_seen}
use Rattle.observer.proofs.Ending.{unfilled, filled}
use Rattle.observer.proofs.LookingBackMemory.has_filled.Goals as goal

-- the number of the pattern in which a mode is coordinated
abbrev number : Mode → ℕ
number (Coord n) = n
number mode = 0

pub returns-then-unit-ne2 : goal.returns-then-unit-ne2
returns-then-unit-ne2 c = record {
  filled = λ past n k r e green.
      let mode : c.unit.result.now.force_mode ≡ past.tables.unit.force_mode =
      ap (λ (u : Corrections). u.force_mode) c.unit.ensures.unit ∙ ap (λ (t : Tables). t.unit.force_mode) r.context.tables in
      unfilled (view_seen past) n c.args.phase (λ e. c.if-unit-ne2.true (mode ∙ e));
}

pub returns : goal.returns
returns c = record {
  filled = λ past n k r e green.
      let mode : c.unit.result.now.force_mode ≡ past.tables.unit.force_mode =
      ap (λ (u : Corrections). u.force_mode) c.unit.ensures.unit ∙ ap (λ (t : Tables). t.unit.force_mode) r.context.tables in
      let two : c.unit.result.now.force_mode ≡ 2 = omega (arith, c.if-unit-ne2.false) in
      let split : c.time_of-split.result ≡ split_time past.tables n c.args.phase =
      c.time_of-split.ensures.time ∙ ap (λ (xs : List SplitEntry). time_of xs c.args.phase) c.entries.ensures.entries
      ∙ ap (λ (t : Tables). split_time t c.in-Coord.pattern c.args.phase) r.context.tables
      ∙ ap (λ (i : ℕ). split_time past.tables i c.args.phase) (ap number (sym c.in-Coord.is ∙ r.tick_state.mode ∙ e)) in
      let same : c.in-Coord.pattern ≡ n = ap number (sym c.in-Coord.is ∙ r.tick_state.mode ∙ e) in
      filled (view_seen past) n c.args.phase c.time_of-split.result c.clearance.result c.saturating_sub-least.result c.run.result
      (sym mode ∙ two) split (c.clearance.ensures.time ∙ ap (λ (t : Tables). clearance t c.args.phase) r.context.tables)
      c.saturating_sub-least.ensures (c.run.ensures past.moments (c.window.ensures past.moments k.frame_history));
}
