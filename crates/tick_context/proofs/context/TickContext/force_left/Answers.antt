use Rattle.std.proofs.Common.{◌≡◌, ◌-◌, get_or, ap, arith}
use Rattle.sig_types.specs.declared.frame.Frame.{Frame}
use Rattle.sig_tables.specs.Slots.{force_point}
use Rattle.sig_tables.specs.Seen.{frame_seen}
use Rattle.sig_tables.proofs.Below.{phase-is}
use Rattle.tick_context.proofs.Left.{force-kept}
use Rattle.tick_context.proofs.context.TickContext.force_left.Goals as goal

pub returns-clause-left : goal.returns-clause-left
returns-clause-left c = λ past n k keeps b some within.
    let h = phase-is c.args.phase c.requires.above c.requires.within in
    let at : get_or c.args.self.now.active_pattern.plan.force (c.args.phase - 1) 0 ≡ force_point past.tables n c.args.phase =
    force-kept c.args.self.now.active_pattern past.tables n c.args.phase b h in
    let counter : c.args.self.now.frame.counter ≡ (frame_seen past).counter = ap (λ (f : Frame). f.counter) keeps.frame in
    omega (arith, at, counter, some, within)
