use Rattle.std.proofs.Common.{sym, append-nil, [], arith}
use Rattle.std.proofs.lemmas.Grind.{common_steps}
use Rattle.sig_types.specs.declared.notes.Way.TheVariants.{Poll}
use Rattle.scenario_data.specs.Content.{frame_content}
use Rattle.sig_types.specs.Items.{texts_of}
use Rattle.link_sim.specs.Made.{frame_made}
use Rattle.link_sim.proofs.Lookups.{made_seen, made_unseen}
use Rattle.link_sim.proofs.items.push_frame.Goals as goal

pub returns-then-frames-place : goal.returns-then-frames-place
returns-then-frames-place c =
    let none = made_unseen (frame_made c.args.way) frame_content c.args.frames.now c.args.place (omega arith) in
    rw none (sym (append-nil (texts_of c.args.out.now.items)))

pub returns-then-not-is_same_way : goal.returns-then-not-is_same_way
returns-then-not-is_same_way c =
    let one = made_seen (frame_made c.args.way) frame_content c.args.frames.now c.args.place (record { round = 0; cabinet = 0; stream = Poll; hex = [] }) (omega arith) in
    rw one (grind (arith, common_steps))

pub returns : goal.returns
returns c =
    let one = made_seen (frame_made c.args.way) frame_content c.args.frames.now c.args.place (record { round = 0; cabinet = 0; stream = Poll; hex = [] }) (omega arith) in
    rw one (grind (arith, common_steps))
