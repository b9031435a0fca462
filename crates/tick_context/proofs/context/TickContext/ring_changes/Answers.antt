use Rattle.std.proofs.Common.{ap}
use Rattle.sig_types.specs.declared.frame.Frame.{Frame}
use Rattle.sig_types.specs.Colour.{on_in}
use Rattle.sig_tables.specs.Seen.{view_seen}
use Rattle.tick_context.proofs.Wanting.{are-phases}
use Rattle.tick_context.proofs.context.TickContext.ring_changes.Goals as goal

pub returns : goal.returns
returns c = record {
  changes = λ past r d t s.
      let wants = c.wanted-wanted.ensures.wants past r d in
      let laid = c.ordered_layout.ensures.laid past r in
      let ordered = c.ordered_layout.ensures.ordered past r t in
      let joining = c.joining.ensures.joining past r s.startable in
      record {
        ends = c.changes.ensures.ends (view_seen past) (record {
          rings = record { laid = laid; on = λ q least most. ap (λ (x : Frame). on_in x q) r.context.frame; opening = s.opening; startable = s.startable };
          ordered = ordered;
          last = s.last;
          latest = s.latest;
          demand = are-phases c.args.demand _ d;
          wanted = wants.now;
          wanted_after = wants.after;
          wanted_across = wants.across;
          joining = joining;
          done = s.done;
          forced = s.forced;
        });
        begins = c.changes.ensures.begins (view_seen past) (record {
          rings = record { laid = laid; on = λ q least most. ap (λ (x : Frame). on_in x q) r.context.frame; opening = s.opening; startable = s.startable };
          ordered = ordered;
          last = s.last;
          latest = s.latest;
          demand = are-phases c.args.demand _ d;
          wanted = wants.now;
          wanted_after = wants.after;
          wanted_across = wants.across;
          joining = joining;
          done = s.done;
          forced = s.forced;
        });
      };
}
