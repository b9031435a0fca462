use Rattle.std.proofs.Common.{ap}
use Rattle.sig_types.specs.declared.frame.Frame.{Frame}
use Rattle.sig_types.specs.Colour.{on_in}
use Rattle.sig_tables.specs.Seen.{view_seen}
use Rattle.engine.proofs.Engine.goal_changes.Goals as goal

pub returns : goal.returns
returns g c = record {
  changes = λ past r.
      record {
        ends = c.changes_toward.ensures.ends (view_seen past)
            (record {
              laid = r.keeps.context.layout;
              on = λ q least most. ap (λ (f : Frame). on_in f q) r.keeps.context.frame;
              opening = c.opening-opening.ensures.opening past r.keeps;
              startable = c.startable.ensures.startable past r.keeps;
            })
            (c.cleared.ensures.cleared past r);
        begins = c.changes_toward.ensures.begins (view_seen past)
            (record {
              laid = r.keeps.context.layout;
              on = λ q least most. ap (λ (f : Frame). on_in f q) r.keeps.context.frame;
              opening = c.opening-opening.ensures.opening past r.keeps;
              startable = c.startable.ensures.startable past r.keeps;
            });
      };
}
