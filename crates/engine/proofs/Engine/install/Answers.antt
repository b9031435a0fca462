use Rattle.sig_tables.specs.Past.{Past}
use Rattle.sig_tables.specs.Decide.{past_at}
use Rattle.engine.proofs.Engine.install.Goals as goal

pub returns-clause-stands : goal.returns-clause-stands
returns-clause-stands g c = λ h k.
    let past : Past = past_at h in
    record {
      context = c.install.ensures.stands past k.context;
      memory = g.met.M.Memory.installed c.args.self.now.memory past c.args.tables k.context.some k.context.old_frame k.memory;
      shown = k.shown;
      walking = k.walking;
      signalling = k.signalling;
    }
