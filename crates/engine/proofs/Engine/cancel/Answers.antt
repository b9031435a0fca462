use Rattle.sig_tables.specs.Past.{Past, Cancel}
use Rattle.sig_tables.specs.Decide.{past_at}
use Rattle.engine.proofs.Engine.cancel.Goals as goal

pub returns-clause-stands : goal.returns-clause-stands
returns-clause-stands g c = λ h k.
    let past : Past = past_at h in
    record {
      context = c.cancel.ensures.stands past k.context;
      memory = g.met.M.Memory.told c.args.self.now.memory past (Cancel c.args.number) tt k.memory;
      shown = k.shown;
      walking = k.walking;
      signalling = k.signalling;
    }
