use Rattle.sig_tables.specs.Past.{Past, SetPattern}
use Rattle.sig_tables.specs.Decide.{past_at}
use Rattle.engine.proofs.Engine.pattern.Goals as goal

pub returns-clause-stands : goal.returns-clause-stands
returns-clause-stands g c = λ h k.
    let past : Past = past_at h in
    record {
      context = c.pattern.ensures.stands past k.context;
      memory = g.met.M.Memory.told c.args.self.now.memory past (SetPattern c.args.command) tt k.memory;
      shown = k.shown;
      walking = k.walking;
      signalling = k.signalling;
    }
