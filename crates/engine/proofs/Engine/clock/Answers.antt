use Rattle.sig_tables.specs.Past.{Past, SetClock}
use Rattle.sig_tables.specs.Decide.{past_at}
use Rattle.engine.proofs.Engine.clock.Goals as goal

pub returns-clause-stands : goal.returns-clause-stands
returns-clause-stands g c = λ h k.
    let past : Past = past_at h in
    record {
      context = c.set_clock.ensures.stands past k.context;
      memory = g.met.M.Memory.told c.args.self.now.memory past (SetClock c.args.time) tt k.memory;
      shown = k.shown;
      walking = k.walking;
      signalling = k.signalling;
    }
