use Rattle.std.proofs.Common.{sym, subst}
use Rattle.sig_types.specs.declared.frame.Field.{Field}
use Rattle.sig_tables.specs.Past.{Past, Input}
use Rattle.sig_tables.specs.Decide.{past_at, with_event}
use Rattle.engine.specs.Events.{IsOfPhase}
use Rattle.engine.proofs.Engine.input.Goals as goal

pub returns-in-Veh-clause-stands : goal.returns-in-Veh-clause-stands
returns-in-Veh-clause-stands g c = λ h k.
    let past : Past = past_at h in
    record {
      context = c.input.ensures.stands past k.context;
      memory = g.met.M.Memory.told c.args.self.now.memory past (Input c.args.field) (subst IsOfPhase (sym c.in-Veh.is) tt) k.memory;
      shown = k.shown;
      walking = k.walking;
      signalling = k.signalling;
    }

pub returns-in-Ped-clause-stands : goal.returns-in-Ped-clause-stands
returns-in-Ped-clause-stands g c = λ h k.
    let past : Past = past_at h in
    record {
      context = c.input.ensures.stands past k.context;
      memory = g.met.M.Memory.told c.args.self.now.memory past (Input c.args.field) (subst IsOfPhase (sym c.in-Ped.is) tt) k.memory;
      shown = k.shown;
      walking = k.walking;
      signalling = k.signalling;
    }

pub returns-in-Preempt-clause-stands : goal.returns-in-Preempt-clause-stands
returns-in-Preempt-clause-stands g c = λ h k.
    let past : Past = past_at h in
    record {
      context = c.input.ensures.stands past k.context;
      memory = subst (λ (f : Field). g.M.Memory.remembers c.input-in-Preempt.new.self (with_event (Input f) past)) (sym c.in-Preempt.is)
          (c.input-in-Preempt.ensures.remembers past k.memory);
      shown = k.shown;
      walking = k.walking;
      signalling = k.signalling;
    }
