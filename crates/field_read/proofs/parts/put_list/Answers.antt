use Rattle.std.proofs.Common.{[], codes, refl, subst}
use Rattle.serde_json.specs.Data.{array}
use Rattle.scenario_read.proofs.KnownNames.{known-put}
use Rattle.field_read.specs.declared.found.Found.{Found}
use Rattle.field_read.specs.declared.found.Found.TheVariants.{Bank, Pulses}
use Rattle.field_read.specs.Lists.{Holds}
use Rattle.field_read.specs.Parts.{known, SaysScenario, SaysRespond}
use Rattle.field_read.proofs.Standing.{is-there, list-here, list-there, same-found}
use Rattle.field_read.proofs.parts.put_list.Goals as goal

pub returns-in-Bank : goal.returns-in-Bank
returns-in-Bank c = λ ms ds s holds.
    let name = codes "bank" in
    let d = array ds in
    let old = c.args.parts.now in
    let found = Bank c.in-Bank.bank in
    let here : Holds found ds = subst (λ (f : Found). Holds f ds) c.in-Bank.is holds in
    same-found _ c.args.found found ds ms c.in-Bank.is
    record {
      names = known-put known [] name d ms refl s.names;
      scenario = is-there SaysScenario old.scenario (codes "scenario") name d ms refl s.scenario;
      bank = list-here found ds ms here;
      pulses = list-there (Pulses old.pulses) name d ms refl s.pulses;
      respond = is-there SaysRespond old.respond (codes "respond") name d ms refl s.respond;
    }

pub returns-in-Pulses : goal.returns-in-Pulses
returns-in-Pulses c = λ ms ds s holds.
    let name = codes "pulses" in
    let d = array ds in
    let old = c.args.parts.now in
    let found = Pulses c.in-Pulses.pulses in
    let here : Holds found ds = subst (λ (f : Found). Holds f ds) c.in-Pulses.is holds in
    same-found _ c.args.found found ds ms c.in-Pulses.is
    record {
      names = known-put known [] name d ms refl s.names;
      scenario = is-there SaysScenario old.scenario (codes "scenario") name d ms refl s.scenario;
      bank = list-there (Bank old.bank) name d ms refl s.bank;
      pulses = list-here found ds ms here;
      respond = is-there SaysRespond old.respond (codes "respond") name d ms refl s.respond;
    }
