use Rattle.std.proofs.Common.{[], codes, refl}
use Rattle.scenario_read.proofs.KnownNames.{known-put}
use Rattle.field_read.specs.declared.found.Found.TheVariants.{Bank, Pulses}
use Rattle.field_read.specs.Parts.{known, SaysScenario, SaysRespond}
use Rattle.field_read.proofs.Standing.{is-here, is-there, list-there}
use Rattle.field_read.proofs.parts.put_respond.Goals as goal

pub returns : goal.returns
returns c = λ ms d s says.
    let name = codes "respond" in
    let old = c.args.parts.now in
    record {
      names = known-put known [] name d ms refl s.names;
      scenario = is-there SaysScenario old.scenario (codes "scenario") name d ms refl s.scenario;
      bank = list-there (Bank old.bank) name d ms refl s.bank;
      pulses = list-there (Pulses old.pulses) name d ms refl s.pulses;
      respond = is-here SaysRespond c.args.respond name d ms says;
    }
