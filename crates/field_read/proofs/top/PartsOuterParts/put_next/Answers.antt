use Rattle.std.proofs.Common.{◌≡◌, ℕ, List, Some, IfSome, codes, subst}
use Rattle.json.specs.Json.{value}
use Rattle.serde_json.specs.Data.{Data}
use Rattle.serde_json.specs.Read.{of_json, converted}
use Rattle.field_read.specs.Parts.{Puts}
use Rattle.field_read.proofs.top.PartsOuterParts.put_next.Goals as goal

pub returns-in-scenario-clause-ok : goal.returns-in-scenario-clause-ok
returns-in-scenario-clause-ok c =
    let is = c.in-scenario.is in
    let same : codes "scenario" ≡ c.args.name.now = cc in
    subst (λ (n : List ℕ). IfSome c.scenario_member.result (λ x. (d : Data) × (converted of_json (value 126 c.args.reader.now) ≡ Some (d, c.scenario_member.new.reader)) × Puts c.args.self.now c.scenario_member.new.parts n d))
    same c.scenario_member.ensures.ok

pub returns-in-bank-clause-ok : goal.returns-in-bank-clause-ok
returns-in-bank-clause-ok c =
    let is = c.in-bank.is in
    let same : codes "bank" ≡ c.args.name.now = cc in
    subst (λ (n : List ℕ). IfSome c.list_member.result (λ x. (d : Data) × (converted of_json (value 126 c.args.reader.now) ≡ Some (d, c.list_member.new.reader)) × Puts c.args.self.now c.list_member.new.parts n d))
    same c.list_member.ensures.ok

pub returns-in-pulses-clause-ok : goal.returns-in-pulses-clause-ok
returns-in-pulses-clause-ok c =
    let is = c.in-pulses.is in
    let same : codes "pulses" ≡ c.args.name.now = cc in
    subst (λ (n : List ℕ). IfSome c.list_member-in-pulses.result (λ x. (d : Data) × (converted of_json (value 126 c.args.reader.now) ≡ Some (d, c.list_member-in-pulses.new.reader)) × Puts c.args.self.now c.list_member-in-pulses.new.parts n d))
    same c.list_member-in-pulses.ensures.ok
