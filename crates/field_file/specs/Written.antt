-- The result of a field file as a JSON value (RFC 8259): its scenario, with the calls of the bank after the inputs.
-- If patterns follow the traffic, its master has the schedule that results.
use Rattle.std.specs.Prelude.{ℕ, List, [], ◌∷◌, ◌++◌, map, codes, Option, Some, None, option_map}
use Rattle.serde_json.specs.Data.{unsigned, Data, boolean, number, object, no_members, member}
use Rattle.serde_json.specs.View.{items_of}
use Rattle.serde_json.specs.Written.{compact_text}
use Rattle.scenario_data.specs.declared.scenario.Entry.{Entry}
use Rattle.scenario_read.specs.Fields.{held}
use Rattle.scenario_file.specs.Source.{with_inputs as more_inputs, with_schedule as another_schedule}
use Rattle.scenario_checked.specs.Inside.{scenario}
use Rattle.detector_bank.specs.declared.bank.Call.{Call}
use Rattle.detector_bank.specs.Lists.{calls_until, in_order, edges_until}
use Rattle.field_read.specs.Content.{RespondContent, FieldContent, field_of}
use Rattle.field_file.specs.Schedule.{Counted, entries}

-- a call that begins or ends, as an input: a vehicle detector turns on or off
abbrev pub call_value : Call → Data
call_value call =
    object
    (member (codes "cabinet") (number (unsigned call.cabinet))
    (member (codes "on") (boolean call.on)
    (member (codes "round") (number (unsigned call.round)) (member (codes "veh") (number (unsigned call.phase)) no_members))))

-- an entry of a schedule as a JSON value
abbrev pub entry_value : Entry → Data
entry_value entry =
    object
    (member (codes "pattern") (number (unsigned entry.pattern))
    (member (codes "second") (number (unsigned entry.second)) (member (codes "section") (number (unsigned entry.section)) no_members)))

-- the scenario with these calls after its inputs
abbrev pub with_inputs : List Call → Data → Data
with_inputs calls = more_inputs (items_of (map call_value calls))

-- the scenario with this schedule in its master, if there is one
abbrev pub with_schedule : Option (List Entry) → Data → Data
with_schedule None s = s
with_schedule (Some schedule) s = another_schedule (items_of (map entry_value schedule)) s

-- the scenario with these calls and this schedule
abbrev pub with_traffic : List Call → Option (List Entry) → Data → Data
with_traffic calls schedule s = with_inputs calls (with_schedule schedule s)

-- the calls of a field file's bank in all rounds
abbrev pub calls_of : FieldContent → List Call
calls_of f = calls_until f.bank f.pulses f.scenario.rounds

-- what is counted for the rules of a field file, with this many rounds in a period
abbrev pub counted : FieldContent → ℕ → Counted
counted f period = record {
  sections = map (λ c. c.section) f.scenario.cabinets;
  period = period;
  edges = edges_until (in_order f.bank) f.pulses f.scenario.rounds;
}

-- the schedule that these rules give
abbrev pub schedule_by : FieldContent → RespondContent → List Entry
schedule_by f r = entries f.scenario (counted f r.period) r.sections

-- the schedule of a field file, if it has rules
abbrev pub schedule_of : FieldContent → Option (List Entry)
schedule_of f = option_map (schedule_by f) f.respond

-- the result of a field file
abbrev pub result_of : Data → Data
result_of d = with_traffic (calls_of (field_of d)) (schedule_of (field_of d)) (held scenario d)

-- the text of the result: its compact text and a newline
abbrev pub result_text : Data → List ℕ
result_text d = compact_text (result_of d) ++ 10 ∷ []
