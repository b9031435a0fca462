-- What the link makes of the items of a scenario's lists.
use Rattle.std.specs.Prelude.{ℕ, pos, ◌+◌, if◌then◌else◌, List, [], ◌∷◌}
use Rattle.sig_types.specs.declared.frame.Field.{Field}
use Rattle.sig_types.specs.declared.notes.Way.{Way}
use Rattle.scenario_data.specs.declared.scenario.Input.{Input}
use Rattle.scenario_data.specs.declared.scenario.PriorityItem.{PriorityItem}
use Rattle.scenario_data.specs.Content.{FrameContent}
use Rattle.requests.specs.Requests.{set_text}
use Rattle.link_sim.specs.Faults.{same_way}
use Rattle.link_sim.specs.Priority.{act_bind}

-- the change at the street that an input brings
abbrev pub field_made : ℕ → Input → List Field
field_made place i = i.field ∷ []

-- the octets of a message, if it is on this stream
abbrev pub frame_made : Way → ℕ → FrameContent → List (List ℕ)
frame_made way place f = if same_way f.stream way then f.hex ∷ [] else []

-- the message of a priority request; its id is 2,000,000,000 plus its place
abbrev pub request_made : List ℕ → ℕ → PriorityItem → List (List ℕ)
request_made community place p = set_text community (pos (2000000000 + place)) (act_bind p.act ∷ []) ∷ []
