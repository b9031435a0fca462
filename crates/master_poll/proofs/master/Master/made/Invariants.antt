use Rattle.std.proofs.Common.{◌≡◌, ◌≤◌, ◌*◌, ℕ, List, length, All}
use Rattle.scenario_data.specs.Content.{scenario_content}
use Rattle.master_poll.specs.Channels.{count_of_channel}
use Rattle.master_poll.specs.Sends.{Arrived}
use Rattle.master_poll.specs.Masters.{MasterGoesOn, MasterStands, with_round}
use Rattle.master_poll.proofs.master.Master.made.Given as goal

-- the rounds of the cabinets before the present place
abbrev pub invariant-loop-place : goal.invariant-loop-place
invariant-loop-place l = record {
  count : length l.channels.items ≡ l.place;
  sent : length l.sendings.items ≡ l.place;
  counted : All (λ p. count_of_channel p ≤ 2 * l.round) l.channels.items;
  goes : (before : ℕ → List Arrived) → MasterStands l.self (scenario_content l.s) before
      → MasterGoesOn l.channels.items l.sendings.items l.notes.items (scenario_content l.s) l.round l.place (with_round l.arrived before);
}
