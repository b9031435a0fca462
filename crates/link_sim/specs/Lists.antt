-- The link's lists are those of a scenario.
use Rattle.std.specs.Prelude.{ℕ, ◌≡◌, ◌++◌}
use Rattle.sig_types.specs.declared.notes.Way.TheVariants.{Poll, Load, Prio}
use Rattle.sig_types.specs.Items.{texts_of}
use Rattle.scenario_data.specs.Content.{ScenarioContent}
use Rattle.link_sim.specs.declared.lists.Arrivals.{Arrivals}
use Rattle.link_sim.specs.declared.lists.Lists.{Lists}
use Rattle.link_sim.specs.Agenda.{HasItems}
use Rattle.link_sim.specs.Kept.{faults_in}
use Rattle.link_sim.specs.Order.{SameFaults}
use Rattle.link_sim.specs.Reaching.{frames_of}
use Rattle.link_sim.specs.Sorted.{dues_in}

-- the lists give each message its fault, and each round and cabinet its inputs, messages and priority requests, as
-- the scenario does
pub record AreOf (lists : Lists) (s : ScenarioContent) : Type 0 where
  pub faults : SameFaults (faults_in lists.faults) s.faults
  pub inputs : HasItems (λ i. i.round) (λ i. i.cabinet) s.inputs (dues_in lists.inputs)
  pub frames : HasItems (λ f. f.round) (λ f. f.cabinet) s.frames (dues_in lists.frames)
  pub requests : HasItems (λ p. p.round) (λ p. p.cabinet) s.priority (dues_in lists.requests)

-- what has arrived at a cabinet in a round, followed by the scenario's own messages
pub record HaveOwn (s : ScenarioContent) (round cab : ℕ) (arrived all : Arrivals) : Type 0 where
  -- on the stream of polls
  pub polls : texts_of all.polls.items ≡ texts_of arrived.polls.items ++ frames_of s.frames round cab Poll
  -- on the stream of downloads
  pub loads : texts_of all.loads.items ≡ texts_of arrived.loads.items ++ frames_of s.frames round cab Load
  -- on the stream of priority requests
  pub prios : texts_of all.prios.items ≡ texts_of arrived.prios.items ++ frames_of s.frames round cab Prio
