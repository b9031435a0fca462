-- The replies of a cabinet, and those that have arrived, consist of octets.
use Rattle.std.specs.Prelude.{List}
use Rattle.std.specs.List.{AllByRecursion}
use Rattle.snmp_msg.specs.Shortest.{AreOctets}
use Rattle.sig_types.specs.Replies.{Reply}
use Rattle.master_poll.specs.Sends.{Arrived}
use Rattle.trace_laws.specs.Items.{AllOctets}

-- each reply of each round consists of octets
abbrev pub RepliesAre : List (List Reply) → Type 0
RepliesAre answered = AllByRecursion (AllByRecursion (λ r. AreOctets r.octets)) answered

-- everything that has arrived consists of octets
pub record ArrivedIs (a : Arrived) : Type 0 where
  pub polls : AllOctets a.polls
  pub loads : AllOctets a.loads
