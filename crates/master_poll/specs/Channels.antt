-- What the master stores about a cabinet represents its turns there.
use Rattle.std.specs.Prelude.{ℕ, ◌≡◌, List, [], ◌∷◌, ◌++◌}
use Rattle.std.specs.Option.{option_map}
use Rattle.sig_types.specs.declared.notes.MasterNote.{MasterNote}
use Rattle.snmp_msg.specs.declared.message.Message.{Message}
use Rattle.sig_types.specs.declared.streams.Sending.{Sending}
use Rattle.scenario_data.specs.Content.{LoadContent}
use Rattle.requests.specs.Requests.{octets_in}
use Rattle.master_load.specs.Downloads.{frame_text}
use Rattle.master_load.specs.LoaderStands.{LoaderStands}
use Rattle.master_poll.specs.declared.channel.Channel.{Channel}
use Rattle.master_poll.specs.Commands.{Turn}
use Rattle.master_poll.specs.Turns.{Plan, next_turn, load_events}
use Rattle.master_poll.specs.Notes.{turn_notes}
use Rattle.master_poll.specs.Sends.{command_text}
use Rattle.master_poll.specs.CommandStands.{CommandStateStands, sent_by}

-- the channel represents these turns
pub record ChannelStands (p : Channel) (retries cab : ℕ) (loads : List LoadContent) (past : List Turn) : Type 0 where
  pub command_state : CommandStateStands p.command_state retries past
  pub loader : LoaderStands p.loader cab loads (load_events past)

-- the number of messages that the channel has counted
abbrev pub count_of_channel : Channel → ℕ
count_of_channel p = sent_by p.command_state

-- nothing has been sent yet, for any cabinet
pub record IsNew (p : Channel) : Type 0 where
  pub stands : (retries cab : ℕ) (loads : List LoadContent) → ChannelStands p retries cab loads []
  pub none : count_of_channel p ≡ 0

-- the channel, what was sent and what was noted are those of the master's turn at which these messages have arrived
pub record HasSent (p : Channel) (sending : Sending) (before after : List MasterNote) (community : List ℕ) (plan : Plan) (past : List Turn) (polls loads : List Message) : Type 0 where
  pub stands : ChannelStands p plan.setup.retries plan.cab plan.loads (next_turn plan past polls loads ∷ past)
  pub poll : octets_in sending.poll ≡ option_map (command_text community) (next_turn plan past polls loads).command
  pub load : octets_in sending.load ≡ option_map (frame_text community plan.loads) (next_turn plan past polls loads).frame
  pub notes : after ≡ before ++ turn_notes plan past polls loads
