use Rattle.master_poll.proofs.channel.Channel.new.Goals as goal

pub returns : goal.returns
returns c = record { stands = λ retries cab all. record { command_state = c.new.ensures.stands retries; loader = c.new-2.ensures cab all }; none = c.new.ensures.none }
