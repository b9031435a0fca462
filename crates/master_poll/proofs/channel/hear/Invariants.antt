use Rattle.std.proofs.Common.{◌++◌, ℕ, List, drop}
use Rattle.scenario_data.specs.Content.{LoadContent}
use Rattle.sig_types.specs.Items.{texts_of}
use Rattle.requests.specs.Requests.{messages}
use Rattle.master_load.specs.Loading.{LoadEvent}
use Rattle.master_load.specs.LoaderStands.{LoaderStands}
use Rattle.master_poll.specs.Turns.{told}
use Rattle.master_poll.specs.Notes.{load_notes}
use Rattle.master_poll.specs.Hearing.{HearingGoesOn}
use Rattle.master_poll.proofs.channel.hear.Given as goal

abbrev pub invariant-loop-octets : goal.invariant-loop-octets
invariant-loop-octets l =
    (cab : ℕ) (all : List LoadContent) (past : List LoadEvent) → LoaderStands l.fn.loader cab all past
    → HearingGoesOn l.loader cab all l.notes.items (messages (texts_of (drop l.octets-index l.arrived))) (told (messages (texts_of l.arrived)) past)
    (l.fn.notes.items ++ load_notes past (messages (texts_of l.arrived)))
