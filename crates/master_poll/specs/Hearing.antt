-- What a loader receives in a round.
use Rattle.std.specs.Prelude.{ℕ, ◌≡◌, ◌++◌, List}
use Rattle.sig_types.specs.declared.notes.MasterNote.{MasterNote}
use Rattle.snmp_msg.specs.declared.message.Message.{Message}
use Rattle.scenario_data.specs.Content.{LoadContent}
use Rattle.master_load.specs.declared.loader.Loader.{Loader}
use Rattle.master_load.specs.LoaderStands.{LoaderStands}
use Rattle.master_load.specs.Loading.{LoadEvent}
use Rattle.master_poll.specs.Turns.{told}
use Rattle.master_poll.specs.Notes.{load_notes}

-- the loader of a cabinet represents these events, and these are its notes
pub record Hears (l : Loader) (cab : ℕ) (all : List LoadContent) (notes : List MasterNote) (events : List LoadEvent) (due : List MasterNote) : Type 0 where
  pub stands : LoaderStands l cab all events
  pub noted : notes ≡ due

-- the loader still has to receive some messages; with them it represents these events, and these are its notes
pub record HearingGoesOn (l : Loader) (cab : ℕ) (all : List LoadContent) (notes : List MasterNote) (to_come : List Message) (events : List LoadEvent) (due : List MasterNote) : Type 0 where
  pub past : List LoadEvent
  pub stands : LoaderStands l cab all past
  pub ending : told to_come past ≡ events
  pub noted : notes ++ load_notes past to_come ≡ due
