-- What a loader gets, message by message.
use Rattle.std.proofs.Common.{◌≡◌, ℕ, List, [], ◌∷◌, ◌++◌, Option, Some, None, refl}
use Rattle.arrayvec.specs.ArrayVec.{ArrayVec}
use Rattle.sig_types.specs.declared.notes.MasterNote.{MasterNote}
use Rattle.snmp_msg.specs.declared.message.Message.{Message}
use Rattle.snmp_msg.specs.Reading.{message_of}
use Rattle.sig_types.specs.Items.{texts_of}
use Rattle.requests.specs.Requests.{messages}
use Rattle.master_poll.specs.Notes.{noted}

-- a message on the stream comes first
pub heard_one : (x : ArrayVec ℕ) (xs : List (ArrayVec ℕ)) (m : Message) → message_of x.items ≡ Some m
    → messages (texts_of (x ∷ xs)) ≡ m ∷ messages (texts_of xs)
heard_one x xs m e = rw e refl

-- what isn't a message is skipped
pub heard_none : (x : ArrayVec ℕ) (xs : List (ArrayVec ℕ)) → message_of x.items ≡ None → messages (texts_of (x ∷ xs)) ≡ messages (texts_of xs)
heard_none x xs e = rw e refl

pub noted_front : (made : Option MasterNote) (others : List MasterNote) → noted made [] ++ others ≡ noted made others
noted_front None others = refl
noted_front (Some first) others = refl
