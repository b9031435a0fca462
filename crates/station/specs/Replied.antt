-- The answer to a command that reads an object from the input and writes a text about it. Each command defines this
-- text, and the first fault of an input.
use Rattle.std.specs.Prelude.{◌≡◌, ◌<◌, ◌⊎◌, ℕ, List, Option, IfSome, length}
use Rattle.io_edge.specs.Edge.{Appends}
use Rattle.trace_writer.specs.Bytes.{AppendsFront}
use Rattle.scenario_data.specs.declared.refusal.Refusal.{Refusal}
use Rattle.station.specs.declared.status.Status.{Status}
use Rattle.station.specs.declared.status.Status.TheVariants.{Done, Scenario, ReadFault, WriteFault, NoMemory}
use Rattle.station.specs.Bytes.{AreInput, nothing_left}
use Rattle.station.specs.Io.{Io}
use Rattle.station.specs.Answers.{IsShort, IsRefused, IsLengthRefusal, NamesFault}

-- the source was read to its end, and `text` is a text about its bytes, as `Tells` defines it
pub record IsTextOfInput (Tells : List ℕ → List ℕ → Type 0) (text : List ℕ) (left ends : Option (List ℕ)) : Type 0 where
  pub bytes : List ℕ
  pub all : AreInput left bytes
  pub short : IsShort bytes
  pub tells : Tells bytes text
  pub ended : ends ≡ nothing_left left

-- the whole text was written
pub record RepliesWhole (Tells : List ℕ → List ℕ → Type 0) (left ends old new : Option (List ℕ)) : Type 0 where
  pub text : List ℕ
  pub of_input : IsTextOfInput Tells text left ends
  pub written : Appends old new text

-- a proper prefix of the text was written
pub record RepliesShort (Tells : List ℕ → List ℕ → Type 0) (left ends old new : Option (List ℕ)) : Type 0 where
  pub text : List ℕ
  pub of_input : IsTextOfInput Tells text left ends
  pub front : AppendsFront old new text

-- what an answer says about the input and the output, status by status
abbrev pub Replied : (List ℕ → List ℕ → Type 0) → (List ℕ → Refusal → Type 0) → Status → Io → Type 0
Replied Tells IsFirst Done io = RepliesWhole Tells io.left io.ends io.old io.new
Replied Tells IsFirst (Scenario refusal) io = IsRefused IsFirst refusal io.left io.ends × (io.new ≡ io.old)
Replied Tells IsFirst ReadFault io = io.unread × (io.new ≡ io.old)
Replied Tells IsFirst WriteFault io = io.unwritten × RepliesShort Tells io.left io.ends io.old io.new
Replied Tells IsFirst NoMemory io = io.new ≡ io.old
Replied Tells IsFirst _ io = ⊥

-- the answer that is expected if no read fails. An input that is too long is refused for its length. An invalid input
-- is refused for its first fault. For a valid input the answer is Done if no write fails
pub record IsReplyDue (Asks : List ℕ → Type 0) (IsFirst : List ℕ → Refusal → Type 0) (status : Status) (input : List ℕ) (unwritten : Type 0) : Type 0 where
  pub too_long : 16777216 < length input → IsLengthRefusal status
  pub fault : IsShort input → (Asks input → ⊥) → NamesFault IsFirst status input
  pub done : IsShort input → Asks input → ¬ unwritten → status ≡ Done

-- what an answer says. If no read fails, the answer is the one expected for the input, or memory ran out
pub record ReplyAnswer (Tells : List ℕ → List ℕ → Type 0) (Asks : List ℕ → Type 0) (IsFirst : List ℕ → Refusal → Type 0) (status : Status) (io : Io) : Type 0 where
  pub told : Replied Tells IsFirst status io
  pub due : ¬ io.unread → IfSome io.left (λ input. IsReplyDue Asks IsFirst status input io.unwritten ⊎ (status ≡ NoMemory))
