-- What books have replied in a round, without the messages that got no reply.
use Rattle.std.specs.Prelude.{ℕ, ◌≡◌, ◌<◌, List, length, get_or}
use Rattle.sig_types.specs.declared.streams.Answers.{Answers}
use Rattle.sig_types.specs.Items.{texts_of}
use Rattle.sig_types.specs.declared.notes.Way.TheVariants.{Poll, Load, Prio}
use Rattle.sig_types.specs.Passes.{pass_of}
use Rattle.sig_types.specs.Replies.{Reply, replied_on}
use Rattle.run_definition.specs.CabinetState.{answers_in}
use Rattle.cab_book.specs.declared.book.Book.{Book}
use Rattle.cab_book.specs.Happenings.{replies_in}
use Rattle.cab_book.specs.Books.{answered_in}

-- the answers of a book in its round, in order
abbrev pub replied_in : Book → List Reply
replied_in b = answers_in (replies_in (answered_in b))

-- these are the texts of these replies on each of the three streams
pub record AreAnswers (answers : Answers) (replies : List Reply) : Type 0 where
  pub polls : texts_of answers.polls.items ≡ replied_on (pass_of Poll) replies
  pub loads : texts_of answers.loads.items ≡ replied_on (pass_of Load) replies
  pub prios : texts_of answers.prios.items ≡ replied_on (pass_of Prio) replies

-- these are the texts of the replies of each book
pub record EachAnswers (all : List Answers) (books : List Book) : Type 0 where
  pub many : length all ≡ length books
  pub each : (k : ℕ) (answers : Answers) (b : Book) → k < length books → AreAnswers (get_or all k answers) (replied_in (get_or books k b))
