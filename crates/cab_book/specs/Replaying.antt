-- A book to which nothing was brought replays itself.
use Rattle.std.specs.Prelude.{◌≡◌, [], refl}
use Rattle.cab_book.specs.declared.book.Book.{Book}
use Rattle.cab_book.specs.Books.{Replays, journal_of}

pub replays_itself : (b : Book) → journal_of b ≡ [] → Replays b b
replays_itself b none = record { streams = refl; cabinet_histories = λ cabinet_history stands. stands; ticks = refl }
