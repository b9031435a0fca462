use Rattle.round_run.proofs.Following.{new-at, next-at, all-at, all-ended, replied-newest}
use Rattle.round_run.proofs.Telling.{book-told}
use Rattle.round_run.proofs.run_laws.books_follow_runs.Goals as goal

pub returns : goal.returns
returns c = record {
  new = new-at;
  next = next-at;
  all = all-at;
  ended = all-ended;
  replied = replied-newest;
  lines = book-told;
  order = λ s cab t journal b run. run.stands.written.counts;
}
