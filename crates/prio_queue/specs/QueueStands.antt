-- A queue represents the priority requests and their cancels: it is what looking back over them gives.
use Rattle.std.specs.Prelude.{ℕ, ◌-◌, ◌<◌, ◌≤◌, ◌≡◌, ◌==◌, ◌&&◌, not, get_or, Bool, Option, None}
use Rattle.sig_tables.specs.Past.{Past}
use Rattle.sig_tables.specs.Priority.{place_of, is_cancelled, is_given_since}
use Rattle.sig_tables.specs.Decide.{ticks_in}
use Rattle.sig_tables.specs.Seen.{moment_seen}
use Rattle.prio_queue.specs.declared.place.Place.{Place as Kept}
use Rattle.prio_queue.specs.declared.Queue.{Queue}
use Rattle.prio_queue.specs.Places.{meant, was_cancelled, IsGivenBy, StaysWithin, is_number}

-- what the queue stores of request k
abbrev pub kept : Queue → ℕ → Option Kept
kept q k = get_or q.places (k - 1) None

-- request k was active at the last tick, and has not been replaced since
abbrev pub is_active_still : Past → ℕ → Bool
is_active_still past k = (moment_seen past).active == k && not (is_given_since (ticks_in past) (place_of k past.asked))

-- what the queue stores of request k is what looking back gives
pub record RequestStands (q : Queue) (k : ℕ) (past : Past) : Type 0 where
  pub place : meant (kept q k) ≡ place_of k past.asked
  pub cancelled : was_cancelled (kept q k) ≡ is_cancelled k past.asked
  pub given : IsGivenBy (ticks_in past) (kept q k)
  pub stays : StaysWithin q.until (kept q k)
  pub active : is_number q.active k ≡ is_active_still past k

-- the queue represents each of the ten requests
abbrev pub QueueStands : Queue → Past → Type 0
QueueStands q past = (k : ℕ) → 0 < k → k ≤ 10 → RequestStands q k past
