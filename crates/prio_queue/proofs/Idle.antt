-- What is kept represents one moment more at which no request is active.
use Rattle.std.proofs.Common.{◌≡◌, ◌≢◌, ◌<◌, ◌≤◌, ◌==◌, ◌&&◌, not, ℕ, Bool, false, Option, None, Some, refl, sym, ◌∙◌, ap, arith}
use Rattle.std.proofs.lemmas.Bool.{ne_eqb}
use Rattle.sig_tables.specs.Past.{Past, Moment}
use Rattle.sig_tables.specs.Priority.{place_of, is_given_since}
use Rattle.sig_tables.specs.Decide.{with_moment, ticks_in}
use Rattle.prio_queue.specs.declared.place.Place.{Place as Kept}
use Rattle.prio_queue.specs.declared.Queue.{Queue}
use Rattle.prio_queue.specs.Places.{IsGivenBy, is_number}
use Rattle.prio_queue.specs.QueueStands.{kept, QueueStands}
use Rattle.prio_queue.specs.Idle.{IsIdle}

later : (a b : ℕ) (x : Option Kept) → a ≤ b → IsGivenBy a x → IsGivenBy b x
later a b None h given = tt
later a b (Some p) h given = omega (arith, given)

none-active : (active k : ℕ) (b : Bool) → active ≡ 0 → 0 < k → (active == k && b) ≡ false
none-active active k b e above = let other : active ≢ k = omega arith in rw (ne_eqb active k other) refl

pub queue-on : (q : Queue) (past : Past) (m : Moment) → QueueStands q past → IsIdle q → ticks_in past < m.number → m.active ≡ 0
    → QueueStands q (with_moment past m)
queue-on q past m stands idle more none k above within =
    let s = stands k above within in
    record {
      place = s.place;
      cancelled = s.cancelled;
      given = later (ticks_in past) m.number (kept q k) (omega arith) s.given;
      stays = s.stays;
      active = ap (λ (x : Option ℕ). is_number x k) idle
          ∙ sym (none-active m.active k (not (is_given_since m.number (place_of k past.asked))) none above);
    }
