-- The request that comes first, number by number, and none where all have departed.
use Rattle.std.proofs.Common.{◌≡◌, ◌<◌, ◌≤◌, ◌+◌, ◌-◌, ℕ, zero, suc, true, false, ◌&&◌, if◌then◌else◌, nat_lt, nat_le}
use Rattle.std.proofs.Common.{List, [], ◌∷◌, drop, get_or, Option, Some, None, refl, sym, ◌∙◌, ap, arith}
use Rattle.std.proofs.lemmas.Bool.{and_parts, ltb-true, leb-true, lt-leb}
use Rattle.sig_types.specs.declared.frame.Mode.TheVariants.{Coord}
use Rattle.sig_types.specs.Phases.{is_in}
use Rattle.sig_types.proofs.Lists.{in-head, in-tail}
use Rattle.sig_types.proofs.Sets.{in-every}
use Rattle.sig_tables.specs.declared.tables.Tables.{Tables}
use Rattle.sig_tables.specs.Past.{Past, Asking}
use Rattle.sig_tables.specs.Priority.{Place, all_requests, place_of, is_cancelled, has_stayed, is_live, leader_for, leader, number_of, active_in}
use Rattle.prio_queue.specs.declared.place.Place.{Place as Kept}
use Rattle.prio_queue.specs.declared.Queue.{Queue}
use Rattle.prio_queue.specs.Places.{meant, was_cancelled, StaysWithin, some_number, leader_by}
use Rattle.prio_queue.specs.QueueStands.{kept, RequestStands, QueueStands}

-- the numbers from one on are that one and the numbers from the next on
from : (k : ℕ) → k < 10 → drop k all_requests ≡ (k + 1) ∷ drop (k + 1) all_requests
from zero h = refl
from (suc zero) h = refl
from (suc (suc zero)) h = refl
from (suc (suc (suc zero))) h = refl
from (suc (suc (suc (suc zero)))) h = refl
from (suc (suc (suc (suc (suc zero))))) h = refl
from (suc (suc (suc (suc (suc (suc zero)))))) h = refl
from (suc (suc (suc (suc (suc (suc (suc zero))))))) h = refl
from (suc (suc (suc (suc (suc (suc (suc (suc zero)))))))) h = refl
from (suc (suc (suc (suc (suc (suc (suc (suc (suc zero))))))))) h = refl
from (suc (suc (suc (suc (suc (suc (suc (suc (suc (suc k)))))))))) h = absurd (omega arith)

-- what is kept of request k says whether it is live, and what it is
by-kept : (t : Tables) (n ticks k : ℕ) (mine : Option Kept) (asked : List Asking) (others : Option Place)
    → meant mine ≡ place_of k asked → was_cancelled mine ≡ is_cancelled k asked
    → leader_by t n ticks mine others ≡ (if is_live ticks asked k then leader_for t n (place_of k asked) others else others)
by-kept t n ticks k mine asked others e c = rw (e, c) refl

-- the leader with one number more
pub leader-more : (q : Queue) (past : Past) (t : Tables) (n ticks k : ℕ) → QueueStands q past → k < 10
    → leader_by t n ticks (get_or q.places k None) (leader t n ticks past.asked (drop (k + 1) all_requests))
    ≡ leader t n ticks past.asked (drop k all_requests)
leader-more q past t n ticks k s few =
    let back : k + 1 - 1 ≡ k = omega arith in
    let r : RequestStands q (k + 1) past = s (k + 1) (omega arith) (omega (arith, few)) in
    ap (λ (i : ℕ). leader_by t n ticks (get_or q.places i None) (leader t n ticks past.asked (drop (k + 1) all_requests))) (sym back)
    ∙ by-kept t n ticks (k + 1) (kept q (k + 1)) past.asked (leader t n ticks past.asked (drop (k + 1) all_requests)) r.place r.cancelled
    ∙ ap (λ (ks : List ℕ). leader t n ticks past.asked ks) (sym (from k few))

pub active-is : (t : Tables) (n ticks : ℕ) (asked : List Asking) → active_in t (Coord n) ticks asked ≡ number_of (leader t n ticks asked all_requests)
active-is t n ticks [] = refl
active-is t n ticks (a ∷ asked) = refl

-- the numbers of requests are 1 to 10
request-in : (k : ℕ) → is_in all_requests k ≡ true → (0 < k) × (k ≤ 10)
request-in k h =
    let b : (nat_lt 0 k ≡ true) × (nat_le k 10 ≡ true) = and_parts _ _ (in-every (λ j. nat_lt 0 j && nat_le j 10) all_requests k refl h) in
    (ltb-true 0 k b.0, leb-true k 10 b.1)

-- where each of these has departed none of them leads
none-leads : (t : Tables) (n ticks : ℕ) (asked : List Asking) (ks : List ℕ)
    → ((k : ℕ) → is_in ks k ≡ true → has_stayed ticks (place_of k asked) ≡ false) → leader t n ticks asked ks ≡ None
none-leads t n ticks asked [] h = refl
none-leads t n ticks asked (k ∷ ks) h = rw (h k (in-head k ks)) (none-leads t n ticks asked ks (λ j i. h j (in-tail k ks j i)))

departed : (ticks until : ℕ) (mine : Option Kept) → StaysWithin until mine → until < ticks → has_stayed ticks (meant mine) ≡ false
departed ticks until None w late = refl
departed ticks until (Some p) w late = lt-leb ticks _ (omega (arith, w, late))

-- none is active once the last of them has departed
pub all-departed : (q : Queue) (past : Past) (t : Tables) (n ticks : ℕ) → QueueStands q past → q.until < ticks
    → active_in t (Coord n) ticks past.asked ≡ 0
all-departed q past t n ticks s late =
    active-is t n ticks past.asked
    ∙ ap number_of (none-leads t n ticks past.asked all_requests (λ k i.
    let r : RequestStands q k past = s k (request-in k i).0 (request-in k i).1 in
    ap (λ (p : Option Place). has_stayed ticks p) (sym r.place) ∙ departed ticks q.until (kept q k) r.stays late))

pub number-some : (k : ℕ) → 0 < k → Some k ≡ some_number k
number-some zero h = absurd (omega arith)
number-some (suc k) h = refl
