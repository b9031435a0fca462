-- The order of the faults: where a fault that meets a frame is among the sorted ones, and that sorting keeps the first.
use Rattle.std.proofs.Common.{◌≡◌, inl, inr, ◌≤◌, ◌<◌, ◌==◌, ◌&&◌, ℕ, Bool, true, false, List, length, get_or, Some, None, nat_cmp, refl, sym, ap, ◌∙◌, arith}
use Rattle.std.specs.Cmp.{IsTotalOrder, unsigned_tied}
use Rattle.std.specs.Ordering.{is_lt, is_eq, ordering_then}
use Rattle.std.specs.List.Sorted.{IsSorted, IsStable, ties}
use Rattle.std.proofs.lemmas.Bool.{cases_lt}
use Rattle.std.proofs.lemmas.Cmp.{nat_cmp_total, on_total, then_total}
use Rattle.std.proofs.lemmas.List.Elements.{filter_agree}
use Rattle.link_sim.proofs.Sorting.{tied, none_found, found_at, same_first, none_behind, less_differs, then_eq}
use Rattle.sig_types.specs.declared.notes.Way.{Way}
use Rattle.sig_types.specs.declared.notes.Way.TheVariants.{Poll, Load, Prio}
use Rattle.scenario_data.specs.declared.scenario.Direction.{Direction}
use Rattle.scenario_data.specs.declared.scenario.Direction.TheVariants.{Down, Up}
use Rattle.scenario_data.specs.declared.scenario.Fault.{Fault}
use Rattle.sig_types.specs.Passes.{pass_of}
use Rattle.link_sim.specs.declared.Line.{Line}
use Rattle.link_sim.specs.Faults.{same_way, same_direction, meets, fault_of}
use Rattle.link_sim.specs.Order.{rank_of, by_place, fault_at, SameFaults}

-- ---- faults

pub faults_total : IsTotalOrder by_place
faults_total = then_total (then_total (then_total (then_total
    (on_total (λ (f : Fault). f.round) nat_cmp_total)
    (on_total (λ (f : Fault). f.cabinet) nat_cmp_total))
    (on_total (λ (f : Fault). pass_of f.stream) nat_cmp_total))
    (on_total (λ (f : Fault). rank_of f.way) nat_cmp_total))
    (on_total (λ (f : Fault). f.index) nat_cmp_total)

same_pass : (a b : Way) → is_eq (nat_cmp (pass_of a) (pass_of b)) ≡ same_way a b
same_pass Poll Poll = refl
same_pass Poll Load = refl
same_pass Poll Prio = refl
same_pass Load Poll = refl
same_pass Load Load = refl
same_pass Load Prio = refl
same_pass Prio Poll = refl
same_pass Prio Load = refl
same_pass Prio Prio = refl

same_rank : (a b : Direction) → is_eq (nat_cmp (rank_of a) (rank_of b)) ≡ same_direction a b
same_rank Down Down = refl
same_rank Down Up = refl
same_rank Up Down = refl
same_rank Up Up = refl

five : (a b c d e a2 b2 c2 d2 e2 : Bool) → a ≡ a2 → b ≡ b2 → c ≡ c2 → d ≡ d2 → e ≡ e2 → ((((a && b) && c) && d) && e) ≡ ((((a2 && b2) && c2) && d2) && e2)
five a b c d e a2 b2 c2 d2 e2 p q r s t = cc

-- a fault meets the frames at whose place it is
meets_is : (line : Line) (round place : ℕ) (f : Fault) → is_eq (by_place f (fault_at line round place)) ≡ meets line round place f
meets_is line round place f =
    let r = nat_cmp f.round round in
    let c = nat_cmp f.cabinet line.cab in
    let s = nat_cmp (pass_of f.stream) (pass_of line.way) in
    let w = nat_cmp (rank_of f.way) (rank_of line.direction) in
    let i = nat_cmp f.index place in
    let parts : is_eq (ordering_then (ordering_then (ordering_then (ordering_then r c) s) w) i) ≡ ((((is_eq r && is_eq c) && is_eq s) && is_eq w) && is_eq i) =
    then_eq (ordering_then (ordering_then (ordering_then r c) s) w) i
    ∙ ap (λ (b : Bool). b && is_eq i) (then_eq (ordering_then (ordering_then r c) s) w)
    ∙ ap (λ (b : Bool). (b && is_eq w) && is_eq i) (then_eq (ordering_then r c) s)
    ∙ ap (λ (b : Bool). ((b && is_eq s) && is_eq w) && is_eq i) (then_eq r c) in
    parts
    ∙ five (is_eq r) (is_eq c) (is_eq s) (is_eq w) (is_eq i) (f.round == round) (f.cabinet == line.cab) (same_way f.stream line.way)
    (same_direction f.way line.direction) (f.index == place)
    (unsigned_tied f.round round) (unsigned_tied f.cabinet line.cab) (same_pass f.stream line.way) (same_rank f.way line.direction) (unsigned_tied f.index place)

-- after a stable sort each frame has the fault that it had
pub sorted_same : (faults sorted : List Fault) → IsStable by_place faults sorted → SameFaults sorted faults
sorted_same faults sorted stable line round place =
    let p : (f : Fault) → ties (λ a b. is_lt (by_place a b)) (fault_at line round place) f ≡ meets line round place f =
    λ f. tied faults_total (fault_at line round place) f ∙ meets_is line round place f in
    same_first (meets line round place) sorted faults
    (sym (filter_agree _ _ p sorted) ∙ stable (fault_at line round place) ∙ filter_agree _ _ p faults)

-- the place up to which the faults are before a frame: where a fault is there that meets it, it is the fault of the
-- frame
pub met_here : (sorted : List Fault) (line : Line) (round place at : ℕ) (d : Fault) → at < length sorted
    → ((k : ℕ) → k < at → is_lt (by_place (get_or sorted k d) (fault_at line round place)) ≡ true)
    → meets line round place (get_or sorted at d) ≡ true → fault_of sorted line round place ≡ Some (get_or sorted at d)
met_here sorted line round place at d below before here =
    found_at (meets line round place) d at sorted below
    (λ k low. sym (meets_is line round place (get_or sorted k d)) ∙ less_differs (by_place (get_or sorted k d) (fault_at line round place)) (before k low)) here

-- and else the frame has none
pub met_nowhere : (sorted : List Fault) (line : Line) (round place at : ℕ) (d : Fault) → IsSorted by_place sorted
    → ((k : ℕ) → k < at → is_lt (by_place (get_or sorted k d) (fault_at line round place)) ≡ true)
    → ((k : ℕ) → at ≤ k → k < length sorted → is_lt (by_place (get_or sorted k d) (fault_at line round place)) ≡ false)
    → (at < length sorted → meets line round place (get_or sorted at d) ≡ false) → fault_of sorted line round place ≡ None
met_nowhere sorted line round place at d up before behind here =
    none_found (meets line round place) d sorted (λ k below. sym (meets_is line round place (get_or sorted k d)) ∙ other k below)
  where
    other : (k : ℕ) → k < length sorted → is_eq (by_place (get_or sorted k d) (fault_at line round place)) ≡ false
    other k below = elim (cases_lt k at) [
      | inl low ↦ less_differs (by_place (get_or sorted k d) (fault_at line round place)) (before k low)
      | inr high ↦
          let last : at < length sorted = omega (arith, high, below) in
          none_behind faults_total sorted up (fault_at line round place) at d last (behind at (omega arith) last)
          (meets_is line round place (get_or sorted at d) ∙ here last) k high below
    ]
