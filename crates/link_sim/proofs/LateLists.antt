-- Lists of late copies, one by one.
use Rattle.std.proofs.Common.{◌≡◌, ◌≢◌, ◌&&◌, ◌==◌, nat_lt, if◌then◌else◌, ℕ, zero, suc, ◌+◌, ◌%◌, ◌<◌, ◌≤◌, ◌⊎◌, inl, inr, All, Option, List, [], ◌∷◌, ◌++◌, length, slice_set, refl, sym, ap, subst, ◌∙◌, arith}
use Rattle.std.specs.Prelude.{get_or}
use Rattle.std.proofs.lemmas.Bool.{cases_lt}
use Rattle.std.proofs.lemmas.List.{append-nil}
use Rattle.std.proofs.lemmas.Grind.{common_steps}
use Rattle.scenario_data.specs.declared.scenario.Fault.{Fault}
use Rattle.link_sim.specs.declared.stream_line.Late.{Late}
use Rattle.link_sim.specs.declared.stream_line.LateList.{LateList}
use Rattle.link_sim.specs.Faults.{copied}
use Rattle.link_sim.specs.Due.{due_texts}
use Rattle.link_sim.specs.LateLists.{on_late_list, listed_late, NoneAfter, DropsPast, IsOwnLateList}

pub on_late_list-get : (late_lists : List LateList) (k : ℕ) (d : LateList) → k < length late_lists → on_late_list late_lists k ≡ (get_or late_lists k d).copies.items
on_late_list-get [] k d below = absurd (omega (arith, below))
on_late_list-get (s ∷ more) zero d below = refl
on_late_list-get (s ∷ more) (suc k) d below = on_late_list-get more k d (omega (arith, below))

pub on_late_list-set : (late_lists : List LateList) (k : ℕ) (s : LateList) → k < length late_lists → on_late_list (slice_set late_lists k s) k ≡ s.copies.items
on_late_list-set [] k s below = absurd (omega (arith, below))
on_late_list-set (t ∷ more) zero s below = refl
on_late_list-set (t ∷ more) (suc k) s below = on_late_list-set more k s (omega (arith, below))

pub on_late_list-other : (late_lists : List LateList) (k j : ℕ) (s : LateList) → j ≢ k → on_late_list (slice_set late_lists k s) j ≡ on_late_list late_lists j
on_late_list-other [] k j s ne = refl
on_late_list-other (t ∷ more) zero zero s ne = absurd (ne refl)
on_late_list-other (t ∷ more) zero (suc j) s ne = refl
on_late_list-other (t ∷ more) (suc k) zero s ne = refl
on_late_list-other (t ∷ more) (suc k) (suc j) s ne = on_late_list-other more k j s (λ e. ne (ap suc e))

pub on_late_list-none : (late_lists : List LateList) (k : ℕ) → length late_lists ≤ k → on_late_list late_lists k ≡ []
on_late_list-none [] k above = refl
on_late_list-none (s ∷ more) zero above = absurd (omega (arith, above))
on_late_list-none (s ∷ more) (suc k) above = on_late_list-none more k (omega (arith, above))

-- where no list has a copy, there is none at any place
pub on_late_list-empty : (late_lists : List LateList) → ((k : ℕ) (d : LateList) → k < length late_lists → (get_or late_lists k d).copies.items ≡ []) → (k : ℕ) → on_late_list late_lists k ≡ []
on_late_list-empty [] empty k = refl
on_late_list-empty (s ∷ more) empty zero = empty zero s (omega arith)
on_late_list-empty (s ∷ more) empty (suc k) = on_late_list-empty more (λ j d below. empty (suc j) d (omega (arith, below))) k

-- a place is another, or it is the same
same_or_not : (i j : ℕ) → (i ≡ j) ⊎ (i ≢ j)
same_or_not i j =
    elim (cases_lt i j) [ inl below ↦ (let ne : i ≢ j = omega arith in inr ne) | inr above ↦ elim (cases_lt j i) [ inl over ↦ (let ne : i ≢ j = omega arith in inr ne) | inr under ↦ (let e : i ≡ j = omega arith in inl e) ] ]

-- a list is changed as its copies are
pub keeps-later : (late : List LateList) (i : ℕ) (s d : LateList) (round : ℕ) (fault : Option Fault) (text : List ℕ) → i < length late
    → ((rounds : ℕ) → 1 ≤ rounds → due_texts (round + 1) (round + rounds) s.copies.items ≡ due_texts (round + 1) (round + rounds) (get_or late i d).copies.items ++ copied fault rounds text)
    → ((rounds : ℕ) (text : List ℕ) → IsOwnLateList i round fault rounds text)
    → (rounds : ℕ) → 1 ≤ rounds → listed_late (round + 1) (round + rounds) (slice_set late i s) ≡ listed_late (round + 1) (round + rounds) late ++ copied fault rounds text
keeps-later late i s d round fault text below later own rounds some =
    elim (same_or_not ((round + rounds) % 32) i) [
      | inl same ↦ rw (same, on_late_list-set late i s below, on_late_list-get late i d below) (later rounds some)
      | inr ne ↦ rw (on_late_list-other late i ((round + rounds) % 32) s ne) (elim (own rounds text) [ inl same ↦ absurd (ne same) | inr none ↦ rw none (sym (append-nil _)) ])
    ]

pub keeps-now : (late : List LateList) (i : ℕ) (s d : LateList) (round : ℕ) → i < length late
    → ((due : ℕ) → due_texts round due s.copies.items ≡ due_texts round due (get_or late i d).copies.items) → (due : ℕ) → listed_late round due (slice_set late i s) ≡ listed_late round due late
keeps-now late i s d round below now due =
    elim (same_or_not (due % 32) i) [
      | inl same ↦ rw (same, on_late_list-set late i s below, on_late_list-get late i d below) (now due)
      | inr ne ↦ rw (on_late_list-other late i (due % 32) s ne) refl
    ]

pub keeps-sent : (late : List LateList) (i : ℕ) (s d : LateList) (round : ℕ) → i < length late
    → (All (λ copy. copy.sent ≤ round) (get_or late i d).copies.items → All (λ copy. copy.sent ≤ round) s.copies.items) → NoneAfter round late → NoneAfter round (slice_set late i s)
keeps-sent late i s d round below sent none k =
    elim (same_or_not k i) [
      | inl same ↦ subst AllSent (sym (ap (on_late_list (slice_set late i s)) same ∙ on_late_list-set late i s below)) (sent (subst AllSent (on_late_list-get late i d below) (none i)))
      | inr ne ↦ subst AllSent (sym (on_late_list-other late i k s ne)) (none k)
    ]
  where
    AllSent : List Late → Type 0
    AllSent copies = All (λ copy. copy.sent ≤ round) copies

-- one list's past is dropped
pub drops-own : (late : List LateList) (i : ℕ) (s d : LateList) (round : ℕ) → i < length late → DropsPast round (get_or late i d).copies.items s.copies.items
    → DropsPast round (on_late_list late i) (on_late_list (slice_set late i s) i)
drops-own late i s d round below drops =
    subst (λ (old : List Late). DropsPast round old (on_late_list (slice_set late i s) i)) (sym (on_late_list-get late i d below))
    (subst (λ (new : List Late). DropsPast round (get_or late i d).copies.items new) (sym (on_late_list-set late i s below)) drops)

pub drops-none : (round : ℕ) (old new : List Late) → old ≡ [] → new ≡ [] → DropsPast round old new
drops-none round old new a b =
    subst (λ (x : List Late). DropsPast round x new) (sym a) (subst (λ (x : List Late). DropsPast round [] x) (sym b) (record { now = λ due h. refl; next = λ due h. refl; sent = λ i d below. absurd (omega (arith, below)) }))

-- list after list
pub drops-more : (old late : List LateList) (k : ℕ) (s d : LateList) (round : ℕ) → k < length late → ((j : ℕ) → j < k → DropsPast round (on_late_list old j) (on_late_list late j))
    → ((j : ℕ) → k ≤ j → on_late_list late j ≡ on_late_list old j) → DropsPast round (get_or late k d).copies.items s.copies.items
    → (j : ℕ) → j < k + 1 → DropsPast round (on_late_list old j) (on_late_list (slice_set late k s) j)
drops-more old late k s d round below done rest drops j within =
    elim (same_or_not j k) [
      | inl same ↦ subst (λ (n : ℕ). DropsPast round (on_late_list old n) (on_late_list (slice_set late k s) n)) (sym same)
          (subst (λ (o : List Late). DropsPast round o (on_late_list (slice_set late k s) k)) (rest k (omega arith)) (drops-own late k s d round below drops))
      | inr ne ↦ subst (λ (new : List Late). DropsPast round (on_late_list old j) new) (sym (on_late_list-other late k j s ne)) (done j (omega (arith, within, ne)))
    ]

pub drops-rest : (old late : List LateList) (k : ℕ) (s : LateList) → ((j : ℕ) → k ≤ j → on_late_list late j ≡ on_late_list old j) → (j : ℕ) → k + 1 ≤ j → on_late_list (slice_set late k s) j ≡ on_late_list old j
drops-rest old late k s rest j above = let ne : j ≢ k = omega (arith, above) in on_late_list-other late k j s ne ∙ rest j (omega (arith, above))

-- where nothing was sent in a round or later, what counts before the next one is what counts before it
fresh : (last round due : ℕ) → last < round → (late : List Late) → ((i : ℕ) (d : Late) → i < length late → (get_or late i d).sent ≤ last) → due_texts (round + 1) due late ≡ due_texts round due late
fresh last round due h [] is = refl
fresh last round due h (x ∷ late) is =
    let first : x.sent ≤ last = is zero x (omega arith) in
    let same : (nat_lt x.sent (round + 1) && (x.due == due)) ≡ (nat_lt x.sent round && (x.due == due)) = grind (arith, first, h, common_steps) in
    rw same (ap (λ texts. if nat_lt x.sent round && (x.due == due) then x.octets.items ∷ texts else texts) (fresh last round due h late (λ i d below. is (suc i) d (omega (arith, below)))))

pub one-next : (old new : List LateList) (last round : ℕ) → last < round → NoneAfter last old → DropsPast round (on_late_list old (round % 32)) (on_late_list new (round % 32))
    → ((k : ℕ) → k ≢ round % 32 → on_late_list new k ≡ on_late_list old k) → (due : ℕ) → round ≤ due → listed_late (round + 1) due new ≡ listed_late round due old
one-next old new last round h none own others due from =
    elim (same_or_not (due % 32) (round % 32)) [
      | inl same ↦ rw same (own.next due from)
      | inr ne ↦ rw (others (due % 32) ne) (fresh last round due h (on_late_list old (due % 32)) (none (due % 32)))
    ]
