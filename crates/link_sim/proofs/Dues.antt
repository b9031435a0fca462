-- Copies that are expected, of lists of copies.
use Rattle.std.proofs.Common.{◌≡◌, ℕ, zero, suc, length, ◌+◌, ◌<◌, ◌≤◌, ◌&&◌, Bool, true, false, ◌==◌, nat_lt, nat_le, if◌then◌else◌, List, [], ◌∷◌, ◌++◌, refl, ◌∙◌, ap, arith}
use Rattle.std.specs.List.{filter, AllByRecursion}
use Rattle.std.specs.Prelude.{get_or}
use Rattle.link_sim.specs.LateLists.{DropsPast}
use Rattle.std.proofs.lemmas.Grind.{common_steps}
use Rattle.scenario_data.specs.declared.scenario.FaultKind.TheVariants.{Late as LateFault}
use Rattle.link_sim.specs.Faults.{copy_after}
use Rattle.link_sim.specs.declared.stream_line.Late.{Late}
use Rattle.link_sim.specs.Due.{due_texts}

pub due-append : (before due : ℕ) (xs ys : List Late) → due_texts before due (xs ++ ys) ≡ due_texts before due xs ++ due_texts before due ys
due-append before due [] ys = refl
due-append before due (x ∷ xs) ys = split (due-append before due xs ys) (nat_lt x.sent before && (x.due == due))
  where
    split : due_texts before due (xs ++ ys) ≡ due_texts before due xs ++ due_texts before due ys → (b : Bool)
        → (if b then x.octets.items ∷ due_texts before due (xs ++ ys) else due_texts before due (xs ++ ys))
        ≡ (if b then x.octets.items ∷ due_texts before due xs else due_texts before due xs) ++ due_texts before due ys
    split ih true = ap (λ texts. x.octets.items ∷ texts) ih
    split ih false = ih

-- a copy of what is sent in a round comes that many rounds later, and in no other round from the next one on
pub keep_later : (late : List Late) (x : Late) (round by rounds : ℕ) (text : List ℕ) → x.octets.items ≡ text → x.sent ≡ round → x.due ≡ round + by → 0 < by
    → due_texts (round + 1) (round + rounds) (late ++ x ∷ []) ≡ due_texts (round + 1) (round + rounds) late ++ copy_after LateFault by rounds text
keep_later late x round by rounds text o s d above =
    due-append (round + 1) (round + rounds) late (x ∷ []) ∙ ap (λ texts. due_texts (round + 1) (round + rounds) late ++ texts) last
  where
    last : due_texts (round + 1) (round + rounds) (x ∷ []) ≡ copy_after LateFault by rounds text
    last = grind (arith, o, s, d, above, common_steps)

-- it is none of those of rounds before
pub keep_now : (late : List Late) (x : Late) (round due : ℕ) → x.sent ≡ round → due_texts round due (late ++ x ∷ []) ≡ due_texts round due late
keep_now late x round due s = due-append round due late (x ∷ []) ∙ grind (arith, s, common_steps)

-- a copy that is kept in a round: it was sent before, and is expected in it or later
abbrev pub is_kept : ℕ → Late → Bool
is_kept round copy = nat_lt copy.sent round && nat_le round copy.due

-- those that are kept are all that are expected from the round on, of what was sent before it
pub kept_due : (round due : ℕ) → round ≤ due → (late : List Late) → due_texts round due (filter (is_kept round) late) ≡ due_texts round due late
kept_due round due h [] = refl
kept_due round due h (x ∷ late) = split (kept_due round due h late) (is_kept round x) refl
  where
    split : due_texts round due (filter (is_kept round) late) ≡ due_texts round due late → (b : Bool) → is_kept round x ≡ b
        → due_texts round due (if b then x ∷ filter (is_kept round) late else filter (is_kept round) late) ≡ due_texts round due (x ∷ late)
    split ih true e = ap (λ texts. if nat_lt x.sent round && (x.due == due) then x.octets.items ∷ texts else texts) ih
    split ih false e = let other : (nat_lt x.sent round && (x.due == due)) ≡ false = grind (arith, e, h, common_steps) in rw other ih

-- and none of them was sent in it
pub kept_next : (round due : ℕ) → round ≤ due → (late : List Late) → due_texts (round + 1) due (filter (is_kept round) late) ≡ due_texts round due late
kept_next round due h [] = refl
kept_next round due h (x ∷ late) = split (kept_next round due h late) (is_kept round x) refl
  where
    split : due_texts (round + 1) due (filter (is_kept round) late) ≡ due_texts round due late → (b : Bool) → is_kept round x ≡ b
        → due_texts (round + 1) due (if b then x ∷ filter (is_kept round) late else filter (is_kept round) late) ≡ due_texts round due (x ∷ late)
    split ih true e =
        let same : (nat_lt x.sent (round + 1) && (x.due == due)) ≡ (nat_lt x.sent round && (x.due == due)) = grind (arith, e, h, common_steps) in
        rw same (ap (λ texts. if nat_lt x.sent round && (x.due == due) then x.octets.items ∷ texts else texts) ih)
    split ih false e = let other : (nat_lt x.sent round && (x.due == due)) ≡ false = grind (arith, e, h, common_steps) in rw other ih

-- none of those that are kept was sent in the round or later
kept_sent : (round : ℕ) (late : List Late) → AllByRecursion (λ copy. copy.sent ≤ round) (filter (is_kept round) late)
kept_sent round [] = tt
kept_sent round (x ∷ late) = split (kept_sent round late) (is_kept round x) refl
  where
    split : AllByRecursion (λ copy. copy.sent ≤ round) (filter (is_kept round) late) → (b : Bool) → is_kept round x ≡ b → AllByRecursion (λ copy. copy.sent ≤ round) (if b then x ∷ filter (is_kept round) late else filter (is_kept round) late)
    split ih true e = (grind (arith, e, common_steps), ih)
    split ih false e = ih

all_at : (round : ℕ) (late : List Late) → AllByRecursion (λ copy. copy.sent ≤ round) late → (i : ℕ) (d : Late) → i < length late → (get_or late i d).sent ≤ round
all_at round [] is i d below = absurd (omega (arith, below))
all_at round (x ∷ late) is zero d below = is.0
all_at round (x ∷ late) is (suc i) d below = all_at round late is.1 i d (omega (arith, below))

pub drops_kept : (round : ℕ) (late : List Late) → DropsPast round late (filter (is_kept round) late)
drops_kept round late = record {
  now = λ due h. kept_due round due h late;
  next = λ due h. kept_next round due h late;
  sent = all_at round (filter (is_kept round) late) (kept_sent round late);
}
