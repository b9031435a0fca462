-- Limits that are reached or not, as tests: from one round to the next, and for all rounds before one that must be
-- examined.
use Rattle.std.proofs.Common.{◌≡◌, ◌⊎◌, inl, inr, ℕ, suc, ◌+◌, ◌-◌, ◌<◌, ◌≤◌, ◌==◌, ◌||◌, ◌&&◌, Bool, true, false, nat_lt, nat_le, if◌then◌else◌, refl, sym, ap, ◌∙◌, arith}
use Rattle.std.proofs.lemmas.Bool.{ltb-true, ltb-false, leb-true, lt-ltb, le-ltb, le-leb, lt-leb}
use Rattle.std.proofs.lemmas.Bool.Decides.{Decides-eqb}

pub same-test : (a b : Bool) → (a ≡ true → b ≡ true) → (b ≡ true → a ≡ true) → a ≡ b
same-test true b f g = sym (f refl)
same-test false true f g = g refl
same-test false false f g = refl

pub other-number : (a b : ℕ) → (a ≡ b → ⊥) → (a == b) ≡ false
other-number a b ne = at (a == b) refl
  where
    at : (t : Bool) → (a == b) ≡ t → t ≡ false
    at true e = absurd (ne ((Decides-eqb a b).0 e))
    at false e = refl

pub same-number : (a b : ℕ) → a ≡ b → (a == b) ≡ true
same-number a b e = (Decides-eqb a b).1 e

pub or-none : (b : Bool) → (b || false) ≡ b
or-none true = refl
or-none false = refl

pub and-false : (a b : Bool) → b ≡ false → (a && b) ≡ false
and-false true b e = e
and-false false b e = refl

-- a number of rounds in a row that ends now continues
pub still-present : (on : Bool) (last_on last_inactive j : ℕ) → last_on ≤ j → last_inactive ≤ j
    → (if on then (if on || (last_on == j) then j - last_inactive else 0) + 1 else 0) ≡ (if on || (last_on == suc j) then suc j - last_inactive else 0)
still-present true last_on last_inactive j a b = omega arith
still-present false last_on last_inactive j a b = sym (ap (λ t. if t then suc j - last_inactive else 0) (other-number last_on (suc j) (λ e. omega (arith, e, a))))

-- none does where it is off and no pulse comes
pub none-present : (on : Bool) (last_on last_inactive i : ℕ) → on ≡ false → (last_on ≡ i → ⊥) → (if on || (last_on == i) then i - last_inactive else 0) ≡ 0
none-present true last_on last_inactive i off ne = absurd (cc)
none-present false last_on last_inactive i off ne = ap (λ t. if t then i - last_inactive else 0) (other-number last_on i ne)

pub present-few : (b : Bool) (last_inactive j : ℕ) → (if b then j - last_inactive else 0) ≤ j
present-few true last_inactive j = omega arith
present-few false last_inactive j = omega arith

-- the last round past the delay lies no longer ago than that many rounds: one round later
later-round : (j past m : ℕ) → nat_le j (past + m) ≡ nat_le (suc j) (past + suc m)
later-round j past m =
    same-test (nat_le j (past + m)) (nat_le (suc j) (past + suc m)) (λ e. let l = leb-true j (past + m) e in le-leb (suc j) (past + suc m) (omega (arith, l)))
    (λ e. let l = leb-true (suc j) (past + suc m) e in le-leb j (past + m) (omega (arith, l)))

pub now-only : (a : Bool) (j past : ℕ) → past ≤ j → a ≡ (a || (nat_lt 0 past && nat_le (suc j) (past + 0)))
now-only a j past low =
    sym (or-none a) ∙ ap (λ t. a || t) (sym (and-false (nat_lt 0 past) (nat_le (suc j) (past + 0)) (lt-leb (suc j) (past + 0) (omega (arith, low)))))

-- it was past its delay just now
just-now : (j m past : ℕ) → past ≡ j → 0 < j → (nat_lt 0 past && nat_le (suc j) (past + suc m)) ≡ true
just-now j m past is some =
    let a : nat_lt 0 past ≡ true = lt-ltb 0 past (omega (arith, is, some)) in
    let b : nat_le (suc j) (past + suc m) ≡ true = le-leb (suc j) (past + suc m) (omega (arith, is)) in
    ap (λ t. t && nat_le (suc j) (past + suc m)) a ∙ b

or-true : (a b : Bool) → b ≡ true → (a || b) ≡ true
or-true true b e = refl
or-true false b e = e

true-or : (a b c : Bool) → b ≡ true → (a || (b || c)) ≡ true
true-or true b c e = refl
true-or false b c e = ap (λ t. t || c) e

-- whether it was lately past its delay, one round later, where no pulse comes
pub lately-still : (a p : Bool) (j past m : ℕ) → (p ≡ true → 0 < j) → (p ≡ true → (a ≡ true) ⊎ (past ≡ j))
    → (a || (p || (nat_lt 0 past && nat_le j (past + m)))) ≡ (a || (nat_lt 0 past && nat_le (suc j) (past + suc m)))
lately-still true p j past m some here = refl
lately-still false false j past m some here = ap (λ t. nat_lt 0 past && t) (later-round j past m)
lately-still false true j past m some here = at (here refl)
  where
    at : (false ≡ true) ⊎ (past ≡ j) → true ≡ (nat_lt 0 past && nat_le (suc j) (past + suc m))
    at (inl e) = absurd (cc)
    at (inr e) = sym (just-now j m past e (some refl))

-- and where pulses were taken
pub lately-next : (a p : Bool) (j old past m : ℕ) → (p ≡ true → 0 < j) → past ≡ (if a then suc j else (if p then j else old))
    → (a || (p || (nat_lt 0 old && nat_le j (old + m)))) ≡ (a || (nat_lt 0 past && nat_le (suc j) (past + suc m)))
lately-next true p j old past m some is = refl
lately-next false true j old past m some is = sym (just-now j m past is (some refl))
lately-next false false j old past m some is =
    ap (λ t. nat_lt 0 old && t) (later-round j old m) ∙ ap (λ n. nat_lt 0 n && nat_le (suc j) (n + suc m)) (sym is)

pub first-next : (a p : Bool) (j old past : ℕ) → old ≤ j → past ≡ (if a then suc j else (if p then j else old))
    → a ≡ (a || (nat_lt 0 past && nat_le (suc j) (past + 0)))
first-next true p j old past low is = refl
first-next false true j old past low is = now-only false j past (omega (arith, is))
first-next false false j old past low is = now-only false j past (omega (arith, is, low))

-- a limit is reached in a later round if and only if it is in this one, where that round comes before the one that must
-- be examined
pub reached-still : (span from a i : ℕ) → a ≤ i → (a < from + span → i < from + span) → nat_le span (i - from) ≡ nat_le span (a - from)
reached-still span from a i up due = at (nat_lt a (from + span)) refl
  where
    below : a < from + span → i < from + span → (t : Bool) → nat_lt 0 span ≡ t → nat_le span (i - from) ≡ nat_le span (a - from)
    below low less true e =
        let some = ltb-true 0 span e in lt-leb span (i - from) (omega (arith, some, less)) ∙ sym (lt-leb span (a - from) (omega (arith, some, low)))
    below low less false e =
        let none = ltb-false 0 span e in le-leb span (i - from) (omega (arith, none)) ∙ sym (le-leb span (a - from) (omega (arith, none)))

    at : (t : Bool) → nat_lt a (from + span) ≡ t → nat_le span (i - from) ≡ nat_le span (a - from)
    at true e = let low = ltb-true a (from + span) e in below low (due low) (nat_lt 0 span) refl
    at false e =
        let more = ltb-false a (from + span) e in le-leb span (i - from) (omega (arith, more, up)) ∙ sym (le-leb span (a - from) (omega (arith, more)))

pub passed-still : (span from a i : ℕ) → a ≤ i → (a < from + (span + 1) → i < from + (span + 1)) → nat_lt span (i - from) ≡ nat_lt span (a - from)
passed-still span from a i up due = at (nat_lt a (from + (span + 1))) refl
  where
    at : (t : Bool) → nat_lt a (from + (span + 1)) ≡ t → nat_lt span (i - from) ≡ nat_lt span (a - from)
    at true e =
        let low = ltb-true a (from + (span + 1)) e in
        let less = due low in le-ltb span (i - from) (omega (arith, less)) ∙ sym (le-ltb span (a - from) (omega (arith, low)))
    at false e =
        let more = ltb-false a (from + (span + 1)) e in lt-ltb span (i - from) (omega (arith, more, up)) ∙ sym (lt-ltb span (a - from) (omega (arith, more)))

pub until-still : (span from a i : ℕ) → a ≤ i → (a < from + (span + 1) → i < from + (span + 1)) → nat_le i (from + span) ≡ nat_le a (from + span)
until-still span from a i up due = at (nat_lt a (from + (span + 1))) refl
  where
    at : (t : Bool) → nat_lt a (from + (span + 1)) ≡ t → nat_le i (from + span) ≡ nat_le a (from + span)
    at true e =
        let low = ltb-true a (from + (span + 1)) e in
        let less = due low in le-leb i (from + span) (omega (arith, less)) ∙ sym (le-leb a (from + span) (omega (arith, low)))
    at false e =
        let more = ltb-false a (from + (span + 1)) e in lt-leb i (from + span) (omega (arith, more, up)) ∙ sym (lt-leb a (from + span) (omega (arith, more)))

-- a limit of edges is not passed where it is off or no more edges can have been
pub not-passed : (limit edges most : ℕ) → edges ≤ most → (nat_lt 0 limit ≡ true → most ≤ limit) → (nat_lt 0 limit && nat_lt limit edges) ≡ false
not-passed limit edges most few low = at (nat_lt 0 limit) refl
  where
    at : (t : Bool) → nat_lt 0 limit ≡ t → (t && nat_lt limit edges) ≡ false
    at false e = refl
    at true e = let l = low e in le-ltb limit edges (omega (arith, few, l))
