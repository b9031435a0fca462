-- What one counter more changes of what looking back gives.
use Rattle.std.proofs.Common.{◌≡◌, ◌≢◌, inl, inr, ℕ, true, false, not, nat_le, ◌==◌, ◌&&◌, ◌+◌, ◌<◌, ◌≤◌, List, [], ◌∷◌, refl, sym, ap, arith}
use Rattle.std.proofs.lemmas.Bool.Decides.{Decides-eqb, nat_tests, eqb_tells}
use Rattle.std.proofs.lemmas.Bool.{false≢true}
use Rattle.sig_tables.specs.Counting.{stands, skips, last_step_changed, begins_cycle, changes_to_zero}

-- tests of numbers
pub same : (a : ℕ) → (a == a) ≡ true
same a = (Decides-eqb a a).1 refl

pub other : (a b : ℕ) → a ≢ b → (a == b) ≡ false
other a b ne = grind (arith, nat_tests)

pub fits : (a b : ℕ) → a ≤ b → nat_le a b ≡ true
fits a b h = grind (arith, nat_tests)

pub exceeds : (a b : ℕ) → b < a → nat_le a b ≡ false
exceeds a b h = grind (arith, nat_tests)

-- a counter above 0 has not changed to it, nor has one that waits
pub counts-on : (d c : ℕ) → 1 ≤ d → changes_to_zero d c ≡ false
counts-on d c h = rw (other d 0 (omega arith)) refl

pub stood-there : (c : ℕ) → changes_to_zero c c ≡ false
stood-there c = elim (eqb_tells c 0) [ inl h ↦ rw h.0 refl | inr h ↦ rw h.0 refl ]

-- a wait
pub stands-stood : (c : ℕ) (before : List ℕ) → stands (c ∷ c ∷ before) ≡ stands (c ∷ before) + 1
stands-stood c before = rw (stood-there c, same c) refl

pub changed-stood : (c : ℕ) (before : List ℕ) → last_step_changed (c ∷ c ∷ before) ≡ false
changed-stood c before = rw (same c) refl

-- a step to another counter above 0
pub stands-moved : (d c : ℕ) (before : List ℕ) → 1 ≤ d → d ≢ c → stands (d ∷ c ∷ before) ≡ stands (c ∷ before)
stands-moved d c before h ne = rw (counts-on d c h, other d c ne) refl

pub changed-moved : (d c : ℕ) (before : List ℕ) → d ≢ c → last_step_changed (d ∷ c ∷ before) ≡ true
changed-moved d c before ne = rw (other d c ne) refl

pub skips-plain : (d c : ℕ) (before : List ℕ) → d ≡ c + 1 → skips (d ∷ c ∷ before) ≡ skips (c ∷ before)
skips-plain d c before e = rw (counts-on d c (omega arith), other d (c + 2) (omega arith)) refl

pub skips-skipped : (d c : ℕ) (before : List ℕ) → d ≡ c + 2 → skips (d ∷ c ∷ before) ≡ skips (c ∷ before) + 1
skips-skipped d c before e = rw (counts-on d c (omega arith), (Decides-eqb d (c + 2)).1 e) refl

-- a cycle that has just begun: nothing waited or skipped, and the last step counts as a change
pub record Begun (past : List ℕ) : Type 0 where
  pub before : List ℕ
  pub is : past ≡ 0 ∷ before
  pub stood : stands (0 ∷ before) ≡ 0
  pub skipped : skips (0 ∷ before) ≡ 0
  pub changed : last_step_changed (0 ∷ before) ≡ true

pub begun : (past : List ℕ) → begins_cycle past ≡ true → Begun past
begun [] h = absurd (false≢true h)
begun (c ∷ []) h = record { before = []; is = ap (λ (x : ℕ). x ∷ []) ((Decides-eqb c 0).0 h); stood = refl; skipped = refl; changed = refl }
begun (c ∷ b ∷ before) h = elim (eqb_tells c 0) [
  | inl z ↦ elim (eqb_tells b 0) [
    | inl y ↦ absurd (false≢true (let k : (c == 0 && not (b == 0)) ≡ true = h in rw (z.0, y.0) at k))
    | inr n ↦ record {
      before = b ∷ before;
      is = ap (λ (x : ℕ). x ∷ b ∷ before) z.1;
      stood = rw n.0 refl;
      skipped = rw n.0 refl;
      changed = rw (other 0 b (λ e. n.1 (sym e))) refl;
    }
  ]
  | inr n ↦ absurd (false≢true (let k : (c == 0 && not (b == 0)) ≡ true = h in rw n.0 at k))
]

-- the counter that changes to 0 begins a cycle
pub begins-at : (b : ℕ) (before : List ℕ) → 1 ≤ b → begins_cycle (0 ∷ b ∷ before) ≡ true
begins-at b before h = rw (other b 0 (omega arith)) refl
