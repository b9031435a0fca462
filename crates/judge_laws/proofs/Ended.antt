-- The intervals of what a cabinet shows at each tick, one line after another.
use Rattle.std.proofs.Common.{◌≡◌, ℕ, ◌+◌, ◌-◌, ◌<◌, ◌≤◌, Bool, true, false, List, [], ◌∷◌, refl, sym, ◌∙◌, ap, subst, arith, inl, inr}
use Rattle.std.proofs.lemmas.Bool.{cases_lt, both_ways}
use Rattle.safety_laws.specs.Safe.{Indications, dark, Interval}
use Rattle.judge_laws.specs.Breaches.{newest, first_of, Below, Falls}
use Rattle.judge_laws.proofs.Runs.{back_at, below-reached, at-newest, at-line, at-older}

-- an interval has one first tick
pub one-first : (P : ℕ → Type 0) (first other end : ℕ) → Interval P first end → Interval P other end → first ≡ other
one-first P first other end i j = elim (cases_lt first other) [
  | inl low ↦
      let next : other - 1 + 1 ≡ other = omega (arith, low) in
      absurd (j.before (other - 1) next (i.during (other - 1) (omega (arith, low)) (omega (arith, low, j.some))))
  | inr high ↦ elim (cases_lt other first) [
    | inl low ↦
        let next : first - 1 + 1 ≡ first = omega (arith, low) in
        absurd (i.before (first - 1) next (j.during (first - 1) (omega (arith, low)) (omega (arith, low, i.some))))
    | inr higher ↦ omega (arith, high, higher)
  ]
]

module _ (holds : Indications → Bool) where
  -- the fact at a tick
  abbrev pub Held : List (ℕ × Indications) → ℕ → Type 0
  Held back t = holds (back_at back t) ≡ true

  -- the last run that a fact holds of
  pub record Run (back : List (ℕ × Indications)) : Type 0 where
    pub at : back_at back (first_of holds back).0 ≡ (first_of holds back).1
    pub during : (t : ℕ) → (first_of holds back).0 ≤ t → holds (back_at back t) ≡ true
    pub before : (t : ℕ) → t + 1 ≡ (first_of holds back).0 → holds (back_at back t) ≡ false
    pub below : (tick : ℕ) → Below tick back → (first_of holds back).0 < tick

  run-goes : (line : ℕ × Indications) (older : List (ℕ × Indications)) → Below line.0 older → holds line.1 ≡ true → holds (newest older) ≡ true → Run older
      → Run (line ∷ older)
  run-goes line older b h goes r =
      let low : (first_of holds older).0 < line.0 = r.below line.0 b in
      record {
        at = rw goes (at-older line older (first_of holds older).0 low ∙ r.at);
        during = rw goes (λ t from. elim (cases_lt t line.0) [
          | inl l ↦ ap holds (at-older line older t l) ∙ r.during t from
          | inr g ↦ ap holds (at-line line older t g) ∙ h
        ]);
        before = rw goes (λ t next. ap holds (at-older line older t (omega (arith, next, low))) ∙ r.before t next);
        below = rw goes (λ tick above. omega (arith, above, low));
      }

  run-begins : (line : ℕ × Indications) (older : List (ℕ × Indications)) → Below line.0 older → holds line.1 ≡ true → holds (newest older) ≡ false
      → Run (line ∷ older)
  run-begins line older b h begins = record {
    at = rw begins (at-line line older line.0 (omega arith));
    during = rw begins (λ t from. ap holds (at-line line older t from) ∙ h);
    before = rw begins (λ t next. ap holds (at-older line older t (omega (arith, next)) ∙ at-newest older t (below-reached older line.0 t b (omega (arith, next)))) ∙ begins);
    below = rw begins (λ tick above. above);
  }

  -- what is expected of each interval: by its first tick and what is shown at it, and by its end and what is shown at
  -- that
  abbrev pub EachDue : (D : ℕ × Indications → ℕ × Indications → Type 0) → List (ℕ × Indications) → Type 0
  EachDue D back = (first end : ℕ) → Interval (Held back) first end → D (first, back_at back first) (end, back_at back end)

  module _ (never : holds dark ≡ false) where
    pub run : (back : List (ℕ × Indications)) → Falls back → holds (newest back) ≡ true → Run back
    run [] falls h = absurd (both_ways (holds dark) never h)
    run (line ∷ older) falls h = split (λ e. run older falls.1 e) (holds (newest older)) refl
      where
        split : (holds (newest older) ≡ true → Run older) → (b : Bool) → holds (newest older) ≡ b → Run (line ∷ older)
        split known true e = run-goes line older falls.0 h e (known e)
        split known false e = run-begins line older falls.0 h e

    -- a line that ends a run ends an interval
    pub ended : (line : ℕ × Indications) (older : List (ℕ × Indications)) → Falls (line ∷ older) → holds (newest older) ≡ true → holds line.1 ≡ false
        → Interval (Held (line ∷ older)) (first_of holds older).0 line.0
    ended line older falls was now =
        let r : Run older = run older falls.1 was in
        let low : (first_of holds older).0 < line.0 = r.below line.0 falls.0 in
        record {
          some = low;
          during = λ t from below. ap holds (at-older line older t below) ∙ r.during t from;
          before = λ t next h. both_ways (holds (back_at older t)) (r.before t next) (sym (ap holds (at-older line older t (omega (arith, next, low)))) ∙ h);
          after = λ h. both_ways (holds line.1) now (sym (ap holds (at-line line older line.0 (omega arith))) ∙ h);
        }

    module _ (D : ℕ × Indications → ℕ × Indications → Type 0) where
      pub due-now : (line : ℕ × Indications) (older : List (ℕ × Indications)) → Falls (line ∷ older) → EachDue D (line ∷ older)
          → holds (newest older) ≡ true → holds line.1 ≡ false → D (first_of holds older) line
      due-now line older falls all was now =
          let r : Run older = run older falls.1 was in
          let low : (first_of holds older).0 < line.0 = r.below line.0 falls.0 in
          let d : D ((first_of holds older).0, back_at (line ∷ older) (first_of holds older).0) (line.0, back_at (line ∷ older) line.0)
          = all (first_of holds older).0 line.0 (ended line older falls was now) in
          subst (λ x. D (first_of holds older) (line.0, x)) (at-line line older line.0 (omega arith))
          (subst (λ x. D ((first_of holds older).0, x) (line.0, back_at (line ∷ older) line.0)) (at-older line older (first_of holds older).0 low ∙ r.at) d)

      -- intervals that ended before a line are those of what was reported before
      keeps-older : (line : ℕ × Indications) (older : List (ℕ × Indications)) (first end : ℕ) → end < line.0
          → Interval (Held (line ∷ older)) first end → Interval (Held older) first end
      keeps-older line older first end low i = record {
        some = i.some;
        during = λ t from below. sym (ap holds (at-older line older t (omega (arith, below, low)))) ∙ i.during t from below;
        before = λ t next h. i.before t next (ap holds (at-older line older t (omega (arith, next, low, i.some))) ∙ h);
        after = λ h. i.after (ap holds (at-older line older end low) ∙ h);
      }

      keeps-newer : (line : ℕ × Indications) (older : List (ℕ × Indications)) (first end : ℕ) → end < line.0
          → Interval (Held older) first end → Interval (Held (line ∷ older)) first end
      keeps-newer line older first end low i = record {
        some = i.some;
        during = λ t from below. ap holds (at-older line older t (omega (arith, below, low))) ∙ i.during t from below;
        before = λ t next h. i.before t next (sym (ap holds (at-older line older t (omega (arith, next, low, i.some)))) ∙ h);
        after = λ h. i.after (sym (ap holds (at-older line older end low)) ∙ h);
      }

      pub due-more : (line : ℕ × Indications) (older : List (ℕ × Indications)) → Falls (line ∷ older) → EachDue D older
          → (holds (newest older) ≡ true → holds line.1 ≡ false → D (first_of holds older) line) → EachDue D (line ∷ older)
      due-more line older falls all due first end i = elim (cases_lt end line.0) [
        | inl low ↦
            let d : D (first, back_at older first) (end, back_at older end) = all first end (keeps-older line older first end low i) in
            subst (λ x. D (first, x) (end, back_at (line ∷ older) end)) (sym (at-older line older first (omega (arith, low, i.some))))
            (subst (λ x. D (first, back_at older first) (end, x)) (sym (at-older line older end low)) d)
        | inr high ↦ elim (cases_lt line.0 end) [
          | inl over ↦
              let held : holds (back_at (line ∷ older) (end - 1)) ≡ true = i.during (end - 1) (omega (arith, i.some)) (omega (arith, over)) in
              let a : back_at (line ∷ older) (end - 1) ≡ line.1 = at-line line older (end - 1) (omega (arith, over)) in
              absurd (i.after (ap holds (at-line line older end high) ∙ sym (ap holds a) ∙ held))
          | inr same ↦
              let e : line.0 ≡ end = omega (arith, same, high) in
              subst (λ n. D (first, back_at (line ∷ older) first) (n, back_at (line ∷ older) n)) e (at-end (subst (λ n. Interval (Held (line ∷ older)) first n) (sym e) i))
        ]
      ]
        where
          at-end : Interval (Held (line ∷ older)) first line.0 → D (first, back_at (line ∷ older) first) (line.0, back_at (line ∷ older) line.0)
          at-end j =
              let some : 0 < line.0 = omega (arith, j.some) in
              let was : holds (newest older) ≡ true
              = sym (ap holds (at-older line older (line.0 - 1) (omega (arith, some)) ∙ at-newest older (line.0 - 1) (below-reached older line.0 (line.0 - 1) falls.0 (omega (arith, some)))))
              ∙ j.during (line.0 - 1) (omega (arith, j.some)) (omega (arith, some)) in
              let now : holds line.1 ≡ false = not-held (holds line.1) refl in
              let r : Run older = run older falls.1 was in
              let low : (first_of holds older).0 < line.0 = r.below line.0 falls.0 in
              let f : first ≡ (first_of holds older).0 = one-first (Held (line ∷ older)) first (first_of holds older).0 line.0 j (ended line older falls was now) in
              let d : D (first_of holds older) line = due was now in
              let e : D ((first_of holds older).0, back_at (line ∷ older) (first_of holds older).0) (line.0, back_at (line ∷ older) line.0)
              = subst (λ x. D ((first_of holds older).0, x) (line.0, back_at (line ∷ older) line.0)) (sym (at-older line older (first_of holds older).0 low ∙ r.at))
              (subst (λ x. D (first_of holds older) (line.0, x)) (sym (at-line line older line.0 (omega arith))) d) in
              subst (λ n. D (n, back_at (line ∷ older) n) (line.0, back_at (line ∷ older) line.0)) (sym f) e
            where
              not-held : (b : Bool) → holds line.1 ≡ b → holds line.1 ≡ false
              not-held false h = h
              not-held true h = absurd (j.after (ap holds (at-line line older line.0 (omega arith)) ∙ h))

      pub due-less : (line : ℕ × Indications) (older : List (ℕ × Indications)) → Falls (line ∷ older) → EachDue D (line ∷ older) → EachDue D older
      due-less line older falls all first end i =
          let low : end < line.0 = before-line older falls.0 i in
          let d : D (first, back_at (line ∷ older) first) (end, back_at (line ∷ older) end) = all first end (keeps-newer line older first end low i) in
          subst (λ x. D (first, x) (end, back_at older end)) (at-older line older first (omega (arith, low, i.some)))
          (subst (λ x. D (first, back_at (line ∷ older) first) (end, x)) (at-older line older end low) d)
        where
          before-line : (older : List (ℕ × Indications)) → Below line.0 older → Interval (Held older) first end → end < line.0
          before-line [] b j = absurd (j.after (j.during first (omega arith) j.some))
          before-line (last ∷ rest) b j = elim (cases_lt end line.0) [
            | inl low ↦ low
            | inr high ↦
                let over : last.0 < end = omega (arith, high, b) in
                let held : holds (back_at (last ∷ rest) (end - 1)) ≡ true = j.during (end - 1) (omega (arith, j.some)) (omega (arith, over)) in
                let a : back_at (last ∷ rest) (end - 1) ≡ last.1 = at-line last rest (end - 1) (omega (arith, over)) in
                let c : back_at (last ∷ rest) end ≡ last.1 = at-line last rest end (omega (arith, over)) in
                absurd (j.after (ap holds c ∙ sym (ap holds a) ∙ held))
          ]
