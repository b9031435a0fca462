-- A book all of whose ticks are those of pass 4: each stream's items are those left of its pass, and those that this has brought.
use Rattle.std.proofs.Common.{◌≡◌, ◌≢◌, ◌≤◌, ◌<◌, ◌+◌, ℕ, zero, suc, inl, inr, [], length, replicate, get_or, ◌++◌, refl, sym, ap, subst, ◌∙◌, arith}
use Rattle.std.proofs.lemmas.Bool.{cases_lt}
use Rattle.std.proofs.lemmas.Bool.Decides.{eqb_tells}
use Rattle.sig_types.specs.declared.streams.Streams.{Streams}
use Rattle.sig_types.specs.Items.{items_of}
use Rattle.cabinet_history.specs.Journals.{times}
use Rattle.cab_book.specs.declared.book.Book.{Book}
use Rattle.cab_book.specs.Books.{streams_in, journal_of, left_of, IsOnePart}
use Rattle.cab_book.proofs.Runs.{times_both, times_other}

-- there are no streams after the fifth
pub no-sixth : (streams : Streams) (p : ℕ) → 5 ≤ p → length (get_or (items_of streams) p []) ≡ 0
no-sixth streams zero most = absurd (omega (arith, most))
no-sixth streams (suc zero) most = absurd (omega (arith, most))
no-sixth streams (suc (suc zero)) most = absurd (omega (arith, most))
no-sixth streams (suc (suc (suc zero))) most = absurd (omega (arith, most))
no-sixth streams (suc (suc (suc (suc zero)))) most = absurd (omega (arith, most))
no-sixth streams (suc (suc (suc (suc (suc p))))) most = refl

pub one-tally : (b : Book) → IsOnePart b → (p : ℕ) → left_of b p + times p (journal_of b) ≡ length (get_or (streams_in b) p [])
one-tally b one p = elim (cases_lt p 4) [
  | inl low ↦ b.tallied.each p low
  | inr above ↦ elim (eqb_tells p 4) [
    | inl (t, e) ↦
        let four : left_of b 4 + times 4 (journal_of b) ≡ length (get_or (streams_in b) 4 []) =
        omega (arith, b.tallied.ticks, one 5 (omega arith), one 6 (omega arith), one 7 (omega arith)) in
        subst (λ (q : ℕ). left_of b q + times q (journal_of b) ≡ length (get_or (streams_in b) q [])) (sym e) four
    | inr (t, ne) ↦ let high : 5 ≤ p = omega (arith, above, ne) in omega (arith, one p high, no-sixth b.streams p high)
  ]
]

-- a pass below the fifth that brings some of its items leaves it so
pub one-stays : (old new : Book) (pass many : ℕ) → pass < 5 → journal_of new ≡ journal_of old ++ replicate many pass
    → ((p : ℕ) → p ≢ pass → left_of new p ≡ left_of old p) → IsOnePart old → IsOnePart new
one-stays old new pass many low goes others one p high =
    let apart : p ≢ pass = λ z. omega (arith, z, low, high) in
    let more : times p (journal_of new) ≡ times p (journal_of old) + times p (replicate many pass) =
    ap (times p) goes ∙ times_both p (journal_of old) (replicate many pass) in
    omega (arith, more, times_other p pass many apart, others p apart, one p high)
