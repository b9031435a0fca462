-- A tally with an empty journal is its own replay.
use Rattle.std.proofs.Common.{◌≡◌, ℕ, ◌+◌, ◌%◌, List, [], length, ap, sym, ◌∙◌, add-zero}

pub none_more : (n : ℕ) (journal : List ℕ) → journal ≡ [] → n % 18446744073709551616 ≡ (n + length journal) % 18446744073709551616
none_more n journal e = ap (λ k. k % 18446744073709551616) (sym (add-zero n)) ∙ ap (λ l. (n + length l) % 18446744073709551616) (sym e)
