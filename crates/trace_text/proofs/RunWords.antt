-- The word of a run, and the words of a journal's runs.
use Rattle.std.proofs.Common.{◌≡◌, ℕ, ◌<◌, ◌^◌, List, ◌∷◌, ◌++◌, decimal, Some, None, refl, sym, ◌∙◌, arith, lit<}
use Rattle.std.proofs.lemmas.Str.Parse.{not_in_digits}
use Rattle.std.proofs.lemmas.Fmt.{digits_decimal}
use Rattle.trace_text.specs.IsLine.{FitsRun}
use Rattle.trace_text.specs.Reads.{Reads}
use Rattle.trace_text.specs.Texts.{run_word}
use Rattle.trace_text.specs.Words.{Lacks}
use Rattle.trace_text.proofs.Cuts.{one_cut, held}
use Rattle.trace_text.proofs.DigitTexts.{own}
use Rattle.trace_text.proofs.Reading.{reads_none, reads_some, none_reads, some_reads}

-- a number's digits hold no other byte
pub digits_lack : (n c : ℕ) → n < 2 ^ 64 → c < 48 → Lacks c (decimal n)
digits_lack n c small low k within = not_in_digits own (decimal n) c (digits_decimal own n small) (λ range. omega (arith, range)) k within

pub none_star : (word : List ℕ) → Lacks 42 word → Reads FitsRun run_word word None
none_star word lacks = reads_none (λ run fits e. held 42 (decimal run.0) (decimal run.1) (rw (← e) lacks))

module _ (word a b : List ℕ) (lacks : Lacks 42 a) (cut : word ≡ a ++ 42 ∷ b) where
  run_parts : (run : ℕ × ℕ) → FitsRun run → word ≡ run_word run → (a ≡ decimal run.0) × (b ≡ decimal run.1)
  run_parts run fits e = one_cut 42 a (decimal run.0) b (decimal run.1) lacks (digits_lack run.0 42 (let f = fits.0 in omega arith) (lit< tt)) (sym cut ∙ e)

  pub none_pass : Reads (λ n. n < 2 ^ 32) decimal a None → Reads FitsRun run_word word None
  none_pass pass = reads_none (λ run fits e. none_reads pass run.0 fits.0 (run_parts run fits e).0)

  pub none_count : Reads (λ n. n < 2 ^ 32) decimal b None → Reads FitsRun run_word word None
  none_count count = reads_none (λ run fits e. none_reads count run.1 fits.1 (run_parts run fits e).1)

  pub some_run : {p n : ℕ} → Reads (λ n. n < 2 ^ 32) decimal a (Some p) → Reads (λ n. n < 2 ^ 32) decimal b (Some n) → Reads FitsRun run_word word (Some (p, n))
  some_run {p} {n} pass count = reads_some (pass.value.0, count.value.0)
      (cut ∙ rw (pass.value.1, count.value.1) refl)
      (λ run fits e. let same_pass = some_reads pass run.0 fits.0 (run_parts run fits e).0 in let same_count = some_reads count run.1 fits.1
      (run_parts run fits e).1 in rw (same_pass, same_count) refl)
