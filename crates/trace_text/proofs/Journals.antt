-- The words of a journal's runs, read one after another.
use Rattle.std.proofs.Common.{◌≡◌, ◌≢◌, ℕ, ◌<◌, ◌+◌, List, [], ◌∷◌, ◌++◌, get_or, take, length, map, Option, Some, None, refl, sym, ap, ◌∙◌, arith, rules, below_more, suc, zero, inl, inr, Bor}
use Rattle.std.proofs.lemmas.Bool.{cases_lt}
use Rattle.std.proofs.lemmas.List.{take_all, take_more, map-append, length-map, length-append, get_or_push, get_or_append_left, get_or-map, get_or-take}
use Rattle.trace_text.specs.IsLine.{FitsRun, FitsRuns, AreLongest}
use Rattle.trace_text.specs.Reads.{Reads}
use Rattle.trace_text.specs.Texts.{run_word}
use Rattle.trace_text.proofs.Reading.{reads_none, reads_some, none_reads, some_reads}

abbrev Run : Type 0
Run = ℕ × ℕ

abbrev run_at : List Run → ℕ → Run
run_at runs k = get_or runs k (0, 0)

-- borrowed words, and one of them
abbrev pub plain : List (Bor (List ℕ)) → List (List ℕ)
plain words = map (λ word. word.now) words

abbrev pub no_word : Bor (List ℕ)
no_word = record { ref_ptr = (0, 0); now = [] }

pub length-plain : (words : List (Bor (List ℕ))) → length (plain words) ≡ length words
length-plain words = length-map words (λ (word : Bor (List ℕ)). word.now)

pub in_plain : (words : List (Bor (List ℕ))) (i : ℕ) → i < length words → i < length (plain words)
in_plain words i low = let same = length-plain words in omega (arith, same)

pub plain_at : (words : List (Bor (List ℕ))) (i : ℕ) → i < length words → get_or (plain words) i [] ≡ (get_or words i no_word).now
plain_at words i low = get_or-map (λ (word : Bor (List ℕ)). word.now) words i no_word [] low

-- a fact of each element, of a list and one more
pub each_push : {X : Type 0} (P : X → Type 0) (d : X) (xs : List X) (x : X) → ((k : ℕ) → k < length xs → P (get_or xs k d)) → P x
    → (k : ℕ) → k < length (xs ++ x ∷ []) → P (get_or (xs ++ x ∷ []) k d)
each_push P d xs x h p k low =
    let long : length (xs ++ x ∷ []) ≡ length xs + 1 = length-append xs (x ∷ []) in
    below_more (λ k. P (get_or (xs ++ x ∷ []) k d)) (length xs)
    (λ k below. rw (get_or_append_left xs (x ∷ []) d k below) (h k below))
    (rw (get_or_push xs x d (length xs) refl) p) k (omega arith)

-- the first i words are these runs, as long as they can be, and no others; before is the pass of the last
pub record RunsSoFar (words : List (List ℕ)) (runs : List Run) (before : Option ℕ) (i : ℕ) : Type 0 where
  pub read : map run_word runs ≡ take i words
  pub many : length runs ≡ i
  pub fits : FitsRuns runs
  pub full : (k : ℕ) → k < length runs → 0 < (run_at runs k).1
  pub apart : (k : ℕ) → k + 1 < length runs → (run_at runs k).0 ≢ (run_at runs (k + 1)).0
  pub none_before : length runs ≡ 0 → before ≡ None
  pub one_before : (k : ℕ) → length runs ≡ k + 1 → before ≡ Some (run_at runs k).0
  pub only : (others : List Run) → FitsRuns others → words ≡ map run_word others → runs ≡ take i others

abbrev pub ReadsRuns : List (List ℕ) → Option (List Run) → Type 0
ReadsRuns words found = Reads (λ runs. AreLongest runs × FitsRuns runs) (map run_word) words found

pub no_runs : (words : List (List ℕ)) → RunsSoFar words [] None 0
no_runs words = record {
  read = search rules;
  many = refl;
  fits = λ k low. absurd (omega arith);
  full = λ k low. absurd (omega arith);
  apart = λ k low. absurd (omega arith);
  none_before = λ e. refl;
  one_before = λ k e. absurd (omega arith);
  only = λ others fits e. search rules;
}

pub none_empty : (words : List (List ℕ)) → length words ≡ 0 → ReadsRuns words None
none_empty words empty = reads_none (λ others is e. let same : length words ≡ length others = ap length e ∙ length-map others run_word in let some = is.0.some in omega arith)

module _ (words : List (List ℕ)) (runs : List Run) (before : Option ℕ) (i : ℕ) (so_far : RunsSoFar words runs before i) (within : i < length words) where
  word_at : (others : List Run) → words ≡ map run_word others → (i < length others) × (get_or words i [] ≡ run_word (run_at others i))
  word_at others e =
      let same : length words ≡ length others = ap length e ∙ length-map others run_word in
      let low : i < length others = omega arith in
      (low, rw e (get_or-map run_word others i (0, 0) [] low))

  pub none_word : Reads FitsRun run_word (get_or words i []) None → ReadsRuns words None
  none_word h = reads_none (λ others is e. let at = word_at others e in none_reads h (run_at others i) (is.1 i at.0) at.1)

  module _ (run : Run) (read : Reads FitsRun run_word (get_or words i []) (Some run)) where
    run_is : (others : List Run) → FitsRuns others → words ≡ map run_word others → run ≡ run_at others i
    run_is others fits e = let at = word_at others e in some_reads read (run_at others i) (fits i at.0) at.1

    pub none_hollow : run.1 ≡ 0 → ReadsRuns words None
    none_hollow hollow = reads_none (λ others is e.
        let at = word_at others e in
        let full : 0 < (run_at others i).1 = is.0.full i at.0 in
        let same : run.1 ≡ (run_at others i).1 = ap (λ (r : Run). r.1) (run_is others is.1 e) in omega arith)

    none_next : (j : ℕ) → j + 1 ≡ i → before ≡ Some run.0 → (others : List Run) → AreLongest others × FitsRuns others → words ≡ map run_word others → ⊥
    none_next j next same others is e =
        let at = word_at others e in
        let last : Some run.0 ≡ Some (run_at runs j).0 = sym same ∙ so_far.one_before j (so_far.many ∙ sym next) in
        let pass : run.0 ≡ (run_at runs j).0 = cc in
        let front : run_at runs j ≡ run_at others j = rw (so_far.only others is.1 e) (get_or-take i others j (0, 0) (omega arith)) in
        let here : run ≡ run_at others (j + 1) = rw next (run_is others is.1 e) in
        is.0.apart j (omega arith) (ap (λ (r : Run). r.0) (sym front) ∙ sym pass ∙ ap (λ (r : Run). r.0) here)

    none_at : (j : ℕ) → j ≡ i → before ≡ Some run.0 → (others : List Run) → AreLongest others × FitsRuns others → words ≡ map run_word others → ⊥
    none_at zero first same others is e = let none : None ≡ Some run.0 = sym (so_far.none_before (so_far.many ∙ sym first)) ∙ same in cc
    none_at (suc j) next same others is e = none_next j (omega arith) same others is e

    -- two neighbours of one pass
    pub none_same : before ≡ Some run.0 → ReadsRuns words None
    none_same same = reads_none (none_at i refl same)

    apart_push : before ≢ Some run.0 → (k : ℕ) → k + 1 < length (runs ++ run ∷ []) → (run_at (runs ++ run ∷ []) k).0 ≢ (run_at (runs ++ run ∷ []) (k + 1)).0
    apart_push other k low =
        let long : length (runs ++ run ∷ []) ≡ length runs + 1 = length-append runs (run ∷ []) in
        let below : k < length runs = omega arith in
        elim (cases_lt (k + 1) (length runs)) [
          | inl inside ↦ rw (get_or_append_left runs (run ∷ []) (0, 0) k below, get_or_append_left runs (run ∷ []) (0, 0) (k + 1) inside) (so_far.apart k inside)
          | inr last ↦
              let end : length runs ≡ k + 1 = omega arith in
              rw (get_or_append_left runs (run ∷ []) (0, 0) k below, get_or_push runs run (0, 0) (k + 1) end)
              (λ same. other (so_far.one_before k end ∙ ap Some same))
        ]

    -- one run more
    pub next_run : 0 < run.1 → before ≢ Some run.0 → RunsSoFar words (runs ++ run ∷ []) (Some run.0) (i + 1)
    next_run some other =
        let long : length (runs ++ run ∷ []) ≡ length runs + 1 = length-append runs (run ∷ []) in
        let many = so_far.many in
        record {
          read = rw (map-append run_word runs (run ∷ []), take_more words i [] within) (rw (so_far.read, read.value.1) refl);
          many = omega arith;
          fits = each_push FitsRun (0, 0) runs run so_far.fits read.value.0;
          full = each_push (λ (r : Run). 0 < r.1) (0, 0) runs run so_far.full some;
          apart = apart_push other;
          none_before = λ e. absurd (omega arith);
          one_before = λ k e. let last : length runs ≡ k = omega arith in rw (get_or_push runs run (0, 0) k last) refl;
          only = λ others fits e. let at = word_at others e in
              rw (take_more others i (0, 0) at.0) (rw (← so_far.only others fits e, ← run_is others fits e) refl);
        }

pub all_runs : (words : List (List ℕ)) (runs : List Run) (before : Option ℕ) (i : ℕ) → RunsSoFar words runs before i → i ≡ length words → 0 < i → ReadsRuns words (Some runs)
all_runs words runs before i so_far whole some = let many = so_far.many in reads_some
    (record { some = omega arith; full = so_far.full; apart = so_far.apart }, so_far.fits)
    (sym (so_far.read ∙ take_all i words (omega arith)))
    (λ others is e. let same : length words ≡ length others = ap length e ∙ length-map others run_word in so_far.only others is.1 e ∙ take_all i others (omega arith))
