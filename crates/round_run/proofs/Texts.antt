-- The texts of replies, one reply after another; and the answers of one book after another.
use Rattle.std.proofs.Common.{◌≡◌, ◌<◌, ◌+◌, ◌-◌, ◌∙◌, ℕ, List, [], ◌∷◌, ◌++◌, length, get_or, inl, inr, sym, ap, subst, length-append, arith}
use Rattle.std.proofs.lemmas.Bool.{cases_lt}
use Rattle.std.proofs.lemmas.List.{get_or_default, get_or_append_left, get_or-append_right}
use Rattle.sig_types.specs.declared.streams.Answers.{Answers}
use Rattle.sig_types.specs.Replies.{replied_on}
use Rattle.run_definition.specs.CabinetState.{answers_in}
use Rattle.cab_book.specs.declared.book.Book.{Book}
use Rattle.cab_book.specs.declared.happened.Answered.{Answered}
use Rattle.cab_book.specs.Happenings.{replies_in}
use Rattle.round_run.specs.Replied.{replied_in, AreAnswers, EachAnswers}

-- what of the replies from here on is on a stream
abbrev pub left_on : ℕ → List Answered → List (List ℕ)
left_on pass answered = replied_on pass (answers_in (replies_in answered))

-- the answers of the books so far
pub record AnswersTo (all : List Answers) (books : List Book) (k : ℕ) : Type 0 where
  pub count : length all ≡ k
  pub each : (j : ℕ) (answers : Answers) (b : Book) → j < k → AreAnswers (get_or all j answers) (replied_in (get_or books j b))

pub answers-none : (all : List Answers) (books : List Book) → all ≡ [] → AnswersTo all books 0
answers-none all books none = record {
  count = ap length none;
  each = λ j answers b below. absurd (omega (arith, below));
}

pub answers-more : (all : List Answers) (books : List Book) (k : ℕ) (own : Answers) (book : Book) → k < length books → book ≡ get_or books k book
    → AreAnswers own (replied_in book) → AnswersTo all books k → AnswersTo (all ++ own ∷ []) books (k + 1)
answers-more all books k own book within is are so = record {
  count = omega (arith, so.count, length-append all (own ∷ []));
  each = λ j answers b below. elim (cases_lt j k) [
    | inl less ↦
        subst (λ (x : Answers). AreAnswers x (replied_in (get_or books j b)))
        (sym (get_or_append_left all (own ∷ []) answers j (omega (arith, less, so.count)))) (so.each j answers b less)
    | inr most ↦
        let same : k ≡ j = omega (arith, below, most) in
        subst (λ (i : ℕ). AreAnswers (get_or (all ++ own ∷ []) i answers) (replied_in (get_or books i b))) same
        (subst (λ (x : Answers). AreAnswers x (replied_in (get_or books k b))) (sym (last answers))
        (subst (λ (x : Book). AreAnswers own (replied_in x)) (is ∙ get_or_default books k book b within) are))
  ];
}
  where
    none : (n : ℕ) → n - n ≡ 0
    none n = omega arith

    last : (answers : Answers) → get_or (all ++ own ∷ []) k answers ≡ own
    last answers = get_or-append_right all (own ∷ []) k k answers so.count (omega arith) ∙ ap (λ (n : ℕ). get_or (own ∷ []) n answers) (none k)

pub answers-all : (all : List Answers) (books : List Book) (k : ℕ) → k ≡ length books → AnswersTo all books k → EachAnswers all books
answers-all all books k whole so = record {
  many = so.count ∙ whole;
  each = λ j answers b below. so.each j answers b (omega (arith, whole, below));
}
