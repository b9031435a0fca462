-- The words of `judge` give the terms of one judging, and an option that need not be given has one number.
use Rattle.std.proofs.Common.{◌≡◌, ◌≤◌, ◌↔◌, ◌∙◌, ◌++◌, inl, inr, ℕ, List, [], ◌∷◌, true, false, Bool, Some, None, codes, decimal, get_or, drop, refl, sym, ap, subst, arith}
use Rattle.judge_laws.specs.declared.Terms.{Terms}
use Rattle.command_words.specs.Words.{IsRun, IsOptional, joined_words, IsTerms, IsJudge}
use Rattle.command_words.proofs.Decimals.{same_number}

pub one_optional : (words : List (List ℕ)) (option : List ℕ) (most m n : ℕ) → most ≤ 4294967295 → IsOptional words option most m → IsOptional words option most n → m ≡ n
one_optional words option most m n fits (inl a) (inl b) = a.1 ∙ sym b.1
one_optional words option most m n fits (inl a) (inr b) = let e : [] ≡ option ∷ decimal n ∷ [] = sym a.0 ∙ b.0 in absurd (cc)
one_optional words option most m n fits (inr a) (inl b) = let e : [] ≡ option ∷ decimal m ∷ [] = sym b.0 ∙ a.0 in absurd (cc)
one_optional words option most m n fits (inr a) (inr b) =
    let small : m ≤ most = a.1 in
    let few : n ≤ most = b.1 in
    same_number m n (omega (arith, small, fits)) (omega (arith, few, fits)) (ap (λ (ws : List (List ℕ)). get_or ws 1 []) (sym a.0 ∙ b.0))

-- the words give this number, and no other
pub its_optional : (words : List (List ℕ)) (option : List ℕ) (most m : ℕ) → most ≤ 4294967295 → IsOptional words option most m
    → (n : ℕ) → (Some m ≡ Some n) ↔ IsOptional words option most n
its_optional words option most m fits is n = (
  λ e. let same : m ≡ n = cc in subst (λ (x : ℕ). IsOptional words option most x) same is,
  λ are. ap Some (one_optional words option most m n fits is are),
)

-- words that are there, and are not the option with a number up to the limit, give none
pub no_optional : (words : List (List ℕ)) (option : List ℕ) (most : ℕ) → (words ≡ [] → ⊥) → ((n : ℕ) → n ≤ most → words ≡ option ∷ decimal n ∷ [] → ⊥)
    → (n : ℕ) → (None ≡ Some n) ↔ IsOptional words option most n
no_optional words option most some never n = (λ e. absurd (cc), λ are. absurd (none are))
  where
    none : IsOptional words option most n → ⊥
    none (inl a) = some a.0
    none (inr b) = never n b.1 b.0

pub optional_few : (words : List (List ℕ)) (option : List ℕ) (most n : ℕ) → IsOptional words option most n → n ≤ most
optional_few words option most n (inl a) = let none : n ≡ 0 = a.1 in omega (arith, none)
optional_few words option most n (inr b) = b.1

-- `run` has the number of its workers so
pub run_of : (words rest : List (List ℕ)) (n : ℕ) → words ≡ codes "run" ∷ rest → IsOptional rest (codes "--workers") 8 n → IsRun words n
run_of words rest n is (inl a) = inl (is ∙ ap (λ (ws : List (List ℕ)). codes "run" ∷ ws) a.0, a.1)
run_of words rest n is (inr b) = inr (is ∙ ap (λ (ws : List (List ℕ)). codes "run" ∷ ws) b.0, b.1)

pub of_run : (words rest : List (List ℕ)) (n : ℕ) → words ≡ codes "run" ∷ rest → IsRun words n → IsOptional rest (codes "--workers") 8 n
of_run words rest n is (inl a) = inl (ap (λ (ws : List (List ℕ)). drop 1 ws) (sym is ∙ a.0), a.1)
of_run words rest n is (inr b) = inr (ap (λ (ws : List (List ℕ)). drop 1 ws) (sym is ∙ b.0), b.1)

-- a tolerance is not the word of a log that begins in the middle
tolerance_first : (rest more : List (List ℕ)) (n : ℕ) → IsOptional rest (codes "--tolerance") 20 n → rest ≡ codes "--joined" ∷ more → ⊥
tolerance_first rest more n (inl a) is = let e : [] ≡ codes "--joined" ∷ more = sym a.0 ∙ is in cc
tolerance_first rest more n (inr b) is =
    let letter : 116 ≡ 106 = ap (λ (ws : List (List ℕ)). get_or (get_or ws 0 []) 2 0) (sym b.0 ∙ is) in absurd (omega (arith, letter))

-- the terms that the words give begin in the middle if the first word says so, and have the tolerance of the words after it
given : (texts rest more : List (List ℕ)) (joined also : Bool) (n : ℕ) → texts ≡ joined_words joined ++ rest
    → (joined ≡ false → (r : List (List ℕ)) → texts ≡ codes "--joined" ∷ r → ⊥) → texts ≡ joined_words also ++ more → IsOptional more (codes "--tolerance") 20 n
    → (joined ≡ also) × IsOptional rest (codes "--tolerance") 20 n
given texts rest more true true n is never are number =
    (refl, subst (λ (ws : List (List ℕ)). IsOptional ws (codes "--tolerance") 20 n) (ap (λ (ws : List (List ℕ)). drop 1 ws) (sym are ∙ is)) number)
given texts rest more true false n is never are number = absurd (tolerance_first more rest n number (sym are ∙ is))
given texts rest more false true n is never are number = absurd (never refl more are)
given texts rest more false false n is never are number = (refl, subst (λ (ws : List (List ℕ)). IsOptional ws (codes "--tolerance") 20 n) (sym are ∙ is) number)

pub same_terms : (texts rest : List (List ℕ)) (joined : Bool) (terms : Terms) → texts ≡ joined_words joined ++ rest
    → (joined ≡ false → (r : List (List ℕ)) → texts ≡ codes "--joined" ∷ r → ⊥) → IsTerms texts terms
    → (joined ≡ terms.joined) × IsOptional rest (codes "--tolerance") 20 terms.tolerance
same_terms texts rest joined terms is never (more, are, number) = given texts rest more joined terms.joined terms.tolerance is never are number

-- terms of words that give a tolerance begin with the word for the middle, or with no such word
not_joined : (texts rest : List (List ℕ)) (joined : Bool) (n : ℕ) → texts ≡ joined_words joined ++ rest → IsOptional rest (codes "--tolerance") 20 n
    → joined ≡ false → (r : List (List ℕ)) → texts ≡ codes "--joined" ∷ r → ⊥
not_joined texts rest true n is number off r are = absurd (cc)
not_joined texts rest false n is number off r are = tolerance_first rest r n number (sym is ∙ are)

-- the terms are determined by the words
pub one_terms : (texts : List (List ℕ)) (a b : Terms) → IsTerms texts a → IsTerms texts b → a ≡ b
one_terms texts a b (rest, is, number) are =
    let so = same_terms texts rest a.joined b is (not_joined texts rest a.joined a.tolerance is number) are in
    let count : a.tolerance ≡ b.tolerance = one_optional rest (codes "--tolerance") 20 a.tolerance b.tolerance (omega arith) number so.1 in
    ap (λ (n : ℕ). record { tolerance = n; joined = a.joined }) count ∙ ap (λ (j : Bool). record { tolerance = b.tolerance; joined = j }) so.0

-- the words give these terms, and no others
pub its_terms : (texts : List (List ℕ)) (a : Terms) → IsTerms texts a → (b : Terms) → (Some a ≡ Some b) ↔ IsTerms texts b
its_terms texts a is b = (
  λ e. let same : a ≡ b = cc in subst (λ (x : Terms). IsTerms texts x) same is,
  λ are. ap Some (one_terms texts a b is are),
)

-- what they ask to be judged on
pub one_judge : (words : List (List ℕ)) (a b : Terms) → IsJudge words a → IsJudge words b → a ≡ b
one_judge words a b (rest, is, terms) (more, are, other) =
    one_terms rest a b terms (subst (λ (ws : List (List ℕ)). IsTerms ws b) (ap (λ (ws : List (List ℕ)). drop 1 ws) (sym are ∙ is)) other)
