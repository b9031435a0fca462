-- Bytes that are cut at the first place of a byte: their lines, and their words.
use Rattle.std.proofs.Common.{◌≡◌, ◌≢◌, ◌<◌, ◌≤◌, ◌+◌, ◌==◌, ◌∙◌, ℕ, zero, suc, Bool, true, false, List, Option, Some, None, IfSome, MatchOption, is_some, eq-eqb, [], ◌∷◌, ◌++◌, take, drop, get_or, length, ◌-◌, if◌then◌else◌, refl, sym, ap, arith}
use Rattle.std.proofs.lemmas.Bool.{ne_eqb, eqb-true}
use Rattle.memchr.specs.Find.{IsFirstByte, is_byte}
use Rattle.std.proofs.lemmas.List.{take-append-drop, drop_more, get_or-take, length-take-le, take_rest}
use Rattle.session_words.specs.Lines.{first_line, behind_first, before_lines, whole_lines, Lacks, StandsFirst}
use Rattle.session_words.specs.Requests.{before_words, words_of}

pub lacks-tail : (byte x : ℕ) (xs : List ℕ) → Lacks byte (x ∷ xs) → Lacks byte xs
lacks-tail byte x xs lacks = λ k low. lacks (suc k) (let below : k < length xs = low in omega arith)

pub lacks-head : (byte x : ℕ) (xs : List ℕ) → Lacks byte (x ∷ xs) → (x == byte) ≡ false
lacks-head byte x xs lacks = ne_eqb x byte (lacks 0 (omega arith))

pub lacks-none : (byte : ℕ) → Lacks byte []
lacks-none byte = λ k low. absurd (omega arith)

pub lacks-both : (byte : ℕ) (xs ys : List ℕ) → Lacks byte xs → Lacks byte ys → Lacks byte (xs ++ ys)
lacks-both byte [] ys front back = back
lacks-both byte (x ∷ xs) ys front back = lacks-more (front 0 (omega arith)) (lacks-both byte xs ys (lacks-tail byte x xs front) back)
  where
    lacks-more : x ≢ byte → Lacks byte (xs ++ ys) → Lacks byte (x ∷ xs ++ ys)
    lacks-more head tail zero low = head
    lacks-more head tail (suc k) low = tail k (let below : suc k < suc (length (xs ++ ys)) = low in omega arith)

-- the lines of bytes that are cut at their first newline
pub first_line-cut : (line rest : List ℕ) → Lacks 10 line → first_line (line ++ 10 ∷ rest) ≡ line
first_line-cut [] rest lacks = refl
first_line-cut (x ∷ xs) rest lacks = rw (lacks-head 10 x xs lacks) (ap (λ (ys : List ℕ). x ∷ ys) (first_line-cut xs rest (lacks-tail 10 x xs lacks)))

pub behind_first-cut : (line rest : List ℕ) → Lacks 10 line → behind_first (line ++ 10 ∷ rest) ≡ rest
behind_first-cut [] rest lacks = refl
behind_first-cut (x ∷ xs) rest lacks = rw (lacks-head 10 x xs lacks) (behind_first-cut xs rest (lacks-tail 10 x xs lacks))

pub whole_lines-cut : (line rest : List ℕ) → Lacks 10 line → whole_lines (line ++ 10 ∷ rest) ≡ line ∷ whole_lines rest
whole_lines-cut [] rest lacks = refl
whole_lines-cut (x ∷ xs) rest lacks = rw (lacks-head 10 x xs lacks) (ap (before_lines x) (whole_lines-cut xs rest (lacks-tail 10 x xs lacks)))

-- the lines of bytes without a newline
pub first_line-none : (bytes : List ℕ) → Lacks 10 bytes → first_line bytes ≡ bytes
first_line-none [] lacks = refl
first_line-none (x ∷ xs) lacks = rw (lacks-head 10 x xs lacks) (ap (λ (ys : List ℕ). x ∷ ys) (first_line-none xs (lacks-tail 10 x xs lacks)))

pub behind_first-none : (bytes : List ℕ) → Lacks 10 bytes → behind_first bytes ≡ []
behind_first-none [] lacks = refl
behind_first-none (x ∷ xs) lacks = rw (lacks-head 10 x xs lacks) (behind_first-none xs (lacks-tail 10 x xs lacks))

pub whole_lines-none : (bytes : List ℕ) → Lacks 10 bytes → whole_lines bytes ≡ []
whole_lines-none [] lacks = refl
whole_lines-none (x ∷ xs) lacks = rw (lacks-head 10 x xs lacks) (ap (before_lines x) (whole_lines-none xs (lacks-tail 10 x xs lacks)))

-- a front without a newline is a prefix of the first line
pub first_line-on : (front rest : List ℕ) → Lacks 10 front → first_line (front ++ rest) ≡ front ++ first_line rest
first_line-on [] rest lacks = refl
first_line-on (x ∷ xs) rest lacks = rw (lacks-head 10 x xs lacks) (ap (λ (ys : List ℕ). x ∷ ys) (first_line-on xs rest (lacks-tail 10 x xs lacks)))

-- the words of bytes that are cut at their first space, and of bytes without one
pub words_of-cut : (word rest : List ℕ) → Lacks 32 word → words_of (word ++ 32 ∷ rest) ≡ word ∷ words_of rest
words_of-cut [] rest lacks = refl
words_of-cut (x ∷ xs) rest lacks = rw (lacks-head 32 x xs lacks) (ap (before_words x) (words_of-cut xs rest (lacks-tail 32 x xs lacks)))

pub words_of-one : (word : List ℕ) → Lacks 32 word → words_of word ≡ word ∷ []
words_of-one [] lacks = refl
words_of-one (x ∷ xs) lacks = rw (lacks-head 32 x xs lacks) (ap (before_words x) (words_of-one xs (lacks-tail 32 x xs lacks)))

-- what is before the first place of a byte, and after it
pub first-place : (byte : ℕ) (bytes : List ℕ) (place : ℕ) → place < length bytes → get_or bytes place 0 ≡ byte
    → ((k : ℕ) → k < place → get_or bytes k 0 ≢ byte) → StandsFirst byte bytes place
first-place byte bytes place low here before = record {
  within = low;
  cut = record {
    whole = sym (take-append-drop place bytes) ∙ ap (λ (ys : List ℕ). take place bytes ++ ys) (drop_more bytes place 0 low ∙ ap (λ (x : ℕ). x ∷ drop (place + 1) bytes) here);
    lacks = λ k below.
        let short : k < place = omega (arith, below, length-take-le place bytes (omega arith)) in
        λ is. before k short (sym (get_or-take place bytes k 0 short) ∙ is);
  };
}

-- what a search of a byte finds
pub stands-first : (byte : ℕ) (bytes : List ℕ) (found : Option ℕ) → IsFirstByte (is_byte byte) bytes found → IfSome found (λ place. StandsFirst byte bytes place)
stands-first byte bytes None is = tt
stands-first byte bytes (Some place) is =
    first-place byte bytes place is.0.high (eqb-true (get_or bytes place 0) byte is.1) (λ k below same. is.0.before k (omega arith) below (eq-eqb (get_or bytes k 0) byte same))

pub lacks-all : (byte : ℕ) (bytes : List ℕ) (found : Option ℕ) → IsFirstByte (is_byte byte) bytes found → found ≡ None → Lacks byte bytes
lacks-all byte bytes None is none = λ k low same. is k (omega arith) low (eq-eqb (get_or bytes k 0) byte same)
lacks-all byte bytes (Some place) is none = absurd (cc)

-- the first word, and those after the space
pub first-word : (line : List ℕ) (end : ℕ) → StandsFirst 32 line end
    → words_of line ≡ take end line ∷ words_of (take (length line - (end + 1)) (drop (end + 1) line))
first-word line end stands =
    ap words_of stands.cut.whole ∙ words_of-cut (take end line) (drop (end + 1) line) stands.cut.lacks
    ∙ ap (λ (rest : List ℕ). take end line ∷ words_of rest) (sym (take_rest line (end + 1)))

-- a line has a word
before-some : (byte : ℕ) (words : List (List ℕ)) → 1 ≤ length (before_words byte words)
before-some byte [] = omega arith
before-some byte (word ∷ words) = omega arith

pub words_of-some : (line : List ℕ) → 1 ≤ length (words_of line)
words_of-some [] = omega arith
words_of-some (x ∷ xs) = either (x == 32) (before-some x (words_of xs))
  where
    either : (t : Bool) → 1 ≤ length (before_words x (words_of xs)) → 1 ≤ length (if t then [] ∷ words_of xs else before_words x (words_of xs))
    either true some = omega arith
    either false some = some

-- a word that is not the last one
pub more-words : {A : Type 0} (line_of : A → List ℕ) (words : List (List ℕ)) (word : List ℕ) (behind : Option A) → is_some behind ≡ true
    → MatchOption behind (words ≡ word ∷ []) (λ rest. words ≡ word ∷ words_of (line_of rest)) → (get_or words 0 [] ≡ word) × (2 ≤ length words)
more-words line_of words word None some is = absurd (cc)
more-words line_of words word (Some rest) some is =
    (ap (λ (ws : List (List ℕ)). get_or ws 0 []) is, omega (arith, ap (λ (ws : List (List ℕ)). length ws) is, words_of-some (line_of rest)))
