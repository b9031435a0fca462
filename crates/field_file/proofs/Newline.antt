-- A newline after a printed text changes nothing of what is read.
use Rattle.std.proofs.Common.{◌≡◌, ℕ, Bool, true, false, cond, ◌&&◌, List, [], ◌∷◌, ◌++◌, Some, option_and_then, refl, sym, ap, ap₂, ◌∙◌, append_assoc}
use Rattle.std.proofs.lemmas.Str.{IsUtf8-append}
use Rattle.std.specs.Prelude.{IsUtf8}
use Rattle.json.specs.Token.{Token, begin_object, end_object, begin_array, end_array, key, string, number, boolean, null, bad}
use Rattle.json.specs.Word.{ends_word, word}
use Rattle.json.specs.Lex.{Lexeme, token, comma, colon, string_token, lex, between, fresh, punctuate, tokens}
use Rattle.json.specs.Print.{escape, quoted, token_text, begins, ends, print_from, print, IsPrintableOrBad, ArePrintableOrBad}
use Rattle.json.specs.Json as json
use Rattle.json.proofs.Printed.Strings.{content-escape, lex-escape}
use Rattle.json.proofs.Printed.Numbers.{lex-number, in_word-ended}
use Rattle.json.proofs.Printed.Utf8.{IsUtf8-are_ascii}
use Rattle.json.proofs.Numbered.{ArePrintableOrBad-tokens}
use Rattle.serde_json.specs.Data.{Data}
use Rattle.serde_json.specs.Read.{of_json, max_depth, read}
use Rattle.scenario_read.specs.Answers.{Reads}

-- the lexemes of a token
abbrev token_lexemes : Token → List Lexeme
token_lexemes begin_object = token begin_object ∷ []
token_lexemes end_object = token end_object ∷ []
token_lexemes begin_array = token begin_array ∷ []
token_lexemes end_array = token end_array ∷ []
token_lexemes (key s) = token (string s) ∷ colon ∷ []
token_lexemes (string s) = token (string s) ∷ []
token_lexemes (number s) = token (number s) ∷ []
token_lexemes (boolean b) = token (boolean b) ∷ []
token_lexemes null = token null ∷ []
token_lexemes bad = []

lex-quoted : (s r : List ℕ) → lex between (quoted s ++ r) ≡ token (string s) ∷ lex between r
unfolding lex
lex-quoted s r =
    let e = append_assoc (escape s) (34 ∷ []) r in
    ap (λ l. lex between (34 ∷ l)) e ∙ ap₂ (λ o l. token (string_token o) ∷ l) (content-escape s r) (lex-escape s r)

lex-token : (t : Token) (r : List ℕ) → IsPrintableOrBad t → (ends t ≡ true → ends_word r ≡ true) → lex between (token_text t ++ r) ≡ token_lexemes t ++ lex between r
unfolding lex word
lex-token begin_object r h ended = refl
lex-token end_object r h ended = refl
lex-token begin_array r h ended = refl
lex-token end_array r h ended = refl
lex-token (key s) r h ended = ap (lex between) (append_assoc (quoted s) (58 ∷ []) r) ∙ lex-quoted s (58 ∷ r)
lex-token (string s) r h ended = lex-quoted s r
lex-token (number s) r h ended = lex-number s r h (ended refl)
lex-token (boolean true) r h ended = ap₂ (λ b l. token (cond b (boolean true) bad) ∷ l) (ended refl) (in_word-ended r (ended refl))
lex-token (boolean false) r h ended = ap₂ (λ b l. token (cond b (boolean false) bad) ∷ l) (ended refl) (in_word-ended r (ended refl))
lex-token null r h ended = ap₂ (λ b l. token (cond b null bad) ∷ l) (ended refl) (in_word-ended r (ended refl))
lex-token bad r h ended = refl

-- a value is followed by a comma, a closing bracket or the end of all
value_ends : (ts : List Token) (r : List ℕ) → ends_word r ≡ true → ends_word (print_from true ts ++ r) ≡ true
unfolding print_from
value_ends [] r h = h
value_ends (begin_object ∷ ts) r h = refl
value_ends (end_object ∷ ts) r h = refl
value_ends (begin_array ∷ ts) r h = refl
value_ends (end_array ∷ ts) r h = refl
value_ends (key s ∷ ts) r h = refl
value_ends (string s ∷ ts) r h = refl
value_ends (number s ∷ ts) r h = refl
value_ends (boolean b ∷ ts) r h = refl
value_ends (null ∷ ts) r h = refl
value_ends (bad ∷ ts) r h = refl

lex-comma : (b : Bool) (r : List ℕ) → lex between (cond b (44 ∷ []) [] ++ r) ≡ cond b (comma ∷ []) [] ++ lex between r
unfolding lex
lex-comma true r = refl
lex-comma false r = refl

lex-printed : (c : Bool) (ts : List Token) (r : List ℕ) → ends_word r ≡ true → lex between r ≡ [] → ArePrintableOrBad ts
    → lex between (print_from c ts ++ r) ≡ lex between (print_from c ts ++ [])
unfolding print_from lex
lex-printed c [] r h none p = none
lex-printed c (t ∷ ts) r h none p =
    let parts : (s : List ℕ) → ends_word s ≡ true
    → lex between (print_from c (t ∷ ts) ++ s) ≡ cond (c && begins t) (comma ∷ []) [] ++ (token_lexemes t ++ lex between (print_from (ends t) ts ++ s)) = λ s ended.
    ap (lex between) (append_assoc (cond (c && begins t) (44 ∷ []) []) (token_text t ++ print_from (ends t) ts) s
    ∙ ap (λ l. cond (c && begins t) (44 ∷ []) [] ++ l) (append_assoc (token_text t) (print_from (ends t) ts) s))
    ∙ lex-comma (c && begins t) (token_text t ++ (print_from (ends t) ts ++ s))
    ∙ ap (λ l. cond (c && begins t) (comma ∷ []) [] ++ l)
    (lex-token t (print_from (ends t) ts ++ s) p.0 (λ e. ap (λ b. ends_word (print_from b ts ++ s)) e ∙ value_ends ts s ended)) in
    parts r h ∙ ap (λ l. cond (c && begins t) (comma ∷ []) [] ++ (token_lexemes t ++ l)) (lex-printed (ends t) ts r h none p.1) ∙ sym (parts [] refl)

ended-list : (s : List ℕ) → s ++ [] ≡ s
ended-list [] = refl
ended-list (x ∷ s) = ap (λ l. x ∷ l) (ended-list s)

newline-none : lex between (10 ∷ []) ≡ []
unfolding lex
newline-none = refl

same-tokens : (text : List ℕ) → text ≡ print (tokens text) → tokens (text ++ 10 ∷ []) ≡ tokens text
same-tokens text printed =
    let ts : List Token = tokens text in
    let longer : lex between (print ts ++ 10 ∷ []) ≡ lex between (print ts ++ []) = lex-printed false ts (10 ∷ []) refl newline-none (ArePrintableOrBad-tokens text) in
    ap (λ l. punctuate fresh (lex between (l ++ 10 ∷ []))) printed ∙ ap (punctuate fresh) longer ∙ ap (λ l. punctuate fresh (lex between l)) (ended-list (print ts) ∙ sym printed)

pub reads-behind : (text : List ℕ) (d : Data) → text ≡ print (tokens text) → IsUtf8 text → read text ≡ Some d → Reads (text ++ 10 ∷ []) d
reads-behind text d printed utf8 e = (
  IsUtf8-append text (10 ∷ []) utf8 (IsUtf8-are_ascii (10 ∷ []) refl),
  ap (λ ts. option_and_then of_json (option_and_then (λ p. json.if_last p.0 p.1) (json.value max_depth ts))) (same-tokens text printed) ∙ e,
)
