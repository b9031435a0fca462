-- The compact text of a value is one line: a string has its newlines escaped, and nothing else has any.
use Rattle.std.proofs.Common.{◌≡◌, ◌≢◌, ◌/◌, ◌%◌, ◌+◌, ◌==◌, ◌||◌, ℕ, zero, suc, pos, negsuc, ℤ, Bool, true, false, cond, nat_lt, List, [], ◌∷◌, ◌++◌}
use Rattle.std.proofs.Common.{decimal, refl, subst, arith}
use Rattle.std.proofs.lemmas.Bool.{false≢true, ltb-false}
use Rattle.std.specs.Char.{digit_char}
use Rattle.std.specs.Fmt.{digit_glyph, digits_onto, digits, signed_decimal}
use Rattle.json.specs.Print.{escape_letter, escape_byte, escape, quoted}
use Rattle.serde_json.specs.Data.{Num, unsigned, negative, float, Data, null, boolean, number, string, array, object, Items, no_items, item, Members}
use Rattle.serde_json.specs.Data.{no_members, member}
use Rattle.serde_json.specs.Written.{number_text, comma_if, compact_text, items_text, members_text}
use Rattle.trace_text.specs.Words.{Lacks}

-- a text without newlines
abbrev pub OneLine : List ℕ → Type 0
OneLine [] = Unit {0}
OneLine (x ∷ xs) = (x ≢ 10) × OneLine xs

pub line-lacks : (xs : List ℕ) → OneLine xs → Lacks 10 xs
line-lacks [] h k below = absurd (omega (arith, below))
line-lacks (x ∷ xs) h zero below = h.0
line-lacks (x ∷ xs) h (suc k) below = line-lacks xs h.1 k (omega (arith, below))

both-lines : (xs ys : List ℕ) → OneLine xs → OneLine ys → OneLine (xs ++ ys)
both-lines [] ys a b = b
both-lines (x ∷ xs) ys a b = (a.0, both-lines xs ys a.1 b)

-- ---- numbers

either-not : (b : Bool) (x y : ℕ) → x ≢ 10 → y ≢ 10 → cond b x y ≢ 10
either-not true x y p q = p
either-not false x y p q = q

glyph-not : (d : ℕ) → digit_glyph false d ≢ 10
glyph-not d = either-not (nat_lt d 10) (48 + d) (87 + d) (omega arith) (omega arith)

either-line : (b : Bool) (xs ys : List ℕ) → OneLine xs → OneLine ys → OneLine (cond b xs ys)
either-line true xs ys p q = p
either-line false xs ys p q = q

digits-line : (k n : ℕ) (more : List ℕ) → OneLine more → OneLine (digits_onto k 10 false n more)
digits-line zero n more h = h
digits-line (suc k) n more h =
    let longer : OneLine (digit_glyph false (n % 10) ∷ more) = (glyph-not (n % 10), h) in
    either-line (n / 10 == 0) (digit_glyph false (n % 10) ∷ more) (digits_onto k 10 false (n / 10) (digit_glyph false (n % 10) ∷ more)) longer
    (digits-line k (n / 10) (digit_glyph false (n % 10) ∷ more) longer)

decimal-line : (n : ℕ) → OneLine (decimal n)
unfolding digits
decimal-line n = digits-line 64 n [] tt

signed-line : (z : ℤ) → OneLine (signed_decimal z)
signed-line (pos n) = decimal-line n
signed-line (negsuc n) = (omega arith, decimal-line (suc n))

number-line : (n : Num) → OneLine (number_text n)
number-line (unsigned n) = decimal-line n
number-line (negative z) = signed-line z
number-line (float x) = tt

-- ---- strings

quote-not : (x : ℕ) (b : Bool) (y : ℕ) → ((x == 34) || (x == 92)) ≡ b → y ≢ 10 → cond b x y ≢ 10
quote-not x true y e q = λ is. false≢true (subst (λ (n : ℕ). ((n == 34) || (n == 92)) ≡ true) is e)
quote-not x false y e q = q

letter-not : (x : ℕ) → escape_letter x ≢ 10
letter-not x =
    quote-not x ((x == 34) || (x == 92)) _ refl
    (either-not (x == 8) 98 _ (omega arith)
    (either-not (x == 12) 102 _ (omega arith)
    (either-not (x == 10) 110 _ (omega arith)
    (either-not (x == 13) 114 _ (omega arith)
    (either-not (x == 9) 116 0 (omega arith) (omega arith))))))

digit-not : (d : ℕ) → digit_char d ≢ 10
digit-not d = either-not (nat_lt d 10) (48 + d) (87 + d) (omega arith) (omega arith)

plain-line : (x : ℕ) (b : Bool) (xs : List ℕ) → nat_lt x 32 ≡ b → OneLine xs → OneLine (cond b xs (x ∷ []))
plain-line x true xs e h = h
plain-line x false xs e h = (omega (arith, ltb-false x 32 e), tt)

escaped-line : (x : ℕ) → OneLine (escape_byte x)
unfolding escape_byte
escaped-line x =
    either-line (nat_lt 0 (escape_letter x)) (92 ∷ escape_letter x ∷ []) _ (omega arith, (letter-not x, tt))
    (plain-line x (nat_lt x 32) (92 ∷ 117 ∷ 48 ∷ 48 ∷ digit_char (x / 16) ∷ digit_char (x % 16) ∷ []) refl
    (omega arith, (omega arith, (omega arith, (omega arith, (digit-not (x / 16), (digit-not (x % 16), tt)))))))

escape-line : (s : List ℕ) → OneLine (escape s)
escape-line [] = tt
escape-line (x ∷ s) = both-lines (escape_byte x) (escape s) (escaped-line x) (escape-line s)

quoted-line : (s : List ℕ) → OneLine (quoted s)
quoted-line s = (omega arith, both-lines (escape s) (34 ∷ []) (escape-line s) (omega arith, tt))

comma-line : (later : Bool) → OneLine (comma_if later)
comma-line true = (omega arith, tt)
comma-line false = tt

word-line : (b : Bool) → OneLine (compact_text (boolean b))
word-line true = (omega arith, (omega arith, (omega arith, (omega arith, tt))))
word-line false = (omega arith, (omega arith, (omega arith, (omega arith, (omega arith, tt)))))

mutual
  pub compact-line : (d : Data) → OneLine (compact_text d)
  compact-line null = (omega arith, (omega arith, (omega arith, (omega arith, tt))))
  compact-line (boolean b) = word-line b
  compact-line (number n) = number-line n
  compact-line (string s) = quoted-line s
  compact-line (array ds) = (omega arith, items-line false ds)
  compact-line (object ms) = (omega arith, members-line false ms)

  items-line : (later : Bool) (ds : Items) → OneLine (items_text later ds)
  items-line later no_items = (omega arith, tt)
  items-line later (item d ds) =
      both-lines (comma_if later) (compact_text d ++ items_text true ds) (comma-line later)
      (both-lines (compact_text d) (items_text true ds) (compact-line d) (items-line true ds))

  members-line : (later : Bool) (ms : Members) → OneLine (members_text later ms)
  members-line later no_members = (omega arith, tt)
  members-line later (member k d ms) =
      both-lines (comma_if later) (quoted k ++ 58 ∷ (compact_text d ++ members_text true ms)) (comma-line later)
      (both-lines (quoted k) (58 ∷ (compact_text d ++ members_text true ms)) (quoted-line k)
      (omega arith, both-lines (compact_text d) (members_text true ms) (compact-line d) (members-line true ms)))
