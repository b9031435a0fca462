-- What the reading of octets computes: a value and the octets after it, or nothing. The other clauses of the calls
-- state that this agrees with the grammar.
use Rattle.std.specs.Prelude.{◌≡◌, ℕ, zero, suc, ◌+◌, ◌-◌, ◌*◌, ◌%◌, ℤ, ◌||◌, ◌==◌, List, [], ◌∷◌, ◌++◌, length, take, drop, Option, Some, None, nat_lt, nat_le, if◌then◌else◌}
use Rattle.ber_code.specs.Lengths.{big_endian}
use Rattle.ber_code.specs.Integers.{has_idle_octet, twos_complement}

infixl 10 ◌>>=◌
-- the next step of reading, with the result of the step before; None if that step read nothing
abbrev pub ◌>>=◌ : {A B : Type 0} → Option A → (A → Option B) → Option B
(Some x) >>= f = f x
None >>= f = None

-- the result of a call, as `view` shows it, is equal to the result of reading
abbrev pub Gives : {X Y : Type 0} → (X → Y) → Option X → Option Y → Type 0
Gives view (Some x) read = read ≡ Some (view x)
Gives view None read = read ≡ None

-- if the octets begin with a text of a value, the call returns this value and the octets after the text
abbrev pub ReadsEach : {X A : Type 0} → (List ℕ → A → Type 0) → (X → A × List ℕ) → List ℕ → Option X → Type 0
ReadsEach {X} {A} IsText view bytes result = (text rest : List ℕ) (value : A) → IsText text value → bytes ≡ text ++ rest → Gives view result (Some (value, rest))

-- a length and the octets after it
unfoldable pub length_at : List ℕ → Option (ℕ × List ℕ)
length_at [] = None
length_at (first ∷ rest) =
    if nat_lt first 128 then Some (first, rest)
    else if first == 128 || nat_lt 132 first then None
    else if nat_lt (length rest) (first - 128) then None
    else Some (big_endian (take (first - 128) rest), drop (first - 128) rest)

-- the content after its length, and the octets after it
unfoldable pub content_at : List ℕ → Option (List ℕ × List ℕ)
content_at bytes = do
  n ← length_at bytes
  if nat_lt (length n.1) n.0 then None else Some (take n.0 n.1, drop n.0 n.1)

-- the content after this tag and its length, and the octets after it
unfoldable pub tagged_at : ℕ → List ℕ → Option (List ℕ × List ℕ)
tagged_at tag [] = None
tagged_at tag (first ∷ rest) = if first == tag then content_at rest else None

-- a number and the octets after it
unfoldable pub integer_at : List ℕ → Option (ℤ × List ℕ)
integer_at bytes = do
  c ← tagged_at 2 bytes
  if length c.0 == 0 || nat_lt 4 (length c.0) || has_idle_octet c.0 then None else Some (twos_complement c.0, c.1)

-- an arc whose first octets have given the number `so_far`, and the octets after it
unfoldable pub arc_from : ℕ → List ℕ → Option (ℕ × List ℕ)
arc_from so_far [] = None
arc_from so_far (octet ∷ rest) =
    if nat_le 33554432 so_far then None
    else if nat_lt octet 128 then Some (so_far * 128 + octet % 128, rest)
    else arc_from (so_far * 128 + octet % 128) rest

-- an arc and the octets after it
unfoldable pub arc_at : List ℕ → Option (ℕ × List ℕ)
arc_at [] = None
arc_at (first ∷ rest) = if first == 128 then None else arc_from 0 (first ∷ rest)

-- at most this many values, up to the end of the octets
unfoldable pub all_at : {A : Type 0} → (List ℕ → Option (A × List ℕ)) → ℕ → List ℕ → Option (List A)
all_at read zero [] = Some []
all_at read zero (octet ∷ rest) = None
all_at read (suc n) [] = Some []
all_at read (suc n) (octet ∷ rest) = do
  first ← read (octet ∷ rest)
  others ← all_at read n first.1
  Some (first.0 ∷ others)

-- the values read before, followed by the values still to be read
abbrev pub with_front : {A : Type 0} → List A → Option (List A) → Option (List A)
with_front front read = read >>= λ more. Some (front ++ more)

-- the first arc of a name, by the octet of its first two arcs
abbrev pub root_of : ℕ → ℕ
root_of first = if nat_lt first 40 then 0 else if nat_lt first 80 then 1 else 2

-- the first two arcs of a name, followed by the later arcs in these octets
abbrev pub with_later : ℕ → ℕ → List ℕ → Option (List ℕ)
with_later first second octets = all_at arc_at 30 octets >>= λ later. Some (first ∷ second ∷ later)

-- the arcs in the contents of a name
unfoldable pub arcs_of : List ℕ → Option (List ℕ)
arcs_of [] = None
arcs_of (first ∷ more) = if nat_lt first 128 then with_later (root_of first) (first - 40 * root_of first) more else None

-- a name and the octets after it
unfoldable pub name_at : List ℕ → Option (List ℕ × List ℕ)
name_at bytes = do
  c ← tagged_at 6 bytes
  arcs ← arcs_of c.0
  Some (arcs, c.1)
