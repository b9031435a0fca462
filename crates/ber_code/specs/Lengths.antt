-- Tags and lengths in the definite form (ITU-T X.690, 8.1.2 and 8.1.3).
use Rattle.std.specs.Prelude.{◌≡◌, ℕ, ◌+◌, ◌*◌, ◌/◌, ◌%◌, ◌<◌, ◌≤◌, ◌⊎◌, List, [], ◌∷◌, ◌++◌, length, fold, nat_lt, if◌then◌else◌}

-- the number that these octets are in base 256, high octet first
abbrev pub big_endian : List ℕ → ℕ
big_endian octets = fold (λ n octet. n * 256 + octet) 0 octets

-- the octets are the length `n`. One octet below 128 is the length itself. Otherwise the first octet is 128 plus the
-- number of the octets after it (1 to 4), and these are the length in base 256
abbrev pub IsLength : List ℕ → ℕ → Type 0
IsLength [] n = ⊥
IsLength (first ∷ more) n = ((first < 128) × (more ≡ []) × (n ≡ first))
    ⊎ ((129 ≤ first) × (first ≤ 132) × (first ≡ 128 + length more) × (n ≡ big_endian more))

-- the shortest text of a length below 2 ^ 32
unfoldable pub length_text : ℕ → List ℕ
length_text n =
    if nat_lt n 128 then n ∷ []
    else if nat_lt n 256 then 129 ∷ n ∷ []
    else if nat_lt n 65536 then 130 ∷ (n / 256) ∷ (n % 256) ∷ []
    else if nat_lt n 16777216 then 131 ∷ (n / 256 / 256) ∷ (n / 256 % 256) ∷ (n % 256) ∷ []
    else 132 ∷ (n / 256 / 256 / 256) ∷ (n / 256 / 256 % 256) ∷ (n / 256 % 256) ∷ (n % 256) ∷ []

-- the text is the tag, the length of the content, and the content
abbrev pub IsTagged : ℕ → List ℕ → List ℕ → Type 0
IsTagged tag text content = (len : List ℕ) × IsLength len (length content) × (text ≡ tag ∷ (len ++ content))

-- the tag, and then the shortest length of a content with `size` octets
abbrev pub head_text : ℕ → ℕ → List ℕ
head_text tag size = tag ∷ length_text size

-- the tag, the shortest length of the content, and the content
abbrev pub tagged_text : ℕ → List ℕ → List ℕ
tagged_text tag content = head_text tag (length content) ++ content

-- the text is an OCTET STRING (8.7, in one piece): its octets under tag 4
abbrev pub IsOctets : List ℕ → List ℕ → Type 0
IsOctets text octets = IsTagged 4 text octets
