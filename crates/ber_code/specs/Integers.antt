-- An INTEGER of 1 to 4 octets (ITU-T X.690, 8.3).
use Rattle.std.specs.Prelude.{◌≡◌, ℕ, ◌-◌, ◌/◌, ◌%◌, ◌^◌, ◌≤◌, ℤ, pos, negsuc, Bool, false, ◌&&◌, ◌||◌, ◌==◌, List, [], ◌∷◌, length, nat_lt, nat_le, if◌then◌else◌}
use Rattle.ber_code.specs.Lengths.{big_endian, IsTagged, tagged_text}

-- the first octet isn't needed, because the first nine bits are all equal
abbrev pub has_idle_octet : List ℕ → Bool
has_idle_octet [] = false
has_idle_octet (a ∷ []) = false
has_idle_octet (a ∷ b ∷ more) = (a == 0 && nat_lt b 128) || (a == 255 && nat_le 128 b)

-- the number that these octets are in two's complement; it is below 0 exactly if the first bit is set
abbrev pub twos_complement : List ℕ → ℤ
twos_complement [] = pos 0
twos_complement (first ∷ more) =
    if nat_lt first 128 then pos (big_endian (first ∷ more))
    else negsuc (256 ^ length (first ∷ more) - 1 - big_endian (first ∷ more))

-- the octets are the contents of an INTEGER: 1 to 4 octets, as few as the number needs
pub record AreIntegerContents (octets : List ℕ) (n : ℤ) : Type 0 where
  pub some : 1 ≤ length octets
  pub few : length octets ≤ 4
  pub none_idle : has_idle_octet octets ≡ false
  pub number : n ≡ twos_complement octets

-- the text is tag 2 with such octets as its content
abbrev pub IsInteger : List ℕ → ℤ → Type 0
IsInteger text n = (octets : List ℕ) × AreIntegerContents octets n × IsTagged 2 text octets

-- the number with the same 32 bits as this number in two's complement
abbrev pub word_of : ℤ → ℕ
word_of (pos n) = n
word_of (negsuc n) = 4294967295 - n

-- the number without its sign: the number itself if it is at least 0, otherwise the number with each bit inverted
abbrev pub unsigned_part : ℤ → ℕ
unsigned_part (pos n) = n
unsigned_part (negsuc n) = n

-- the octets of a number in two's complement, as few as possible
unfoldable pub integer_octets : ℤ → List ℕ
integer_octets n =
    let low = word_of n in
    if nat_lt (unsigned_part n) 128 then (low % 256) ∷ []
    else if nat_lt (unsigned_part n) 32768 then (low / 256 % 256) ∷ (low % 256) ∷ []
    else if nat_lt (unsigned_part n) 8388608 then (low / 256 / 256 % 256) ∷ (low / 256 % 256) ∷ (low % 256) ∷ []
    else (low / 256 / 256 / 256 % 256) ∷ (low / 256 / 256 % 256) ∷ (low / 256 % 256) ∷ (low % 256) ∷ []

-- the shortest text of a number
unfoldable pub integer_text : ℤ → List ℕ
integer_text n = tagged_text 2 (integer_octets n)
