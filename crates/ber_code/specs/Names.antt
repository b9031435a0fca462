-- An OBJECT IDENTIFIER of 2 to 32 arcs (ITU-T X.690, 8.19).
use Rattle.std.specs.Prelude.{◌≡◌, ◌≢◌, ℕ, ◌+◌, ◌*◌, ◌/◌, ◌%◌, ◌<◌, ◌≤◌, List, [], ◌∷◌, length, fold, nat_lt, if◌then◌else◌}
use Rattle.std.specs.List.{flat_map}
use Rattle.ber_code.specs.Fields.{AreTexts}
use Rattle.ber_code.specs.Lengths.{IsTagged, tagged_text}

-- the number that the low seven bits of these octets are in base 128, high octet first
abbrev pub base_128 : List ℕ → ℕ
base_128 octets = fold (λ n octet. n * 128 + octet % 128) 0 octets

-- each octet except the last has its high bit set
abbrev pub RunsOn : List ℕ → Type 0
RunsOn [] = ⊥
RunsOn (last ∷ []) = last < 128
RunsOn (octet ∷ next ∷ more) = (128 ≤ octet) × RunsOn (next ∷ more)

-- the first octet isn't 128, which would add nothing to the number
abbrev pub IsTight : List ℕ → Type 0
IsTight [] = ⊥
IsTight (first ∷ more) = first ≢ 128

-- the octets are this arc, which is below 2 ^ 32 (8.19.2)
pub record IsArc (octets : List ℕ) (arc : ℕ) : Type 0 where
  pub runs_on : RunsOn octets
  pub tight : IsTight octets
  pub number : arc ≡ base_128 octets
  pub fits : arc < 4294967296

-- the first two arcs of a name are valid. The first is 0, 1 or 2. The second is below 40 if the first is 0 or 1, and
-- below 48 if the first is 2, so that one octet below 128 holds both (8.19.4)
pub record AreFirstArcs (first second : ℕ) : Type 0 where
  pub root : first ≤ 2
  pub under_root : first < 2 → second < 40
  pub under_last : first ≡ 2 → second < 48

-- the octets are the contents of a name with these arcs: one octet for the first two arcs, and then each of at most
-- 30 later arcs
abbrev pub AreNameContents : List ℕ → List ℕ → Type 0
AreNameContents octets [] = ⊥
AreNameContents octets (first ∷ []) = ⊥
AreNameContents octets (first ∷ second ∷ later) =
    AreFirstArcs first second × (length later ≤ 30) × (more : List ℕ) × (octets ≡ (40 * first + second) ∷ more) × AreTexts IsArc more later

-- the text is tag 6 with such octets as its content
abbrev pub IsName : List ℕ → List ℕ → Type 0
IsName text arcs = (octets : List ℕ) × AreNameContents octets arcs × IsTagged 6 text octets

-- the name can be written: it has 2 to 32 arcs, and its first two arcs are valid
abbrev pub IsWritable : List ℕ → Type 0
IsWritable [] = ⊥
IsWritable (first ∷ []) = ⊥
IsWritable (first ∷ second ∷ later) = AreFirstArcs first second × (length later ≤ 30)

-- the octets of an arc in base 128, high octet first; each octet except the last has its high bit set
unfoldable pub arc_text : ℕ → List ℕ
arc_text n =
    let n1 = n / 128 in
    let n2 = n1 / 128 in
    let n3 = n2 / 128 in
    if nat_lt n 128 then n ∷ []
    else if nat_lt n1 128 then (128 + n1) ∷ (n % 128) ∷ []
    else if nat_lt n2 128 then (128 + n2) ∷ (128 + n1 % 128) ∷ (n % 128) ∷ []
    else if nat_lt n3 128 then (128 + n3) ∷ (128 + n2 % 128) ∷ (128 + n1 % 128) ∷ (n % 128) ∷ []
    else (128 + n3 / 128) ∷ (128 + n3 % 128) ∷ (128 + n2 % 128) ∷ (128 + n1 % 128) ∷ (n % 128) ∷ []

-- the contents of a name
abbrev pub name_octets : List ℕ → List ℕ
name_octets [] = []
name_octets (first ∷ []) = []
name_octets (first ∷ second ∷ later) = (40 * first + second) ∷ flat_map arc_text later

-- the shortest text of a name
unfoldable pub name_text : List ℕ → List ℕ
name_text arcs = tagged_text 6 (name_octets arcs)
