-- A cell without faults is one that there is, with what it can hold, and lists are of octets; so is every text.
use Rattle.std.proofs.Common.{◌≡◌, ◌≤◌, ◌<◌, ◌+◌, ◌==◌, ◌&&◌, ℕ, suc, Bool, true, false, nat_le, if◌then◌else◌, List, [], ◌∷◌, length, Option, Some, None, Result, Ok, Err}
use Rattle.std.proofs.Common.{refl, arith}
use Rattle.std.proofs.lemmas.Bool.{leb-true, and_parts}
use Rattle.hex.specs.declared.error.FromHexError.{FromHexError}
use Rattle.hex.specs.Hex.{IsBytes, decode_of}
use Rattle.hex.proofs.HexLemmas.{decode_of-ok}
use Rattle.serde_json.specs.Data.{unsigned, negative, float, Data, null, boolean, number, string, array, object}
use Rattle.sig_tables.specs.declared.cells.Cell.{Cell}
use Rattle.sig_tables.specs.declared.cells.Cell.TheVariants.{Phase, Sequence, Split, Pattern, Preempt, Unit as UnitCell}
use Rattle.sig_tables.specs.declared.cells.Allowed.{Allowed}
use Rattle.sig_tables.specs.declared.cells.Allowed.TheVariants.{Numbers, Lists}
use Rattle.sig_tables.specs.Cells.{Content, IsShort, is_cell}
use Rattle.sig_tables.specs.Ranges.{allowed_in}
use Rattle.sig_tables.proofs.CellTests.{is-cell-true}
use Rattle.snmp_msg.specs.Shortest.{AreOctets}
use Rattle.scenario_read.specs.Paths.{Step}
use Rattle.scenario_read.specs.Kinds.{Fits, Wrong, all_printable, within, text}
use Rattle.scenario_read.specs.CellLists.{put_value, put_in, content_in, item_count, value_place, octets_in, octets_of, octets_fits, decoded_fits, content_fits, listed_cell, listed_fits, cell, cell_of, hex_text}
use Rattle.scenario_read.specs.Content.{text_of}
use Rattle.scenario_read.proofs.NoFaults.{fits-alone}
use Rattle.master_load.specs.Downloads.{IsPut}
use Rattle.runnable.specs.Octets.{HoldsOctets}
use Rattle.scenario_checked.proofs.RangesParts.{in-range}

-- bytes are octets
pub bytes-are : (xs : List ℕ) → IsBytes xs → AreOctets xs
bytes-are [] all = tt
bytes-are (x ∷ xs) all = (all 0, bytes-are xs (λ i. all (suc i)))

-- the octets that a text without faults says
decoded-in : (most : ℕ) (text : List ℕ) (r : Result (List ℕ) FromHexError) → decode_of text ≡ r → decoded_fits most r ≡ Fits
    → (length (octets_in r) ≤ most) × AreOctets (octets_in r)
decoded-in most text (Ok octets) is e = ((in-range 0 most (length octets) e).1, bytes-are octets (decode_of-ok text octets is).3)
decoded-in most text (Err error) is e = absurd (cc)

octets-in-text : (most : ℕ) (d : Data) → octets_fits most d ≡ Fits → (length (octets_of d) ≤ most) × AreOctets (octets_of d)
octets-in-text most null e = absurd (cc)
octets-in-text most (boolean b) e = absurd (cc)
octets-in-text most (number n) e = absurd (cc)
octets-in-text most (string s) e = decoded-in most s (decode_of s) refl e
octets-in-text most (array ds) e = absurd (cc)
octets-in-text most (object ms) e = absurd (cc)

pub hex-in : (most : ℕ) (path : List Step) (d : Data) → hex_text most path d ≡ [] → AreOctets (octets_of d)
hex-in most path d e = (octets-in-text most d (fits-alone path (octets_fits most d) e)).1

-- a text of printable characters
printable-in : (s : List ℕ) → all_printable s ≡ true → AreOctets s
printable-in [] e = tt
printable-in (x ∷ s) e =
    let parts = and_parts (nat_le 32 x && nat_le x 126) (all_printable s) e in
    let high : x ≤ 126 = leb-true x 126 (and_parts (nat_le 32 x) (nat_le x 126) parts.0).1 in
    (omega (arith, high), printable-in s parts.1)

pub text-in : (least most : ℕ) (path : List Step) (d : Data) → text least most path d ≡ [] → (length (text_of d) ≤ most) × AreOctets (text_of d)
text-in least most path null e = absurd (cc)
text-in least most path (boolean b) e = absurd (cc)
text-in least most path (number n) e = absurd (cc)
text-in least most path (string s) e = from (all_printable s) refl (fits-alone path _ e)
  where
    from : (b : Bool) → all_printable s ≡ b → (if b then within least most (length s) else Wrong) ≡ Fits → (length s ≤ most) × AreOctets s
    from true is k = ((in-range least most (length s) k).1, printable-in s is)
    from false is k = absurd (cc)
text-in least most path (array ds) e = absurd (cc)
text-in least most path (object ms) e = absurd (cc)

-- ---- cells

-- what may be put somewhere is of sixteen bits
abbrev IsNarrow : Allowed → Type 0
IsNarrow (Numbers least most) = most < 65536
IsNarrow Lists = Unit {0}

either-narrow : (b : Bool) (x y : Allowed) → IsNarrow x → IsNarrow y → IsNarrow (if b then x else y)
either-narrow true x y p q = p
either-narrow false x y p q = q

allowed-narrow : (c : Cell) → IsNarrow (allowed_in c)
allowed-narrow (Phase p c) =
    either-narrow (c == 20) (Numbers 1 6) _ (omega arith)
    (either-narrow (c == 21) (Numbers 0 65535) _ (omega arith) (either-narrow (c == 23) Lists (Numbers 0 255) tt (omega arith)))
allowed-narrow (Sequence s r) = tt
allowed-narrow (Split s p c) =
    either-narrow (c == 4) (Numbers 1 7) _ (omega arith) (either-narrow (c == 5) (Numbers 0 1) (Numbers 0 255) (omega arith) (omega arith))
allowed-narrow (Pattern n c) = omega arith
allowed-narrow (Preempt i c) =
    either-narrow (c == 4) (Numbers 0 600) _ (omega arith)
    (either-narrow (c == 5) (Numbers 0 65535) _ (omega arith)
    (either-narrow (c == 11) (Numbers 0 65535) _ (omega arith) (either-narrow (nat_le 12 c) Lists (Numbers 0 255) tt (omega arith))))
allowed-narrow (UnitCell n) =
    either-narrow (n == 1) (Numbers 1 4) _ (omega arith)
    (either-narrow (n == 5) (Numbers 0 65535) _ (omega arith)
    (either-narrow (n == 7) (Numbers 1 2) _ (omega arith) (either-narrow (n == 8) (Numbers 1 2) (Numbers 0 2550) (omega arith) (omega arith))))

-- what fits is short, and of octets
abbrev CanHold : Content → Type 0
CanHold k = IsShort k × HoldsOctets k

content-holds : (allowed : Allowed) (d : Data) → IsNarrow allowed → content_fits allowed d ≡ Fits → CanHold (content_in d)
content-holds (Numbers least most) null narrow e = absurd (cc)
content-holds (Numbers least most) (boolean b) narrow e = absurd (cc)
content-holds (Numbers least most) (number (unsigned n)) narrow e =
    let high : n ≤ most = (in-range least most n e).1 in
    (omega (arith, high, narrow), tt)
content-holds (Numbers least most) (number (negative z)) narrow e = absurd (cc)
content-holds (Numbers least most) (number (float x)) narrow e = absurd (cc)
content-holds (Numbers least most) (string s) narrow e = absurd (cc)
content-holds (Numbers least most) (array ds) narrow e = absurd (cc)
content-holds (Numbers least most) (object ms) narrow e = absurd (cc)
content-holds Lists null narrow e = absurd (cc)
content-holds Lists (boolean b) narrow e = absurd (cc)
content-holds Lists (number n) narrow e = absurd (cc)
content-holds Lists (string s) narrow e = octets-in-text 16 (string s) e
content-holds Lists (array ds) narrow e = absurd (cc)
content-holds Lists (object ms) narrow e = absurd (cc)

listed-holds : (o : Option Cell) (d : Data) → listed_fits o d ≡ Fits → IsPut (put_in o d) × HoldsOctets (put_in o d).1
listed-holds None d e = absurd (cc)
listed-holds (Some c) d e = from (is_cell c) (item_count d == value_place c + 1) refl e
  where
    from : (a b : Bool) → is_cell c ≡ a → (if a && b then content_fits (allowed_in c) (put_value c d) else Wrong) ≡ Fits
        → IsPut (c, content_in (put_value c d)) × HoldsOctets (content_in (put_value c d))
    from true true is k =
        let held = content-holds (allowed_in c) (put_value c d) (allowed-narrow c) k in
        ((is-cell-true c is, held.0), held.1)
    from true false is k = absurd (cc)
    from false b is k = absurd (cc)

pub cell-in : (path : List Step) (d : Data) → cell path d ≡ [] → IsPut (cell_of d) × HoldsOctets (cell_of d).1
cell-in path d e = listed-holds (listed_cell d) d (fits-alone path _ e)
