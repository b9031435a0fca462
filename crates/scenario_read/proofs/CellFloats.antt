-- A list that is a cell has no float.
use Rattle.std.proofs.Common.{◌≡◌, ℕ, zero, suc, ◌+◌, ◌<◌, ◌≤◌, Bool, true, false, ◌&&◌, ◌==◌, nat_le, if◌then◌else◌, List, Option, Some, None, option_and_then, unwrap_or, bytes_eq, codes, refl, ◌∙◌, subst, arith}
use Rattle.std.proofs.lemmas.Bool.{and_parts, leb-true, leb-false}
use Rattle.std.proofs.lemmas.Bool.Decides.{Decides-eqb}
use Rattle.serde_json.specs.Data.{unsigned, negative, float, Data, null, boolean, number, string, array, object, Items, no_items, item}
use Rattle.serde_json.specs.Find.{get_item, at, as_str}
use Rattle.serde_json.specs.Events.{items_len}
use Rattle.serde_json.specs.Written.{has_float, items_have_float}
use Rattle.sig_tables.specs.declared.cells.Cell.{Cell}
use Rattle.sig_tables.specs.declared.cells.Cell.TheVariants.{Phase, Sequence, Split, Pattern, Preempt, Unit as UnitCell}
use Rattle.sig_tables.specs.declared.cells.Allowed.{Allowed}
use Rattle.sig_tables.specs.declared.cells.Allowed.TheVariants.{Numbers, Lists}
use Rattle.sig_tables.specs.Ranges.{allowed_in}
use Rattle.scenario_read.specs.Kinds.{Fit, Fits, Wrong}
use Rattle.sig_tables.specs.Cells.{lies, is_cell}
use Rattle.scenario_read.specs.CellLists.{octet_of, octet_at, named_cell, listed_cell, value_place, put_value, item_count, content_fits, listed_fits, cell}
use Rattle.scenario_read.proofs.Floatless.{Floatless}
use Rattle.scenario_read.proofs.NoFaults.{fits-alone}

octet-floatless : (v : Data) → 1 ≤ octet_of v → has_float v ≡ false
octet-floatless null h = refl
octet-floatless (boolean b) h = refl
octet-floatless (number (unsigned n)) h = refl
octet-floatless (number (negative z)) h = refl
octet-floatless (number (float x)) h = absurd (omega (arith, h))
octet-floatless (string s) h = refl
octet-floatless (array ds) h = absurd (omega (arith, h))
octet-floatless (object ms) h = absurd (omega (arith, h))

content-floatless : (allowed : Allowed) (v : Data) → content_fits allowed v ≡ Fits → has_float v ≡ false
content-floatless allowed null h = refl
content-floatless allowed (boolean b) h = refl
content-floatless allowed (number (unsigned n)) h = refl
content-floatless allowed (number (negative z)) h = refl
content-floatless (Numbers least most) (number (float x)) h = absurd (cc)
content-floatless Lists (number (float x)) h = absurd (cc)
content-floatless allowed (string s) h = refl
content-floatless (Numbers least most) (array ds) h = absurd (cc)
content-floatless Lists (array ds) h = absurd (cc)
content-floatless (Numbers least most) (object ms) h = absurd (cc)
content-floatless Lists (object ms) h = absurd (cc)

abbrev item_at : ℕ → Items → Data
item_at place ds = unwrap_or (get_item place ds) null

items-floatless : (ds : Items) → ((place : ℕ) → place < items_len ds → has_float (item_at place ds) ≡ false) → items_have_float ds ≡ false
items-floatless no_items each = refl
items-floatless (item d ds) each = rw (each 0 (omega arith)) (items-floatless ds (λ place within. each (suc place) (omega (arith, within))))

-- the numbers after the word name a row or a column
abbrev NamedBy : Data → Cell → Type 0
NamedBy d (Phase p c) = (p ≡ octet_at 1 d) × (c ≡ octet_at 2 d)
NamedBy d (Sequence s r) = (s ≡ octet_at 1 d) × (r ≡ octet_at 2 d)
NamedBy d (Split s p c) = (s ≡ octet_at 1 d) × (p ≡ octet_at 2 d) × (c ≡ octet_at 3 d)
NamedBy d (Pattern n c) = (n ≡ octet_at 1 d) × (c ≡ octet_at 2 d)
NamedBy d (Preempt i c) = (i ≡ octet_at 1 d) × (c ≡ octet_at 2 d)
NamedBy d (UnitCell n) = n ≡ octet_at 1 d

either-way : (P : Cell → Type 0) (b : Bool) (x cell : Cell) (rest : Option Cell) → (if b then Some x else rest) ≡ Some cell → P x → (rest ≡ Some cell → P cell) → P cell
either-way P true x cell rest e here later = subst P (one x cell e) here
  where
    one : (x y : Cell) → Some x ≡ Some y → x ≡ y
    one x y e = cc
either-way P false x cell rest e here later = later e

named-by : (word : List ℕ) (d : Data) (cell : Cell) → named_cell word d ≡ Some cell → NamedBy d cell
named-by word d cell e =
    either-way (NamedBy d) (bytes_eq word (codes "phase")) _ cell _ e (refl, refl) (λ e.
    either-way (NamedBy d) (bytes_eq word (codes "sequence")) _ cell _ e (refl, refl) (λ e.
    either-way (NamedBy d) (bytes_eq word (codes "split")) _ cell _ e (refl, refl, refl) (λ e.
    either-way (NamedBy d) (bytes_eq word (codes "pattern")) _ cell _ e (refl, refl) (λ e.
    either-way (NamedBy d) (bytes_eq word (codes "preempt")) _ cell _ e (refl, refl) (λ e.
    either-way (NamedBy d) (bytes_eq word (codes "unit")) _ cell _ e refl (λ e. absurd (cc)))))))

lies-above : (n least most : ℕ) → lies n least most ≡ true → least ≤ n
lies-above n least most e = leb-true least n (and_parts (nat_le least n) (nat_le n most) e).0

from-octet : (n m : ℕ) (v : Data) → n ≡ octet_of v → m ≤ n → 1 ≤ m → has_float v ≡ false
from-octet n m v is above some = octet-floatless v (omega (arith, is, above, some))

two-octets : (d : Data) (p c a b k l : ℕ) → 1 ≤ a → 1 ≤ b → (lies p a k && lies c b l) ≡ true → p ≡ octet_at 1 d → c ≡ octet_at 2 d
    → (place : ℕ) → 1 ≤ place → place < 3 → has_float (unwrap_or (at place d) null) ≡ false
two-octets d p c a b k l sa sb e ip ic zero low high = absurd (omega (arith, low))
two-octets d p c a b k l sa sb e ip ic (suc zero) low high = from-octet p a (unwrap_or (at 1 d) null) ip (lies-above p a k (and_parts (lies p a k) (lies c b l) e).0) sa
two-octets d p c a b k l sa sb e ip ic (suc (suc zero)) low high = from-octet c b (unwrap_or (at 2 d) null) ic (lies-above c b l (and_parts (lies p a k) (lies c b l) e).1) sb
two-octets d p c a b k l sa sb e ip ic (suc (suc (suc n))) low high = absurd (omega (arith, high))

-- between the word and what is put there are whole numbers
numbers-floatless : (d : Data) (cell : Cell) → NamedBy d cell → is_cell cell ≡ true → (place : ℕ) → 1 ≤ place → place < value_place cell → has_float (unwrap_or (at place d) null) ≡ false
numbers-floatless d (Phase p c) by there place low high = two-octets d p c 1 2 16 23 (omega arith) (omega arith) there by.0 by.1 place low high
numbers-floatless d (Sequence s r) by there place low high = two-octets d s r 1 1 16 2 (omega arith) (omega arith) there by.0 by.1 place low high
numbers-floatless d (Pattern n c) by there place low high = two-octets d n c 1 2 48 5 (omega arith) (omega arith) there by.0 by.1 place low high
numbers-floatless d (Preempt i c) by there place low high = two-octets d i c 1 4 8 15 (omega arith) (omega arith) there by.0 by.1 place low high
numbers-floatless d (UnitCell n) by there zero low high = absurd (omega (arith, low))
numbers-floatless d (UnitCell n) by there (suc zero) low high = from-octet n 1 (unwrap_or (at 1 d) null) by (lies-above n 1 8 there) (omega arith)
numbers-floatless d (UnitCell n) by there (suc (suc m)) low high = absurd (omega (arith, high))
numbers-floatless d (Split s p c) by there zero low high = absurd (omega (arith, low))
numbers-floatless d (Split s p c) by there (suc zero) low high =
    from-octet s 1 (unwrap_or (at 1 d) null) by.0 (lies-above s 1 32 (and_parts (lies s 1 32) (lies p 1 16) (and_parts (lies s 1 32 && lies p 1 16) (lies c 3 5) there).0).0) (omega arith)
numbers-floatless d (Split s p c) by there (suc (suc zero)) low high =
    from-octet p 1 (unwrap_or (at 2 d) null) by.1 (lies-above p 1 16 (and_parts (lies s 1 32) (lies p 1 16) (and_parts (lies s 1 32 && lies p 1 16) (lies c 3 5) there).0).1) (omega arith)
numbers-floatless d (Split s p c) by there (suc (suc (suc zero))) low high =
    from-octet c 3 (unwrap_or (at 3 d) null) by.2 (lies-above c 3 5 (and_parts (lies s 1 32 && lies p 1 16) (lies c 3 5) there).1) (omega arith)
numbers-floatless d (Split s p c) by there (suc (suc (suc (suc m)))) low high = absurd (omega (arith, high))

word-first : (d : Data) (word : List ℕ) → as_str d ≡ Some word → has_float d ≡ false
word-first null word e = refl
word-first (boolean b) word e = refl
word-first (number n) word e = absurd (cc)
word-first (string s) word e = refl
word-first (array ds) word e = absurd (cc)
word-first (object ms) word e = absurd (cc)

-- a cell that a list names, with its word
named-with : (o : Option Data) (d : Data) (cell : Cell) → option_and_then (λ word. named_cell word d) (option_and_then as_str o) ≡ Some cell
    → (NamedBy d cell) × (has_float (unwrap_or o null) ≡ false)
named-with None d cell e = absurd (cc)
named-with (Some first) d cell e = from (as_str first) refl e
  where
    from : (w : Option (List ℕ)) → as_str first ≡ w → option_and_then (λ word. named_cell word d) w ≡ Some cell → NamedBy d cell × (has_float first ≡ false)
    from None is k = absurd (cc)
    from (Some word) is k = (named-by word d cell k, word-first first word is)

good-cell : (cell : Cell) (d : Data) → listed_fits (Some cell) d ≡ Fits → (is_cell cell ≡ true) × (item_count d ≡ value_place cell + 1) × (content_fits (allowed_in cell) (put_value cell d) ≡ Fits)
good-cell cell d e = from (is_cell cell) (item_count d == value_place cell + 1) (content_fits (allowed_in cell) (put_value cell d)) refl refl refl e
  where
    from : (a b : Bool) (fit : Fit) → is_cell cell ≡ a → (item_count d == value_place cell + 1) ≡ b → content_fits (allowed_in cell) (put_value cell d) ≡ fit → (if a && b then fit else Wrong) ≡ Fits
        → (is_cell cell ≡ true) × (item_count d ≡ value_place cell + 1) × (content_fits (allowed_in cell) (put_value cell d) ≡ Fits)
    from true true fit p q r k = (p, (Decides-eqb (item_count d) (value_place cell + 1)).0 q, r ∙ k)
    from true false fit p q r k = absurd (cc)
    from false b fit p q r k = absurd (cc)

list-floats : (ds : Items) (o : Option Cell) → listed_cell (array ds) ≡ o → listed_fits o (array ds) ≡ Fits → items_have_float ds ≡ false
list-floats ds None is e = absurd (cc)
list-floats ds (Some cell) is e =
    let d = array ds in
    let good = good-cell cell d e in
    let named = named-with (at 0 d) d cell is in
    let last : has_float (item_at (value_place cell) ds) ≡ false = content-floatless (allowed_in cell) (put_value cell d) good.2 in
    items-floatless ds (at-place cell d good.0 good.1 named.0 named.1 last)
  where
    at-place : (cell : Cell) (d : Data) → is_cell cell ≡ true → item_count (array ds) ≡ value_place cell + 1 → NamedBy (array ds) cell
        → has_float (item_at 0 ds) ≡ false → has_float (item_at (value_place cell) ds) ≡ false
        → (place : ℕ) → place < items_len ds → has_float (item_at place ds) ≡ false
    at-place cell d there count by first last zero within = first
    at-place cell d there count by first last (suc n) within = side (nat_le (value_place cell) (suc n)) refl
      where
        side : (b : Bool) → nat_le (value_place cell) (suc n) ≡ b → has_float (item_at (suc n) ds) ≡ false
        side true past =
            let same : value_place cell ≡ suc n = omega (arith, leb-true (value_place cell) (suc n) past, within, count) in
            subst (λ place. has_float (item_at place ds) ≡ false) same last
        side false below = numbers-floatless (array ds) cell by there (suc n) (omega arith) (omega (arith, leb-false (value_place cell) (suc n) below))

pub cell-floatless : Floatless cell
cell-floatless path null sorted e = refl
cell-floatless path (boolean b) sorted e = refl
cell-floatless path (number n) sorted e = absurd (cc)
cell-floatless path (string s) sorted e = refl
cell-floatless path (array ds) sorted e = list-floats ds (listed_cell (array ds)) refl (fits-alone path (listed_fits (listed_cell (array ds)) (array ds)) e)
cell-floatless path (object ms) sorted e = absurd (cc)
