-- Where only a number, a text or a word may be, an array or an object says as much as null.
use Rattle.std.proofs.Common.{◌≡◌, ◌≤◌, ◌<◌, ℕ, zero, suc, ◌+◌, ◌==◌, ◌&&◌, nat_le, Bool, true, false, if◌then◌else◌, List, Option, Some, None, option_map, option_and_then, unwrap_or, refl, sym, ap, ◌∙◌, arith}
use Rattle.std.proofs.lemmas.Bool.{leb-true, leb-false, ne_eqb}
use Rattle.serde_json.specs.Data.{Data, null, boolean, number, string, array, object, Items, no_items, item, Members}
use Rattle.serde_json.specs.Events.{items_len}
use Rattle.serde_json.specs.Find.{at, get_item, as_str}
use Rattle.sig_tables.specs.declared.cells.Cell.{Cell}
use Rattle.sig_tables.specs.declared.cells.Cell.TheVariants.{Phase, Sequence, Split, Pattern, Preempt, Unit as UnitCell}
use Rattle.sig_tables.specs.declared.cells.Allowed.{Allowed}
use Rattle.sig_tables.specs.declared.cells.Allowed.TheVariants.{Numbers, Lists}
use Rattle.sig_tables.specs.Cells.{is_cell}
use Rattle.sig_tables.specs.Ranges.{allowed_in}
use Rattle.scenario_read.specs.Kinds.{Wrong}
use Rattle.scenario_read.specs.CellLists.{octet_of, octet_at, named_cell, listed_cell, value_place, put_value, content_fits, listed_fits, cell_fits, content_in, put_in, cell_of}
use Rattle.scenario_cut.specs.Cutting.{Bare, Row, Part, cut, cut_items}
use Rattle.scenario_cut.proofs.Items.{len-few, len-many}

pub bare-says : {A : Type 0} (says : Data → A) → ((ds : Items) → says (array ds) ≡ says null) → ((ms : Members) → says (object ms) ≡ says null) → (d : Data) → says (cut Bare d) ≡ says d
bare-says says arrays objects null = refl
bare-says says arrays objects (boolean b) = refl
bare-says says arrays objects (number n) = refl
bare-says says arrays objects (string s) = refl
bare-says says arrays objects (array ds) = sym (arrays ds)
bare-says says arrays objects (object ms) = sym (objects ms)

-- ---- a cell

-- what results from each item
abbrev pub each_item : (Data → Data) → Items → Items
each_item g no_items = no_items
each_item g (item d ds) = item (g d) (each_item g ds)

-- a cell asks of what results from an item what it asks of the item
pub record AsksAlike (g : Data → Data) : Type 0 where
  pub octet : (d : Data) → octet_of (g d) ≡ octet_of d
  pub word : (d : Data) → as_str (g d) ≡ as_str d
  pub fits : (a : Allowed) (d : Data) → content_fits a (g d) ≡ content_fits a d
  pub content : (d : Data) → content_in (g d) ≡ content_in d

item-kept : (g : Data → Data) (i : ℕ) (ds : Items) → get_item i (each_item g ds) ≡ option_map g (get_item i ds)
item-kept g i no_items = refl
item-kept g zero (item d ds) = refl
item-kept g (suc i) (item d ds) = item-kept g i ds

as-many : (g : Data → Data) (ds : Items) → items_len (each_item g ds) ≡ items_len ds
as-many g no_items = refl
as-many g (item d ds) = ap suc (as-many g ds)

-- the parts of a cell become what this makes of them, and there are as many where there are no more
pub record Becomes (g : Data → Data) (es ds : Items) : Type 0 where
  pub parts : (i : ℕ) → i ≤ 4 → get_item i es ≡ option_map g (get_item i ds)
  pub count : (n : ℕ) → n ≤ 5 → (items_len es == n) ≡ (items_len ds == n)

pub each-becomes : (g : Data → Data) (ds : Items) → Becomes g (each_item g ds) ds
each-becomes g ds = record { parts = λ i low. item-kept g i ds; count = λ n low. ap (λ k. k == n) (as-many g ds) }

value-low : (cell : Cell) → value_place cell ≤ 4
value-low (Phase p c) = omega arith
value-low (Sequence s r) = omega arith
value-low (Split s p c) = omega arith
value-low (Pattern n c) = omega arith
value-low (Preempt i c) = omega arith
value-low (UnitCell n) = omega arith

apart : (k n : ℕ) → n < k → (k == n) ≡ false
apart k n more = ne_eqb k n (λ e. omega (arith, more, e))

-- a longer list is not a cell
pub long-wrong : (ds : Items) → 5 < items_len ds → cell_fits (array ds) ≡ Wrong
long-wrong ds long = listed (listed_cell (array ds))
  where
    shut : (a b : Bool) (cell : Cell) → b ≡ false → (if a && b then content_fits (allowed_in cell) (put_value cell (array ds)) else Wrong) ≡ Wrong
    shut true true cell e = absurd (cc)
    shut true false cell e = refl
    shut false b cell e = refl

    listed : (o : Option Cell) → listed_fits o (array ds) ≡ Wrong
    listed None = refl
    listed (Some cell) =
        let low = value-low cell in
        shut (is_cell cell) (items_len ds == value_place cell + 1) cell (apart (items_len ds) (value_place cell + 1) (omega (arith, low, long)))

module _ (g : Data → Data) (alike : AsksAlike g) (es ds : Items) (becomes : Becomes g es ds) where
  abbrev whole : Data
  whole = array ds

  abbrev less : Data
  less = array es

  at-kept : {A : Type 0} (says : Data → A) (i : ℕ) → i ≤ 4 → ((d : Data) → says (g d) ≡ says d) → says (unwrap_or (at i less) null) ≡ says (unwrap_or (at i whole) null)
  at-kept says i low same = ap (λ o. says (unwrap_or o null)) (becomes.parts i low) ∙ there (get_item i ds)
    where
      there : (o : Option Data) → says (unwrap_or (option_map g o) null) ≡ says (unwrap_or o null)
      there None = refl
      there (Some d) = same d

  octet-kept : (i : ℕ) → i ≤ 4 → octet_at i less ≡ octet_at i whole
  octet-kept i low = at-kept octet_of i low alike.octet

  word-kept : option_and_then as_str (at 0 less) ≡ option_and_then as_str (at 0 whole)
  word-kept = ap (option_and_then as_str) (becomes.parts 0 (omega arith)) ∙ there (get_item 0 ds)
    where
      there : (o : Option Data) → option_and_then as_str (option_map g o) ≡ option_and_then as_str o
      there None = refl
      there (Some d) = alike.word d

  named-kept : (word : List ℕ) → named_cell word less ≡ named_cell word whole
  named-kept word = rw (octet-kept 1 (omega arith), octet-kept 2 (omega arith), octet-kept 3 (omega arith)) refl

  cell-named : (o : Option (List ℕ)) → option_and_then (λ word. named_cell word less) o ≡ option_and_then (λ word. named_cell word whole) o
  cell-named None = refl
  cell-named (Some word) = named-kept word

  listed-kept : listed_cell less ≡ listed_cell whole
  listed-kept = ap (option_and_then (λ word. named_cell word less)) word-kept ∙ cell-named (option_and_then as_str (at 0 whole))

  fits-kept : (o : Option Cell) → listed_fits o less ≡ listed_fits o whole
  fits-kept None = refl
  fits-kept (Some cell) =
      let low = value-low cell in
      ap (λ b. if is_cell cell && b then content_fits (allowed_in cell) (put_value cell less) else Wrong) (becomes.count (value_place cell + 1) (omega (arith, low)))
      ∙ ap (λ fit. if is_cell cell && (items_len ds == value_place cell + 1) then fit else Wrong) (at-kept (content_fits (allowed_in cell)) (value_place cell) low (alike.fits (allowed_in cell)))

  put-kept : (o : Option Cell) → put_in o less ≡ put_in o whole
  put-kept None = refl
  put-kept (Some cell) = ap (λ content. (cell, content)) (at-kept content_in (value_place cell) (value-low cell) alike.content)

  pub fits-alike : cell_fits less ≡ cell_fits whole
  fits-alike = ap (λ o. listed_fits o less) listed-kept ∙ fits-kept (listed_cell whole)

  pub said-alike : cell_of less ≡ cell_of whole
  said-alike = ap (λ o. put_in o less) listed-kept ∙ put-kept (listed_cell whole)

bare-fits : (a : Allowed) (d : Data) → content_fits a (cut Bare d) ≡ content_fits a d
bare-fits (Numbers least most) = bare-says (content_fits (Numbers least most)) (λ (cs : Items). refl) (λ (ms : Members). refl)
bare-fits Lists = bare-says (content_fits Lists) (λ (cs : Items). refl) (λ (ms : Members). refl)

bare-alike : AsksAlike (cut Bare)
bare-alike = record {
  octet = bare-says octet_of (λ (cs : Items). refl) (λ (ms : Members). refl);
  word = bare-says as_str (λ (cs : Items). refl) (λ (ms : Members). refl);
  fits = bare-fits;
  content = bare-says content_in (λ (cs : Items). refl) (λ (ms : Members). refl);
}

part-bare : (d : Data) → cut Part d ≡ cut Bare d
part-bare null = refl
part-bare (boolean b) = refl
part-bare (number n) = refl
part-bare (string s) = refl
part-bare (array ds) = refl
part-bare (object ms) = refl

part-alike : AsksAlike (cut Part)
part-alike = record {
  octet = λ d. ap octet_of (part-bare d) ∙ bare-alike.octet d;
  word = λ d. ap as_str (part-bare d) ∙ bare-alike.word d;
  fits = λ a d. ap (content_fits a) (part-bare d) ∙ bare-alike.fits a d;
  content = λ d. ap content_in (part-bare d) ∙ bare-alike.content d;
}

-- the parts of a cell that are kept
part-kept : (n i : ℕ) (ds : Items) → i < n → get_item i (cut_items Part n ds) ≡ option_map (cut Part) (get_item i ds)
part-kept n i no_items low = refl
part-kept zero i (item d ds) low = absurd (omega (arith, low))
part-kept (suc n) zero (item d ds) low = refl
part-kept (suc n) (suc i) (item d ds) low = part-kept n i ds (omega (arith, low))

row-becomes : (ds : Items) → Becomes (cut Part) (cut_items Part 6 ds) ds
row-becomes ds = record { parts = λ i low. part-kept 6 i ds (omega (arith, low)); count = λ n low. at n low (nat_le (items_len ds) 6) refl }
  where
    at : (n : ℕ) → n ≤ 5 → (b : Bool) → nat_le (items_len ds) 6 ≡ b → (items_len (cut_items Part 6 ds) == n) ≡ (items_len ds == n)
    at n low true few = ap (λ k. k == n) (len-few Part (λ n d. refl) 6 ds (leb-true (items_len ds) 6 few))
    at n low false many =
        let over = leb-false (items_len ds) 6 many in
        let kept = len-many Part (λ n d. refl) 6 ds (omega (arith, over)) in
        apart (items_len (cut_items Part 6 ds)) n (omega (arith, low, kept)) ∙ sym (apart (items_len ds) n (omega (arith, low, over)))

pub cell-fits : (d : Data) → cell_fits (cut Row d) ≡ cell_fits d
cell-fits null = refl
cell-fits (boolean b) = refl
cell-fits (number n) = refl
cell-fits (string s) = refl
cell-fits (array ds) = fits-alike (cut Part) part-alike (cut_items Part 6 ds) ds (row-becomes ds)
cell-fits (object ms) = refl

pub cell-said : (d : Data) → cell_of (cut Row d) ≡ cell_of d
cell-said null = refl
cell-said (boolean b) = refl
cell-said (number n) = refl
cell-said (string s) = refl
cell-said (array ds) = said-alike (cut Part) part-alike (cut_items Part 6 ds) ds (row-becomes ds)
cell-said (object ms) = refl
