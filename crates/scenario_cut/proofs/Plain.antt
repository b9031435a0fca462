-- A cell is kept whole. What it asks of an array or an object is what it asks of a float, and a cell has no float: so
-- none is there in it.
use Rattle.std.proofs.Common.{◌≡◌, ◌≤◌, ℕ, zero, suc, nat_le, Bool, true, false, List, [], refl, sym, ap, ◌∙◌, arith}
use Rattle.std.proofs.lemmas.Bool.{leb-true, leb-false}
use Rattle.std.specs.Float.{nan}
use Rattle.serde_json.specs.Data.{unsigned, negative, float, Data, null, boolean, number, string, array, object, Items, no_items, item, Members}
use Rattle.serde_json.specs.Find.{as_str}
use Rattle.serde_json.specs.Written.{items_have_float}
use Rattle.sig_tables.specs.declared.cells.Allowed.{Allowed}
use Rattle.sig_tables.specs.declared.cells.Allowed.TheVariants.{Numbers, Lists}
use Rattle.scenario_read.specs.Paths.{Step}
use Rattle.serde_json.specs.Events.{items_len}
use Rattle.scenario_read.specs.Kinds.{Wrong, fault_at}
use Rattle.scenario_read.specs.CellLists.{octet_of, content_fits, content_in, cell}
use Rattle.scenario_read.specs.Sorted.{Sorted, ItemsSorted}
use Rattle.scenario_read.proofs.CellFloats.{cell-floatless}
use Rattle.scenario_cut.specs.Cutting.{Part, cut_items}
use Rattle.scenario_cut.proofs.Bare.{each_item, AsksAlike, each-becomes, long-wrong, fits-alike}

-- an array or an object as a float
abbrev as_float : Data → Data
as_float null = null
as_float (boolean b) = boolean b
as_float (number n) = number n
as_float (string s) = string s
as_float (array ds) = number (float nan)
as_float (object ms) = number (float nan)

float-says : {A : Type 0} (says : Data → A) → ((ds : Items) → says (number (float nan)) ≡ says (array ds)) → ((ms : Members) → says (number (float nan)) ≡ says (object ms)) → (d : Data) → says (as_float d) ≡ says d
float-says says arrays objects null = refl
float-says says arrays objects (boolean b) = refl
float-says says arrays objects (number n) = refl
float-says says arrays objects (string s) = refl
float-says says arrays objects (array ds) = arrays ds
float-says says arrays objects (object ms) = objects ms

float-fits : (a : Allowed) (d : Data) → content_fits a (as_float d) ≡ content_fits a d
float-fits (Numbers least most) = float-says (content_fits (Numbers least most)) (λ (ds : Items). refl) (λ (ms : Members). refl)
float-fits Lists = float-says (content_fits Lists) (λ (ds : Items). refl) (λ (ms : Members). refl)

float-alike : AsksAlike as_float
float-alike = record {
  octet = float-says octet_of (λ (ds : Items). refl) (λ (ms : Members). refl);
  word = float-says as_str (λ (ds : Items). refl) (λ (ms : Members). refl);
  fits = float-fits;
  content = float-says content_in (λ (ds : Items). refl) (λ (ms : Members). refl);
}

float-sorted : (d : Data) → Sorted (as_float d)
float-sorted null = tt
float-sorted (boolean b) = tt
float-sorted (number n) = tt
float-sorted (string s) = tt
float-sorted (array ds) = tt
float-sorted (object ms) = tt

floats-sorted : (ds : Items) → ItemsSorted (each_item as_float ds)
floats-sorted no_items = tt
floats-sorted (item d ds) = (float-sorted d, floats-sorted ds)

-- without a float in their place there is neither an array nor an object
unfloated : (n : ℕ) (ds : Items) → items_len ds ≤ n → items_have_float (each_item as_float ds) ≡ false → cut_items Part n ds ≡ ds
unfloated n no_items few e = refl
unfloated zero (item d ds) few e = absurd (omega (arith, few))
unfloated (suc n) (item null ds) few e = ap (item null) (unfloated n ds (omega (arith, few)) e)
unfloated (suc n) (item (boolean b) ds) few e = ap (item (boolean b)) (unfloated n ds (omega (arith, few)) e)
unfloated (suc n) (item (number (unsigned k)) ds) few e = ap (item (number (unsigned k))) (unfloated n ds (omega (arith, few)) e)
unfloated (suc n) (item (number (negative z)) ds) few e = ap (item (number (negative z))) (unfloated n ds (omega (arith, few)) e)
unfloated (suc n) (item (number (float x)) ds) few e = absurd (cc)
unfloated (suc n) (item (string s) ds) few e = ap (item (string s)) (unfloated n ds (omega (arith, few)) e)
unfloated (suc n) (item (array es) ds) few e = absurd (cc)
unfloated (suc n) (item (object ms) ds) few e = absurd (cc)

-- a cell has no more parts than are kept
parts-few : (path : List Step) (ds : Items) → cell path (array ds) ≡ [] → items_len ds ≤ 6
parts-few path ds e = at (nat_le (items_len ds) 5) refl
  where
    wrong : fault_at path Wrong ≡ [] → ⊥
    wrong k = absurd (cc)

    at : (b : Bool) → nat_le (items_len ds) 5 ≡ b → items_len ds ≤ 6
    at true few = let low = leb-true (items_len ds) 5 few in omega (arith, low)
    at false many = absurd (wrong (sym (ap (fault_at path) (long-wrong ds (leb-false (items_len ds) 5 many))) ∙ e))

-- the items of a cell are kept as they are
pub cell-whole : (path : List Step) (ds : Items) → cell path (array ds) ≡ [] → cut_items Part 6 ds ≡ ds
cell-whole path ds e =
    unfloated 6 ds (parts-few path ds e)
    (cell-floatless path (array (each_item as_float ds)) (floats-sorted ds) (ap (fault_at path) (fits-alike as_float float-alike (each_item as_float ds) ds (each-becomes as_float ds)) ∙ e))
