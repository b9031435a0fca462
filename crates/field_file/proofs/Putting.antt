-- Values that are put at names of a scenario one after another.
use Rattle.std.proofs.Common.{◌≡◌, ◌<◌, ℕ, zero, suc, List, [], ◌∷◌, ◌++◌, length, map, get_or, codes, Option, Some, unwrap_or, refl, ap, ◌∙◌, arith}
use Rattle.serde_json.specs.Data.{Data, null, array, object, Items, no_items, item, Members, put}
use Rattle.serde_json.specs.Find.{get_member}
use Rattle.serde_json.specs.View.{items_of}
use Rattle.scenario_data.specs.declared.scenario.Cabinet.{Cabinet}
use Rattle.scenario_data.specs.Content.{cabinet_content}
use Rattle.scenario_read.specs.Kinds.{items_in}
use Rattle.scenario_read.specs.Fields.{either}
use Rattle.detector_bank.specs.declared.bank.Call.{Call}
use Rattle.scenario_cut.specs.Growing.{both}
use Rattle.scenario_file.proofs.Putting.{put-again}
use Rattle.field_file.specs.Written.{call_value, with_inputs}

pub items-append : (xs ys : List Data) → items_of (xs ++ ys) ≡ both (items_of xs) (items_of ys)
items-append [] ys = refl
items-append (x ∷ xs) ys = ap (item x) (items-append xs ys)

-- calls that are put after what was at the name
pub inputs-put : (calls : List Call) (ms mid new : Members) (old : Option Data) (was now : List Data) → old ≡ get_member (codes "inputs") ms → mid ≡ put (codes "inputs") null ms
    → items_of was ≡ items_in (unwrap_or (either old (Some (array no_items))) null) → now ≡ was ++ map call_value calls → new ≡ put (codes "inputs") (array (items_of now)) mid
    → object new ≡ with_inputs calls (object ms)
inputs-put calls ms mid new old was now p q r s t =
    let held : items_of was ≡ items_in (unwrap_or (either (get_member (codes "inputs") ms) (Some (array no_items))) null) =
    r ∙ ap (λ (o : Option Data). items_in (unwrap_or (either o (Some (array no_items))) null)) p in
    let all : items_of now ≡ both (items_in (unwrap_or (either (get_member (codes "inputs") ms) (Some (array no_items))) null)) (items_of (map call_value calls)) =
    ap items_of s ∙ items-append was (map call_value calls) ∙ ap (λ (is : Items). both is (items_of (map call_value calls))) held in
    ap object (t ∙ ap (put (codes "inputs") (array (items_of now))) q ∙ put-again (codes "inputs") (array (items_of now)) null ms refl)
    ∙ ap (λ (is : Items). object (put (codes "inputs") (array is) ms)) all

-- the section of a cabinet
pub section-at : (cs : List Cabinet) (k : ℕ) (d : Cabinet) → k < length cs → (get_or cs k d).section ≡ get_or (map (λ c. c.section) (map cabinet_content cs)) k 0
section-at [] k d low = absurd (omega (arith, low))
section-at (c ∷ cs) zero d low = refl
section-at (c ∷ cs) (suc k) d low = section-at cs k d (omega (arith, low))
