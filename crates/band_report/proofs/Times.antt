-- Travel times that are read item by item.
use Rattle.std.proofs.Common.{◌≡◌, ℕ, ◌+◌, List, [], ◌∷◌, ◌++◌, length, Option, Some, None, is_some, true, false, codes, refl, sym, ap, ◌∙◌, subst, arith}
use Rattle.serde_json.specs.Data.{Data, null, boolean, number, string, array, object, Items, no_items, item}
use Rattle.serde_json.specs.Events.{items_len}
use Rattle.scenario_data.specs.declared.refusal.ReadFail.{ReadFail}
use Rattle.scenario_data.specs.Causes.{Cause}
use Rattle.scenario_read.specs.Paths.{Step, then_named, then_item}
use Rattle.scenario_read.specs.Kinds.{Kind, Wrong, array_fits, each, fault_at, items_in, whole}
use Rattle.scenario_read.specs.Content.{each_of, whole_of}
use Rattle.scenario_read.specs.Readers.{Refuses}
use Rattle.scenario_read.proofs.Refusing.{refuses_more}
use Rattle.scenario_read.proofs.Walks.{each_of-len}
use Rattle.scenario_cut.specs.Growing.{both}
use Rattle.scenario_cut.specs.Judging.{IsNoList, Tells}
use Rattle.scenario_cut.proofs.Judging.{each_of-next, each-more}
use Rattle.band_report.specs.declared.legs.Legs.{Legs}
use Rattle.band_report.specs.Asked.{list_of_any}
use Rattle.band_report.specs.Parts.{AreLegs}

-- what is not a list is of the wrong kind
pub no-array : (d : Data) → IsNoList d → array_fits d ≡ Wrong
no-array null none = refl
no-array (boolean b) none = refl
no-array (number n) none = refl
no-array (string s) none = refl
no-array (array ds) none = absurd none
no-array (object ms) none = refl

abbrev path : List Step
path = then_named [] (codes "travel")

abbrev times_faults : Items → List Cause
times_faults ds = each (whole 0 864000) path 0 ds

times-more : (ds : Items) (d : Data) (n : ℕ) → n ≡ items_len ds → times_faults (both ds (item d no_items)) ≡ times_faults ds ++ whole 0 864000 (then_item path n) d
times-more ds d n is = each-more (whole 0 864000) path d n ds 0 (omega (arith, is))

-- the number of times that were read is that of the items
as-many : (found : List ℕ) (ds : Items) → found ≡ each_of whole_of ds → length found ≡ items_len ds
as-many found ds is = ap length is ∙ each_of-len whole_of ds

-- an item after a fault
pub behind-fault : (legs : Legs) (ds : Items) (d : Data) → is_some legs.refusal ≡ true → AreLegs legs ds → AreLegs legs (both ds (item d no_items))
behind-fault legs ds d some h = at legs.refusal some h
  where
    at : (o : Option ReadFail) → is_some o ≡ true → Tells o (times_faults ds) (legs.found.items ≡ each_of whole_of ds)
        → Tells o (times_faults (both ds (item d no_items))) (legs.found.items ≡ each_of whole_of (both ds (item d no_items)))
    at None there t = absurd (cc)
    at (Some fail) there t = subst (Refuses fail) (sym (times-more ds d (items_len ds) refl)) (refuses_more fail (times_faults ds) _ t)

module _ (old new : Legs) (ds : Items) (d : Data) (none : is_some old.refusal ≡ false) (were : AreLegs old ds) where
  clean : (times_faults ds ≡ []) × (old.found.items ≡ each_of whole_of ds)
  clean = at old.refusal none were
    where
      at : (o : Option ReadFail) → is_some o ≡ false → Tells o (times_faults ds) (old.found.items ≡ each_of whole_of ds) → (times_faults ds ≡ []) × (old.found.items ≡ each_of whole_of ds)
      at None there t = t
      at (Some fail) there t = absurd (cc)

  abbrev here : List Cause
  here = whole 0 864000 (then_item path (length old.found.items)) d

  all : times_faults (both ds (item d no_items)) ≡ here
  all = times-more ds d (length old.found.items) (as-many old.found.items ds clean.1) ∙ ap (λ causes. causes ++ here) clean.0

  -- a time without a fault, after others
  pub time-read : (ticks : ℕ) → new.refusal ≡ old.refusal → new.found.items ≡ old.found.items ++ ticks ∷ [] → here ≡ [] → ticks ≡ whole_of d → AreLegs new (both ds (item d no_items))
  time-read ticks same pushed fits says =
      let still : new.refusal ≡ None = same ∙ no-refusal old.refusal none in
      let content : new.found.items ≡ each_of whole_of (both ds (item d no_items)) =
      pushed ∙ ap (λ xs. xs ++ ticks ∷ []) clean.1 ∙ ap (λ n. each_of whole_of ds ++ n ∷ []) says ∙ sym (each_of-next whole_of ds d) in
      subst (λ (o : Option ReadFail). Tells o (times_faults (both ds (item d no_items))) (new.found.items ≡ each_of whole_of (both ds (item d no_items)))) (sym still)
      (all ∙ fits, content)
    where
      no-refusal : (o : Option ReadFail) → is_some o ≡ false → o ≡ None
      no-refusal None there = refl
      no-refusal (Some fail) there = absurd (cc)

  -- the first time at fault
  pub time-refused : (fail : ReadFail) → new.refusal ≡ Some fail → Refuses fail here → AreLegs new (both ds (item d no_items))
  time-refused fail is h =
      subst (λ (o : Option ReadFail). Tells o (times_faults (both ds (item d no_items))) (new.found.items ≡ each_of whole_of (both ds (item d no_items)))) (sym is)
      (subst (Refuses fail) (sym all) h)

-- what is not a list
pub no-list : (fail : ReadFail) (kind : Kind) (at : List Step) (d : Data) → array_fits d ≡ Wrong → Refuses fail (fault_at at Wrong) → Refuses fail (list_of_any kind at d)
no-list fail kind at d is h = refuses_more fail (fault_at at (array_fits d)) (each kind at 0 (items_in d)) (subst (λ fit. Refuses fail (fault_at at fit)) (sym is) h)
