-- A result is sorted, and no deeper than its scenario may be.
use Rattle.std.proofs.Common.{◌≡◌, ◌≤◌, ℕ, suc, List, [], ◌∷◌, map, codes, Option, Some, None, unwrap_or, refl, sym, subst, arith}
use Rattle.serde_json.specs.Data.{Data, null, boolean, number, string, array, object, Items, no_items, item, no_members, depth, items_depth, members_depth}
use Rattle.serde_json.specs.Find.{get}
use Rattle.serde_json.specs.View.{items_of}
use Rattle.scenario_data.specs.declared.scenario.Entry.{Entry}
use Rattle.scenario_read.specs.Kinds.{items_in}
use Rattle.scenario_read.specs.Fields.{Field, held, either}
use Rattle.scenario_read.specs.Table.{master, inputs}
use Rattle.scenario_read.specs.Content.{round_count, cabinet_count}
use Rattle.scenario_read.specs.Sorted.{Sorted, ItemsSorted}
use Rattle.detector_bank.specs.declared.bank.Call.{Call}
use Rattle.field_read.proofs.Inside.{member-sorted, of-members-nests}
use Rattle.scenario_cut.specs.Growing.{both}
use Rattle.scenario_file.specs.Source.{with_member, inputs_and, master_and}
use Rattle.scenario_file.proofs.Depths.{low-put}
use Rattle.scenario_file.proofs.Putting.{with-sorted}
use Rattle.field_file.specs.Written.{call_value, entry_value, with_inputs, with_schedule, with_traffic}

-- ---- sorted

-- what is held at a field whose default is sorted
held-sorted : (f : Field) (v d : Data) → f.default ≡ Some v → Sorted v → Sorted d → Sorted (held f d)
held-sorted f v d e h k = from (get f.name d) refl
  where
    from : (o : Option Data) → get f.name d ≡ o → Sorted (unwrap_or (either o f.default) null)
    from None is = subst (λ (o : Option Data). Sorted (unwrap_or o null)) (sym e) h
    from (Some x) is = member-sorted f.name d x (sym is) k

items-in-sorted : (d : Data) → Sorted d → ItemsSorted (items_in d)
items-in-sorted null h = tt
items-in-sorted (boolean b) h = tt
items-in-sorted (number n) h = tt
items-in-sorted (string s) h = tt
items-in-sorted (array ds) h = h
items-in-sorted (object ms) h = tt

and-sorted : (ds es : Items) → ItemsSorted ds → ItemsSorted es → ItemsSorted (both ds es)
and-sorted no_items es h k = k
and-sorted (item d ds) es h k = (h.0, and-sorted ds es h.1 k)

calls-sorted : (calls : List Call) → ItemsSorted (items_of (map call_value calls))
calls-sorted [] = tt
calls-sorted (call ∷ calls) = ((tt, (refl, (refl, (refl, tt))), (tt, (refl, (refl, tt)), (tt, (refl, tt), (tt, tt, tt)))), calls-sorted calls)

entries-sorted : (entries : List Entry) → ItemsSorted (items_of (map entry_value entries))
entries-sorted [] = tt
entries-sorted (entry ∷ entries) = ((tt, (refl, (refl, tt)), (tt, (refl, tt), (tt, tt, tt))), entries-sorted entries)

schedule-sorted : (o : Option (List Entry)) (s : Data) → Sorted s → Sorted (with_schedule o s)
schedule-sorted None s h = h
schedule-sorted (Some entries) s h =
    with-sorted (codes "master") (master_and (array (items_of (map entry_value entries))) s) s
    (with-sorted (codes "schedule") (array (items_of (map entry_value entries))) (held master s) (entries-sorted entries) (held-sorted master (object no_members) s refl tt h)) h

inputs-sorted : (calls : List Call) (s : Data) → Sorted s → Sorted (with_inputs calls s)
inputs-sorted calls s h =
    let f : Field = inputs (round_count s) (cabinet_count s) in
    with-sorted (codes "inputs") (inputs_and (items_of (map call_value calls)) s) s
    (and-sorted (items_in (held f s)) (items_of (map call_value calls)) (items-in-sorted (held f s) (held-sorted f (array no_items) s refl tt h)) (calls-sorted calls)) h

pub traffic-sorted : (calls : List Call) (o : Option (List Entry)) (s : Data) → Sorted s → Sorted (with_traffic calls o s)
traffic-sorted calls o s h = inputs-sorted calls (with_schedule o s) (schedule-sorted o s h)

-- ---- depth

member-put-depth : (name : List ℕ) (v d : Data) (most : ℕ) → depth v ≤ most → depth d ≤ suc most → depth (with_member name v d) ≤ suc most
member-put-depth name v null most h k = k
member-put-depth name v (boolean b) most h k = k
member-put-depth name v (number n) most h k = k
member-put-depth name v (string s) most h k = k
member-put-depth name v (array ds) most h k = k
member-put-depth name v (object ms) most h k = let inner : members_depth ms ≤ most = omega (arith, k) in let low = low-put name v ms most h inner in omega (arith, low)

-- what is at a name is less deep than the object
pub below-object : (name : List ℕ) (d v : Data) → Some v ≡ get name d → suc (depth v) ≤ depth d
below-object name null v e = absurd (cc)
below-object name (boolean b) v e = absurd (cc)
below-object name (number n) v e = absurd (cc)
below-object name (string s) v e = absurd (cc)
below-object name (array ds) v e = absurd (cc)
below-object name (object ms) v e = let low : depth v ≤ members_depth ms = of-members-nests name ms v e in omega (arith, low)

held-depth : (f : Field) (v d : Data) (most : ℕ) → f.default ≡ Some v → depth v ≤ most → depth d ≤ suc most → depth (held f d) ≤ most
held-depth f v d most e h k = from (get f.name d) refl
  where
    from : (o : Option Data) → get f.name d ≡ o → depth (unwrap_or (either o f.default) null) ≤ most
    from None is = subst (λ (o : Option Data). depth (unwrap_or o null) ≤ most) (sym e) h
    from (Some x) is = let low = below-object f.name d x (sym is) in omega (arith, low, k)

items-in-depth : (d : Data) (most : ℕ) → depth d ≤ suc most → items_depth (items_in d) ≤ most
items-in-depth null most h = omega arith
items-in-depth (boolean b) most h = omega arith
items-in-depth (number n) most h = omega arith
items-in-depth (string s) most h = omega arith
items-in-depth (array ds) most h = omega (arith, h)
items-in-depth (object ms) most h = omega arith

and-depth : (ds es : Items) (most : ℕ) → items_depth ds ≤ most → items_depth es ≤ most → items_depth (both ds es) ≤ most
and-depth no_items es most h k = k
and-depth (item d ds) es most h k =
    let low : items_depth (both ds es) ≤ most = and-depth ds es most (omega (arith, h)) k in
    omega (arith, low, h)

calls-depth : (calls : List Call) → items_depth (items_of (map call_value calls)) ≤ 1
calls-depth [] = omega arith
calls-depth (call ∷ calls) = let low : items_depth (items_of (map call_value calls)) ≤ 1 = calls-depth calls in omega (arith, low)

entries-depth : (entries : List Entry) → items_depth (items_of (map entry_value entries)) ≤ 1
entries-depth [] = omega arith
entries-depth (entry ∷ entries) = let low : items_depth (items_of (map entry_value entries)) ≤ 1 = entries-depth entries in omega (arith, low)

schedule-depth : (o : Option (List Entry)) (s : Data) (k : ℕ) → 2 ≤ k → depth s ≤ suc (suc k) → depth (with_schedule o s) ≤ suc (suc k)
schedule-depth None s k two h = h
schedule-depth (Some entries) s k two h =
    let listed = entries-depth entries in
    let own : depth (held master s) ≤ suc k = held-depth master (object no_members) s (suc k) refl (omega (arith, two)) h in
    let inner : depth (master_and (array (items_of (map entry_value entries))) s) ≤ suc k =
    member-put-depth (codes "schedule") (array (items_of (map entry_value entries))) (held master s) k (omega (arith, listed, two)) own in
    member-put-depth (codes "master") (master_and (array (items_of (map entry_value entries))) s) s (suc k) inner h

inputs-depth : (calls : List Call) (s : Data) (k : ℕ) → 2 ≤ k → depth s ≤ suc (suc k) → depth (with_inputs calls s) ≤ suc (suc k)
inputs-depth calls s k two h =
    let f : Field = inputs (round_count s) (cabinet_count s) in
    let own : depth (held f s) ≤ suc k = held-depth f (array no_items) s (suc k) refl (omega (arith, two)) h in
    let listed = calls-depth calls in
    let both = and-depth (items_in (held f s)) (items_of (map call_value calls)) k (items-in-depth (held f s) k own) (omega (arith, listed, two)) in
    member-put-depth (codes "inputs") (inputs_and (items_of (map call_value calls)) s) s (suc k) (omega (arith, both)) h

pub traffic-depth : (calls : List Call) (o : Option (List Entry)) (s : Data) (k : ℕ) → 2 ≤ k → depth s ≤ suc (suc k) → depth (with_traffic calls o s) ≤ suc (suc k)
traffic-depth calls o s k two h = inputs-depth calls (with_schedule o s) k two (schedule-depth o s k two h)
