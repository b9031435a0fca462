-- What the items of a list say about the list, and what is at its name of the scenario.
use Rattle.std.proofs.Common.{◌≡◌, ◌≢◌, ◌≤◌, ◌<◌, ℕ, ◌+◌, ◌&&◌, nat_le, Bool, true, false, if◌then◌else◌, List, [], ◌∷◌, ◌++◌, Option, Some, None, is_some, unwrap_or, bytes_eq, refl, sym, ap, ap₂, ◌∙◌, subst, arith}
use Rattle.std.proofs.lemmas.Bool.{leb-true, leb-false}
use Rattle.std.proofs.lemmas.Slice.Eq.{bytes_eq-Decides}
use Rattle.serde_json.specs.Data.{Data, null, boolean, number, string, array, object, Items, no_items, item, Members, no_members, put}
use Rattle.serde_json.specs.Events.{items_len}
use Rattle.serde_json.specs.Find.{get}
use Rattle.serde_json.proofs.Views.{get_member-put, get_member-put_other}
use Rattle.scenario_data.specs.declared.refusal.ReadFail.{ReadFail}
use Rattle.scenario_data.specs.Causes.{Cause}
use Rattle.scenario_read.specs.Answers.{Reads}
use Rattle.scenario_read.specs.Paths.{Step, then_item}
use Rattle.scenario_read.specs.Kinds.{Kind, Fits, Wrong, Beyond, fault_at, within, each, each_behind, list_of, list_behind}
use Rattle.scenario_read.specs.Fields.{either, held, faults_of, field_faults, object_of}
use Rattle.scenario_read.specs.Table.{cabinet, cabinets, input_shape, inputs, load, load_cabinet, loads, priority_item, priority, frame_shape, frames, fault_shape, link_faults}
use Rattle.scenario_read.specs.Readers.{Refuses}
use Rattle.scenario_read.proofs.Refusing.{refuses_more}
use Rattle.scenario_cut.specs.Judging.{name_of, list_path, list_field, item_kind, items_faults, Stays, Tells, TellsUpTo, Counted, IsJudged, most_judged, may_have, IsNoList, StaysIn, TellsOf, TellsIn}
use Rattle.scenario_cut.specs.declared.judge.Extent.{Extent}
use Rattle.scenario_cut.specs.declared.judge.Found.{Found}
use Rattle.scenario_cut.specs.declared.judge.Listing.{Listing}
use Rattle.scenario_cut.specs.declared.judge.Listing.TheVariants.{Cabinets, Inputs, Loads, Priority, Frames, Faults}
use Rattle.scenario_cut.specs.declared.listing.Judged.{Judged}
use Rattle.scenario_cut.specs.declared.listing.ListVerdict.{ListVerdict}

-- ---- the faults of a list

-- items that don't hang on those before
each-alone : {A : Type 0} (kind : List A → Kind) (k : Kind) (says : Data → A) → ((earlier : List A) (path : List Step) (d : Data) → kind earlier path d ≡ k path d)
    → (path : List Step) (p : ℕ) (earlier : List A) (ds : Items) → each k path p ds ≡ each_behind kind says path p earlier ds
each-alone kind k says same path p earlier no_items = refl
each-alone kind k says same path p earlier (item d ds) =
    ap₂ (λ (xs ys : List Cause). xs ++ ys) (sym (same earlier (then_item path p) d)) (each-alone kind k says same path (p + 1) (earlier ++ says d ∷ []) ds)

-- the list's own fault, before its items
abbrev pub LengthFirst : Listing → Extent → Items → Type 0
LengthFirst l e ds = (list_field l e).kind (list_path l) (array ds) ≡ fault_at (list_path l) (if may_have l (items_len ds) then Fits else Beyond) ++ items_faults l e ds

alone : (l : Listing) (e : Extent) (k : Kind) (own : List Cause) (ds : Items) → ((earlier : List ℕ) (path : List Step) (d : Data) → item_kind l e earlier path d ≡ k path d)
    → own ++ each k (list_path l) 0 ds ≡ own ++ items_faults l e ds
alone l e k own ds same = ap (λ causes. own ++ causes) (each-alone (item_kind l e) k (load_cabinet e.cabinets) same (list_path l) 0 [] ds)

pub list-kind : (l : Listing) (e : Extent) (ds : Items) → LengthFirst l e ds
list-kind Cabinets e ds = alone Cabinets e (cabinet e.version) (fault_at (list_path Cabinets) (within 1 64 (items_len ds))) ds (λ earlier path d. refl)
list-kind Inputs e ds = alone Inputs e (object_of (input_shape e.rounds e.cabinets)) (fault_at (list_path Inputs) (within 0 1000000 (items_len ds))) ds (λ earlier path d. refl)
list-kind Loads e ds = refl
list-kind Priority e ds = alone Priority e (priority_item e.rounds e.cabinets) (fault_at (list_path Priority) (within 0 100000 (items_len ds))) ds (λ earlier path d. refl)
list-kind Frames e ds = alone Frames e (object_of (frame_shape e.rounds e.cabinets)) (fault_at (list_path Frames) (within 0 100000 (items_len ds))) ds (λ earlier path d. refl)
list-kind Faults e ds = alone Faults e (object_of (fault_shape e.rounds e.cabinets)) (fault_at (list_path Faults) (within 0 100000 (items_len ds))) ds (λ earlier path d. refl)

past : (least most n : ℕ) → most < n → (nat_le least n && nat_le n most) ≡ false
past least most n over = at (nat_le least n) (nat_le n most) refl
  where
    at : (a b : Bool) → nat_le n most ≡ b → (a && b) ≡ false
    at a true is = absurd (omega (arith, over, leb-true n most is))
    at true false is = refl
    at false false is = refl

both-past : (least most many count len : ℕ) → most ≤ many → many < count → many < len → (nat_le least count && nat_le count most) ≡ (nat_le least len && nat_le len most)
both-past least most many count len low p q = past least most count (omega (arith, low, p)) ∙ sym (past least most len (omega (arith, low, q)))

many-same : (l : Listing) (count len : ℕ) → most_judged l < count → most_judged l < len → may_have l count ≡ may_have l len
many-same Cabinets count len p q = both-past 1 64 64 count len (omega arith) p q
many-same Inputs count len p q = both-past 0 1000000 1000000 count len (omega arith) p q
many-same Loads count len p q = refl
many-same Priority count len p q = both-past 0 100000 1000000 count len (omega arith) p q
many-same Frames count len p q = both-past 0 100000 1000000 count len (omega arith) p q
many-same Faults count len p q = both-past 0 100000 1000000 count len (omega arith) p q

-- what was counted says whether there may be that many
pub may-same : (l : Listing) (count len : ℕ) → Counted (most_judged l) count len → may_have l count ≡ may_have l len
may-same l count len c = at (nat_le count (most_judged l)) refl
  where
    at : (b : Bool) → nat_le count (most_judged l) ≡ b → may_have l count ≡ may_have l len
    at true is = ap (may_have l) (c.exact (leb-true count (most_judged l) is))
    at false is = let over = leb-false count (most_judged l) is in many-same l count len over (c.many over)

list-is : (l : Listing) (e : Extent) (count : ℕ) (ds : Items) (b : Bool) → may_have l count ≡ b → Counted (most_judged l) count (items_len ds)
    → (list_field l e).kind (list_path l) (array ds) ≡ fault_at (list_path l) (if b then Fits else Beyond) ++ items_faults l e ds
list-is l e count ds b is c = list-kind l e ds ∙ ap (λ a. fault_at (list_path l) (if a then Fits else Beyond) ++ items_faults l e ds) (sym (may-same l count (items_len ds) c) ∙ is)

pub beyond-told : (l : Listing) (e : Extent) (count : ℕ) (ds : Items) (fail : ReadFail) → may_have l count ≡ false → Counted (most_judged l) count (items_len ds) → Refuses fail (fault_at (list_path l) Beyond)
    → Refuses fail ((list_field l e).kind (list_path l) (array ds))
beyond-told l e count ds fail is c h = subst (Refuses fail) (sym (list-is l e count ds false is c)) (refuses_more fail (fault_at (list_path l) Beyond) (items_faults l e ds) h)

stays-in : (l : Listing) (e : Extent) (found : Found) (ds : Items) → Stays l e found ds → StaysIn l e found (array ds)
stays-in Cabinets e found ds h = h
stays-in Inputs e found ds h = tt
stays-in Loads e found ds h = tt
stays-in Priority e found ds h = tt
stays-in Frames e found ds h = tt
stays-in Faults e found ds h = tt

pub items-told : (l : Listing) (e : Extent) (judged : Judged) (ds : Items) → may_have l judged.count ≡ true → (is_some judged.refusal ≡ false → judged.count ≤ most_judged l) → IsJudged l e judged ds
    → TellsOf l e (record { refusal = judged.refusal; found = judged.found }) (array ds)
items-told l e judged ds is low j = at judged.refusal low j.told
  where
    here : (list_field l e).kind (list_path l) (array ds) ≡ items_faults l e ds
    here = list-is l e judged.count ds true is j.counted

    at : (o : Option ReadFail) → (is_some o ≡ false → judged.count ≤ most_judged l) → TellsUpTo (most_judged l) o judged.count (items_faults l e ds) (Stays l e judged.found ds)
        → Tells o ((list_field l e).kind (list_path l) (array ds)) (StaysIn l e judged.found (array ds))
    at None few h = let clean = h (few refl) in (here ∙ clean.0, stays-in l e judged.found ds clean.1)
    at (Some fail) few h = subst (Refuses fail) (sym here) h

-- more items than were judged, one of them at fault
pub refused-told : (l : Listing) (e : Extent) (judged : Judged) (ds : Items) (fail : ReadFail) → may_have l judged.count ≡ true → judged.refusal ≡ Some fail → IsJudged l e judged ds
    → Refuses fail ((list_field l e).kind (list_path l) (array ds))
refused-told l e judged ds fail is some j =
    let told : Refuses fail (items_faults l e ds) = subst (λ o. TellsUpTo (most_judged l) o judged.count (items_faults l e ds) (Stays l e judged.found ds)) some j.told in
    subst (Refuses fail) (sym (list-is l e judged.count ds true is j.counted)) told

-- ---- what is not a list

pub list-wrong : (least most : ℕ) (kind : Kind) (path : List Step) (d : Data) → IsNoList d → list_of least most kind path d ≡ fault_at path Wrong
list-wrong least most kind path null bare = refl
list-wrong least most kind path (boolean b) bare = refl
list-wrong least most kind path (number n) bare = refl
list-wrong least most kind path (string s) bare = refl
list-wrong least most kind path (array ds) bare = absurd bare
list-wrong least most kind path (object ms) bare = refl

behind-wrong : {A : Type 0} (kind : List A → Kind) (says : Data → A) (path : List Step) (d : Data) → IsNoList d → list_behind kind says path d ≡ fault_at path Wrong
behind-wrong kind says path null bare = refl
behind-wrong kind says path (boolean b) bare = refl
behind-wrong kind says path (number n) bare = refl
behind-wrong kind says path (string s) bare = refl
behind-wrong kind says path (array ds) bare = absurd bare
behind-wrong kind says path (object ms) bare = refl

kind-wrong : (l : Listing) (e : Extent) (d : Data) → IsNoList d → (list_field l e).kind (list_path l) d ≡ fault_at (list_path l) Wrong
kind-wrong Cabinets e d bare = list-wrong 1 64 (cabinet e.version) (list_path Cabinets) d bare
kind-wrong Inputs e d bare = list-wrong 0 1000000 (object_of (input_shape e.rounds e.cabinets)) (list_path Inputs) d bare
kind-wrong Loads e d bare = behind-wrong (load e.rounds e.cabinets) (load_cabinet e.cabinets) (list_path Loads) d bare
kind-wrong Priority e d bare = list-wrong 0 100000 (priority_item e.rounds e.cabinets) (list_path Priority) d bare
kind-wrong Frames e d bare = list-wrong 0 100000 (object_of (frame_shape e.rounds e.cabinets)) (list_path Frames) d bare
kind-wrong Faults e d bare = list-wrong 0 100000 (object_of (fault_shape e.rounds e.cabinets)) (list_path Faults) d bare

pub none-told : (l : Listing) (e : Extent) (d : Data) (fail : ReadFail) → IsNoList d → Refuses fail (fault_at (list_path l) Wrong) → Refuses fail ((list_field l e).kind (list_path l) d)
none-told l e d fail bare h = subst (Refuses fail) (sym (kind-wrong l e d bare)) h

-- ---- what is at the name

-- what is known of a value, or of its want
abbrev TellsAt : Option ReadFail → Kind → List Step → Option Data → (Data → Type 0) → Option Data → Type 0
TellsAt refusal kind path default P o = Tells refusal (faults_of kind path (either o default)) (P (unwrap_or (either o default) null))

-- with another value that has the same there
pub tells-same : (l : Listing) (e : Extent) (told : ListVerdict) (d v : Data) → get (name_of l) d ≡ get (name_of l) v → TellsIn l e told d → TellsIn l e told v
tells-same Cabinets e told d v is h = subst (TellsAt told.refusal (cabinets e.version).kind (list_path Cabinets) None (StaysIn Cabinets e told.found)) is h
tells-same Inputs e told d v is h = subst (TellsAt told.refusal (inputs e.rounds e.cabinets).kind (list_path Inputs) (Some (array no_items)) (StaysIn Inputs e told.found)) is h
tells-same Loads e told d v is h = subst (TellsAt told.refusal (loads e.rounds e.cabinets).kind (list_path Loads) (Some (array no_items)) (StaysIn Loads e told.found)) is h
tells-same Priority e told d v is h = subst (TellsAt told.refusal (priority e.rounds e.cabinets).kind (list_path Priority) (Some (array no_items)) (StaysIn Priority e told.found)) is h
tells-same Frames e told d v is h = subst (TellsAt told.refusal (frames e.rounds e.cabinets).kind (list_path Frames) (Some (array no_items)) (StaysIn Frames e told.found)) is h
tells-same Faults e told d v is h = subst (TellsAt told.refusal (link_faults e.rounds e.cabinets).kind (list_path Faults) (Some (array no_items)) (StaysIn Faults e told.found)) is h

-- with the value that is there
tells-here : (l : Listing) (e : Extent) (told : ListVerdict) (d v : Data) → Some d ≡ get (name_of l) v → TellsOf l e told d → TellsIn l e told v
tells-here Cabinets e told d v is h = subst (TellsAt told.refusal (cabinets e.version).kind (list_path Cabinets) None (StaysIn Cabinets e told.found)) is h
tells-here Inputs e told d v is h = subst (TellsAt told.refusal (inputs e.rounds e.cabinets).kind (list_path Inputs) (Some (array no_items)) (StaysIn Inputs e told.found)) is h
tells-here Loads e told d v is h = subst (TellsAt told.refusal (loads e.rounds e.cabinets).kind (list_path Loads) (Some (array no_items)) (StaysIn Loads e told.found)) is h
tells-here Priority e told d v is h = subst (TellsAt told.refusal (priority e.rounds e.cabinets).kind (list_path Priority) (Some (array no_items)) (StaysIn Priority e told.found)) is h
tells-here Frames e told d v is h = subst (TellsAt told.refusal (frames e.rounds e.cabinets).kind (list_path Frames) (Some (array no_items)) (StaysIn Frames e told.found)) is h
tells-here Faults e told d v is h = subst (TellsAt told.refusal (link_faults e.rounds e.cabinets).kind (list_path Faults) (Some (array no_items)) (StaysIn Faults e told.found)) is h

pub put-here : (l : Listing) (e : Extent) (told : ListVerdict) (name : List ℕ) (d : Data) (ms : Members) → bytes_eq name (name_of l) ≡ true → TellsOf l e told d → TellsIn l e told (object (put name d ms))
put-here l e told name d ms is h =
    let same : name_of l ≡ name = sym ((bytes_eq-Decides name (name_of l)).0 is) in
    tells-here l e told d (object (put name d ms)) (sym (ap (λ n. get n (object (put name d ms))) same ∙ get_member-put name d ms)) h

pub put-other : (l : Listing) (e : Extent) (told : ListVerdict) (name : List ℕ) (d : Data) (ms : Members) → bytes_eq name (name_of l) ≡ false → TellsIn l e told (object ms) → TellsIn l e told (object (put name d ms))
put-other l e told name d ms is h =
    let apart = λ (same : name_of l ≡ name). let both : bytes_eq name (name_of l) ≡ true = (bytes_eq-Decides name (name_of l)).1 (sym same) in let clash : true ≡ false = sym both ∙ is in absurd (cc) in
    tells-same l e told (object ms) (object (put name d ms)) (sym (get_member-put_other (name_of l) name d ms apart)) h

-- where it isn't, the list has no items
pub absent-told : (l : Listing) (e : Extent) (found : Found) → l ≢ Cabinets → TellsIn l e (record { refusal = None; found = found }) (object no_members)
absent-told Cabinets e found other = absurd (other refl)
absent-told Inputs e found other = (refl, tt)
absent-told Loads e found other = (refl, tt)
absent-told Priority e found other = (refl, tt)
absent-told Frames e found other = (refl, tt)
absent-told Faults e found other = (refl, tt)

-- a text has one value
pub one-value : (bytes : List ℕ) (d v : Data) → Reads bytes d → Reads bytes v → d ≡ v
one-value bytes d v a b = inside d v (sym a.1 ∙ b.1)
  where
    inside : (d v : Data) → Some d ≡ Some v → d ≡ v
    inside d v e = cc

-- what was reported of the list, as an answer
pub refused-named : (l : Listing) (e : Extent) (told : ListVerdict) (d : Data) (fail : ReadFail) → told.refusal ≡ Some fail → TellsIn l e told d → Refuses fail (field_faults [] d (list_field l e))
refused-named l e told d fail is h = subst (λ o. Tells o (field_faults [] d (list_field l e)) (StaysIn l e told.found (held (list_field l e) d))) is h

pub found-named : (l : Listing) (e : Extent) (told : ListVerdict) (d : Data) → told.refusal ≡ None → TellsIn l e told d → (field_faults [] d (list_field l e) ≡ []) × StaysIn l e told.found (held (list_field l e) d)
found-named l e told d is h = subst (λ o. Tells o (field_faults [] d (list_field l e)) (StaysIn l e told.found (held (list_field l e) d))) is h
