-- What is known of the items of a list, one item at a time; and that what is kept of an item gives its first fault.
use Rattle.std.proofs.Common.{◌≡◌, ◌≤◌, ◌<◌, ℕ, ◌+◌, List, [], ◌∷◌, ◌++◌, Option, Some, None, is_some, true, false, Result, Ok, Err, map, refl, sym, ap, ap₂, ◌∙◌, subst, arith, append_assoc, append-nil}
use Rattle.std.specs.Result.{result_err}
use Rattle.serde_json.specs.Data.{Data, Items, no_items, item}
use Rattle.serde_json.specs.Events.{items_len}
use Rattle.scenario_data.specs.declared.refusal.ReadFail.{ReadFail}
use Rattle.scenario_data.specs.declared.refusal.ReadFail.TheVariants.{Refused, NoMemory}
use Rattle.scenario_data.specs.Causes.{Cause, Names}
use Rattle.scenario_data.specs.Content.{cabinet_content}
use Rattle.scenario_read.specs.Faults.{first_cause}
use Rattle.scenario_read.specs.Paths.{Step, then_item}
use Rattle.scenario_read.specs.Kinds.{Kind, each, each_behind}
use Rattle.scenario_read.specs.Table.{cabinet, load, load_cabinet}
use Rattle.scenario_read.specs.Content.{each_of, cabinet_of}
use Rattle.scenario_read.specs.Readers.{Refuses, Answers, load_cabinets}
use Rattle.scenario_read.proofs.Refusing.{refuses_more}
use Rattle.scenario_cut.specs.Cutting.{Cabinet, cut}
use Rattle.scenario_cut.specs.Growing.{both}
use Rattle.scenario_cut.specs.Judging.{form_of, list_path, item_kind, cabinets_of, items_faults, Stays, TellsUpTo, Counted, IsJudged, most_judged}
use Rattle.scenario_cut.specs.declared.judge.Extent.{Extent}
use Rattle.scenario_cut.specs.declared.judge.Found.{Found}
use Rattle.scenario_cut.specs.declared.judge.Listing.{Listing}
use Rattle.scenario_cut.specs.declared.judge.Listing.TheVariants.{Cabinets, Inputs, Loads, Priority, Frames, Faults}
use Rattle.scenario_cut.specs.declared.listing.Judged.{Judged}
use Rattle.scenario_cut.proofs.Same.{Same}
use Rattle.scenario_cut.proofs.Kept.{cabinet-same, input-same, load-same, load-cabinet-same, priority-same, frame-same, fault-same}
use Rattle.scenario_cut.proofs.Scenario.{cabinet-said, cells-fit}

-- ---- what is kept of an item

pub item-same : (l : Listing) (e : Extent) (earlier : List ℕ) (path : List Step) (d : Data) → Same (item_kind l e earlier path (cut (form_of l) d)) (item_kind l e earlier path d)
item-same Cabinets e earlier path d = cabinet-same e.version path d
item-same Inputs e earlier path d = input-same e.rounds e.cabinets path d
item-same Loads e earlier path d = load-same e.rounds e.cabinets earlier path d
item-same Priority e earlier path d = priority-same e.rounds e.cabinets path d
item-same Frames e earlier path d = frame-same e.rounds e.cabinets path d
item-same Faults e earlier path d = fault-same e.rounds e.cabinets path d

pub no-first : (xs : List Cause) → first_cause xs ≡ None → xs ≡ []
no-first [] e = refl
no-first (x ∷ xs) e = absurd (cc)

pub refuses-same : (fail : ReadFail) (xs ys : List Cause) → Same xs ys → Refuses fail xs → Refuses fail ys
refuses-same (Refused refusal) xs ys same h = subst (λ o. Names refusal o) same h
refuses-same NoMemory xs ys same h = tt

pub answers-same : (answer : Result (Unit {0}) ReadFail) (xs ys : List Cause) (P Q : Type 0) → Same xs ys → (ys ≡ [] → P → Q) → Answers answer xs (λ _. P) → Answers answer ys (λ _. Q)
answers-same (Ok u) xs ys P Q same go h = let clean = no-first ys (sym same ∙ ap first_cause h.0) in (clean, go clean h.1)
answers-same (Err fail) xs ys P Q same go h = refuses-same fail xs ys same h

-- the faults of one item more
pub each-more : (kind : Kind) (path : List Step) (d : Data) (at : ℕ) (ds : Items) (p : ℕ) → at ≡ p + items_len ds
    → each kind path p (both ds (item d no_items)) ≡ each kind path p ds ++ kind (then_item path at) d
each-more kind path d at no_items p is =
    let place : p ≡ at = omega (arith, is) in
    append-nil _ ∙ ap (λ n. kind (then_item path n) d) place
each-more kind path d at (item first ds) p is =
    let later : at ≡ (p + 1) + items_len ds = omega (arith, is) in
    ap (λ causes. kind (then_item path p) first ++ causes) (each-more kind path d at ds (p + 1) later)
    ∙ sym (append_assoc (kind (then_item path p) first) (each kind path (p + 1) ds) (kind (then_item path at) d))

pub each_of-next : {A : Type 0} (says : Data → A) (ds : Items) (d : Data) → each_of says (both ds (item d no_items)) ≡ each_of says ds ++ says d ∷ []
each_of-next says no_items d = refl
each_of-next says (item first ds) d = ap (λ rest. says first ∷ rest) (each_of-next says ds d)

said-same : {A : Type 0} (says : Data → A) (ds : Items) (v d : Data) → says v ≡ says d → each_of says (both ds (item v no_items)) ≡ each_of says (both ds (item d no_items))
said-same says ds v d same = each_of-next says ds v ∙ ap (λ a. each_of says ds ++ a ∷ []) same ∙ sym (each_of-next says ds d)

-- of an item without faults
pub stays-same : (l : Listing) (e : Extent) (found : Found) (ds : Items) (path : List Step) (d : Data) → item_kind l e (cabinets_of e ds) path d ≡ []
    → Stays l e found (both ds (item (cut (form_of l) d) no_items)) → Stays l e found (both ds (item d no_items))
stays-same Cabinets e found ds path d clean h = h ∙ said-same (cabinet_of e.version) ds (cut Cabinet d) d (cabinet-said e.version d (cells-fit e.version path d clean))
stays-same Inputs e found ds path d clean h = tt
stays-same Loads e found ds path d clean h = h ∙ said-same (load_cabinet e.cabinets) ds (cut (form_of Loads) d) d (load-cabinet-same e.cabinets d)
stays-same Priority e found ds path d clean h = tt
stays-same Frames e found ds path d clean h = tt
stays-same Faults e found ds path d clean h = tt

-- what is kept of an item is judged as the item
pub next-told : (l : Listing) (e : Extent) (new : Found) (ds : Items) (path : List Step) (d v : Data) (answer : Result (Unit {0}) ReadFail) → v ≡ cut (form_of l) d
    → Answers answer (item_kind l e (cabinets_of e ds) path v) (λ _. Stays l e new (both ds (item v no_items)))
    → Answers answer (item_kind l e (cabinets_of e ds) path d) (λ _. Stays l e new (both ds (item d no_items)))
next-told l e new ds path d v answer is h =
    answers-same answer (item_kind l e (cabinets_of e ds) path (cut (form_of l) d)) (item_kind l e (cabinets_of e ds) path d)
    (Stays l e new (both ds (item (cut (form_of l) d) no_items))) (Stays l e new (both ds (item d no_items)))
    (item-same l e (cabinets_of e ds) path d) (stays-same l e new ds path d)
    (subst (λ w. Answers answer (item_kind l e (cabinets_of e ds) path w) (λ _. Stays l e new (both ds (item w no_items)))) is h)

-- ---- no items

pub stays-none : (l : Listing) (e : Extent) (found : Found) → found.cabinets.items ≡ [] → found.loads.items ≡ [] → Stays l e found no_items
stays-none Cabinets e found a b = ap (map cabinet_content) a
stays-none Inputs e found a b = tt
stays-none Loads e found a b = ap load_cabinets b
stays-none Priority e found a b = tt
stays-none Frames e found a b = tt
stays-none Faults e found a b = tt

pub judged-none : (l : Listing) (e : Extent) (found : Found) → found.cabinets.items ≡ [] → found.loads.items ≡ [] → IsJudged l e (record { count = 0; refusal = None; found = found }) no_items
judged-none l e found a b = record {
  counted = record { few = omega arith; exact = λ k. refl; many = λ k. absurd (omega (arith, k)) };
  told = λ k. (refl, stays-none l e found a b);
}

-- ---- one item more

behind-next : {A : Type 0} (kind : List A → Kind) (says : Data → A) (path : List Step) (d : Data) (at : ℕ) (all : List A) (ds : Items) (p : ℕ) (earlier : List A)
    → at ≡ p + items_len ds → all ≡ earlier ++ each_of says ds → each_behind kind says path p earlier (both ds (item d no_items)) ≡ each_behind kind says path p earlier ds ++ kind all (then_item path at) d
behind-next kind says path d at all no_items p earlier is same =
    let place : p ≡ at = omega (arith, is) in
    let whole : earlier ≡ all = sym (same ∙ append-nil earlier) in
    append-nil _ ∙ ap₂ (λ n xs. kind xs (then_item path n) d) place whole
behind-next kind says path d at all (item first ds) p earlier is same =
    let next = earlier ++ says first ∷ [] in
    let later : at ≡ (p + 1) + items_len ds = omega (arith, is) in
    let whole : all ≡ next ++ each_of says ds = same ∙ sym (append_assoc earlier (says first ∷ []) (each_of says ds)) in
    ap (λ causes. kind earlier (then_item path p) first ++ causes) (behind-next kind says path d at all ds (p + 1) next later whole)
    ∙ sym (append_assoc (kind earlier (then_item path p) first) (each_behind kind says path (p + 1) next ds) (kind all (then_item path at) d))

pub items-next : (l : Listing) (e : Extent) (ds : Items) (d : Data) (n : ℕ) → n ≡ items_len ds
    → items_faults l e (both ds (item d no_items)) ≡ items_faults l e ds ++ item_kind l e (cabinets_of e ds) (then_item (list_path l) n) d
items-next l e ds d n is = behind-next (item_kind l e) (load_cabinet e.cabinets) (list_path l) d n (cabinets_of e ds) ds 0 [] (omega (arith, is)) refl

len-next : (ds : Items) (d : Data) → items_len (both ds (item d no_items)) ≡ items_len ds + 1
len-next no_items d = refl
len-next (item first ds) d = let later = len-next ds d in omega (arith, later)

pub counted-next : (most count : ℕ) (ds : Items) (d : Data) → count ≤ most → Counted most count (items_len ds) → Counted most (count + 1) (items_len (both ds (item d no_items)))
counted-next most count ds d low c =
    let one = len-next ds d in
    let is = c.exact low in
    record { few = omega (arith, low); exact = λ k. omega (arith, one, is); many = λ k. omega (arith, one, is, k) }

-- a cabinet, and a load, after those before
pub cabinet-judged : (e : Extent) (old new : Found) (ds : Items) (d : Data) (path : List Step) (answer : Result (Unit {0}) ReadFail)
    → Answers answer (cabinet e.version path d) (λ _. map cabinet_content new.cabinets.items ≡ map cabinet_content old.cabinets.items ++ cabinet_of e.version d ∷ [])
    → Stays Cabinets e old ds → Answers answer (item_kind Cabinets e (cabinets_of e ds) path d) (λ _. Stays Cabinets e new (both ds (item d no_items)))
cabinet-judged e old new ds d path (Ok u) h stays = (h.0, h.1 ∙ ap (λ xs. xs ++ cabinet_of e.version d ∷ []) stays ∙ sym (each_of-next (cabinet_of e.version) ds d))
cabinet-judged e old new ds d path (Err fail) h stays = h

pub load-judged : (e : Extent) (old new : Found) (ds : Items) (d : Data) (path : List Step) (answer : Result (Unit {0}) ReadFail)
    → Answers answer (load e.rounds e.cabinets (load_cabinets old.loads.items) path d) (λ _. load_cabinets new.loads.items ≡ load_cabinets old.loads.items ++ load_cabinet e.cabinets d ∷ [])
    → Stays Loads e old ds → Answers answer (item_kind Loads e (cabinets_of e ds) path d) (λ _. Stays Loads e new (both ds (item d no_items)))
load-judged e old new ds d path (Ok u) h stays =
    (subst (λ xs. load e.rounds e.cabinets xs path d ≡ []) stays h.0, h.1 ∙ ap (λ xs. xs ++ load_cabinet e.cabinets d ∷ []) stays ∙ sym (each_of-next (load_cabinet e.cabinets) ds d))
load-judged e old new ds d path (Err fail) h stays = subst (λ xs. Refuses fail (load e.rounds e.cabinets xs path d)) stays h

-- what is known of items that were counted, with further faults after theirs: past the most that are judged, after a
-- refusal, and of an item that is judged
pub counted-past : (most count : ℕ) (ds : Items) (d : Data) → most < count → Counted most count (items_len ds) → Counted most count (items_len (both ds (item d no_items)))
counted-past most count ds d past c =
    let one = len-next ds d in
    let many = c.many past in
    record { few = c.few; exact = λ k. absurd (omega (arith, k, past)); many = λ k. omega (arith, many, one) }

pub tells-past : (most : ℕ) (o : Option ReadFail) (count : ℕ) (causes more : List Cause) (P Q : Type 0) → most < count → TellsUpTo most o count causes P → TellsUpTo most o count (causes ++ more) Q
tells-past most None count causes more P Q past h = λ k. absurd (omega (arith, k, past))
tells-past most (Some fail) count causes more P Q past h = refuses_more fail causes more h

pub tells-behind : (most : ℕ) (o : Option ReadFail) (old new : ℕ) (causes more : List Cause) (P Q : Type 0) → is_some o ≡ true → TellsUpTo most o old causes P → TellsUpTo most o new (causes ++ more) Q
tells-behind most None old new causes more P Q there h = absurd (cc)
tells-behind most (Some fail) old new causes more P Q there h = refuses_more fail causes more h

pub tells-next : (most : ℕ) (o : Option ReadFail) (old new : ℕ) (causes here : List Cause) (P Q : Type 0) (answer : Result (Unit {0}) ReadFail) → old ≤ most → is_some o ≡ false
    → (P → Answers answer here (λ _. Q)) → TellsUpTo most o old causes P → TellsUpTo most (result_err answer) new (causes ++ here) Q
tells-next most None old new causes here P Q answer low none judges h = let clean = h low in so answer (judges clean.1)
  where
    all : causes ++ here ≡ here
    all = ap (λ xs. xs ++ here) (h low).0

    so : (r : Result (Unit {0}) ReadFail) → Answers r here (λ _. Q) → TellsUpTo most (result_err r) new (causes ++ here) Q
    so (Ok u) a = λ k. (all ∙ a.0, a.1)
    so (Err fail) a = subst (Refuses fail) (sym all) a
tells-next most (Some fail) old new causes here P Q answer low none judges h = absurd (cc)

-- an item past the most that are judged
pub judged-past : (l : Listing) (e : Extent) (judged : Judged) (ds : Items) (d : Data) → most_judged l < judged.count → IsJudged l e judged ds → IsJudged l e judged (both ds (item d no_items))
judged-past l e judged ds d past j =
    record {
      counted = counted-past (most_judged l) judged.count ds d past j.counted;
      told = subst (λ causes. TellsUpTo (most_judged l) judged.refusal judged.count causes (Stays l e judged.found (both ds (item d no_items)))) (sym (items-next l e ds d (items_len ds) refl))
          (tells-past (most_judged l) judged.refusal judged.count (items_faults l e ds) _ (Stays l e judged.found ds) _ past j.told);
    }

-- an item after one at fault
pub judged-behind : (l : Listing) (e : Extent) (old new : Judged) (ds : Items) (d : Data) → old.count ≤ most_judged l → new.count ≡ old.count + 1 → new.refusal ≡ old.refusal → is_some old.refusal ≡ true
    → IsJudged l e old ds → IsJudged l e new (both ds (item d no_items))
judged-behind l e old new ds d low more same some j =
    record {
      counted = subst (λ n. Counted (most_judged l) n (items_len (both ds (item d no_items)))) (sym more) (counted-next (most_judged l) old.count ds d low j.counted);
      told = subst (λ o. TellsUpTo (most_judged l) o new.count (items_faults l e (both ds (item d no_items))) (Stays l e new.found (both ds (item d no_items)))) (sym same)
          (subst (λ causes. TellsUpTo (most_judged l) old.refusal new.count causes (Stays l e new.found (both ds (item d no_items)))) (sym (items-next l e ds d (items_len ds) refl))
          (tells-behind (most_judged l) old.refusal old.count new.count (items_faults l e ds) _ (Stays l e old.found ds) _ some j.told));
    }

-- an item that is judged, after others without faults
pub judged-next : (l : Listing) (e : Extent) (old new : Judged) (ds : Items) (d : Data) (answer : Result (Unit {0}) ReadFail) → old.count ≤ most_judged l → new.count ≡ old.count + 1 → is_some old.refusal ≡ false → new.refusal ≡ result_err answer
    → (Stays l e old.found ds → Answers answer (item_kind l e (cabinets_of e ds) (then_item (list_path l) old.count) d) (λ _. Stays l e new.found (both ds (item d no_items))))
    → IsJudged l e old ds → IsJudged l e new (both ds (item d no_items))
judged-next l e old new ds d answer low more none is judges j =
    record {
      counted = subst (λ n. Counted (most_judged l) n (items_len (both ds (item d no_items)))) (sym more) (counted-next (most_judged l) old.count ds d low j.counted);
      told = subst (λ o. TellsUpTo (most_judged l) o new.count (items_faults l e (both ds (item d no_items))) (Stays l e new.found (both ds (item d no_items)))) (sym is)
          (subst (λ causes. TellsUpTo (most_judged l) (result_err answer) new.count causes (Stays l e new.found (both ds (item d no_items)))) (sym (items-next l e ds d old.count (j.counted.exact low)))
          (tells-next (most_judged l) old.refusal old.count new.count (items_faults l e ds) _ (Stays l e old.found ds) _ answer low none judges j.told));
    }
