-- Lists of which less is kept: they are as long, or longer than they may be; and as long as no item is at fault their items are kept.
use Rattle.std.proofs.Common.{◌≡◌, ◌≤◌, ◌<◌, ℕ, zero, suc, ◌+◌, ◌&&◌, nat_le, Bool, true, false, if◌then◌else◌, List, [], ◌∷◌, ◌++◌, refl, sym, ap, ◌∙◌, subst, arith}
use Rattle.std.proofs.lemmas.Bool.{leb-true, leb-false}
use Rattle.serde_json.specs.Data.{Data, null, boolean, number, string, array, object, Items, no_items, item, Members}
use Rattle.serde_json.specs.Events.{items_len}
use Rattle.scenario_data.specs.Causes.{Cause}
use Rattle.scenario_read.specs.Faults.{first_cause}
use Rattle.scenario_read.specs.Paths.{Step, then_item}
use Rattle.scenario_read.specs.Kinds.{Fits, Beyond, Kind, fault_at, within, each, each_behind, list_of, list_behind}
use Rattle.scenario_read.specs.Content.{each_of}
use Rattle.scenario_cut.specs.Cutting.{Form, Events, Event, Pulses, Pulse, opens_array, opens_object, item_form, names_at, few, is_of_a_round, is_a_pulse, room, room_behind, drops, cut, cut_items, cut_members}
use Rattle.scenario_cut.proofs.Same.{Same, Faulty, same-both, same-ended}

-- where none is dropped there are as many
pub items-len : (f : Form) → drops f ≡ false → (n : ℕ) (ds : Items) → items_len (cut_items f n ds) ≡ items_len ds
items-len f all n no_items = refl
items-len f all zero (item d ds) = ap (λ b. items_len (if b then no_items else item null (cut_items f zero ds))) all ∙ ap suc (items-len f all zero ds)
items-len f all (suc n) (item d ds) = ap suc (items-len f all (room_behind f n d) ds)

-- each item leaves room for one less
abbrev pub Counts : Form → Type 0
Counts f = (n : ℕ) (d : Data) → room_behind f n d ≡ n

-- of no more than there is room for, all are kept, and of more that many
pub len-few : (f : Form) → Counts f → (n : ℕ) (ds : Items) → items_len ds ≤ n → items_len (cut_items f n ds) ≡ items_len ds
len-few f counts n no_items few = refl
len-few f counts zero (item d ds) few = absurd (omega (arith, few))
len-few f counts (suc n) (item d ds) few = ap suc (ap (λ m. items_len (cut_items f m ds)) (counts n d) ∙ len-few f counts n ds (omega (arith, few)))

pub len-many : (f : Form) → Counts f → (n : ℕ) (ds : Items) → n ≤ items_len ds → n ≤ items_len (cut_items f n ds)
len-many f counts zero ds many = omega arith
len-many f counts (suc n) no_items many = absurd (omega (arith, many))
len-many f counts (suc n) (item d ds) many =
    let later : n ≤ items_len (cut_items f (room_behind f n d) ds) = subst (λ m. n ≤ items_len (cut_items f m ds)) (sym (counts n d)) (len-many f counts n ds (omega (arith, many))) in
    omega (arith, later)

-- at a place where an array may be and no object
pub record IsArray (f : Form) : Type 0 where
  pub opens : opens_array f ≡ true
  pub closed : opens_object f ≡ false

abbrev pub kept : Form → Items → Items
kept f ds = cut_items (item_form f) (room (item_form f)) ds

pub kept-list : (f : Form) → IsArray f → (ds : Items) → cut f (array ds) ≡ array (kept f ds)
kept-list f is ds = ap (λ b. if b then array (kept f ds) else null) is.opens

pub kept-no-object : (f : Form) → IsArray f → (ms : Members) → cut f (object ms) ≡ null
kept-no-object f is ms = ap (λ b. if b then object (few (names_at f) (cut_members f ms)) else null) is.closed

-- what the first fault of an item is, is kept
abbrev pub KeepsItem : Form → Kind → Type 0
KeepsItem f kind = (path : List Step) (d : Data) → Same (kind path (cut f d)) (kind path d)

-- a list of that many items at the most, each of which is kept
pub each-counted : (f : Form) (kind : Kind) → KeepsItem f kind → Counts f → (path : List Step) (n p : ℕ) (ds : Items) → items_len ds ≤ n
    → Same (each kind path p (cut_items f n ds)) (each kind path p ds)
each-counted f kind keeps counts path n p no_items few = refl
each-counted f kind keeps counts path zero p (item d ds) few = absurd (omega (arith, few))
each-counted f kind keeps counts path (suc n) p (item d ds) few =
    same-both (kind (then_item path p) (cut f d)) (kind (then_item path p) d) (each kind path (p + 1) (cut_items f (room_behind f n d) ds)) (each kind path (p + 1) ds) (keeps (then_item path p) d)
    (subst (λ m. Same (each kind path (p + 1) (cut_items f m ds)) (each kind path (p + 1) ds)) (sym (counts n d)) (each-counted f kind keeps counts path n (p + 1) ds (omega (arith, few))))

-- a list whose items are all kept
pub each-kept : (f : Form) (kind : Kind) → KeepsItem f kind → ((n : ℕ) (d : Data) → room_behind f n d ≡ suc n) → (path : List Step) (n p : ℕ) (ds : Items) → Same (each kind path p (cut_items f (suc n) ds)) (each kind path p ds)
each-kept f kind keeps all path n p no_items = refl
each-kept f kind keeps all path n p (item d ds) =
    same-both (kind (then_item path p) (cut f d)) (kind (then_item path p) d) (each kind path (p + 1) (cut_items f (room_behind f n d) ds)) (each kind path (p + 1) ds) (keeps (then_item path p) d)
    (subst (λ m. Same (each kind path (p + 1) (cut_items f m ds)) (each kind path (p + 1) ds)) (sym (all n d)) (each-kept f kind keeps all path n (p + 1) ds))

-- what happens, and is of no round or no cabinet, is at fault
abbrev pub Stops : Kind → Type 0
Stops kind = (path : List Step) (d : Data) → is_of_a_round d ≡ false → Faulty (kind path d)

-- a list that is kept up to an item of which this isn't so, where that is at fault
module _ (f : Form) (goes : Data → Bool) (behind : (n : ℕ) (d : Data) → room_behind f n d ≡ (if goes d then suc n else 0))
    (kind : Kind) (keeps : KeepsItem f kind) (stops : (path : List Step) (d : Data) → goes d ≡ false → Faulty (kind path d)) where
  pub each-going : (path : List Step) (n p : ℕ) (ds : Items) → Same (each kind path p (cut_items f (suc n) ds)) (each kind path p ds)
  each-going path n p no_items = refl
  each-going path n p (item d ds) =
      ap (λ m. first_cause (kind here (cut f d) ++ each kind path (p + 1) (cut_items f m ds))) (behind n d) ∙ step (goes d) refl (each-going path n (p + 1) ds)
    where
      here : List Step
      here = then_item path p

      step : (b : Bool) → goes d ≡ b → Same (each kind path (p + 1) (cut_items f (suc n) ds)) (each kind path (p + 1) ds)
          → Same (kind here (cut f d) ++ each kind path (p + 1) (cut_items f (if b then suc n else 0) ds)) (kind here d ++ each kind path (p + 1) ds)
      step true is later = same-both (kind here (cut f d)) (kind here d) _ _ (keeps here d) later
      step false is later = same-ended (kind here (cut f d)) (kind here d) _ _ (keeps here d) (stops here d is)

pub each-event : (kind : Kind) → KeepsItem Event kind → Stops kind → (path : List Step) (n p : ℕ) (ds : Items) → Same (each kind path p (cut_items Event (suc n) ds)) (each kind path p ds)
each-event kind keeps stops = each-going Event is_of_a_round (λ n d. refl) kind keeps stops

-- a pulse that lacks a name is at fault
abbrev pub PulseStops : Kind → Type 0
PulseStops kind = (path : List Step) (d : Data) → is_a_pulse d ≡ false → Faulty (kind path d)

-- the same where a fault of an item may hang on what the earlier ones say
module _ {A : Type 0} (kind : List A → Kind) (says : Data → A) (keeps : (earlier : List A) → KeepsItem Event (kind earlier)) (stops : (earlier : List A) → Stops (kind earlier))
    (same : (d : Data) → says (cut Event d) ≡ says d) where
  pub each-behind-event : (path : List Step) (n p : ℕ) (earlier : List A) (ds : Items) → Same (each_behind kind says path p earlier (cut_items Event (suc n) ds)) (each_behind kind says path p earlier ds)
  each-behind-event path n p earlier no_items = refl
  each-behind-event path n p earlier (item d ds) = step (is_of_a_round d) refl (each-behind-event path n (p + 1) (earlier ++ says d ∷ []) ds)
    where
      here : List Step
      here = then_item path p

      now : List A
      now = earlier ++ says d ∷ []

      step : (b : Bool) → is_of_a_round d ≡ b → Same (each_behind kind says path (p + 1) now (cut_items Event (suc n) ds)) (each_behind kind says path (p + 1) now ds)
          → Same (kind earlier here (cut Event d) ++ each_behind kind says path (p + 1) (earlier ++ says (cut Event d) ∷ []) (cut_items Event (if b then suc n else 0) ds)) (kind earlier here d ++ each_behind kind says path (p + 1) now ds)
      step true is later = same-both (kind earlier here (cut Event d)) (kind earlier here d) _ _ (keeps earlier here d)
          (subst (λ a. Same (each_behind kind says path (p + 1) (earlier ++ a ∷ []) (cut_items Event (suc n) ds)) (each_behind kind says path (p + 1) now ds)) (sym (same d)) later)
      step false is later = same-ended (kind earlier here (cut Event d)) (kind earlier here d) _ _ (keeps earlier here d) (stops earlier here d is)

-- ---- whole lists

too-many : (path : List Step) (a : Bool) → Faulty (fault_at path (if a && false then Fits else Beyond))
too-many path true = tt
too-many path false = tt

pub past-most : (least most n : ℕ) → most < n → within least most n ≡ Beyond
past-most least most n over = at (nat_le least n) (nat_le n most) refl
  where
    at : (a b : Bool) → nat_le n most ≡ b → (if a && b then Fits else Beyond) ≡ Beyond
    at a true is = absurd (omega (arith, over, leb-true n most is))
    at true false is = refl
    at false false is = refl

-- a list of less items than there is room for at the most
module _ (f : Form) (is : IsArray f) (counts : Counts (item_form f)) (least most : ℕ) (low : most < room (item_form f)) (kind : Kind) (keeps : KeepsItem (item_form f) kind) (path : List Step) where
  abbrev own : ℕ → List Cause
  own n = fault_at path (within least most n)

  as-many : (ds : Items) → items_len ds ≤ most → Same (own (items_len (kept f ds)) ++ each kind path 0 (kept f ds)) (own (items_len ds) ++ each kind path 0 ds)
  as-many ds few =
      let fit : items_len ds ≤ room (item_form f) = omega (arith, low, few) in
      ap (λ n. first_cause (own n ++ each kind path 0 (kept f ds))) (len-few (item_form f) counts (room (item_form f)) ds fit)
      ∙ same-both (own (items_len ds)) (own (items_len ds)) _ _ refl (each-counted (item_form f) kind keeps counts path (room (item_form f)) 0 ds fit)

  too-long : (ds : Items) → most < items_len ds → Same (own (items_len (kept f ds)) ++ each kind path 0 (kept f ds)) (own (items_len ds) ++ each kind path 0 ds)
  too-long ds many =
      let here : own (items_len ds) ≡ fault_at path Beyond = ap (fault_at path) (past-most least most (items_len ds) many) in
      let there : own (items_len (kept f ds)) ≡ fault_at path Beyond = ap (fault_at path) (past-most least most (items_len (kept f ds)) (longer ds many)) in
      same-ended (own (items_len (kept f ds))) (own (items_len ds)) _ _ (ap first_cause (there ∙ sym here)) (subst Faulty (sym here) tt)
    where
      longer : (ds : Items) → most < items_len ds → most < items_len (kept f ds)
      longer ds many = at (nat_le (items_len ds) (room (item_form f))) refl
        where
          at : (b : Bool) → nat_le (items_len ds) (room (item_form f)) ≡ b → most < items_len (kept f ds)
          at true few = subst (λ n. most < n) (sym (len-few (item_form f) counts (room (item_form f)) ds (leb-true (items_len ds) (room (item_form f)) few))) many
          at false over =
              let all : room (item_form f) < items_len ds = leb-false (items_len ds) (room (item_form f)) over in
              let so : room (item_form f) ≤ items_len (kept f ds) = len-many (item_form f) counts (room (item_form f)) ds (omega (arith, all)) in
              omega (arith, low, so)

  pub few-same : (d : Data) → Same (list_of least most kind path (cut f d)) (list_of least most kind path d)
  few-same null = refl
  few-same (boolean b) = refl
  few-same (number n) = refl
  few-same (string s) = refl
  few-same (array ds) = ap (λ d. first_cause (list_of least most kind path d)) (kept-list f is ds) ∙ at (nat_le (items_len ds) most) refl
    where
      at : (b : Bool) → nat_le (items_len ds) most ≡ b → Same (own (items_len (kept f ds)) ++ each kind path 0 (kept f ds)) (own (items_len ds) ++ each kind path 0 ds)
      at true few = as-many ds (leb-true (items_len ds) most few)
      at false many = too-long ds (leb-false (items_len ds) most many)
  few-same (object ms) = ap (λ d. first_cause (list_of least most kind path d)) (kept-no-object f is ms)

-- a list of which no item is dropped
module _ (f : Form) (is : IsArray f) (all : drops (item_form f) ≡ false) (least most : ℕ) (kind : Kind) (path : List Step) where
  pub list-same : (d : Data) → ((ds : Items) → nat_le (items_len ds) most ≡ true → Same (each kind path 0 (kept f ds)) (each kind path 0 ds)) → Same (list_of least most kind path (cut f d)) (list_of least most kind path d)
  list-same null same = refl
  list-same (boolean b) same = refl
  list-same (number n) same = refl
  list-same (string s) same = refl
  list-same (array ds) same =
      ap (λ d. first_cause (list_of least most kind path d)) (kept-list f is ds)
      ∙ ap (λ n. first_cause (fault_at path (within least most n) ++ each kind path 0 (kept f ds))) (items-len (item_form f) all (room (item_form f)) ds)
      ∙ at (nat_le (items_len ds) most) refl (same ds)
    where
      at : (b : Bool) → nat_le (items_len ds) most ≡ b → (nat_le (items_len ds) most ≡ true → Same (each kind path 0 (kept f ds)) (each kind path 0 ds))
          → Same (fault_at path (within least most (items_len ds)) ++ each kind path 0 (kept f ds)) (fault_at path (within least most (items_len ds)) ++ each kind path 0 ds)
      at true few same = same-both (fault_at path (within least most (items_len ds))) (fault_at path (within least most (items_len ds))) _ _ refl (same few)
      at false many same = same-ended (fault_at path (within least most (items_len ds))) (fault_at path (within least most (items_len ds))) _ _ refl
          (subst (λ b. Faulty (fault_at path (if nat_le least (items_len ds) && b then Fits else Beyond))) (sym many) (too-many path (nat_le least (items_len ds))))
  list-same (object ms) same = ap (λ d. first_cause (list_of least most kind path d)) (kept-no-object f is ms)

-- pulses, of which none is at fault but the last that is kept
pub pulses-same : (most : ℕ) (kind : Kind) → KeepsItem Pulse kind → PulseStops kind → KeepsItem Pulses (list_of 0 most kind)
pulses-same most kind keeps stops path d =
    list-same Pulses (record { opens = refl; closed = refl }) refl 0 most kind path d (λ ds few. each-going Pulse is_a_pulse (λ n d. refl) kind keeps stops path 0 0 ds)

pub behind-same : {A : Type 0} (kind : List A → Kind) (says : Data → A) (path : List Step) (d : Data) → ((ds : Items) → Same (each_behind kind says path 0 [] (cut_items Event 1 ds)) (each_behind kind says path 0 [] ds))
    → Same (list_behind kind says path (cut Events d)) (list_behind kind says path d)
behind-same kind says path null same = refl
behind-same kind says path (boolean b) same = refl
behind-same kind says path (number n) same = refl
behind-same kind says path (string s) same = refl
behind-same kind says path (array ds) same = same ds
behind-same kind says path (object ms) same = refl

-- ---- what items say

pub says-counted : {A : Type 0} (f : Form) (says : Data → A) → ((d : Data) → says (cut f d) ≡ says d) → Counts f → (n : ℕ) (ds : Items) → items_len ds ≤ n → each_of says (cut_items f n ds) ≡ each_of says ds
says-counted f says same counts n no_items few = refl
says-counted f says same counts zero (item d ds) few = absurd (omega (arith, few))
says-counted f says same counts (suc n) (item d ds) few =
    ap (λ a. a ∷ each_of says (cut_items f (room_behind f n d) ds)) (same d) ∙ ap (λ m. says d ∷ each_of says (cut_items f m ds)) (counts n d) ∙ ap (λ rest. says d ∷ rest) (says-counted f says same counts n ds (omega (arith, few)))
