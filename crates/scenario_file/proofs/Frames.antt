-- What is put into a frame is put into the value of which it is one.
use Rattle.std.proofs.Common.{◌≡◌, ℕ, Bool, true, false, ◌||◌, if◌then◌else◌, List, Some, option_map, Ordering, Less, Equal, Greater, nat_cmp, bytes_eq, codes, refl, sym, ap, ap₂, ◌∙◌, subst}
use Rattle.std.proofs.lemmas.Slice.Eq.{bytes_eq-Decides}
use Rattle.std.specs.Cmp.Lexicographic.{slice_cmp}
use Rattle.std.specs.Ordering.{match_ordering}
use Rattle.serde_json.specs.Data.{Data, null, boolean, number, string, array, object, Items, Members, no_members, member}
use Rattle.serde_json.specs.Find.{get, get_member}
use Rattle.scenario_cut.proofs.Members.{equal-names}
use Rattle.scenario_file.specs.Framing.{is_list, filled, filled_in, scheduled, master_with, value_in, with_rows, Enters}

-- ---- the names of lists

at-name : (P : List ℕ → Type 0) (name l : List ℕ) → bytes_eq name l ≡ true → P l → P name
at-name P name l is p = subst P (sym ((bytes_eq-Decides name l).0 is)) p

-- what holds of each list's name holds of a name that is one of these
pub by-name : (P : List ℕ → Type 0) (name : List ℕ) → is_list name ≡ true → P (codes "cabinets") → P (codes "inputs") → P (codes "loads") → P (codes "priority") → P (codes "frames") → P (codes "faults") → P name
by-name P name is cabinets inputs loads priority frames faults =
    one (bytes_eq name (codes "cabinets")) (bytes_eq name (codes "inputs")) (bytes_eq name (codes "loads")) (bytes_eq name (codes "priority")) (bytes_eq name (codes "frames")) (bytes_eq name (codes "faults")) refl refl refl refl refl refl is
  where
    one : (a b c d e f : Bool) → bytes_eq name (codes "cabinets") ≡ a → bytes_eq name (codes "inputs") ≡ b → bytes_eq name (codes "loads") ≡ c → bytes_eq name (codes "priority") ≡ d → bytes_eq name (codes "frames") ≡ e → bytes_eq name (codes "faults") ≡ f
        → (a || (b || (c || (d || (e || f))))) ≡ true → P name
    one true b c d e f u v w x y z i = at-name P name (codes "cabinets") u cabinets
    one false true c d e f u v w x y z i = at-name P name (codes "inputs") v inputs
    one false false true d e f u v w x y z i = at-name P name (codes "loads") w loads
    one false false false true e f u v w x y z i = at-name P name (codes "priority") x priority
    one false false false false true f u v w x y z i = at-name P name (codes "frames") y frames
    one false false false false false true u v w x y z i = at-name P name (codes "faults") z faults
    one false false false false false false u v w x y z i = absurd (cc)

no-schedule : (name : List ℕ) → is_list name ≡ true → bytes_eq name (codes "schedule") ≡ false
no-schedule name is = by-name (λ n. bytes_eq n (codes "schedule") ≡ false) name is refl refl refl refl refl refl

schedule-apart : (name : List ℕ) → is_list name ≡ true → bytes_eq (codes "schedule") name ≡ false
schedule-apart name is = by-name (λ n. bytes_eq (codes "schedule") n ≡ false) name is refl refl refl refl refl refl

with-same : (rows : List ℕ → Items) (l : List ℕ) (ds : Items) → with_rows rows l ds l ≡ ds
with-same rows l ds = ap (λ b. if b then ds else rows l) ((bytes_eq-Decides l l).1 refl)

-- ---- what enters at a name

-- a value that represents itself
pub enters-same : (fill : List ℕ → Data → Data) (name : List ℕ) (d : Data) → fill name d ≡ d → Enters fill fill name d d
enters-same fill name d is = record { here = is; others = λ other apart e. refl }

-- a list at its name, whatever is there in the frame
pub enters-list : (l : List ℕ) (rows : List ℕ → Items) (ds : Items) (standing : Data) → is_list l ≡ true → Enters (value_in rows) (value_in (with_rows rows l ds)) l (array ds) standing
enters-list l rows ds standing is =
    let now = with_rows rows l ds in
    record {
      here =
          ap (λ b. if b then array (now l) else (if bytes_eq l (codes "master") then master_with (now (codes "schedule")) standing else standing)) is
          ∙ ap array (with-same rows l ds);
      others = λ name apart e. ap₂ (λ (a b : Bool).
          if is_list name then array (if a then ds else rows name) else
          (if bytes_eq name (codes "master") then master_with (if b then ds else rows (codes "schedule")) e else e)) (sym apart) (sym (schedule-apart l is));
    }

-- the master with its schedule, where it is in the frame without
pub enters-master : (rows : List ℕ → Items) (ds : Items) (m : Data) → Enters (value_in rows) (value_in (with_rows rows (codes "schedule") ds)) (codes "master") (master_with ds m) m
enters-master rows ds m = record { here = refl; others = λ name apart e. at name apart e (is_list name) refl }
  where
    at : (name : List ℕ) → bytes_eq name (codes "master") ≡ false → (e : Data) → (b : Bool) → is_list name ≡ b
        → (if b then array (rows name) else (if bytes_eq name (codes "master") then master_with (rows (codes "schedule")) e else e))
        ≡ (if b then array (if bytes_eq name (codes "schedule") then ds else rows name) else (if bytes_eq name (codes "master") then master_with ds e else e))
    at name apart e true is = ap (λ c. array (if c then ds else rows name)) (sym (no-schedule name is))
    at name apart e false is = ap (λ c. if c then master_with (rows (codes "schedule")) e else e) apart ∙ sym (ap (λ c. if c then master_with ds e else e) apart)

-- a schedule in its master, whatever is there in the frame
pub enters-schedule : (old ds : Items) (standing : Data) → Enters (scheduled old) (scheduled ds) (codes "schedule") (array ds) standing
enters-schedule old ds standing = record { here = refl; others = λ name apart e. ap (λ b. if b then array old else e) apart ∙ sym (ap (λ b. if b then array ds else e) apart) }

-- ---- what is found in the value

pub get-through : (fill : List ℕ → Data → Data) (name : List ℕ) (ms : Members) → get_member name (filled fill ms) ≡ option_map (fill name) (get_member name ms)
get-through fill name no_members = refl
get-through fill name (member l e ms) = at (slice_cmp nat_cmp name l) refl (get-through fill name ms)
  where
    at : (o : Ordering) → slice_cmp nat_cmp name l ≡ o → get_member name (filled fill ms) ≡ option_map (fill name) (get_member name ms)
        → match_ordering o (get_member name (filled fill ms)) (Some (fill l e)) (get_member name (filled fill ms))
        ≡ option_map (fill name) (match_ordering o (get_member name ms) (Some e) (get_member name ms))
    at Less is rest = rest
    at Equal is rest = ap (λ n. Some (fill n e)) (sym (equal-names name l is))
    at Greater is rest = rest

pub get-in : (fill : List ℕ → Data → Data) (name : List ℕ) (d : Data) → get name (filled_in fill d) ≡ option_map (fill name) (get name d)
get-in fill name null = refl
get-in fill name (boolean b) = refl
get-in fill name (number n) = refl
get-in fill name (string s) = refl
get-in fill name (array ds) = refl
get-in fill name (object ms) = get-through fill name ms
