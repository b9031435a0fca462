-- One item more, and all items of a list.
use Rattle.std.proofs.Common.{◌≡◌, ◌≤◌, ℕ, codes, ◌+◌, Bool, true, false, List, [], ◌∷◌, ◌++◌, length, bytes_eq, refl, sym, ap, ◌∙◌, subst, arith, append_assoc, append-nil}
use Rattle.serde_json.specs.Data.{Data, Items, no_items, item}
use Rattle.serde_json.specs.Events.{items_len}
use Rattle.serde_json.specs.Written.{comma_if, compact_text, items_text}
use Rattle.scenario_data.specs.Content.{LoadContent}
use Rattle.scenario_read.specs.Paths.{Step, then_item}
use Rattle.scenario_read.specs.Kinds.{Kind, each, each_behind}
use Rattle.scenario_read.specs.Table.{round, cabinet_number, load_cabinet}
use Rattle.scenario_read.specs.Content.{each_of, number_at, load_of}
use Rattle.scenario_read.proofs.NoFaults.{none-left, none-both}
use Rattle.scenario_read.proofs.Walks.{each_of-len}
use Rattle.scenario_cut.specs.Growing.{both}
use Rattle.scenario_cut.proofs.Judging.{each_of-next}
use Rattle.scenario_file.specs.Growing.{written, inner_text, follows}
use Rattle.scenario_file.specs.declared.found.Reach.{Reach}
use Rattle.scenario_file.specs.declared.listed.Listed.{Listed}
use Rattle.scenario_file.specs.Listing.{ListTold, ToldLoads, Adds, AllOf, AsksWithin, UnlessEntry, ReachGrows, Within, Holds, Lists, any_load, asked_version, list_path, name_of}

each-next : (kind : Kind) (path : List Step) (d : Data) (at : ℕ) → kind (then_item path at) d ≡ [] → (ds : Items) (p : ℕ)
    → at ≡ p + items_len ds → each kind path p ds ≡ [] → each kind path p (both ds (item d no_items)) ≡ []
each-next kind path d at here no_items p is e =
    let same : at ≡ p = omega (arith, is) in
    none-both (kind (then_item path p) d) [] (subst (λ n. kind (then_item path n) d ≡ []) same here) refl
each-next kind path d at here (item first ds) p is e =
    let parts = none-left (kind (then_item path p) first) (each kind path (p + 1) ds) e in
    let later : at ≡ (p + 1) + items_len ds = omega (arith, is) in
    none-both (kind (then_item path p) first) (each kind path (p + 1) (both ds (item d no_items))) parts.0 (each-next kind path d at here ds (p + 1) later parts.1)

-- where the faults of an item hang on those before
behind-next : {A : Type 0} (kind : List A → Kind) (says : Data → A) (path : List Step) (d : Data) (at : ℕ) (all : List A) → kind all (then_item path at) d ≡ [] → (ds : Items) (p : ℕ) (earlier : List A)
    → at ≡ p + items_len ds → all ≡ earlier ++ each_of says ds → each_behind kind says path p earlier ds ≡ [] → each_behind kind says path p earlier (both ds (item d no_items)) ≡ []
behind-next kind says path d at all here no_items p earlier is same e =
    let place : at ≡ p = omega (arith, is) in
    let whole : all ≡ earlier = same ∙ append-nil earlier in
    none-both (kind earlier (then_item path p) d) [] (subst (λ n. kind earlier (then_item path n) d ≡ []) place (subst (λ xs. kind xs (then_item path at) d ≡ []) whole here)) refl
behind-next kind says path d at all here (item first ds) p earlier is same e =
    let next = earlier ++ says first ∷ [] in
    let parts = none-left (kind earlier (then_item path p) first) (each_behind kind says path (p + 1) next ds) e in
    let later : at ≡ (p + 1) + items_len ds = omega (arith, is) in
    let whole : all ≡ next ++ each_of says ds = same ∙ sym (append_assoc earlier (says first ∷ []) (each_of says ds)) in
    none-both (kind earlier (then_item path p) first) (each_behind kind says path (p + 1) next (both ds (item d no_items))) parts.0
    (behind-next kind says path d at all here ds (p + 1) next later whole parts.1)

pub told-next : {A : Type 0} (path : List Step) (kind : Kind) (says : Data → A) (most : ℕ) (old new : List A) (ds : Items) (d : Data)
    → ListTold path kind says most old ds → Adds path kind says most old new d → ListTold path kind says most new (both ds (item d no_items))
told-next path kind says most old new ds d t a =
    let counted : length old ≡ items_len ds = ap length t.said ∙ each_of-len says ds in
    record {
      causes = each-next kind path d (length old) a.causes ds 0 (omega (arith, counted)) t.causes;
      said = a.more ∙ ap (λ found. found ++ says d ∷ []) t.said ∙ sym (each_of-next says ds d);
      few = a.few;
    }

pub loads-next : (old new : List LoadContent) (cabinets now : List ℕ) (at : ℕ) (ds : Items) (d : Data) → ToldLoads old cabinets ds
    → any_load cabinets (then_item (list_path (codes "loads")) at) d ≡ [] → at ≡ length old → new ≡ old ++ load_of 86400 64 d ∷ [] → now ≡ cabinets ++ load_cabinet 64 d ∷ []
    → ToldLoads new now (both ds (item d no_items))
loads-next old new cabinets now at ds d t none place more named =
    let counted : at ≡ items_len ds = place ∙ ap length t.said ∙ each_of-len (load_of 86400 64) ds in
    record {
      causes = behind-next any_load (load_cabinet 64) (list_path (codes "loads")) d at cabinets none ds 0 [] (omega (arith, counted)) t.whose t.causes;
      said = more ∙ ap (λ found. found ++ load_of 86400 64 d ∷ []) t.said ∙ sym (each_of-next (load_of 86400 64) ds d);
      whose = named ∙ ap (λ found. found ++ load_cabinet 64 d ∷ []) t.whose ∙ sym (each_of-next (load_cabinet 64) ds d);
    }

follows-more : (ds : Items) → follows true ds ≡ true
follows-more no_items = refl
follows-more (item d ds) = refl

pub follows-next : (later : Bool) (ds : Items) (d : Data) → follows later (both ds (item d no_items)) ≡ true
follows-next later no_items d = refl
follows-next later (item first ds) d = refl

regroup : (a b c d e : List ℕ) → a ++ (b ++ ((c ++ d) ++ e)) ≡ ((a ++ (b ++ c)) ++ d) ++ e
regroup a b c d e = simp append_assoc

pub text-next : (later : Bool) (d : Data) (ds : Items) → inner_text later (both ds (item d no_items)) ≡ (inner_text later ds ++ comma_if (follows later ds)) ++ compact_text d
text-next later d no_items = ap (λ s. comma_if later ++ s) (append-nil (compact_text d))
text-next later d (item first ds) =
    ap (λ s. comma_if later ++ (compact_text first ++ s)) (text-next true d ds ∙ ap (λ b. (inner_text true ds ++ comma_if b) ++ compact_text d) (follows-more ds))
    ∙ regroup (comma_if later) (compact_text first) (inner_text true ds) (comma_if true) (compact_text d)

-- ---- what the items ask for

pub within-more : (P Q : Data → Type 0) (ds : Items) → ((d : Data) → P d → Q d) → AllOf P ds → AllOf Q ds
within-more P Q no_items step all = tt
within-more P Q (item d ds) step all = (step d all.0, within-more P Q ds step all.1)

within-next : (P : Data → Type 0) (ds : Items) (d : Data) → AllOf P ds → P d → AllOf P (both ds (item d no_items))
within-next P no_items d all here = (here, tt)
within-next P (item first ds) d all here = (all.0, within-next P ds d all.1 here)

pub chain : (a b c : ℕ) → a ≤ b → b ≤ c → a ≤ c
chain a b c p q = omega (arith, p, q)

asks-further : (b : Bool) (old new : Reach) (d : Data) → ReachGrows old new → AsksWithin b old d → AsksWithin b new d
asks-further true old new d far asks = chain (asked_version d) old.version new.version asks far.version
asks-further false old new d far asks =
    (chain (number_at (round 86400) d) old.round new.round asks.0 far.round, chain (number_at (cabinet_number 64) d) old.cabinet new.cabinet asks.1 far.cabinet)

unless-further : (entry b : Bool) (old new : Reach) (d : Data) → ReachGrows old new → UnlessEntry entry (AsksWithin b old d) → UnlessEntry entry (AsksWithin b new d)
unless-further true b old new d far asks = tt
unless-further false b old new d far asks = asks-further b old new d far asks

within-further : (name : List ℕ) (old new : Reach) (d : Data) → ReachGrows old new → Within name old d → Within name new d
within-further name old new d far asks = unless-further (bytes_eq name (codes "schedule")) (bytes_eq name (codes "cabinets")) old new d far asks

pub all-further : (name : List ℕ) (old new : Reach) (ds : Items) → ReachGrows old new → AllOf (Within name old) ds → AllOf (Within name new) ds
all-further name old new ds far all = within-more (Within name old) (Within name new) ds (λ d asks. within-further name old new d far asks) all

-- the list's own text has the brackets
pub bracketed : (later : Bool) (ds : Items) → items_text later ds ≡ inner_text later ds ++ 93 ∷ []
bracketed later no_items = refl
bracketed later (item d ds) = ap (λ s. comma_if later ++ (compact_text d ++ s)) (bracketed true ds) ∙ closing (comma_if later) (compact_text d) (inner_text true ds)
  where
    closing : (a b c : List ℕ) → a ++ (b ++ (c ++ 93 ∷ [])) ≡ (a ++ (b ++ c)) ++ 93 ∷ []
    closing a b c = simp append_assoc

-- ---- a list with one item more

pub lists-next : (old new : Listed) (ds : Items) (d : Data) (reach : Reach) → Lists old ds → Holds new.found (both ds (item d no_items))
    → written new.text ≡ (written old.text ++ comma_if old.some) ++ compact_text d → new.some ≡ true → name_of new.found ≡ name_of old.found
    → Within (name_of old.found) reach d → ReachGrows old.last new.last → ReachGrows reach new.last → Lists new (both ds (item d no_items))
lists-next old new ds d reach l holds text some same within far there =
    let name = name_of old.found in
    let here : Within name new.last d = within-further name reach new.last d there within in
    let all = within-next (Within name new.last) ds d (all-further name old.last new.last ds far l.within) here in
    record {
      holds = holds;
      text = text ∙ ap (λ s. (s ++ comma_if old.some) ++ compact_text d) l.text ∙ ap (λ b. (inner_text false ds ++ comma_if b) ++ compact_text d) l.some ∙ sym (text-next false d ds);
      some = some ∙ sym (follows-next false ds d);
      within = subst (λ n. AllOf (Within n new.last) (both ds (item d no_items))) (sym same) all;
    }
