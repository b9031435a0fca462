-- The faults of a scenario whose lists are not kept, in the order of the checks.
use Rattle.std.proofs.Common.{◌≡◌, List, [], ◌∷◌, ◌++◌, true, false, Option, Some, None, is_some, refl, sym, ap, ap₂, ◌∙◌, subst}
use Rattle.serde_json.specs.Data.{Data, null, boolean, number, string, array, object, no_members}
use Rattle.serde_json.specs.Find.{get}
use Rattle.scenario_data.specs.declared.refusal.ReadFail.{ReadFail}
use Rattle.scenario_data.specs.Causes.{Cause}
use Rattle.scenario_read.specs.CellLists.{whole_of}
use Rattle.scenario_read.specs.Content.{version_number, round_count, cabinet_count}
use Rattle.scenario_read.specs.Faults.{faults, first_cause}
use Rattle.scenario_read.specs.Fields.{field_faults, fields_faults, known_fields, names, unknown_faults}
use Rattle.scenario_read.specs.Kinds.{is_among}
use Rattle.scenario_read.specs.Readers.{Refuses}
use Rattle.scenario_read.specs.Table
use Rattle.scenario_read.proofs.Refusing.{refuses_more}
use Rattle.scenario_cut.specs.Checks.{head_fields, head_faults, head_of, extent_of, extent_at, behind_faults}
use Rattle.scenario_cut.specs.Cutting.{Setup, names_at, cut}
use Rattle.scenario_cut.specs.Judging.{name_of, TellsIn}
use Rattle.scenario_cut.specs.declared.checks.Head.{Head}
use Rattle.scenario_cut.specs.declared.judge.Extent.{Extent}
use Rattle.scenario_cut.specs.declared.judge.Listing.{Listing}
use Rattle.scenario_cut.specs.declared.judge.Listing.TheVariants.{Cabinets, Inputs, Loads, Priority, Frames, Faults}
use Rattle.scenario_cut.specs.declared.listing.ListVerdict.{ListVerdict}
use Rattle.scenario_cut.proofs.Same.{Same, same-both}
use Rattle.scenario_cut.proofs.Members.{IsObject, AllKeep, kept_members, unknown-same, field-same, fields-same, held-cut, some-cut}
use Rattle.scenario_cut.proofs.Kept.{whole-same, text-same, bare-number, master-same}
use Rattle.scenario_cut.proofs.Judging.{no-first, refuses-same}
use Rattle.scenario_cut.proofs.Verdicts.{tells-same}

-- ---- what is kept in addition to the lists

is-setup : IsObject Setup
is-setup = record { opens = refl; closed = refl }

head-kept : AllKeep Setup head_fields
head-kept = (whole-same 1 2, (whole-same 1 86400, (whole-same 1 600, (text-same 1 32, tt))))

head-same : (d : Data) → Same (head_faults (cut Setup d)) (head_faults d)
head-same null = refl
head-same (boolean b) = refl
head-same (number n) = refl
head-same (string s) = refl
head-same (array ds) = refl
head-same (object ms) =
    let known = names (known_fields (Table.scenario_shape 1 1 1) (object ms)) in
    same-both (unknown_faults known [] (kept_members Setup ms)) (unknown_faults known [] ms) (fields_faults [] (object (kept_members Setup ms)) head_fields) (fields_faults [] (object ms) head_fields)
    (unknown-same Setup is-setup (known_fields (Table.scenario_shape 1 1 1) (object ms)) refl [] ms) (fields-same Setup is-setup [] (object ms) head_fields refl head-kept)

numbers-same : (d : Data) → head_of (cut Setup d) ≡ head_of d
numbers-same d = rw (
  held-cut Setup is-setup Table.version refl whole_of bare-number d,
  held-cut Setup is-setup Table.rounds refl whole_of bare-number d,
  held-cut Setup is-setup Table.ticks refl whole_of bare-number d,
) refl

behind-same : (h : Head) (d : Data) → Same (behind_faults h d (cut Setup d)) (behind_faults h d d)
behind-same h d =
    same-both (field_faults [] d (Table.cabinets h.version)) (field_faults [] d (Table.cabinets h.version)) _ _ refl
    (same-both (field_faults [] (cut Setup d) Table.master) (field_faults [] d Table.master) _ _ (field-same Setup is-setup [] d Table.master refl master-same) refl)

-- ---- the whole

-- nine lists of faults, grouped in two ways
regroup : (u v r t c a m e l : List Cause) → Same ((u ++ (v ++ (r ++ (t ++ (c ++ []))))) ++ (a ++ (m ++ (e ++ l)))) ((u ++ ((v ++ (r ++ (t ++ (c ++ (a ++ (m ++ e)))))) ++ [])) ++ l)
regroup (x ∷ u) v r t c a m e l = refl
regroup [] (x ∷ v) r t c a m e l = refl
regroup [] [] (x ∷ r) t c a m e l = refl
regroup [] [] [] (x ∷ t) c a m e l = refl
regroup [] [] [] [] (x ∷ c) a m e l = refl
regroup [] [] [] [] [] (x ∷ a) m e l = refl
regroup [] [] [] [] [] [] (x ∷ m) e l = refl
regroup [] [] [] [] [] [] [] (x ∷ e) l = refl
regroup [] [] [] [] [] [] [] [] l = refl

split : (d : Data) → Same (head_faults d ++ behind_faults (head_of d) d d) (faults d)
split null = refl
split (boolean b) = refl
split (number n) = refl
split (string s) = refl
split (array ds) = refl
split (object ms) =
    let d = object ms in
    regroup (unknown_faults (names (known_fields (Table.scenario_shape 1 1 1) d)) [] ms)
    (field_faults [] d Table.version) (field_faults [] d Table.rounds) (field_faults [] d Table.ticks) (field_faults [] d Table.community)
    (field_faults [] d (Table.cabinets (version_number d))) (field_faults [] d Table.master)
    (fields_faults [] d (Table.event_fields (round_count d) (cabinet_count d))) _

pub head-refused : (fail : ReadFail) (d v : Data) → v ≡ cut Setup d → Refuses fail (head_faults v) → Refuses fail (faults d)
head-refused fail d v is h =
    let here : Refuses fail (head_faults d) = refuses-same fail (head_faults (cut Setup d)) (head_faults d) (head-same d) (subst (λ w. Refuses fail (head_faults w)) is h) in
    refuses-same fail (head_faults d ++ behind_faults (head_of d) d d) (faults d) (split d) (refuses_more fail (head_faults d) (behind_faults (head_of d) d d) here)

numbers-of : (h : Head) (d v : Data) → v ≡ cut Setup d → h ≡ head_of v → h ≡ head_of d
numbers-of h d v is numbers = numbers ∙ ap head_of is ∙ numbers-same d

head-clean : (d v : Data) → v ≡ cut Setup d → head_faults v ≡ [] → head_faults d ≡ []
head-clean d v is clean = no-first (head_faults d) (sym (head-same d) ∙ ap (λ w. first_cause (head_faults w)) (sym is) ∙ ap first_cause clean)

pub behind-refused : (fail : ReadFail) (h : Head) (d v : Data) → v ≡ cut Setup d → head_faults v ≡ [] → h ≡ head_of v → Refuses fail (behind_faults h d v) → Refuses fail (faults d)
behind-refused fail h d v is clean numbers refused =
    let known : h ≡ head_of d = numbers-of h d v is numbers in
    let none : head_faults d ≡ [] = head-clean d v is clean in
    let there : Refuses fail (behind_faults h d d) = refuses-same fail (behind_faults h d (cut Setup d)) (behind_faults h d d) (behind-same h d) (subst (λ w. Refuses fail (behind_faults h d w)) is refused) in
    let here : Refuses fail (behind_faults (head_of d) d d) = subst (λ k. Refuses fail (behind_faults k d d)) known there in
    refuses-same fail (head_faults d ++ behind_faults (head_of d) d d) (faults d) (split d) (subst (λ causes. Refuses fail (causes ++ behind_faults (head_of d) d d)) (sym none) here)

-- a scenario without faults, and its extent
pub both-clean : (h : Head) (d v : Data) → v ≡ cut Setup d → head_faults v ≡ [] → h ≡ head_of v → behind_faults h d v ≡ [] → (faults d ≡ []) × (extent_at h d ≡ extent_of d)
both-clean h d v is clean numbers behind =
    let known : h ≡ head_of d = numbers-of h d v is numbers in
    let cut_clean : behind_faults h d (cut Setup d) ≡ [] = subst (λ w. behind_faults h d w ≡ []) is behind in
    let there : behind_faults h d d ≡ [] = no-first (behind_faults h d d) (sym (behind-same h d) ∙ ap first_cause cut_clean) in
    let here : behind_faults (head_of d) d d ≡ [] = subst (λ k. behind_faults k d d ≡ []) known there in
    let all : head_faults d ++ behind_faults (head_of d) d d ≡ [] = ap₂ (λ (xs ys : List Cause). xs ++ ys) (head-clean d v is clean) here in
    (no-first (faults d) (sym (split d) ∙ ap first_cause all), ap (λ k. extent_at k d) known)

-- ---- the first fault of a list after others without any

pub second : (fail : ReadFail) (a b x : List Cause) → a ≡ [] → Refuses fail b → Refuses fail (a ++ (b ++ x))
second fail a b x p h = rw p (refuses_more fail b x h)

pub third : (fail : ReadFail) (a b c x : List Cause) → a ≡ [] → b ≡ [] → Refuses fail c → Refuses fail (a ++ (b ++ (c ++ x)))
third fail a b c x p q h = rw (p, q) (refuses_more fail c x h)

pub fourth : (fail : ReadFail) (a b c e x : List Cause) → a ≡ [] → b ≡ [] → c ≡ [] → Refuses fail e → Refuses fail (a ++ (b ++ (c ++ (e ++ x))))
fourth fail a b c e x p q r h = rw (p, q, r) (refuses_more fail e x h)

pub fifth : (fail : ReadFail) (a b c e f : List Cause) → a ≡ [] → b ≡ [] → c ≡ [] → e ≡ [] → Refuses fail f → Refuses fail (a ++ (b ++ (c ++ (e ++ f))))
fifth fail a b c e f p q r s h = rw (p, q, r, s) h

pub none-of-five : (a b c e f : List Cause) → a ≡ [] → b ≡ [] → c ≡ [] → e ≡ [] → f ≡ [] → a ++ (b ++ (c ++ (e ++ f))) ≡ []
none-of-five a b c e f p q r s t = rw (p, q, r, s, t) refl

-- ---- a list that isn't

no-some : (o : Option Data) → is_some o ≡ false → o ≡ None
no-some None e = refl
no-some (Some d) e = absurd (cc)

-- a list is at a name that a scenario may have
listed : (l : Listing) → is_among (names_at Setup) (name_of l) ≡ true
listed Cabinets = refl
listed Inputs = refl
listed Loads = refl
listed Priority = refl
listed Frames = refl
listed Faults = refl

-- what is known of no members is known of a scenario in which the list isn't
pub absent-in : (l : Listing) (e : Extent) (told : ListVerdict) (d v : Data) → v ≡ cut Setup d → is_some (get (name_of l) v) ≡ false → TellsIn l e told (object no_members) → TellsIn l e told d
absent-in l e told d v is absent h =
    let none : get (name_of l) d ≡ None = no-some (get (name_of l) d) (sym (some-cut Setup is-setup (name_of l) (listed l) d) ∙ ap (λ w. is_some (get (name_of l) w)) (sym is) ∙ absent) in
    tells-same l e told (object no_members) d (sym none) h
