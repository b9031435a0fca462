-- What is known of the lists that are looked for in one pass, a member at a time; and of a scenario inside an object.
use Rattle.std.proofs.Common.{◌≡◌, ◌||◌, ℕ, Bool, true, false, if◌then◌else◌, List, codes, Option, Some, None, option_map, is_some, unwrap_or, bytes_eq, refl, sym, ap, ◌∙◌, subst}
use Rattle.std.proofs.lemmas.Slice.Eq.{bytes_eq-Decides}
use Rattle.serde_json.specs.Data.{Data, null, boolean, number, string, array, object, Members, no_members, put}
use Rattle.serde_json.specs.Find.{get}
use Rattle.serde_json.proofs.Views.{get_member-put, get_member-put_other}
use Rattle.scenario_read.specs.Fields.{either}
use Rattle.scenario_cut.specs.Around.{Object, scenario_in}
use Rattle.scenario_cut.specs.Beginning.{IsNoObject}
use Rattle.scenario_cut.specs.Cutting.{Outer, Setup, cut}
use Rattle.scenario_cut.specs.Judging.{name_of, TellsOf, TellsIn}
use Rattle.scenario_cut.specs.Known.{is_in, stands, any_stands, if_named, list_named, told_of, with_told, Knows}
use Rattle.scenario_cut.specs.declared.judge.Extent.{Extent}
use Rattle.scenario_cut.specs.declared.judge.Listing.{Listing}
use Rattle.scenario_cut.specs.declared.judge.Listing.TheVariants.{Cabinets, Inputs, Loads, Priority, Frames, Faults}
use Rattle.scenario_cut.specs.declared.listing.ListVerdict.{ListVerdict}
use Rattle.scenario_cut.specs.declared.named.Group.{Group}
use Rattle.scenario_cut.specs.declared.named.Group.TheVariants.{Cabinets as OfCabinets, Events as OfEvents}
use Rattle.scenario_cut.specs.declared.named.Known.{Known}
use Rattle.scenario_cut.specs.declared.named.Search.{Search}
use Rattle.scenario_cut.proofs.Members.{IsObject, get-cut}
use Rattle.scenario_cut.proofs.Verdicts.{put-here, put-other, tells-same}

-- ---- the list of a name

some-same : (l m : Listing) → Some l ≡ Some m → l ≡ m
some-same l m e = cc

named-own : (name : List ℕ) (l m : Listing) (other : Option Listing) → if_named name l other ≡ Some m → (other ≡ Some m → bytes_eq name (name_of m) ≡ true) → bytes_eq name (name_of m) ≡ true
named-own name l m other e later = at (bytes_eq name (name_of l)) refl e
  where
    at : (b : Bool) → bytes_eq name (name_of l) ≡ b → (if b then Some l else other) ≡ Some m → bytes_eq name (name_of m) ≡ true
    at true is k = subst (λ n. bytes_eq name (name_of n) ≡ true) (some-same l m k) is
    at false is k = later k

named-other : (name : List ℕ) (l : Listing) (other : Option Listing) → if_named name l other ≡ None → (bytes_eq name (name_of l) ≡ false) × (other ≡ None)
named-other name l other e = at (bytes_eq name (name_of l)) refl e
  where
    at : (b : Bool) → bytes_eq name (name_of l) ≡ b → (if b then Some l else other) ≡ None → (bytes_eq name (name_of l) ≡ false) × (other ≡ None)
    at true is k = absurd (cc)
    at false is k = (is, k)

nothing-own : (name : List ℕ) (m : Listing) → None ≡ Some m → bytes_eq name (name_of m) ≡ true
nothing-own name m e = absurd (cc)

list-own : (g : Group) (name : List ℕ) (m : Listing) → list_named g name ≡ Some m → bytes_eq name (name_of m) ≡ true
list-own OfCabinets name m e = named-own name Cabinets m None e (nothing-own name m)
list-own OfEvents name m e =
    named-own name Inputs m _ e
    (λ f. named-own name Loads m _ f
    (λ g. named-own name Priority m _ g
    (λ h. named-own name Frames m _ h
    (λ i. named-own name Faults m None i (nothing-own name m)))))

not-in : {A : Type 0} → false ≡ true → A
not-in e = absurd (cc)

list-none : (g : Group) (name : List ℕ) → list_named g name ≡ None → (l : Listing) → is_in g l ≡ true → bytes_eq name (name_of l) ≡ false
list-none OfCabinets name e Cabinets looked = (named-other name Cabinets None e).0
list-none OfCabinets name e Inputs looked = not-in looked
list-none OfCabinets name e Loads looked = not-in looked
list-none OfCabinets name e Priority looked = not-in looked
list-none OfCabinets name e Frames looked = not-in looked
list-none OfCabinets name e Faults looked = not-in looked
list-none OfEvents name e Cabinets looked = not-in looked
list-none OfEvents name e Inputs looked = (named-other name Inputs _ e).0
list-none OfEvents name e Loads looked = (named-other name Loads _ (named-other name Inputs _ e).1).0
list-none OfEvents name e Priority looked = (named-other name Priority _ (named-other name Loads _ (named-other name Inputs _ e).1).1).0
list-none OfEvents name e Frames looked = (named-other name Frames _ (named-other name Priority _ (named-other name Loads _ (named-other name Inputs _ e).1).1).1).0
list-none OfEvents name e Faults looked = (named-other name Faults None (named-other name Frames _ (named-other name Priority _ (named-other name Loads _ (named-other name Inputs _ e).1).1).1).1).0

left : (a b : Bool) → (a || b) ≡ false → a ≡ false
left true b e = absurd (cc)
left false b e = refl

right : (a b : Bool) → (a || b) ≡ false → b ≡ false
right true b e = absurd (cc)
right false b e = e

-- none of the lists is there
pub none-stands : (g : Group) (d : Data) → any_stands g d ≡ false → (l : Listing) → is_in g l ≡ true → is_some (get (name_of l) d) ≡ false
none-stands OfCabinets d e Cabinets looked = e
none-stands OfCabinets d e Inputs looked = not-in looked
none-stands OfCabinets d e Loads looked = not-in looked
none-stands OfCabinets d e Priority looked = not-in looked
none-stands OfCabinets d e Frames looked = not-in looked
none-stands OfCabinets d e Faults looked = not-in looked
none-stands OfEvents d e Cabinets looked = not-in looked
none-stands OfEvents d e Inputs looked = left (stands Inputs d) _ e
none-stands OfEvents d e Loads looked = left (stands Loads d) _ (right (stands Inputs d) _ e)
none-stands OfEvents d e Priority looked = left (stands Priority d) _ (right (stands Loads d) _ (right (stands Inputs d) _ e))
none-stands OfEvents d e Frames looked = left (stands Frames d) _ (right (stands Priority d) _ (right (stands Loads d) _ (right (stands Inputs d) _ e)))
none-stands OfEvents d e Faults looked = right (stands Frames d) _ (right (stands Priority d) _ (right (stands Loads d) _ (right (stands Inputs d) _ e)))

-- where what happens is looked for, each of its lists is
pub looked-for : (s : Search) (l : Listing) → s.group ≡ OfEvents → is_in OfEvents l ≡ true → is_in s.group l ≡ true
looked-for s l group looked = ap (λ g. is_in g l) group ∙ looked

-- the list that has a name
abbrev list-of : List ℕ → Listing
list-of name = unwrap_or (if_named name Cabinets (list_named OfEvents name)) Cabinets

list-of-name : (l : Listing) → list-of (name_of l) ≡ l
list-of-name Cabinets = refl
list-of-name Inputs = refl
list-of-name Loads = refl
list-of-name Priority = refl
list-of-name Frames = refl
list-of-name Faults = refl

one-list : (l m : Listing) → bytes_eq (name_of l) (name_of m) ≡ true → l ≡ m
one-list l m same = sym (list-of-name l) ∙ ap list-of ((bytes_eq-Decides (name_of l) (name_of m)).0 same) ∙ list-of-name m

-- ---- a member

told-with : (l m : Listing) (told : ListVerdict) (known : Known) → told_of l (with_told m told known) ≡ (if bytes_eq (name_of m) (name_of l) then told else told_of l known)
told-with Cabinets m told known = refl
told-with Inputs m told known = refl
told-with Loads m told known = refl
told-with Priority m told known = refl
told-with Frames m told known = refl
told-with Faults m told known = refl

-- one of the lists comes
pub judged-member : (s : Search) (m : Listing) (told : ListVerdict) (known : Known) (name : List ℕ) (d : Data) (ms : Members) → list_named s.group name ≡ Some m → TellsOf m s.extent told d
    → Knows s known (object ms) → Knows s (with_told m told known) (object (put name d ms))
judged-member s m told known name d ms is h knows =
    λ l looked. subst (λ t. TellsIn l s.extent t now) (sym (told-with l m told known)) (at l looked (bytes_eq (name_of m) (name_of l)) refl)
  where
    now : Data
    now = object (put name d ms)

    own : bytes_eq name (name_of m) ≡ true
    own = list-own s.group name m is

    at : (l : Listing) → is_in s.group l ≡ true → (b : Bool) → bytes_eq (name_of m) (name_of l) ≡ b → TellsIn l s.extent (if b then told else told_of l known) now
    at l looked true same = subst (λ n. TellsIn n s.extent told now) (one-list m l same) (put-here m s.extent told name d ms own h)
    at l looked false apart =
        put-other l s.extent (told_of l known) name d ms (ap (λ n. bytes_eq n (name_of l)) ((bytes_eq-Decides name (name_of m)).0 own) ∙ apart) (knows l looked)

-- another member comes
pub passed-member : (s : Search) (known : Known) (name : List ℕ) (d : Data) (ms : Members) → list_named s.group name ≡ None → Knows s known (object ms) → Knows s known (object (put name d ms))
passed-member s known name d ms none knows = λ l looked. put-other l s.extent (told_of l known) name d ms (list-none s.group name none l looked) (knows l looked)

-- what is known of each list is known of all
pub all-told : (e : Extent) (d : Data) (known : Known) → TellsIn Cabinets e known.cabinets d → TellsIn Inputs e known.inputs d → TellsIn Loads e known.loads d
    → TellsIn Priority e known.priority d → TellsIn Frames e known.frames d → TellsIn Faults e known.faults d → (l : Listing) → TellsIn l e (told_of l known) d
all-told e d known cabinets inputs loads priority frames faults Cabinets = cabinets
all-told e d known cabinets inputs loads priority frames faults Inputs = inputs
all-told e d known cabinets inputs loads priority frames faults Loads = loads
all-told e d known cabinets inputs loads priority frames faults Priority = priority
all-told e d known cabinets inputs loads priority frames faults Frames = frames
all-told e d known cabinets inputs loads priority frames faults Faults = faults

-- ---- a scenario inside an object

abbrev inside : Option Data → Data
inside o = unwrap_or (either o None) null

pub inner-put : (name : List ℕ) (d : Data) (ms : Members) → bytes_eq name (codes "scenario") ≡ true → scenario_in Object (object (put name d ms)) ≡ d
inner-put name d ms is =
    let same : codes "scenario" ≡ name = sym ((bytes_eq-Decides name (codes "scenario")).0 is) in
    ap inside (ap (λ n. get n (object (put name d ms))) same ∙ get_member-put name d ms)

pub outer-put : (name : List ℕ) (d : Data) (ms : Members) → bytes_eq name (codes "scenario") ≡ false → scenario_in Object (object (put name d ms)) ≡ scenario_in Object (object ms)
outer-put name d ms is =
    let apart = λ (same : codes "scenario" ≡ name). let both : bytes_eq name (codes "scenario") ≡ true = (bytes_eq-Decides name (codes "scenario")).1 (sym same) in let clash : true ≡ false = sym both ∙ is in absurd (cc) in
    ap inside (get_member-put_other (codes "scenario") name d ms apart)

-- no list is known of what is not an object
pub none-inside : (s : Search) (known : Known) → ((e : Extent) → (l : Listing) → TellsIn l e (told_of l known) (object no_members)) → Knows s known null
none-inside s known absent = λ l looked. tells-same l s.extent (told_of l known) (object no_members) null (nowhere l) (absent s.extent l)
  where
    nowhere : (l : Listing) → get (name_of l) (object no_members) ≡ get (name_of l) null
    nowhere l = refl

-- nothing is at a name in what is not an object
no-names : (d : Data) → IsNoObject d → (name : List ℕ) → get name d ≡ None
no-names null none name = refl
no-names (boolean b) none name = refl
no-names (number n) none name = refl
no-names (string s) none name = refl
no-names (array ds) none name = refl
no-names (object ms) none name = absurd none

-- in what is not an object none of the lists is there
pub none-named : (s : Search) (known : Known) (d : Data) → IsNoObject d → ((e : Extent) → (l : Listing) → TellsIn l e (told_of l known) (object no_members)) → Knows s known d
none-named s known d none absent = λ l looked. tells-same l s.extent (told_of l known) (object no_members) d (nowhere l) (absent s.extent l)
  where
    nowhere : (l : Listing) → get (name_of l) (object no_members) ≡ get (name_of l) d
    nowhere l = sym (no-names d none (name_of l))

is-outer : IsObject Outer
is-outer = record { opens = refl; closed = refl }

of-some : (o : Option Data) (v : Data) → option_map (cut Setup) o ≡ Some v → v ≡ cut Setup (inside o)
of-some None v e = absurd (cc)
of-some (Some d) v e = cc

-- what is kept of the scenario is in what is kept of the object
pub kept-inside : (d frame v : Data) → frame ≡ cut Outer d → get (codes "scenario") frame ≡ Some v → v ≡ cut Setup (scenario_in Object d)
kept-inside d frame v is stands = of-some (get (codes "scenario") d) v (sym (get-cut Outer is-outer (codes "scenario") refl d) ∙ ap (get (codes "scenario")) (sym is) ∙ stands)
