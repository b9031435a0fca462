-- Limits of a value that are not that of the whole: each has the name of what is beyond it. So of values of any shape.
use Rattle.std.proofs.Common.{◌≡◌, ◌≢◌, ◌+◌, filter, ℕ, Bool, true, false, if◌then◌else◌, List, [], ◌∷◌, ◌++◌, Option, Some, None, subst, refl}
use Rattle.serde_json.specs.Data.{Data, null, boolean, number, string, array, object, Items, no_items, item, Members, no_members, member}
use Rattle.scenario_data.specs.Causes.{Cause, Field as FieldCause, Limit as LimitCause, Broken as BrokenCause}
use Rattle.scenario_read.specs.Paths.{Step, Named, Item, path_text, further_text, then_named, then_item}
use Rattle.scenario_read.specs.Kinds.{Fit, Fits, Wrong, Beyond, Kind, fault_at, whole_fits, rare_fits, text_fits, word_fits, flag_fits, list_fits, array_fits, is_among, each, each_behind, items_in, list_of, list_behind, whole, rare, text, word, flag}
use Rattle.scenario_read.specs.Fields.{Field, Shape, value_of, faults_of, field_faults, fields_faults, stands, only_one, chosen_faults, alternative_faults, unknown_faults, names, known_fields, members_faults, object_of}
use Rattle.scenario_read.specs.CellLists.{octets_fits, hex_text}
use Rattle.scenario_read.specs.Faults.{first_cause}

-- a text that does not begin with a dot
abbrev pub IsWord : List ℕ → Type 0
IsWord [] = ⊥
IsWord (x ∷ xs) = x ≢ 46

-- a path that begins with such a name
abbrev pub IsNamed : List Step → Type 0
IsNamed [] = ⊥
IsNamed (Named name ∷ steps) = IsWord name
IsNamed (Item place ∷ steps) = ⊥

-- a limit is that of something else than the whole
abbrev pub Elsewhere : Cause → Type 0
Elsewhere (FieldCause path) = Unit {0}
Elsewhere (LimitCause path) = IsWord path
Elsewhere (BrokenCause cabinet rule row) = Unit {0}

abbrev pub AllElsewhere : List Cause → Type 0
AllElsewhere [] = Unit {0}
AllElsewhere (cause ∷ causes) = Elsewhere cause × AllElsewhere causes

pub joined : (a b : List Cause) → AllElsewhere a → AllElsewhere b → AllElsewhere (a ++ b)
joined [] b h k = k
joined (cause ∷ a) b h k = (h.0, joined a b h.1 k)

pub word-first : (name more : List ℕ) → IsWord name → IsWord (name ++ more)
word-first [] more h = absurd h
word-first (x ∷ xs) more h = h

pub path-word : (path : List Step) → IsNamed path → IsWord (path_text path)
path-word [] h = absurd h
path-word (Named name ∷ steps) h = word-first name (further_text steps) h
path-word (Item place ∷ steps) h = absurd h

pub named-more : (path more : List Step) → IsNamed path → IsNamed (path ++ more)
named-more [] more h = absurd h
named-more (Named name ∷ steps) more h = h
named-more (Item place ∷ steps) more h = absurd h

pub at-elsewhere : (path : List Step) (fit : Fit) → IsNamed path → AllElsewhere (fault_at path fit)
at-elsewhere path Fits h = tt
at-elsewhere path Wrong h = (tt, tt)
at-elsewhere path Beyond h = (path-word path h, tt)

-- a kind whose faults below a name are elsewhere
abbrev pub Good : Kind → Type 0
Good kind = (path : List Step) (d : Data) → IsNamed path → AllElsewhere (kind path d)

pub each-elsewhere : (kind : Kind) (path : List Step) (place : ℕ) (ds : Items) → Good kind → IsNamed path → AllElsewhere (each kind path place ds)
each-elsewhere kind path place no_items good h = tt
each-elsewhere kind path place (item d ds) good h =
    joined (kind (then_item path place) d) (each kind path (place + 1) ds)
    (good (then_item path place) d (named-more path (Item place ∷ []) h)) (each-elsewhere kind path (place + 1) ds good h)

pub list-good : (least most : ℕ) (kind : Kind) → Good kind → Good (list_of least most kind)
list-good least most kind good path d h =
    joined (fault_at path (list_fits least most d)) (each kind path 0 (items_in d))
    (at-elsewhere path (list_fits least most d) h) (each-elsewhere kind path 0 (items_in d) good h)

pub whole-good : (least most : ℕ) → Good (whole least most)
whole-good least most path d h = at-elsewhere path (whole_fits least most d) h

pub rare-good : (least most : ℕ) → Good (rare least most)
rare-good least most path d h = at-elsewhere path (rare_fits least most d) h

pub text-good : (least most : ℕ) → Good (text least most)
text-good least most path d h = at-elsewhere path (text_fits least most d) h

pub hex-good : (most : ℕ) → Good (hex_text most)
hex-good most path d h = at-elsewhere path (octets_fits most d) h

pub behind-elsewhere : {A : Type 0} (kind : List A → Kind) (says : Data → A) (path : List Step) (place : ℕ) (earlier : List A) (ds : Items) → ((before : List A) → Good (kind before)) → IsNamed path
    → AllElsewhere (each_behind kind says path place earlier ds)
behind-elsewhere kind says path place earlier no_items good h = tt
behind-elsewhere kind says path place earlier (item d ds) good h =
    joined (kind earlier (then_item path place) d) (each_behind kind says path (place + 1) (earlier ++ says d ∷ []) ds)
    (good earlier (then_item path place) d (named-more path (Item place ∷ []) h)) (behind-elsewhere kind says path (place + 1) (earlier ++ says d ∷ []) ds good h)

pub list-behind-good : {A : Type 0} (kind : List A → Kind) (says : Data → A) → ((before : List A) → Good (kind before)) → Good (list_behind kind says)
list-behind-good kind says good path d h =
    joined (fault_at path (array_fits d)) (each_behind kind says path 0 [] (items_in d))
    (at-elsewhere path (array_fits d) h) (behind-elsewhere kind says path 0 [] (items_in d) good h)

pub word-good : (words : List (List ℕ)) → Good (word words)
word-good words path d h = at-elsewhere path (word_fits words d) h

pub flag-good : Good flag
flag-good path d h = at-elsewhere path (flag_fits d) h

pub of-elsewhere : (kind : Kind) (path : List Step) (o : Option Data) → Good kind → IsNamed path → AllElsewhere (faults_of kind path o)
of-elsewhere kind path None good h = at-elsewhere path Wrong h
of-elsewhere kind path (Some d) good h = good path d h

-- the kinds of some fields, and their names where these begin a path
abbrev pub AllGood : List Field → Type 0
AllGood [] = Unit {0}
AllGood (f ∷ fields) = IsWord f.name × Good f.kind × AllGood fields

-- the whole, or a path that begins with a name
abbrev pub IsPath : List Step → Type 0
IsPath [] = Unit {0}
IsPath (Named name ∷ steps) = IsWord name
IsPath (Item place ∷ steps) = ⊥

pub step-named : (path : List Step) (name : List ℕ) → IsPath path → IsWord name → IsNamed (then_named path name)
step-named [] name h word = word
step-named (Named first ∷ steps) name h word = h
step-named (Item place ∷ steps) name h word = absurd h

pub fields-elsewhere : (path : List Step) (d : Data) (fields : List Field) → IsPath path → AllGood fields → AllElsewhere (fields_faults path d fields)
fields-elsewhere path d [] h good = tt
fields-elsewhere path d (f ∷ fields) h good =
    joined (field_faults path d f) (fields_faults path d fields)
    (of-elsewhere f.kind (then_named path f.name) (value_of f d) good.1 (step-named path f.name h good.0))
    (fields-elsewhere path d fields h good.2)

pub unknown-elsewhere : (known : List (List ℕ)) (path : List Step) (ms : Members) → AllElsewhere (unknown_faults known path ms)
unknown-elsewhere known path no_members = tt
unknown-elsewhere known path (member name d ms) = split (is_among known name) (unknown-elsewhere known path ms)
  where
    split : (b : Bool) → AllElsewhere (unknown_faults known path ms)
        → AllElsewhere (if b then unknown_faults known path ms else FieldCause (path_text (then_named path name)) ∷ unknown_faults known path ms)
    split true rest = rest
    split false rest = (tt, rest)

-- the alternatives of some shape are good, whichever is there
abbrev pub Chooses : List (List Field) → Type 0
Chooses alternatives = (path : List Step) (d : Data) → IsPath path → AllElsewhere (alternative_faults path d alternatives)

pub none-chosen : Chooses []
none-chosen path d h = tt

pub wrong-elsewhere : (path : List Step) → AllElsewhere (fault_at path Wrong)
wrong-elsewhere path = (tt, tt)

pub members-elsewhere : (shape : Shape) (path : List Step) (ms : Members) → IsPath path → AllGood shape.fields → Chooses shape.alternatives
    → AllElsewhere (members_faults shape path ms)
members-elsewhere shape path ms h good chooses =
    joined (unknown_faults (names (known_fields shape (object ms))) path ms)
    (fields_faults path (object ms) shape.fields ++ alternative_faults path (object ms) shape.alternatives)
    (unknown-elsewhere (names (known_fields shape (object ms))) path ms)
    (joined (fields_faults path (object ms) shape.fields) (alternative_faults path (object ms) shape.alternatives)
    (fields-elsewhere path (object ms) shape.fields h good) (chooses path (object ms) h))

pub object-elsewhere : (shape : Shape) (path : List Step) (d : Data) → IsPath path → AllGood shape.fields → Chooses shape.alternatives
    → AllElsewhere (object_of shape path d)
object-elsewhere shape path null h good chooses = wrong-elsewhere path
object-elsewhere shape path (boolean b) h good chooses = wrong-elsewhere path
object-elsewhere shape path (number n) h good chooses = wrong-elsewhere path
object-elsewhere shape path (string s) h good chooses = wrong-elsewhere path
object-elsewhere shape path (array ds) h good chooses = wrong-elsewhere path
object-elsewhere shape path (object ms) h good chooses = members-elsewhere shape path ms h good chooses

pub any-path : (path : List Step) → IsNamed path → IsPath path
any-path [] h = absurd h
any-path (Named name ∷ steps) h = h
any-path (Item place ∷ steps) h = absurd h

pub object-good : (shape : Shape) → AllGood shape.fields → Chooses shape.alternatives → Good (object_of shape)
object-good shape good chooses path d h = object-elsewhere shape path d (any-path path h) good chooses

-- an alternative of good fields is good, and the others are
pub choice-good : (path : List Step) (d : Data) (o : Option (List Field)) → IsPath path → ((fields : List Field) → o ≡ Some fields → AllGood fields) → AllElsewhere (chosen_faults path d o)
choice-good path d None h good = wrong-elsewhere path
choice-good path d (Some fields) h good = fields-elsewhere path d fields h (good fields refl)

abbrev pub EachGood : List (List Field) → Type 0
EachGood [] = Unit {0}
EachGood (fields ∷ more) = AllGood fields × EachGood more

pub kept-good : (d : Data) (alternatives : List (List Field)) → EachGood alternatives → EachGood (filter (stands d) alternatives)
kept-good d [] good = tt
kept-good d (fields ∷ more) good = at (stands d fields) (kept-good d more good.1)
  where
    at : (b : Bool) → EachGood (filter (stands d) more) → EachGood (if b then fields ∷ filter (stands d) more else filter (stands d) more)
    at true rest = (good.0, rest)
    at false rest = rest

pub only-good : (alternatives : List (List Field)) (fields : List Field) → EachGood alternatives → only_one alternatives ≡ Some fields → AllGood fields
only-good [] fields good e = absurd (cc)
only-good (a ∷ []) fields good e = let same : a ≡ fields = cc in subst AllGood same good.0
only-good (a ∷ b ∷ more) fields good e = absurd (cc)

pub each-chooses : (alternatives : List (List Field)) → EachGood alternatives → Chooses alternatives
each-chooses [] good path d h = tt
each-chooses (a ∷ more) good path d h =
    choice-good path d (only_one (filter (stands d) (a ∷ more))) h (λ fields is. only-good (filter (stands d) (a ∷ more)) fields (kept-good d (a ∷ more) good) is)

pub first-elsewhere : (causes : List Cause) (path : List ℕ) → AllElsewhere causes → first_cause causes ≡ Some (LimitCause path) → IsWord path
first-elsewhere [] path h e = absurd (cc)
first-elsewhere (cause ∷ causes) path h e = let same : cause ≡ LimitCause path = cc in subst Elsewhere same h.0

pub no-word : (path : List ℕ) → path ≡ 46 ∷ [] → IsWord path → ⊥
no-word path e word = let dot : IsWord (46 ∷ []) = subst IsWord e word in dot refl
