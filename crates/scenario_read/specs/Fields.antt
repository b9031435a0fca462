-- Objects with named fields: which names are allowed, and the faults of an object.
use Rattle.std.specs.Prelude.{ℕ, Bool, false, if◌then◌else◌, List, [], ◌∷◌, ◌++◌, filter, Option, Some, None, is_some, unwrap_or}
use Rattle.serde_json.specs.Data.{Data, null, boolean, number, string, array, object, Members, no_members, member}
use Rattle.serde_json.specs.Find.{get}
use Rattle.scenario_data.specs.Causes.{Cause, Field as FieldCause}
use Rattle.scenario_read.specs.Paths.{Step, path_text, then_named}
use Rattle.scenario_read.specs.Kinds.{Wrong, Kind, fault_at, is_among}

-- a field: its name, the kind of its value, and its default; a field without a default is required
pub record Field : Type 0 where
  pub name : List ℕ
  pub kind : Kind
  pub default : Option Data

-- a required field
abbrev pub needed : List ℕ → Kind → Field
needed name kind = record { name = name; kind = kind; default = None }

-- an optional field with its default
abbrev pub optional : List ℕ → Kind → Data → Field
optional name kind default = record { name = name; kind = kind; default = Some default }

-- the shape of an object: its fields in order, and its alternatives, of which an object has exactly one. An
-- alternative is a list of fields
pub record Shape : Type 0 where
  pub fields : List Field
  pub alternatives : List (List Field)

-- the first value, or the second if there is no first
abbrev pub either : Option Data → Option Data → Option Data
either (Some d) default = Some d
either None default = default

-- the value of a field in an object, or else its default
abbrev pub value_of : Field → Data → Option Data
value_of f d = either (get f.name d) f.default

-- the value of a field, or else its default, or else null
abbrev pub held : Field → Data → Data
held f d = unwrap_or (value_of f d) null

-- the faults of a value of this kind; a missing value is of the wrong kind
abbrev pub faults_of : Kind → List Step → Option Data → List Cause
faults_of kind path None = fault_at path Wrong
faults_of kind path (Some d) = kind path d

-- the faults of one field of an object; the object is at this path
abbrev pub field_faults : List Step → Data → Field → List Cause
field_faults path d f = faults_of f.kind (then_named path f.name) (value_of f d)

-- the faults of these fields, in order
abbrev pub fields_faults : List Step → Data → List Field → List Cause
fields_faults path d [] = []
fields_faults path d (f ∷ fields) = field_faults path d f ++ fields_faults path d fields

-- the object has this alternative: it has the first name of it
abbrev pub stands : Data → List Field → Bool
stands d [] = false
stands d (f ∷ fields) = is_some (get f.name d)

-- the item of a list that has exactly one item
abbrev pub only_one : {A : Type 0} → List A → Option A
only_one [] = None
only_one (a ∷ []) = Some a
only_one (a ∷ b ∷ more) = None

-- the alternative that the object has, if it has exactly one
abbrev pub chosen : Shape → Data → Option (List Field)
chosen shape d = only_one (filter (stands d) shape.alternatives)

-- the fields of all alternatives
abbrev pub all_of : List (List Field) → List Field
all_of [] = []
all_of (fields ∷ more) = fields ++ all_of more

-- the fields that are allowed: the fields of the shape, and those of the object's alternative. If the object doesn't
-- have exactly one alternative, the fields of all alternatives are allowed
abbrev pub known_fields : Shape → Data → List Field
known_fields shape d = shape.fields ++ unwrap_or (chosen shape d) (all_of shape.alternatives)

-- the names of fields
abbrev pub names : List Field → List (List ℕ)
names [] = []
names (f ∷ fields) = f.name ∷ names fields

-- the faults of unknown names. The members are in the order of the bytes of their names
abbrev pub unknown_faults : List (List ℕ) → List Step → Members → List Cause
unknown_faults known path no_members = []
unknown_faults known path (member name d ms) =
    if is_among known name then unknown_faults known path ms
    else FieldCause (path_text (then_named path name)) ∷ unknown_faults known path ms

-- the faults of the alternative that the object has; if it doesn't have exactly one, the object itself is at fault
abbrev pub chosen_faults : List Step → Data → Option (List Field) → List Cause
chosen_faults path d None = fault_at path Wrong
chosen_faults path d (Some fields) = fields_faults path d fields

-- the faults of the alternatives of an object, if it has any
abbrev pub alternative_faults : List Step → Data → List (List Field) → List Cause
alternative_faults path d [] = []
alternative_faults path d (fields ∷ more) = chosen_faults path d (only_one (filter (stands d) (fields ∷ more)))

-- the faults of the members of an object, in the order of the checks
abbrev pub members_faults : Shape → List Step → Members → List Cause
members_faults shape path ms =
    unknown_faults (names (known_fields shape (object ms))) path ms
    ++ (fields_faults path (object ms) shape.fields ++ alternative_faults path (object ms) shape.alternatives)

-- the kind of objects with this shape. The faults of unknown names are first, then those of the fields in order, then
-- those of the alternative
abbrev pub object_of : Shape → Kind
object_of shape path null = fault_at path Wrong
object_of shape path (boolean b) = fault_at path Wrong
object_of shape path (number n) = fault_at path Wrong
object_of shape path (string s) = fault_at path Wrong
object_of shape path (array ds) = fault_at path Wrong
object_of shape path (object ms) = members_faults shape path ms
