-- Which values are allowed, and the faults of all other values.
use Rattle.std.specs.Prelude.{ℕ, ◌+◌, ◌==◌, ◌&&◌, ◌||◌, nat_le, Bool, true, false, if◌then◌else◌, List, [], ◌∷◌, ◌++◌, length, bytes_eq}
use Rattle.serde_json.specs.Data.{Num, unsigned, negative, float, Data, null, boolean, number, string, array, object, Items, no_items, item}
use Rattle.serde_json.specs.Events.{items_len}
use Rattle.scenario_data.specs.Causes.{Cause, Field, Limit}
use Rattle.scenario_read.specs.Paths.{Step, path_text, then_item}

-- how a value fits: it is allowed, of the wrong kind, or out of range
pub data Fit : Type 0 where
  Fits : Fit
  Wrong : Fit
  Beyond : Fit

-- a kind of values: it gives the faults of a value at a path, in the order of the checks
abbrev pub Kind : Type 0
Kind = List Step → Data → List Cause

-- the fault of a value at a path: none if it fits, Field if it is of the wrong kind, Limit if it is out of range
abbrev pub fault_at : List Step → Fit → List Cause
fault_at path Fits = []
fault_at path Wrong = Field (path_text path) ∷ []
fault_at path Beyond = Limit (path_text path) ∷ []

-- how a number fits: it must be from `least` to `most`
abbrev pub within : ℕ → ℕ → ℕ → Fit
within least most n = if nat_le least n && nat_le n most then Fits else Beyond

-- how a JSON number fits as a whole number from `least` to `most`. A number below 0 is out of range; a float is of
-- the wrong kind
abbrev pub number_fits : ℕ → ℕ → Num → Fit
number_fits least most (unsigned n) = within least most n
number_fits least most (negative z) = Beyond
number_fits least most (float x) = Wrong

-- how a value fits as a whole number from `least` to `most`
abbrev pub whole_fits : ℕ → ℕ → Data → Fit
whole_fits least most null = Wrong
whole_fits least most (boolean b) = Wrong
whole_fits least most (number n) = number_fits least most n
whole_fits least most (string s) = Wrong
whole_fits least most (array ds) = Wrong
whole_fits least most (object ms) = Wrong

-- how a JSON number fits as 0, or as a whole number from `least` to `most`
abbrev pub rare_number_fits : ℕ → ℕ → Num → Fit
rare_number_fits least most (unsigned n) = if n == 0 then Fits else within least most n
rare_number_fits least most (negative z) = Beyond
rare_number_fits least most (float x) = Wrong

-- how a value fits as 0, or as a whole number from `least` to `most`
abbrev pub rare_fits : ℕ → ℕ → Data → Fit
rare_fits least most null = Wrong
rare_fits least most (boolean b) = Wrong
rare_fits least most (number n) = rare_number_fits least most n
rare_fits least most (string s) = Wrong
rare_fits least most (array ds) = Wrong
rare_fits least most (object ms) = Wrong

-- all characters are printable ASCII, from the space to the tilde
abbrev pub all_printable : List ℕ → Bool
all_printable [] = true
all_printable (x ∷ xs) = (nat_le 32 x && nat_le x 126) && all_printable xs

-- how a value fits as a text of `least` to `most` printable characters; a text with any other character is of the
-- wrong kind
abbrev pub text_fits : ℕ → ℕ → Data → Fit
text_fits least most null = Wrong
text_fits least most (boolean b) = Wrong
text_fits least most (number n) = Wrong
text_fits least most (string s) = if all_printable s then within least most (length s) else Wrong
text_fits least most (array ds) = Wrong
text_fits least most (object ms) = Wrong

-- the list contains the name
abbrev pub is_among : List (List ℕ) → List ℕ → Bool
is_among [] name = false
is_among (known ∷ names) name = bytes_eq known name || is_among names name

-- how a value fits as one of these words
abbrev pub word_fits : List (List ℕ) → Data → Fit
word_fits words null = Wrong
word_fits words (boolean b) = Wrong
word_fits words (number n) = Wrong
word_fits words (string s) = if is_among words s then Fits else Wrong
word_fits words (array ds) = Wrong
word_fits words (object ms) = Wrong

-- how a value fits as true or false
abbrev pub flag_fits : Data → Fit
flag_fits null = Wrong
flag_fits (boolean b) = Fits
flag_fits (number n) = Wrong
flag_fits (string s) = Wrong
flag_fits (array ds) = Wrong
flag_fits (object ms) = Wrong

-- the kind of whole numbers of 64 bits from `least` to `most`
abbrev pub whole : ℕ → ℕ → Kind
whole least most path d = fault_at path (whole_fits least most d)

-- the kind of 0 and of whole numbers of 64 bits from `least` to `most`
abbrev pub rare : ℕ → ℕ → Kind
rare least most path d = fault_at path (rare_fits least most d)

-- the kind of texts with `least` to `most` characters from the space to the tilde of ASCII
abbrev pub text : ℕ → ℕ → Kind
text least most path d = fault_at path (text_fits least most d)

-- the kind of texts that are one of these words
abbrev pub word : List (List ℕ) → Kind
word words path d = fault_at path (word_fits words d)

-- the kind of true and false
abbrev pub flag : Kind
flag path d = fault_at path (flag_fits d)

-- the faults of items of one kind, in order; the first item has this place
abbrev pub each : Kind → List Step → ℕ → Items → List Cause
each kind path place no_items = []
each kind path place (item d ds) = kind (then_item path place) d ++ each kind path (place + 1) ds

-- how a value fits as a list of `least` to `most` items of any kind
abbrev pub list_fits : ℕ → ℕ → Data → Fit
list_fits least most null = Wrong
list_fits least most (boolean b) = Wrong
list_fits least most (number n) = Wrong
list_fits least most (string s) = Wrong
list_fits least most (array ds) = within least most (items_len ds)
list_fits least most (object ms) = Wrong

-- the items of a list; none for any other value
abbrev pub items_in : Data → Items
items_in null = no_items
items_in (boolean b) = no_items
items_in (number n) = no_items
items_in (string s) = no_items
items_in (array ds) = ds
items_in (object ms) = no_items

-- the kind of lists with `least` to `most` items of one kind. A fault of the length is before the faults of the items
abbrev pub list_of : ℕ → ℕ → Kind → Kind
list_of least most kind path d = fault_at path (list_fits least most d) ++ each kind path 0 (items_in d)

-- how a value fits as a list of any length
abbrev pub array_fits : Data → Fit
array_fits null = Wrong
array_fits (boolean b) = Wrong
array_fits (number n) = Wrong
array_fits (string s) = Wrong
array_fits (array ds) = Fits
array_fits (object ms) = Wrong

-- the faults of items, in order; the first item has this place. The kind of an item can depend on the items before it
abbrev pub each_behind : {A : Type 0} → (List A → Kind) → (Data → A) → List Step → ℕ → List A → Items → List Cause
each_behind kind says path place earlier no_items = []
each_behind kind says path place earlier (item d ds) =
    kind earlier (then_item path place) d ++ each_behind kind says path (place + 1) (earlier ++ says d ∷ []) ds

-- the kind of lists of any length in which the kind of an item can depend on the items before it
abbrev pub list_behind : {A : Type 0} → (List A → Kind) → (Data → A) → Kind
list_behind kind says path d = fault_at path (array_fits d) ++ each_behind kind says path 0 [] (items_in d)
