-- The journal of a round lists the passes that brought the items of a cabinet, in order. With the streams it defines
-- what happened to the cabinet.
use Rattle.std.specs.Prelude.{ℕ, ◌+◌, ◌==◌, ◌≡◌, if◌then◌else◌, List, [], ◌∷◌, ◌++◌, length, replicate, get_or}
use Rattle.sig_types.specs.Items.{Item, Ticked}

-- how often a number occurs in a list
abbrev pub times : ℕ → List ℕ → ℕ
times p [] = 0
times p (q ∷ qs) = if p == q then times p qs + 1 else times p qs

-- this is a journal of these streams: it contains each pass as often as the stream of this pass has items
abbrev pub IsMerge : List (List Item) → List ℕ → Type 0
IsMerge streams journal = (p : ℕ) → times p journal ≡ length (get_or streams p [])

-- the journal that takes all items of the first stream, then all items of the next stream, and so on; passes are
-- numbered from `first`
abbrev pub serial_from : ℕ → List (List Item) → List ℕ
serial_from first [] = []
serial_from first (items ∷ others) = replicate (length items) first ++ serial_from (first + 1) others

-- the serial journal: all of pass 0, then all of pass 1, and so on
abbrev pub serial : List (List Item) → List ℕ
serial streams = serial_from 0 streams

-- an item, with the pass that brings it
pub record Act : Type 0 where
  pub pass : ℕ
  pub item : Item

-- the act of pass `p` after the passes `before`: the next item of its stream
abbrev pub act_of : List (List Item) → List ℕ → ℕ → Act
act_of streams before p = record { pass = p; item = get_or (get_or streams p []) (times p before) Ticked }

-- the act of each pass of a journal, in order. The passes `before` came first; they have the newest first
abbrev pub acts_from : List (List Item) → List ℕ → List ℕ → List Act
acts_from streams before [] = []
acts_from streams before (p ∷ journal) = act_of streams before p ∷ acts_from streams (p ∷ before) journal

-- the acts of a journal, in order
abbrev pub acts_of : List (List Item) → List ℕ → List Act
acts_of streams journal = acts_from streams [] journal

-- the items of these acts
abbrev pub items_in : List Act → List Item
items_in [] = []
items_in (act ∷ acts) = act.item ∷ items_in acts

-- the runs with one more pass at the front. It lengthens the first run if that run is of the same pass
abbrev pub with_run : ℕ → List (ℕ × ℕ) → List (ℕ × ℕ)
with_run pass [] = (pass, 1) ∷ []
with_run pass (run ∷ runs) = if pass == run.0 then (pass, run.1 + 1) ∷ runs else (pass, 1) ∷ run ∷ runs

-- a journal as longest runs; each run is a pass and how often in a row it occurs
abbrev pub runs_of : List ℕ → List (ℕ × ℕ)
runs_of [] = []
runs_of (pass ∷ journal) = with_run pass (runs_of journal)

-- the journal that these runs describe
abbrev pub passes_of : List (ℕ × ℕ) → List ℕ
passes_of [] = []
passes_of (run ∷ runs) = replicate run.1 run.0 ++ passes_of runs
