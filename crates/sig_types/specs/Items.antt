-- The items that a cabinet processes in a round, pass by pass, without the memory that holds them.
use Rattle.std.specs.Prelude.{ℕ, List, [], ◌∷◌, map, replicate}
use Rattle.arrayvec.specs.ArrayVec.{ArrayVec}
use Rattle.sig_types.specs.declared.frame.Field.{Field}
use Rattle.sig_types.specs.declared.streams.Streams.{Streams}

-- an item: an input from the street (detector, button or preempt), the bytes of an SNMP message, or a tick
pub data Item : Type 0 where
  InputTold : (field : Field) → Item
  Came : (octets : List ℕ) → Item
  Ticked : Item

-- the bytes of each of these messages
abbrev pub texts_of : List (ArrayVec ℕ) → List (List ℕ)
texts_of frames = map (λ octets. octets.items) frames

-- the items of each pass of a round, in order: inputs, polls, downloads, priority requests, ticks
abbrev pub items_of : Streams → List (List Item)
items_of s =
    map InputTold s.fields.items
    ∷ map Came (texts_of s.polls.items)
    ∷ map Came (texts_of s.loads.items)
    ∷ map Came (texts_of s.prios.items)
    ∷ replicate s.ticks Ticked
    ∷ []
