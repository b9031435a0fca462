-- A frame that asks nothing is ignored; an input or a tick is not a frame.
use Rattle.std.proofs.Common.{◌≡◌, ◌≤◌, ℕ, zero, suc, ◌∙◌, List, [], ◌∷◌, map, get_or, sym, ap, subst}
use Rattle.sig_types.specs.declared.frame.Field.{Field}
use Rattle.sig_types.specs.declared.streams.Streams.{Streams}
use Rattle.sig_types.specs.Items.{Item, InputTold, Came, Ticked, items_of}
use Rattle.cab_book.proofs.Coming.{tick_item}

-- an item is a frame
abbrev IsFrame : Item → Type 0
IsFrame (Came octets) = Unit {0}
IsFrame _ = ⊥

-- the octets of one
abbrev octets_in : Item → List ℕ
octets_in (Came octets) = octets
octets_in _ = []

pub same-octets : (some others : List ℕ) → Came some ≡ Came others → some ≡ others
same-octets some others same = ap octets_in same

told-no-frame : (fields : List Field) (place : ℕ) → IsFrame (get_or (map InputTold fields) place Ticked) → ⊥
told-no-frame [] place frame = frame
told-no-frame (field ∷ fields) zero frame = frame
told-no-frame (field ∷ fields) (suc place) frame = told-no-frame fields place frame

pub input-no-frame : (streams : Streams) (place : ℕ) (octets : List ℕ) → get_or (get_or (items_of streams) 0 []) place Ticked ≡ Came octets → ⊥
input-no-frame streams place octets is = told-no-frame streams.fields.items place (subst IsFrame (sym is) tt)

pub tick-no-frame : (streams : Streams) (pass place : ℕ) (octets : List ℕ) → 4 ≤ pass → get_or (get_or (items_of streams) pass []) place Ticked ≡ Came octets → ⊥
tick-no-frame streams pass place octets above is = subst IsFrame (sym is ∙ tick_item streams pass place above) tt
