-- What has happened to a cabinet, item by item, the newest item first.
use Rattle.std.specs.Prelude.{ℕ, List, [], ◌∷◌}
use Rattle.sig_tables.specs.Past.{History}
use Rattle.sig_types.specs.Items.{Item}

-- the history of a cabinet: the community of its messages, the history of its controller at the start, and the items
-- that have reached it since
pub record CabinetHistory : Type 0 where
  pub community : List ℕ
  pub opening : History
  pub items : List Item

-- the history of a cabinet before any item
abbrev pub opened : List ℕ → History → CabinetHistory
opened community opening = record { community = community; opening = opening; items = [] }

-- the cabinet history with one more item
abbrev pub with_item : CabinetHistory → Item → CabinetHistory
with_item cabinet_history item = record { community = cabinet_history.community; opening = cabinet_history.opening; items = item ∷ cabinet_history.items }

-- the cabinet history after these items, the oldest item first
abbrev pub after : CabinetHistory → List Item → CabinetHistory
after cabinet_history [] = cabinet_history
after cabinet_history (item ∷ items) = after (with_item cabinet_history item) items
