-- Orders leave the tables in force, the version and the frames as they are.
use Rattle.std.proofs.Common.{◌≡◌, ◌∙◌, All, List, [], ◌∷◌, length, map, refl}
use Rattle.std.proofs.lemmas.List.Elements.{All-head, All-tail}
use Rattle.sig_tables.specs.Past.{History}
use Rattle.sig_tables.specs.Decide.{past_at, frames, with_one}
use Rattle.agent.specs.declared.ask.Order.{Order}
use Rattle.agent.specs.declared.ask.Order.TheVariants.{Pattern, Clock, Request as RequestOrder, Cancel}
use Rattle.agent.specs.Orders.{IsFit}
use Rattle.cabinet_history.specs.Coming.{order_event, with_events}
use Rattle.cab_book.specs.CabinetStands.{IsShowable}

pub record Aside (before after : History) : Type 0 where
  pub tables : (past_at after).tables ≡ (past_at before).tables
  pub version : (past_at after).version ≡ (past_at before).version
  pub frames : length (frames after) ≡ length (frames before)
  pub shows : IsShowable (past_at after)

one-aside : (h : History) (order : Order) → IsFit order → IsShowable (past_at h) → Aside h (with_one h (order_event order))
one-aside h (Pattern n) fit s = record { tables = refl; version = refl; frames = refl; shows = record { clock = s.clock; counter = s.counter; target = s.target } }
one-aside h (Clock time) fit s = record { tables = refl; version = refl; frames = refl; shows = record { clock = fit; counter = s.counter; target = s.target } }
one-aside h (RequestOrder r) fit s = record { tables = refl; version = refl; frames = refl; shows = record { clock = s.clock; counter = s.counter; target = s.target } }
one-aside h (Cancel n) fit s = record { tables = refl; version = refl; frames = refl; shows = record { clock = s.clock; counter = s.counter; target = s.target } }

pub orders-aside : (h : History) (orders : List Order) → All IsFit orders → IsShowable (past_at h) → Aside h (with_events h (map order_event orders))
orders-aside h [] fit s = record { tables = refl; version = refl; frames = refl; shows = s }
orders-aside h (order ∷ orders) fit s =
    let one = one-aside h order (All-head IsFit order orders fit) s in
    let rest = orders-aside (with_one h (order_event order)) orders (All-tail IsFit order orders fit) one.shows in
    record { tables = rest.tables ∙ one.tables; version = rest.version ∙ one.version; frames = rest.frames ∙ one.frames; shows = rest.shows }
