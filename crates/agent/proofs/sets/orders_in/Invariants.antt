use Rattle.std.proofs.Common.{◌≡◌, ◌+◌, length, drop, All}
use Rattle.agent.specs.Bindings.{each_gives, after}
use Rattle.agent.specs.Orders.{order_of, IsFit}
use Rattle.agent.proofs.sets.orders_in.Given as goal

abbrev pub invariant-loop-bind : goal.invariant-loop-bind
invariant-loop-bind l = record {
  count : length l.orders.items ≡ l.bind-index;
  goes : after l.orders.items (each_gives (order_of l.tables) (l.bind-index + 1) (drop l.bind-index l.binds)) ≡ each_gives (order_of l.tables) 1 l.binds;
  fit : All IsFit l.orders.items;
}
