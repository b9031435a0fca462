use Rattle.std.proofs.Common.{◌≡◌, map, take}
use Rattle.sig_tables.specs.Past.{History}
use Rattle.cab_book.specs.Controls.{ControlStands, tick_count}
use Rattle.cabinet_history.specs.Coming.{order_event, with_events}
use Rattle.cab_book.proofs.carrying.give.Given as goal

abbrev pub invariant-loop-order : goal.invariant-loop-order
invariant-loop-order l = record {
  stands : (h : History) → ControlStands l.fn.control h → ControlStands l.control (with_events h (map order_event (take l.order-index l.orders)));
  counted : tick_count l.control ≡ tick_count l.fn.control;
}
