use Rattle.std.proofs.Common.{◌≡◌, ◌∙◌, List, map, take, add-one, sym, subst}
use Rattle.std.proofs.lemmas.List.{take_all}
use Rattle.sig_tables.specs.Past.{History}
use Rattle.cab_book.specs.Controls.{ControlStands}
use Rattle.agent.specs.declared.ask.Order.{Order}
use Rattle.cabinet_history.specs.Coming.{order_event, with_events}
use Rattle.cab_book.proofs.Wishes.{given-more}
use Rattle.cab_book.proofs.carrying.give.Goals as goal

pub loop-order-preserved : goal.loop-order-preserved
loop-order-preserved c = record {
  stands = λ h k.
      let orders = c.args.orders.now in
      let i = c.loop-order.order-index in
      let more = given-more h orders i _ c.loop-order-test.true in
      rw add-one (subst (λ (x : History). ControlStands c.give_one.new.control x) (sym more) (c.give_one.ensures.stands (with_events h (map order_event (take i orders))) (c.loop-order.invariant.stands h k)));
  counted = c.give_one.ensures.counted ∙ c.loop-order.invariant.counted;
}

pub returns-clause-stands : goal.returns-clause-stands
returns-clause-stands c = λ h k.
    let all : take c.loop-order.order-index c.args.orders.now ≡ c.args.orders.now = take_all _ _ c.loop-order-test.false in
    subst (λ (xs : List Order). ControlStands c.loop-order.control (with_events h (map order_event xs))) all (c.loop-order.invariant.stands h k)
