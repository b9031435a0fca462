use Rattle.std.proofs.Common.{◌≡◌, ◌∙◌, All, true, false, [], ◌∷◌, List, map, sym, ap, subst, arith}
use Rattle.std.specs.Coded.{le_prop}
use Rattle.std.proofs.Math.Logic.{∥∥₁_elim}
use Rattle.sig_tables.specs.Past.{Event, Install}
use Rattle.sig_tables.specs.declared.tables.Tables.{Tables}
use Rattle.stage_txn.specs.Answers.{answered, kept, stage_state}
use Rattle.tick_context.specs.CanRun.{CanRun}
use Rattle.cab_book.specs.Controls.{ControlStands}
use Rattle.cab_book.proofs.Facts.{installs-are}
use Rattle.agent.specs.declared.ask.Order.{Order}
use Rattle.agent.specs.Orders.{IsFit}
use Rattle.cabinet_history.specs.Coming.{Coming, past_of, outcome, order_event, events_of, with_events, with_call, call_of}
use Rattle.cab_book.specs.Carried.{is_accepted}
use Rattle.cab_book.specs.CabinetStands.{IsAnswered}
use Rattle.cabinet_history.proofs.Installing.{few-within}
use Rattle.cab_book.proofs.Installs.{orders-fit, orders-alone, puts-staged}
use Rattle.cab_book.proofs.carrying.carry_out.Goals as goal

pub give-requires : goal.give-requires
give-requires c = record { fit = subst (λ (xs : List Order). All IsFit xs) (sym c.orders_of.ensures) (orders-fit c.args.wish.now c.requires.can) }

pub install-requires-clause-tables : goal.install-requires-clause-tables
install-requires-clause-tables c =
    let runs = λ (some : (has : Coming) × IsAnswered c.args.control.now c.args.stage.now has c.args.wish.now c.args.outcome).
    let has = some.0 in
    let is = some.1 in
    let yes : is_accepted c.args.wish.now (outcome has c.args.wish.now) ≡ true =
    ap (is_accepted c.args.wish.now) (sym is.answer_is) ∙ sym c.is_accepted.ensures ∙ c.if-is_accepted.true in
    subst CanRun (sym (c.staged.ensures (with_call has.calls (call_of has c.args.wish.now)) is.stage_stands)) (puts-staged has c.args.wish.now yes).runs in
    record {
      adds = ∥∥₁_elim c.requires.answered le_prop (λ some. (runs some).adds);
      subtracts = ∥∥₁_elim c.requires.answered le_prop (λ some. (runs some).subtracts);
    }

pub install-requires-clause-few : goal.install-requires-clause-few
install-requires-clause-few c = ∥∥₁_elim c.requires.answered le_prop (λ some.
    let has = some.0 in
    let is = some.1 in
    let yes : is_accepted c.args.wish.now (outcome has c.args.wish.now) ≡ true =
    ap (is_accepted c.args.wish.now) (sym is.answer_is) ∙ sym c.is_accepted.ensures ∙ c.if-is_accepted.true in
    let none : map order_event c.orders_of.result.now ≡ [] = ap (map order_event) c.orders_of.ensures ∙ (puts-staged has c.args.wish.now yes).orders in
    let before = subst (λ (es : List Event). ControlStands c.give.new.control (with_events has.history es)) none (c.give.ensures.stands has.history is.controller_stands) in
    omega (arith, installs-are c.give.new.control has.history before, few-within (past_of has).version (kept (answered has.calls)) (stage_state (answered has.calls)) is.few, is.ids))

pub returns-then-is_accepted-clause-stands : goal.returns-then-is_accepted-clause-stands
returns-then-is_accepted-clause-stands c = λ has is.
    let yes : is_accepted c.args.wish.now (outcome has c.args.wish.now) ≡ true =
    ap (is_accepted c.args.wish.now) (sym is.answer_is) ∙ sym c.is_accepted.ensures ∙ c.if-is_accepted.true in
    let puts = puts-staged has c.args.wish.now yes in
    let none : map order_event c.orders_of.result.now ≡ [] = ap (map order_event) c.orders_of.ensures ∙ puts.orders in
    let before = subst (λ (es : List Event). ControlStands c.give.new.control (with_events has.history es)) none (c.give.ensures.stands has.history is.controller_stands) in
    let same = c.staged.ensures (with_call has.calls (call_of has c.args.wish.now)) is.stage_stands in
    let installed = c.install.ensures.stands has.history before in
    subst (λ (es : List Event). ControlStands c.install.new.self (with_events has.history es)) (ap (λ (t : Tables). Install t ∷ []) same ∙ sym puts.events) installed

pub returns-else-is_accepted-clause-stands : goal.returns-else-is_accepted-clause-stands
returns-else-is_accepted-clause-stands c = λ has is.
    let no : is_accepted c.args.wish.now (outcome has c.args.wish.now) ≡ false =
    ap (is_accepted c.args.wish.now) (sym is.answer_is) ∙ sym c.is_accepted.ensures ∙ c.if-is_accepted.false in
    let all : map order_event c.orders_of.result.now ≡ events_of has c.args.wish.now = ap (map order_event) c.orders_of.ensures ∙ orders-alone has c.args.wish.now no in
    subst (λ (es : List Event). ControlStands c.give.new.control (with_events has.history es)) all (c.give.ensures.stands has.history is.controller_stands)
