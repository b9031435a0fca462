use Rattle.std.proofs.Common.{◌≡◌, [], length, sym, ap, ◌∙◌, subst, arith, All}
use Rattle.std.proofs.lemmas.List.{length-append}
use Rattle.cab_row.specs.Views.{total, owns, count}
use Rattle.cab_row.specs.Passes.{seat_view, IsPassOf, view_of}
use Rattle.cab_row.proofs.Ends.{may_join}
use Rattle.cab_row.proofs.Calls.{own_one}
use Rattle.cab_row.proofs.Closes.{all_front, total_last, joined_owns, joined_count, no_items}
use Rattle.cab_row.proofs.close.gather.Goals as goal

pub loop-pass-init : goal.loop-pass-init
loop-pass-init g c = let e = c.in-Some.ensures in let last = c.in-Some.last in let t = all_front (IsPassOf g.row.B.coded.code g.B.Logged.left_of c.args.row.now) c.pop.new.self.items last (subst (All (IsPassOf g.row.B.coded.code g.B.Logged.left_of c.args.row.now)) e.items c.requires.passes.0) in
    let s = c.into_seat-seat.ensures in let w : c.into_seat-seat.result.me.0 ≡ view_of last = sym (ap seat_view s.2) in (
      s.0 ∙ t.1.table,
      s.3,
      ap (λ x. x.holds) w ∙ t.1.view.free,
      omega (arith, ap (λ x. owns x.number x) w, own_one _ _ _ _ t.1.view),
      t.0,
      omega (arith, ap (λ x. length x.numbers) w, ap length t.1.view.numbers, e.len),
      (λ p. omega (arith, ap (owns p) w, total_last (owns p) c.pop.new.self.items c.args.passes.items last e.items)),
      (λ p k. omega (arith, ap (count p k) w, total_last (count p k) c.pop.new.self.items c.args.passes.items last e.items)),
    )

pub join_seat-requires : goal.join_seat-requires
join_seat-requires g c = let L = g.B.Logged in let i = c.loop-pass.invariant in let e = c.in-Some-pop.ensures in let pass = c.in-Some-pop.pass in
    let t = all_front (IsPassOf g.row.B.coded.code L.left_of c.args.row.now) c.pop-in-loop-pass.new.self.items pass (subst (All (IsPassOf g.row.B.coded.code L.left_of c.args.row.now)) e.items i.4) in
    let o = c.into_seat.ensures in let w' : c.into_seat.result.me.0 ≡ view_of pass = sym (ap seat_view o.2) in
    (i.0, o.0 ∙ t.1.table, o.3, omega (arith, c.args.row.now.sized.0, c.args.row.now.some.1), may_join g.row.B.coded.code L.journal L.left_of L.replays _ _ _ _ _ _ i.3 i.2 (ap (λ x. x.holds) w' ∙ t.1.view.free))

pub loop-pass-preserved : goal.loop-pass-preserved
loop-pass-preserved g c = let L = g.B.Logged in let i = c.loop-pass.invariant in let e = c.in-Some-pop.ensures in let pass = c.in-Some-pop.pass in
    let t = all_front (IsPassOf g.row.B.coded.code L.left_of c.args.row.now) c.pop-in-loop-pass.new.self.items pass (subst (All (IsPassOf g.row.B.coded.code L.left_of c.args.row.now)) e.items i.4) in
    let j = c.join_seat.ensures in let v = c.loop-pass.seat.me.0 in let o = c.into_seat.ensures in let w = c.into_seat.result.me.0 in let w' : w ≡ view_of pass = sym (ap seat_view o.2) in (
      j.0 ∙ i.0,
      ap (λ m. m.1) j.2 ∙ i.1,
      ap (λ m. m.0.holds) j.2 ∙ i.2,
      omega (arith, ap (λ m. owns m.0.number m.0) j.2, joined_owns v.number v w, i.3),
      t.0,
      omega (arith, ap (λ m. length m.0.numbers) j.2, length-append v.numbers w.numbers, ap (λ x. length x.numbers) w', ap length t.1.view.numbers, e.len, i.5),
      (λ p. omega (arith, ap (λ m. owns p m.0) j.2, joined_owns p v w, ap (owns p) w', i.6 p, total_last (owns p) c.pop-in-loop-pass.new.self.items c.loop-pass.passes.items pass e.items)),
      (λ p k. omega (arith, ap (λ m. count p k m.0) j.2, joined_count p k v w, ap (count p k) w', i.7 p k, total_last (count p k) c.pop-in-loop-pass.new.self.items c.loop-pass.passes.items pass e.items)),
    )

pub returns-clause-view : goal.returns-clause-view
returns-clause-view g c = let i = c.loop-pass.invariant in let e = c.in_default-pop.ensures in
    let z : c.loop-pass.passes.items ≡ [] = no_items c.loop-pass.passes.items (omega (arith, e.cases.0, c.loop-pass.passes.ok)) in (
      i.2,
      omega (arith, i.5, e.cases.0, c.requires.passes.1),
      ((λ p. omega (arith, i.6 p, ap (total (λ x. owns p (view_of x))) z)), (λ p k. omega (arith, i.7 p k, ap (total (λ x. count p k (view_of x))) z))),
    )

pub into_seat-seat-requires : goal.into_seat-seat-requires
into_seat-seat-requires g c = let t = all_front (IsPassOf g.row.B.coded.code g.B.Logged.left_of c.args.row.now) c.pop.new.self.items c.in-Some.last (subst (All (IsPassOf g.row.B.coded.code g.B.Logged.left_of c.args.row.now)) c.in-Some.ensures.items c.requires.passes.0) in (view_of c.in-Some.last, t.1.views)

pub into_seat-requires : goal.into_seat-requires
into_seat-requires g c = let L = g.B.Logged in let t = all_front (IsPassOf g.row.B.coded.code L.left_of c.args.row.now) c.pop-in-loop-pass.new.self.items c.in-Some-pop.pass (subst (All (IsPassOf g.row.B.coded.code L.left_of c.args.row.now)) c.in-Some-pop.ensures.items c.loop-pass.invariant.4) in (view_of c.in-Some-pop.pass, t.1.views)
