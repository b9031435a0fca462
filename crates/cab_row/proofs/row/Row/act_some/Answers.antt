use Rattle.std.proofs.Common.{◌≡◌, ℕ, [], ◌∷◌, ◌++◌, replicate, length-set, ◌-◌, ◌<◌, map, sym, refl, ap, ◌∙◌, subst, arith}
use Rattle.cab_row.specs.Passes.{IsOwn, books_of, items_at, seat_view, view_of, HasBrought, WasMet, SameCounts, HasSeen}
use Rattle.cab_row.specs.Views.{total, is_pair}
use Rattle.cab_row.proofs.Calls.{done_within, done_after, brought_done, met_done, met_same, met_seen}
use Rattle.cab_row.proofs.Steps.{there_is}
use Rattle.cab_row.proofs.row.Row.act_some.Goals as goal

pub overflow_add-pass : goal.overflow_add-pass
overflow_add-pass g c = let row = c.args.self.now in let i : ℕ = c.args.cab - 1 in
    let f = there_is (books_of row) i (omega (arith, c.requires.cab.0, c.requires.cab.1)) in
    let b = c.requires.pass.left i f.0 f.1 in omega (arith, b.0, b.1, b.2, c.requires.most, c.in-Done.ensures.some c.in-Done.count refl)

pub returns-in-Done-clause-pass : goal.returns-in-Done-clause-pass
returns-in-Done-clause-pass g c = let row = c.args.self.now in let i : ℕ = c.args.cab - 1 in let pass = c.args.pass.now in
    let w : c.into_seat-seat.result.me.0 ≡ view_of pass = sym (ap seat_view c.into_seat-seat.ensures.2) ∙ ap (λ b. seat_view b.views) c.replace.ensures.value in
    let n : c.turn-answer.new.seat.me.0 ≡ seat_view c.into_badge.result.views = sym (ap seat_view c.into_badge.ensures.2) in
    let s = c.turn-answer.ensures.seat in let p = c.requires.pass in
    let count : ℕ = c.in-Done.count in let some = c.in-Done.ensures.some count refl in
    let inside : i < 64 = omega (arith, row.few.0, c.requires.cab.0, c.requires.cab.1) in
    let grown = sym (ap (λ v. v.done) n) ∙ (brought_done c.into_seat-seat.result.me.0 c.turn-answer.new.seat.me.0 i count (c.in-Done.ensures.done count refl) ∙ (ap (λ v. v.done ++ replicate count (v.number, i)) w ∙ ap (λ m. (view_of pass).done ++ replicate count (m, i)) p.view.number_is)) in (
      record {
        table = c.into_badge.ensures.0 ∙ s.0;
        views = c.into_badge.ensures.2 ∙ ap (λ l. seat_view l ∷ []) (sym c.into_badge.ensures.2);
        view = subst (IsOwn (map g.row.B.coded.code (books_of row)) row.passes pass.number) n s.2;
        small = p.small;
        wide = length-set pass.done i _ ∙ p.wide;
        left = done_within g.B.Logged.left_of (books_of row) pass.done (λ k. items_at row k pass.number) pass.number i count _ p.wide inside refl (omega (arith, c.requires.most, some)) p.left;
        done = done_after pass.done pass.number i count _ (view_of pass) (seat_view c.into_badge.result.views) grown p.wide refl inside p.done;
      },
      refl,
    )

pub returns-in_default-clause-pass : goal.returns-in_default-clause-pass
returns-in_default-clause-pass g c = let row = c.args.self.now in let pass = c.args.pass.now in
    let w : c.into_seat-seat.result.me.0 ≡ view_of pass = sym (ap seat_view c.into_seat-seat.ensures.2) ∙ ap (λ b. seat_view b.views) c.replace.ensures.value in
    let n : c.turn-answer.new.seat.me.0 ≡ seat_view c.into_badge.result.views = sym (ap seat_view c.into_badge.ensures.2) in
    let s = c.turn-answer.ensures.seat in let p = c.requires.pass in
    let same = sym (ap (λ v. v.done) n) ∙ (met_done c.into_seat-seat.result.me.0 c.turn-answer.new.seat.me.0 (c.args.cab - 1) c.in_default.field-0 (c.in_default.ensures.busy c.in_default.field-0 refl) ∙ ap (λ v. v.done) w) in (
      record {
        table = c.into_badge.ensures.0 ∙ s.0;
        views = c.into_badge.ensures.2 ∙ ap (λ l. seat_view l ∷ []) (sym c.into_badge.ensures.2);
        view = subst (IsOwn (map g.row.B.coded.code (books_of row)) row.passes pass.number) n s.2;
        small = p.small;
        wide = p.wide;
        left = p.left;
        done = λ k h. p.done k h ∙ ap (total (is_pair pass.number k)) (sym same);
      },
      refl,
    )

pub returns-in-Done-clause-done : goal.returns-in-Done-clause-done
returns-in-Done-clause-done g c = let pass = c.args.pass.now in let i : ℕ = c.args.cab - 1 in
    let w : c.into_seat-seat.result.me.0 ≡ view_of pass = sym (ap seat_view c.into_seat-seat.ensures.2) ∙ ap (λ b. seat_view b.views) c.replace.ensures.value in
    let n : c.turn-answer.new.seat.me.0 ≡ seat_view c.into_badge.result.views = sym (ap seat_view c.into_badge.ensures.2) in
    λ k e. subst (λ v. HasBrought (view_of pass) v i k) n (subst (λ u. HasBrought u c.turn-answer.new.seat.me.0 i k) w (c.in-Done.ensures.done k e))

pub returns-in_default-clause-busy : goal.returns-in_default-clause-busy
returns-in_default-clause-busy g c = let pass = c.args.pass.now in let i : ℕ = c.args.cab - 1 in
    let w : c.into_seat-seat.result.me.0 ≡ view_of pass = sym (ap seat_view c.into_seat-seat.ensures.2) ∙ ap (λ b. seat_view b.views) c.replace.ensures.value in
    let n : c.turn-answer.new.seat.me.0 ≡ seat_view c.into_badge.result.views = sym (ap seat_view c.into_badge.ensures.2) in
    λ k e. subst (λ v. WasMet (view_of pass) v i k) n (subst (λ u. WasMet u c.turn-answer.new.seat.me.0 i k) w (c.turn-answer.ensures.busy k e))

pub returns-in_default-clause-same : goal.returns-in_default-clause-same
returns-in_default-clause-same g c = let pass = c.args.pass.now in let i : ℕ = c.args.cab - 1 in
    let w : c.into_seat-seat.result.me.0 ≡ view_of pass = sym (ap seat_view c.into_seat-seat.ensures.2) ∙ ap (λ b. seat_view b.views) c.replace.ensures.value in
    let n : c.turn-answer.new.seat.me.0 ≡ seat_view c.into_badge.result.views = sym (ap seat_view c.into_badge.ensures.2) in
    λ k e. subst (λ v. SameCounts (view_of pass) v) n (subst (λ u. SameCounts u c.turn-answer.new.seat.me.0) w (met_same c.into_seat-seat.result.me.0 c.turn-answer.new.seat.me.0 i k (c.turn-answer.ensures.busy k e)))

pub returns-in_default-clause-seen : goal.returns-in_default-clause-seen
returns-in_default-clause-seen g c = let pass = c.args.pass.now in let i : ℕ = c.args.cab - 1 in
    let w : c.into_seat-seat.result.me.0 ≡ view_of pass = sym (ap seat_view c.into_seat-seat.ensures.2) ∙ ap (λ b. seat_view b.views) c.replace.ensures.value in
    let n : c.turn-answer.new.seat.me.0 ≡ seat_view c.into_badge.result.views = sym (ap seat_view c.into_badge.ensures.2) in
    λ k e. subst (λ v. HasSeen (view_of pass) v i k) n (subst (λ u. HasSeen u c.turn-answer.new.seat.me.0 i k) w (met_seen c.into_seat-seat.result.me.0 c.turn-answer.new.seat.me.0 i k (c.turn-answer.ensures.busy k e)))
