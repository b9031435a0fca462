use Rattle.std.proofs.Common.{◌≡◌, ◌∙◌, sym, ap, refl, not, ◌&&◌, ◌==◌, ℕ, Bool, true, false}
use Rattle.std.proofs.Math.Bool.{and-false, and_comm}
use Rattle.sig_types.proofs.Lists.{phase-in}
use Rattle.sig_tables.specs.Tables.{clearance}
use Rattle.sig_tables.specs.View.{earlier, elsewhere, greatest_clearance, on_phase, is_wanted}
use Rattle.sig_tables.specs.Moves.{has_no_later, is_free_to_leave}
use Rattle.ring_barrier.proofs.Lists.{some-first}
use Rattle.ring_barrier.proofs.Views.{zero-wanted, wanted-on}
use Rattle.ring_barrier.proofs.ending.is_to_end.Goals as goal

pub returns-then-not-has_no_later : goal.returns-then-not-has_no_later
returns-then-not-has_no_later c = λ w s on.
    let h : has_no_later w c.args.ring (on_phase w c.args.ring) ≡ false = sym (c.has_no_later.ensures w s on) ∙ c.if-not-has_no_later.true in
    rw h refl

pub returns-then-elsewhere : goal.returns-then-elsewhere
returns-then-elsewhere c = λ w s on.
    let h : has_no_later w c.args.ring (on_phase w c.args.ring) ≡ true = sym (c.has_no_later.ensures w s on) ∙ c.if-not-has_no_later.false in
    let e : elsewhere w (greatest_clearance w) ≡ true =
    sym (c.elsewhere.ensures w (greatest_clearance w) s.of_side s.shows.demand s.shows.wanted_across) ∙ c.if-elsewhere.true in
    rw (h, e) (c.is_free_to_leave.ensures w s ∙ ap (is_free_to_leave w) c.other_ring.ensures.other)

pub returns-else-elsewhere : goal.returns-else-elsewhere
returns-else-elsewhere c = λ w s on.
    let h : has_no_later w c.args.ring (on_phase w c.args.ring) ≡ true = sym (c.has_no_later.ensures w s on) ∙ c.if-not-has_no_later.false in
    let e : elsewhere w (greatest_clearance w) ≡ false =
    sym (c.elsewhere.ensures w (greatest_clearance w) s.of_side s.shows.demand s.shows.wanted_across) ∙ c.if-elsewhere.false in
    let k : ℕ = clearance w.tables (on_phase w c.args.ring) in
    let test : ℕ → Bool = λ q. not (q == on_phase w c.args.ring) && is_wanted w k q in
    rw (h, e)
    (ap (λ (n : ℕ). not (n == 0)) (c.first_earlier.ensures w s test (λ q p.
    c.minus-others.ensures.has q (phase-in q p).1
    ∙ rw (
      c.of.ensures q p,
      s.shows.rings.on c.args.ring c.requires.from c.requires.to,
      wanted-on c.args.view.now w c.args.ring s.shows c.requires.from c.requires.to on q p,
    )
    (and_comm (is_wanted w k q) (not (q == on_phase w c.args.ring)))))
    ∙ sym (some-first test (earlier w c.args.ring) (rw (zero-wanted w k s.shows.demand) (and-false (not (0 == on_phase w c.args.ring))))))
