use Rattle.std.proofs.Common.{◌≡◌, ◌∙◌, sym, true, false, refl}
use Rattle.sig_tables.specs.View.{is_done, is_forced, on_phase}
use Rattle.ring_barrier.proofs.Views.{ended-done, ended-not, done-on}
use Rattle.ring_barrier.proofs.ending.ends.Goals as goal

pub returns-then-is_forced : goal.returns-then-is_forced
returns-then-is_forced c = λ w s.
    let f : is_forced w (on_phase w c.args.ring) ≡ true = sym (c.is_forced.ensures w s.shows) ∙ c.if-is_forced.true in
    rw (f, c.if-is_forced.true) refl

pub returns-then-is_done : goal.returns-then-is_done
returns-then-is_done c = λ w s.
    let f : is_forced w (on_phase w c.args.ring) ≡ false = sym (c.is_forced.ensures w s.shows) ∙ c.if-is_forced.false in
    let d : is_done w (on_phase w c.args.ring) ≡ true = sym (c.is_done.ensures w s.shows) ∙ c.if-is_done.true in
    rw f (ended-done w c.args.ring (on_phase w c.args.ring) c.is_to_end.result d (c.is_to_end.ensures w s (done-on w c.args.ring d)))

pub returns-else-is_done : goal.returns-else-is_done
returns-else-is_done c = λ w s.
    let f : is_forced w (on_phase w c.args.ring) ≡ false = sym (c.is_forced.ensures w s.shows) ∙ c.if-is_forced.false in
    let d : is_done w (on_phase w c.args.ring) ≡ false = sym (c.is_done.ensures w s.shows) ∙ c.if-is_done.false in
    rw f (c.if-is_done.false ∙ ended-not w c.args.ring (on_phase w c.args.ring) d)
