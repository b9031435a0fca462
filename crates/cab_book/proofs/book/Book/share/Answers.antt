use Rattle.std.proofs.Common.{◌≡◌, ◌+◌, ◌∙◌, ℕ, List, [], get_or, length, refl, ap, arith}
use Rattle.sig_types.specs.Items.{items_of}
use Rattle.cabinet_history.specs.Journals.{times}
use Rattle.cab_book.specs.Happened.{journal_in}
use Rattle.cab_book.specs.Rounds.{frames_left, items_left}
use Rattle.cab_book.specs.Shares.{ticks_left, shares}
use Rattle.cab_book.proofs.Parts.{shares-sum, shared_left, shared-low, shared-at, past_end}
use Rattle.cab_book.proofs.Bringing.{shared-tallied, room-less}
use Rattle.cab_book.proofs.book.Book.share.Goals as goal

sum-is : (parts ticks all : ℕ) (got : List ℕ) → got ≡ shares parts ticks → ticks ≡ all
    → get_or got 0 0 + get_or got 1 0 + get_or got 2 0 + get_or got 3 0 ≡ all
sum-is parts ticks all got e same =
    ap (λ (x : List ℕ). get_or x 0 0 + get_or x 1 0 + get_or x 2 0 + get_or x 3 0) e ∙ shares-sum parts ticks ∙ same

pub way_make-self : goal.way_make-self
way_make-self c =
    let b = c.args.self.now in
    let parts = c.shares_of-parts.result in
    let sum = sum-is c.args.parts c.ticks_left.result (ticks_left b.left) parts c.shares_of-parts.ensures c.ticks_left.ensures in (
      b.placed,
      (
        omega (arith, b.few, sum),
        (
          room-less b.happened (ticks_left b.left) (frames_left b.left) (items_left b.left) (ticks_left (shared_left b.left parts))
              (frames_left (shared_left b.left parts)) (items_left (shared_left b.left parts)) (omega (arith, sum)) (omega arith) (omega (arith, sum)) b.room,
          (shared-tallied b.streams b.left parts b.happened sum b.tallied, (b.short, (b.some, tt))),
        ),
      ),
    )

pub returns : goal.returns
returns c =
    let b = c.args.self.now in
    let parts = c.shares_of-parts.result in
    let sum = sum-is c.args.parts c.ticks_left.result (ticks_left b.left) parts c.shares_of-parts.ensures c.ticks_left.ensures in
    let none : (p : ℕ) → times p (journal_in b.happened) ≡ 0 = λ p. ap (times p) c.requires.fresh in
    let all : c.ticks_left.result ≡ length (get_or (items_of b.streams) 4 []) = omega (arith, c.ticks_left.ensures, b.tallied.ticks, none 4, none 5, none 6, none 7) in
    record {
      parts = λ k less. shared-at b.left parts k less ∙ ap (λ (x : List ℕ). get_or x k 0) c.shares_of-parts.ensures
          ∙ ap (λ (t : ℕ). get_or (shares c.args.parts t) k 0) all;
      shares = record {
        wide = omega arith;
        cabinet = refl;
        streams = refl;
        happened = refl;
        others = λ p low. shared-low b.left parts p low;
        ticks = omega (arith, sum);
      };
      above = λ p high. past_end (shared_left b.left parts) p high;
    }
