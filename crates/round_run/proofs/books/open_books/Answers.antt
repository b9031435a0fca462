use Rattle.std.proofs.Common.{◌≡◌, ◌++◌, [], ◌∷◌, All, subst, sym, arith, rules}
use Rattle.std.proofs.lemmas.List.Elements.{All-nil, All-push}
use Rattle.cab_book.specs.declared.book.Book.{Book}
use Rattle.cab_book.specs.Books.{engine_of}
use Rattle.round_run.proofs.Opening.{opened_none, opened_next, opened_all, opened_ticks, next_opens, others_open}
use Rattle.round_run.proofs.books.open_books.Goals as goal

pub loop-setup-init : goal.loop-setup-init
loop-setup-init c = record {
  can_open = c.requires;
  each = rw c.new-books.ensures.items (opened_none c.args.community.now.items c.args.setups.now);
  engine = subst (All (λ (b : Book). engine_of b ≡ c.args.engine)) (sym c.new-books.ensures.items) (All-nil (λ (b : Book). engine_of b ≡ c.args.engine));
}

pub book_of-requires : goal.book_of-requires
book_of-requires c = next_opens c.args.setups.now c.loop-setup.setup-index _ (omega arith) c.setup-item.is c.loop-setup.invariant.can_open

pub loop-setup-preserved : goal.loop-setup-preserved
loop-setup-preserved c =
    let more : c.push.new.self.items ≡ c.loop-setup.books.items ++ c.in-Ok.book ∷ [] = search rules in
    record {
      can_open = others_open c.args.setups.now c.loop-setup.setup-index _ (omega arith) c.setup-item.is c.loop-setup.invariant.can_open;
      each = rw more (opened_next c.args.community.now.items _ _ c.args.setups.now c.loop-setup.setup-index _ (omega arith) c.setup-item.is
          (record { stands = c.in-Ok.ensures.stands; journal = c.in-Ok.ensures.journal; ticks = c.in-Ok.ensures.ticks }) c.loop-setup.invariant.each);
      engine = subst (All (λ (b : Book). engine_of b ≡ c.args.engine)) (sym more) (All-push (λ (b : Book). engine_of b ≡ c.args.engine)
          c.loop-setup.books.items c.in-Ok.book c.loop-setup.invariant.engine c.in-Ok.ensures.engine);
    }

pub returns-clause-at : goal.returns-clause-at
returns-clause-at c = λ s same. opened_all s _ _ c.args.setups.now c.loop-setup.setup-index same (omega arith) (omega arith) c.books_follow_runs.ensures.new
    c.loop-setup.invariant.each

pub returns-clause-ticks : goal.returns-clause-ticks
returns-clause-ticks c = opened_ticks _ _ c.args.setups.now c.loop-setup.setup-index c.loop-setup.invariant.each (omega arith)
