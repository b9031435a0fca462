use Rattle.std.proofs.Common.{◌≡◌, ◌∙◌, length, sym, arith}
use Rattle.std.specs.Vec.Iter.{into_iter_items}
use Rattle.round_run.proofs.Begun.{next-one, none-left, begun-more, begun-some, begins-few, begun-run, begun-fresh, begun-small, begun-ticks}
use Rattle.round_run.proofs.starting.open_rounds.Goals as goal

pub open_round-requires-clause-few : goal.open_round-requires-clause-few
open_round-requires-clause-few c =
    let next = next-one c.args.streams.items _ _ c.loop-one.k c.in-Some.one c.loop-one.invariant.left c.in-Some.ensures.steps.0 in
    begins-few c.args.streams.items c.args.books.now.items c.loop-one.books.items c.loop-one.k c.index_mut.result.now c.in-Some.one
    (omega (arith, next.within, c.requires.many)) c.loop-one.invariant.begun c.index_mut.ensures.value next.own c.requires

pub returns-in-Err-clause-no_memory : goal.returns-in-Err-clause-no_memory
returns-in-Err-clause-no_memory c =
    let next = next-one c.args.streams.items _ _ c.loop-one.k c.in-Some.one c.loop-one.invariant.left c.in-Some.ensures.steps.0 in
    begun-some c.args.streams.items c.args.books.now.items c.loop-one.books.items c.loop-one.k c.index_mut.result.now c.open_round.new.self
    (omega (arith, next.within, c.requires.many)) c.loop-one.invariant.begun c.index_mut.ensures.value c.in-Err.ensures.no_memory.1

pub loop-one-preserved : goal.loop-one-preserved
loop-one-preserved c =
    let next = next-one c.args.streams.items _ _ c.loop-one.k c.in-Some.one c.loop-one.invariant.left c.in-Some.ensures.steps.0 in
    record {
      left = next.left;
      begun = begun-more c.args.streams.items c.args.books.now.items c.loop-one.books.items c.loop-one.k c.index_mut.result.now c.open_round.new.self
          c.in-Some.one (omega (arith, next.within, c.requires.many)) next.within c.loop-one.invariant.begun c.index_mut.ensures.value next.own
          (record {
            stands = c.in-Ok.ensures.stands;
            streams = c.in-Ok.ensures.streams;
            journal = c.in-Ok.ensures.journal;
            whole = c.in-Ok.ensures.one;
            ticks = c.in-Ok.ensures.ticks;
          });
    }

pub returns-clause-run : goal.returns-clause-run
returns-clause-run c = λ s ts at coming.
    let none : length (into_iter_items c.loop-one.one-iterator) ≡ 0 = sym c.loop-one.one-iterator.rest.ok.0 ∙ c.in-None.ensures.steps.0 in
    let all = none-left c.args.streams.items _ c.loop-one.k c.loop-one.invariant.left none in
    begun-run s ts c.args.streams.items c.args.books.now.items c.loop-one.books.items c.loop-one.k (omega (arith, all, c.requires.many))
    c.loop-one.invariant.begun at coming

pub returns-clause-fresh : goal.returns-clause-fresh
returns-clause-fresh c =
    let none : length (into_iter_items c.loop-one.one-iterator) ≡ 0 = sym c.loop-one.one-iterator.rest.ok.0 ∙ c.in-None.ensures.steps.0 in
    let all = none-left c.args.streams.items _ c.loop-one.k c.loop-one.invariant.left none in
    begun-fresh c.args.streams.items c.args.books.now.items c.loop-one.books.items c.loop-one.k (omega (arith, all, c.requires.many))
    c.requires.many c.loop-one.invariant.begun

pub returns-clause-ticks : goal.returns-clause-ticks
returns-clause-ticks c = λ most ticks few short.
    let none : length (into_iter_items c.loop-one.one-iterator) ≡ 0 = sym c.loop-one.one-iterator.rest.ok.0 ∙ c.in-None.ensures.steps.0 in
    let all = none-left c.args.streams.items _ c.loop-one.k c.loop-one.invariant.left none in
    begun-ticks c.args.streams.items c.args.books.now.items c.loop-one.books.items c.loop-one.k most ticks (omega (arith, all, c.requires.many))
    c.requires.many c.loop-one.invariant.begun few short

pub returns-clause-small : goal.returns-clause-small
returns-clause-small c = λ short.
    let none : length (into_iter_items c.loop-one.one-iterator) ≡ 0 = sym c.loop-one.one-iterator.rest.ok.0 ∙ c.in-None.ensures.steps.0 in
    let all = none-left c.args.streams.items _ c.loop-one.k c.loop-one.invariant.left none in
    begun-small c.args.streams.items c.args.books.now.items c.loop-one.books.items c.loop-one.k (omega (arith, all, c.requires.many))
    c.requires short c.loop-one.invariant.begun
