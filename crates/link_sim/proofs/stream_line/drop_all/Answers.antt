use Rattle.std.proofs.Common.{inl, inr, ◌∙◌, arith}
use Rattle.std.proofs.lemmas.Bool.{cases_lt}
use Rattle.link_sim.specs.LateLists.{on_late_list}
use Rattle.link_sim.proofs.LateLists.{drops-more, drops-rest, drops-none, on_late_list-none}
use Rattle.link_sim.proofs.stream_line.drop_all.Goals as goal

pub loop-k-preserved : goal.loop-k-preserved
loop-k-preserved c = record {
  done = drops-more c.args.late.now c.loop-k.late c.loop-k.k c.drop_in.new.late_list c.index-late-k.result c.args.round (omega arith) c.loop-k.invariant.done c.loop-k.invariant.rest c.drop_in.ensures.drops;
  rest = drops-rest c.args.late.now c.loop-k.late c.loop-k.k c.drop_in.new.late_list c.loop-k.invariant.rest;
}

pub returns : goal.returns
returns c = record {
  drops = λ k.
      elim (cases_lt k c.loop-k.k) [
        | inl below ↦ c.loop-k.invariant.done k below
        | inr above ↦ (let none = on_late_list-none c.args.late.now k (omega arith) in drops-none c.args.round (on_late_list c.args.late.now k) (on_late_list c.loop-k.late k) none (c.loop-k.invariant.rest k (omega arith) ∙ none))
      ];
}
