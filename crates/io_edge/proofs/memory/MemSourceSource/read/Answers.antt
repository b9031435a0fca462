use Rattle.std.proofs.Common.{refl, sym, ◌∙◌, drop}
use Rattle.io_edge.proofs.ReadFront.{read_front, to_end, none_left}
use Rattle.io_edge.proofs.memory.MemSourceSource.read.Goals as goal

pub returns-clause-ok : goal.returns-clause-ok
returns-clause-ok c =
    let items = c.args.self.now.bytes.items in
    let at = c.args.self.now.at in
    let whole = c.deref-2.ensures.value in
    let front = rw (whole, to_end items at) at c.copy_front-count.ensures.front in
    let count = rw (whole, to_end items at) at c.copy_front-count.ensures.count in
    (_, refl, read_front items _ at c.copy_front-count.result front, λ none. none_left (drop at items) _ _ _ count c.requires c.args.self.now.moves (sym front ∙ none))
