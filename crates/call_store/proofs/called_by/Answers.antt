use Rattle.std.proofs.Common.{refl, ◌∙◌}
use Rattle.call_store.proofs.called_by.Goals as goal

pub returns : goal.returns
returns c = λ t n l k p is. c.union.ensures.has p ∙ rw (c.recalled_by.ensures t n k p is, c.walks_by.ensures t n l k p is) refl
