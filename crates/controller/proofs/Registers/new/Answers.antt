use Rattle.std.proofs.Common.{◌∷◌, [], refl}
use Rattle.std.proofs.lemmas.Bool.{false≢true}
use Rattle.sig_tables.specs.Looking.{last_on}
use Rattle.sig_tables.specs.Past.{first_moment}
use Rattle.tick_context.proofs.Rings.{each-ring}
use Rattle.controller.proofs.Registers.new.Goals as goal

pub returns-clause-stands : goal.returns-clause-stands
returns-clause-stands c = λ t command clock. record {
  clocks = c.new.ensures.stands t;
  signals = c.new-2.ensures.stands t;
  preempts = c.new-3.ensures.stands t;
  last = each-ring (0 ∷ 0 ∷ []) 0 (λ r. last_on r (first_moment t ∷ [])) refl refl;
  latest = refl;
  start = refl;
  counts = λ n e. absurd (false≢true e);
}
