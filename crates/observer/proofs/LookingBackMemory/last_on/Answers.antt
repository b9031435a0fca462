use Rattle.std.proofs.Common.{◌∷◌, []}
use Rattle.sig_tables.specs.Looking.{last_on}
use Rattle.tick_context.proofs.Rings.{each-ring}
use Rattle.observer.proofs.LookingBackMemory.last_on.Goals as goal

pub returns : goal.returns
returns c = record {
  last = λ past k.
      let long_counts = c.long_counts-long_counts.ensures past.moments k.frame_history in
      each-ring (c.last_on.result ∷ c.last_on-2.result ∷ []) 0 (λ q. last_on q past.moments)
      (c.last_on.ensures past.moments long_counts) (c.last_on-2.ensures past.moments long_counts);
}
