use Rattle.std.proofs.Common.{◌∙◌, refl, ◌∷◌, []}
use Rattle.sig_tables.specs.Layout.{Has, EachHas, set_of}
use Rattle.sig_tables.specs.Sides.{are_concurrent}
use Rattle.sig_tables.proofs.Laid.{each-ring}
use Rattle.rule_book.specs.RingLayout.{is_of_ring}
use Rattle.rule_book.proofs.ring_layout.RingLayout.of.Goals as goal

pub returns : goal.returns
returns c =
    let beside : EachHas c.concurrent_sets-concurrent.result (are_concurrent c.args.tables.now) =
    c.concurrent_sets-concurrent.ensures c.args.tables.now c.of-lists.ensures.enabled c.of-lists.ensures.named in
    record {
      lists = c.of-lists.ensures;
      starting = c.starting_phases.ensures;
      rings = each-ring (λ r. Has (set_of (c.meet.result ∷ c.meet-2.result ∷ []) r) (is_of_ring c.args.tables.now r))
          (λ p on. c.meet.ensures.has p ∙ rw (c.of-lists.ensures.enabled p on, c.of_ring.ensures p on) refl)
          (λ p on. c.meet-2.ensures.has p ∙ rw (c.of-lists.ensures.enabled p on, c.of_ring-2.ensures p on) refl);
      concurrent = beside;
      sides = c.side_sets.ensures c.args.tables.now c.of-lists.ensures.enabled beside;
    }
