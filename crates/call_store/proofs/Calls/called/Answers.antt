use Rattle.std.proofs.Common.{refl, ◌∙◌}
use Rattle.sig_types.specs.Phases.{is_in}
use Rattle.sig_tables.specs.Seen.{pedestrian_seen}
use Rattle.call_store.proofs.Calls.called.Goals as goal

pub returns : goal.returns
returns c = record {
  called = λ past k l p is.
      c.union-2.ensures.has p
      ∙ rw (
        c.union-recalled.ensures.has p,
        c.union.ensures.has p,
        c.union-by_vehicles.ensures.has p,
        c.called_on_foot.ensures past.tables (is_in (pedestrian_seen past)) l k.pedestrian p is,
        k.vehicle p is,
        k.detectors p is,
        l.minimum_recall p is,
        l.maximum_recall p is,
      ) refl;
}
