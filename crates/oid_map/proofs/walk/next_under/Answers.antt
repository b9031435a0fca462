use Rattle.std.proofs.Common.{refl, ◌∙◌}
use Rattle.oid_map.specs.declared.objects.Object.{Object}
use Rattle.oid_map.specs.declared.objects.Object.TheVariants.{Scalar}
use Rattle.oid_map.proofs.Rows.{root_past, root_found, root_ended, goes_first, goes_on, unchanged, rows_on}
use Rattle.oid_map.proofs.walk.next_under.Goals as goal

abbrev no_object : Object
no_object = Scalar 0 0

pub returns-in-None : goal.returns-in-None
returns-in-None c = root_past c.args.root.now c.args.name.now c.args.objects.now c.in-None.ensures

pub loop-object-init : goal.loop-object-init
loop-object-init c = record {
  same = c.push_all.ensures ∙ rw c.new-out.ensures refl;
  ranges = c.requires.ranges;
  goes = goes_first c.in-Some.rest.now c.args.objects.now;
}

pub loop-object-preserved : goal.loop-object-preserved
loop-object-preserved c = record {
  same = unchanged _ _ _ c.if-push_instance.ensures ∙ c.loop-object.invariant.same;
  ranges = rows_on c.args.objects.now c.loop-object.object-index no_object c.loop-object-test.true c.loop-object.invariant.ranges;
  goes = goes_on c.loop-object.out.items c.push_instance.new.out.items c.in-Some.rest.now c.args.objects.now c.loop-object.object-index no_object
      c.loop-object-test.true c.if-push_instance.ensures c.loop-object.invariant.goes;
}

pub returns-then-push_instance : goal.returns-then-push_instance
returns-then-push_instance c = root_found c.args.root.now c.args.name.now c.in-Some.rest.now c.loop-object.out.items c.push_instance.new.out.items c.args.objects.now
    c.loop-object.object-index no_object c.in-Some.ensures c.loop-object.invariant.same c.loop-object-test.true c.if-push_instance.ensures c.loop-object.invariant.goes

pub returns : goal.returns
returns c = root_ended c.args.root.now c.args.name.now c.in-Some.rest.now c.args.objects.now c.loop-object.object-index c.in-Some.ensures c.loop-object-test.false c.loop-object.invariant.goes
