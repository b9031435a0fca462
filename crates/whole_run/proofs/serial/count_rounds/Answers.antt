use Rattle.std.proofs.Common.{◌+◌, ◌∙◌, ℕ, List, [], map, ap, refl, subst, arith}
use Rattle.sig_types.specs.declared.notes.MasterNote.{MasterNote}
use Rattle.trace_text.specs.declared.lines.Line.TheVariants.{M}
use Rattle.scenario_data.specs.Content.{scenario_content}
use Rattle.run_definition.specs.Lines.{front_lines}
use Rattle.round_run.specs.Joined.{journals_in}
use Rattle.whole_run.specs.Adding.{Adds, counting_laws}
use Rattle.whole_run.specs.Orders.{come_to}
use Rattle.whole_run.proofs.Books.{few_books}
use Rattle.whole_run.proofs.Telling.{goes-first, goes-on, goes-whole}
use Rattle.whole_run.proofs.serial.count_rounds.Goals as goal

pub tell_openings-requires : goal.tell_openings-requires
tell_openings-requires c = record { few = few_books (scenario_content c.args.s.now) 0 _ _ c.requires.runnable c.requires.ready }

pub loop-done-init : goal.loop-done-init
loop-done-init c =
    let s = scenario_content c.args.s.now in
    goes-first counting_laws 0 s _ _ _ c.requires.ready (c.in_ok-tell_openings.ensures {u = tt} (come_to s []) c.requires.ready.books)

pub run_round-requires-clause-between : goal.run_round-requires-clause-between
run_round-requires-clause-between c = (come_to (scenario_content c.args.s.now) c.loop-done.invariant.journals, c.loop-done.invariant.between)

pub tell_round-requires-clause-few : goal.tell_round-requires-clause-few
tell_round-requires-clause-few c =
    let s = scenario_content c.args.s.now in
    let so = c.loop-done.invariant in
    few_books s (c.loop-done.done + 1) _ _ c.requires.runnable (c.in-Ok.ensures (come_to s so.journals) so.between).between

pub tell_round-requires-clause-run : goal.tell_round-requires-clause-run
tell_round-requires-clause-run c =
    let s = scenario_content c.args.s.now in
    let so = c.loop-done.invariant in
    (s, come_to s so.journals, journals_in c.run_round.new.closed_loop.books.items, (c.in-Ok.ensures (come_to s so.journals) so.between).merged.run)

pub loop-done-preserved : goal.loop-done-preserved
loop-done-preserved c =
    let s = scenario_content c.args.s.now in
    let so = c.loop-done.invariant in
    let run = c.in-Ok.ensures (come_to s so.journals) so.between in
    goes-on counting_laws 0 s c.loop-done.done _ _ _ _ _ _ so run
    (c.in_ok-tell_round.ensures {u = tt} s (come_to s so.journals) _ (ap (λ (notes : List MasterNote). map M notes) c.as_slice.ensures.value ∙ run.noted) run.merged.run)

pub returns : goal.returns
returns c =
    let s = scenario_content c.args.s.now in
    let so = goes-whole counting_laws 0 s c.loop-done.done _ _ _ c.loop-done.invariant (omega arith) in
    subst (λ (journals : List (List (List ℕ))). Adds c.args.counts.now c.loop-done.counts (front_lines s journals)) (so.brought.serial refl) so.holds
