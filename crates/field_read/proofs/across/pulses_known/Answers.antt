use Rattle.std.proofs.Common.{◌≡◌, ◌∙◌, true, false, length, sym, arith}
use Rattle.scenario_read.specs.Kinds.{Fits, Wrong}
use Rattle.field_read.specs.Checks.{pulse_fault, pulse_fit, pulse_path}
use Rattle.field_read.proofs.Upto.{upto-next, upto-refused, upto-done, fits-clean, same-fit}
use Rattle.field_read.proofs.Detectors.{pulse-here, pulse-test}
use Rattle.field_read.proofs.across.pulses_known.Goals as goal

pub is_marked-requires : goal.is_marked-requires
is_marked-requires c =
    let l = c.loop-place in
    let here = pulse-here c.args.pulses.now.items l.place c.index-pulse.result.now (omega arith) c.index-pulse.ensures c.requires.placed in
    record { cabinet = here.0; detector = here.1 }

pub returns-then-not-is_marked : goal.returns-then-not-is_marked
returns-then-not-is_marked c =
    let l = c.loop-place in
    let bank = c.args.bank.now.items in
    let pulses = c.args.pulses.now.items in
    let here = pulse-here pulses l.place c.index-pulse.result.now (omega arith) c.index-pulse.ensures c.requires.placed in
    let test : pulse_fit bank pulses l.place ≡ Wrong =
    pulse-test c.args.marks.now bank pulses l.place c.index-pulse.result.now false (omega arith) c.index-pulse.ensures here.0 here.1 c.requires.marks
    (sym c.if-not-is_marked.true ∙ c.is_marked.ensures) in
    upto-refused c.refuse.result (pulse_fault bank pulses) l.place (length pulses) (omega arith) l.invariant
    (same-fit c.refuse.result (pulse_path l.place) (pulse_fit bank pulses l.place) Wrong test c.refuse.ensures)

pub loop-place-preserved : goal.loop-place-preserved
loop-place-preserved c =
    let l = c.loop-place in
    let bank = c.args.bank.now.items in
    let pulses = c.args.pulses.now.items in
    let here = pulse-here pulses l.place c.index-pulse.result.now (omega arith) c.index-pulse.ensures c.requires.placed in
    let test : pulse_fit bank pulses l.place ≡ Fits =
    pulse-test c.args.marks.now bank pulses l.place c.index-pulse.result.now true (omega arith) c.index-pulse.ensures here.0 here.1 c.requires.marks
    (sym c.if-not-is_marked.false ∙ c.is_marked.ensures) in
    upto-next (pulse_fault bank pulses) l.place l.invariant (fits-clean (pulse_path l.place) (pulse_fit bank pulses l.place) test)

pub returns : goal.returns
returns c =
    let l = c.loop-place in
    let pulses = c.args.pulses.now.items in
    (upto-done (pulse_fault c.args.bank.now.items pulses) l.place (length pulses) (omega arith) l.invariant, tt)
