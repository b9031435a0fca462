use Rattle.std.proofs.Common.{◌≡◌, ℕ, [], true, false, Some, codes, is_some, length, refl, sym, ◌∙◌, subst, arith}
use Rattle.scenario_read.specs.Paths.{then_named, then_item}
use Rattle.scenario_read.specs.Kinds.{whole}
use Rattle.scenario_read.specs.Readers.{Refuses}
use Rattle.band_report.specs.declared.legs.Legs.{Legs}
use Rattle.band_report.proofs.Times.{behind-fault, time-read, time-refused}
use Rattle.band_report.proofs.legs.one_more.Goals as goal

pub returns-then-is_some-clause-ok : goal.returns-then-is_some-clause-ok
returns-then-is_some-clause-ok c =
    let old = c.args.legs.now in
    let yes : c.pass.result ≡ true = grind arith in
    let done = c.pass.ensures.passed yes in
    let some : is_some old.refusal ≡ true = sym c.is_some.ensures ∙ c.if-is_some.true in
    (done.0, done.1, λ ds were. behind-fault old ds done.0 some were)

pub returns-in-Ok-clause-ok : goal.returns-in-Ok-clause-ok
returns-in-Ok-clause-ok c =
    let old = c.args.legs.now in
    let new : Legs = record { found = c.push.new.self; refusal = old.refusal } in
    let none : is_some old.refusal ≡ false = sym c.is_some.ensures ∙ c.if-is_some.false in
    let place : c.len-place.result ≡ length old.found.items = omega (arith, c.len-place.ensures, old.found.ok.0) in
    let done = rw c.in-Some-Ok.field-0-is at c.in-Some-Ok.ensures.ok in
    let fits = subst (λ (n : ℕ). whole 0 864000 (then_item (then_named [] (codes "travel")) n) done.0 ≡ []) place done.2.0 in
    (done.0, done.1, λ ds were. time-read old new ds done.0 none were c.in-Some-Ok.ticks refl c.in-Ok.ensures.items fits done.2.1)

pub returns-in-Some-Err-clause-ok : goal.returns-in-Some-Err-clause-ok
returns-in-Some-Err-clause-ok c =
    let old = c.args.legs.now in
    let fail = c.in-Some-Err.fail in
    let new : Legs = record { found = old.found; refusal = Some fail } in
    let none : is_some old.refusal ≡ false = sym c.is_some.ensures ∙ c.if-is_some.false in
    let place : c.len-place.result ≡ length old.found.items = omega (arith, c.len-place.ensures, old.found.ok.0) in
    let done = rw c.in-Some-Err.field-0-is at c.in-Some-Err.ensures.ok in
    let refused = subst (λ (n : ℕ). Refuses fail (whole 0 864000 (then_item (then_named [] (codes "travel")) n) done.0)) place done.2 in
    (done.0, done.1, λ ds were. time-refused old new ds done.0 none were fail refl refused)
