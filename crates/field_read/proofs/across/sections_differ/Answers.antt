use Rattle.std.proofs.Common.{◌≡◌, ◌∙◌, ◌<◌, if◌then◌else◌, Bool, length, map, sym, ap, arith}
use Rattle.std.proofs.lemmas.List.{length-map}
use Rattle.scenario_read.specs.Kinds.{Fits, Wrong}
use Rattle.field_read.specs.Content.{rule_content}
use Rattle.field_read.specs.Checks.{section_fault, section_fit, section_path}
use Rattle.field_read.proofs.Upto.{upto-next, upto-refused, upto-done, fits-clean, same-fit}
use Rattle.field_read.proofs.across.sections_differ.Goals as goal

pub returns-then-is_repeated : goal.returns-then-is_repeated
returns-then-is_repeated c =
    let l = c.loop-place in
    let rules = map rule_content c.args.rules.now.items in
    let test : section_fit rules l.place ≡ Wrong = ap (λ (b : Bool). if b then Wrong else Fits) (sym c.is_repeated.ensures ∙ c.if-is_repeated.true) in
    let low : l.place < length rules = rw (length-map c.args.rules.now.items rule_content) (omega arith) in
    upto-refused c.refuse.result (section_fault rules) l.place (length rules) low l.invariant
    (same-fit c.refuse.result (section_path l.place) (section_fit rules l.place) Wrong test c.refuse.ensures)

pub loop-place-preserved : goal.loop-place-preserved
loop-place-preserved c =
    let l = c.loop-place in
    let rules = map rule_content c.args.rules.now.items in
    let test : section_fit rules l.place ≡ Fits = ap (λ (b : Bool). if b then Wrong else Fits) (sym c.is_repeated.ensures ∙ c.if-is_repeated.false) in
    upto-next (section_fault rules) l.place l.invariant (fits-clean (section_path l.place) (section_fit rules l.place) test)

pub returns : goal.returns
returns c =
    let l = c.loop-place in
    let rules = map rule_content c.args.rules.now.items in
    let all : l.place ≡ length rules = rw (length-map c.args.rules.now.items rule_content) (omega arith) in
    (upto-done (section_fault rules) l.place (length rules) all l.invariant, tt)
