use Rattle.std.proofs.Common.{◌≡◌, ◌<◌, ◌≤◌, ◌+◌, ◌++◌, ◌∷◌, [], ◌-◌, ◌∙◌, ℕ, List, length, take, get_or, sym, arith}
use Rattle.std.proofs.lemmas.List.{length-take-le, get_or-take, get_or_default, take_more_set}
use Rattle.std.proofs.Math.Seq.{take-set-lt}
use Rattle.cab_book.specs.Runs.{with_run_last}
use Rattle.cab_book.proofs.Runs.{last-few, made-longer, made-new, begins-first}
use Rattle.cab_book.proofs.journal.put_run.Goals as goal
use Rattle.cab_book.proofs.journal.put_run.Goals.{then-kept-gt0+else-last-pass, else-kept-gt0}

-- the last of the first runs
last-of : (runs : List (ℕ × ℕ)) (kept : ℕ) → 0 < kept → get_or runs (kept - 1) (0, 0) ≡ get_or (take kept runs) (kept - 1) (0, 0)
last-of runs kept some = let below : kept - 1 < kept = omega arith in sym (get_or-take kept runs (kept - 1) (0, 0) below)

default-last : (runs : List (ℕ × ℕ)) (kept : ℕ) → 0 < kept → kept ≤ length runs
    → get_or runs (kept - 1) (0, 0) ≡ get_or (take kept runs) (kept - 1) (get_or runs (kept - 1) (0, 0))
default-last runs kept some within =
    let inside : kept - 1 < length (take kept runs) = omega (arith, length-take-le kept runs within) in
    last-of runs kept some ∙ get_or_default (take kept runs) (kept - 1) (0, 0) (get_or runs (kept - 1) (0, 0)) inside

pub overflow_add-runs : goal.overflow_add-runs
overflow_add-runs c =
    let runs = c.args.runs.now in
    let kept : ℕ = c.args.kept in
    let within : kept ≤ length runs = omega (arith, c.requires.room) in
    let inside : kept - 1 < length (take kept runs) = omega (arith, length-take-le kept runs within, c.if-kept-gt0.true) in
    omega (
      arith,
      last-few (take kept runs) (get_or runs (kept - 1) (0, 0)) (kept - 1) c.args.pass inside
          (default-last runs kept c.if-kept-gt0.true within) c.if-last-pass.true,
      c.requires.few,
    )

pub returns-then-last-pass-clause-runs : goal.returns-then-last-pass-clause-runs
returns-then-last-pass-clause-runs c =
    let runs = c.args.runs.now in
    let kept : ℕ = c.args.kept in
    let within : kept ≤ length runs = omega (arith, c.requires.room) in
    let below : kept - 1 < kept = omega (arith, c.if-kept-gt0.true) in
    let count : (kept - 1) + 1 ≡ length (take kept runs) = omega (arith, length-take-le kept runs within, c.if-kept-gt0.true) in
    let last : ℕ × ℕ = get_or runs (kept - 1) (0, 0) in
    take-set-lt kept runs (kept - 1) (c.args.pass, last.1 + c.args.count) below
    ∙ sym (made-longer (take kept runs) last (kept - 1) c.args.pass c.args.count count (default-last runs kept c.if-kept-gt0.true within) c.if-last-pass.true)

pub returns-clause-runs : goal.returns-clause-runs
returns-clause-runs c =
    let runs = c.args.runs.now in
    let kept : ℕ = c.args.kept in
    let within : kept ≤ length runs = omega (arith, c.requires.room) in
    let size = length-take-le kept runs within in
    let made : with_run_last (take kept runs) c.args.pass c.args.count ≡ take kept runs ++ (c.args.pass, c.args.count) ∷ [] = elim c.if-kept-gt0.branch [
      | then-kept-gt0+else-last-pass w ↦
          let count : (kept - 1) + 1 ≡ length (take kept runs) = omega (arith, size, w.if-kept-gt0.true) in
          made-new (take kept runs) (get_or runs (kept - 1) (0, 0)) (kept - 1) c.args.pass c.args.count count (default-last runs kept w.if-kept-gt0.true within)
          w.if-last-pass.false
      | else-kept-gt0 w ↦ begins-first (take kept runs) c.args.pass c.args.count (omega (arith, size, w.if-kept-gt0.false))
    ] in
    take_more_set runs kept (c.args.pass, c.args.count) c.requires.room ∙ sym made
