use Rattle.std.proofs.Common.{◌≡◌, ◌+◌, ◌++◌, length, take, drop, sym, ap, ◌∙◌, subst, append-nil}
use Rattle.std.proofs.Math.Seq.{take-add}
use Rattle.scenario_file.proofs.written.Written.add.Goals as goal

pub returns-then-goes_on : goal.returns-then-goes_on
returns-then-goes_on c =
    let text = c.args.self.now in
    let part = text.part.now in
    let piece = c.args.piece.now in
    let front = take text.len part in
    let next = c.goes_on.ensures c.if-goes_on.true in
    let none = next.0 in
    let here : take (length piece) (drop text.len part) ≡ piece = subst (λ p. take (length p) (drop text.len part) ≡ p) c.as_bytes.ensures.value next.1 in
    ap (λ s. take (text.len + length piece) part ++ s) none ∙ append-nil (take (text.len + length piece) part) ∙ take-add text.len (length piece) part
    ∙ ap (λ s. front ++ s) here ∙ ap (λ s. s ++ piece) (sym (append-nil front) ∙ ap (λ s. front ++ s) (sym none))
