use Rattle.std.proofs.Common.{◌≡◌, ◌-◌, ◌≤◌, true, length, take, drop, string_bytes, bytes_eq, sym, ap, ◌∙◌, subst, arith}
use Rattle.std.proofs.Math.Seq.{take-length}
use Rattle.std.proofs.lemmas.List.{length-drop, nil_from_length}
use Rattle.std.proofs.lemmas.Slice.Eq.{bytes_eq-Decides}
use Rattle.scenario_file.proofs.written.Written.goes_on.Goals as goal

pub returns-then-is_empty : goal.returns-then-is_empty
returns-then-is_empty c = λ yes.
    let piece = c.args.piece.now in
    let len = c.args.self.now.len in
    let part = c.args.self.now.part.now in
    let rest = drop len part in
    let further = string_bytes c.args.self.now.further in
    let none : length further ≡ 0 = grind arith in
    let whole : take (length part - len) rest ≡ rest = ap (λ n. take n rest) (sym (length-drop len part)) ∙ take-length rest in
    let equal : bytes_eq piece (take (length piece) rest) ≡ true = subst (λ r. bytes_eq piece (take (length piece) r) ≡ true) whole (sym c.starts_with.ensures.value ∙ yes) in
    let bound : length piece ≤ length rest = subst (λ r. length piece ≤ length r) whole (c.starts_with.ensures.bound yes) in
    (nil_from_length further none, sym ((bytes_eq-Decides piece (take (length piece) rest)).0 equal), omega (arith, bound, length-drop len part, c.args.self.now.within))
