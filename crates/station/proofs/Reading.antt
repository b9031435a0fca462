-- What a source has left after it was read bit by bit.
use Rattle.std.proofs.Common.{◌≡◌, ℕ, List, ◌++◌, length, drop, Option, Some, None, IfSome, sym, ◌∙◌, ap, subst, append_assoc}
use Rattle.std.proofs.Math.Seq.{drop-append_seam}
use Rattle.io_edge.specs.Edge.{Reads}
use Rattle.station.specs.Bytes.{LeavesAfter}

after_two : (bytes taken mid piece rest : List ℕ) → bytes ≡ taken ++ mid → mid ≡ piece ++ rest → bytes ≡ (taken ++ piece) ++ rest
after_two bytes taken mid piece rest e f = e ∙ ap (λ m. taken ++ m) f ∙ sym (append_assoc taken piece rest)

-- after some bytes and a piece more, the source has left what comes after that many bytes
pub stopped_at : (old mid new : Option (List ℕ)) (taken piece : List ℕ) (n : ℕ) → LeavesAfter old mid taken → Reads mid new piece → n ≡ length (taken ++ piece)
    → IfSome old (λ bytes. new ≡ Some (drop n bytes))
stopped_at None mid new taken piece n split more e = tt
stopped_at (Some bytes) mid new taken piece n (rest, left, split) more e =
    let (last, so, front, ended) = subst (λ (o : Option (List ℕ)). Reads o new piece) left more in
    so ∙ ap Some (rw (after_two bytes taken rest piece last split front, e) (sym (drop-append_seam (taken ++ piece) last)))
