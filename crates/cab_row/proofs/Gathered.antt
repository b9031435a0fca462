-- Workers of whom the last one worked next to the others, and came after them again.
use Rattle.std.proofs.Common.{◌≡◌, ℕ, ◌+◌, ◌++◌, ◌∷◌, [], All, Vec, vec_len, vec_capacity, ap, sym, subst, ◌∙◌, arith}
use Rattle.std.proofs.lemmas.List.Elements.{All-push}
use base.Stored.{Gv}
use Rattle.std.specs.declared.alloc.Global.{Global}
use Rattle.cab_row.specs.declared.row.Row.{Row}
use Rattle.cab_row.proofs.Sums.{total-append}
use Rattle.cab_row.specs.declared.worker.Worker.{Worker}
use Rattle.cab_row.specs.Hands.{IsReady, HaveWorked, passes_in}

abbrev size : Worker → ℕ
size w = vec_len w.passes

module _ {B : Type 0} (code : B → Gv) (left_of : B → ℕ → ℕ) (row : Row B) where
  pub gathered : (before front others whole : Vec Worker Global) (was now : Worker)
      → before.items ≡ front.items ++ was ∷ [] → vec_len before ≡ vec_len front + 1 → vec_capacity front ≡ vec_capacity before
      → IsReady code left_of row now × (vec_len now.passes ≡ vec_len was.passes) → HaveWorked code left_of row front others
      → whole.items ≡ others.items ++ now ∷ [] → vec_len whole ≡ vec_len others + 1 → vec_capacity whole ≡ vec_capacity others
      → HaveWorked code left_of row before whole
  gathered before front others whole was now taken shorter kept ready worked put longer same = record {
    ready = subst (All (λ w. IsReady code left_of row w)) (sym put) (All-push (λ w. IsReady code left_of row w) others.items now worked.ready ready.0);
    count = ap passes_in put ∙ omega (arith, total-append size others.items (now ∷ []), total-append size front.items (was ∷ []), worked.count, ready.1) ∙ ap passes_in (sym taken);
    many = omega (arith, longer, worked.many, shorter);
    room = same ∙ worked.room ∙ kept;
  }
