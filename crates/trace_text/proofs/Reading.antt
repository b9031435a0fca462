-- When something was read, and when nothing was.
use Rattle.std.proofs.Common.{◌≡◌, Some, None, Result, Ok, Err, IfOk, ap}
use Rattle.trace_text.specs.Reads.{Reads}

module _ {A T : Type 0} {IsOne : A → Type 0} {spelling : A → T} {text : T} where
  pub reads_none : ((v : A) → IsOne v → text ≡ spelling v → ⊥) → Reads IsOne spelling text None
  reads_none h = record { value = tt; only = λ v one e. absurd (h v one e) }

  pub reads_some : {x : A} → IsOne x → text ≡ spelling x → ((v : A) → IsOne v → text ≡ spelling v → x ≡ v) → Reads IsOne spelling text (Some x)
  reads_some one e same = record { value = (one, e); only = λ v other f. ap Some (same v other f) }

  -- where nothing was read, no value is so spelled
  pub none_reads : Reads IsOne spelling text None → (v : A) → IsOne v → text ≡ spelling v → ⊥
  none_reads h v one e = let n : None ≡ Some v = h.only v one e in cc

  -- what was read is what is so spelled
  pub some_reads : {x : A} → Reads IsOne spelling text (Some x) → (v : A) → IsOne v → text ≡ spelling v → x ≡ v
  some_reads {x} h v one e = let n : Some x ≡ Some v = h.only v one e in cc

-- what an answer says, said otherwise
pub ok_then : {A E : Type 0} (P Q : A → Type 0) → ((x : A) → P x → Q x) → (r : Result A E) → IfOk r P → IfOk r Q
ok_then P Q f (Ok x) h = f x h
ok_then P Q f (Err e) h = tt
