-- What a log shows of the time before its first line, and after it.
use Rattle.std.proofs.Common.{◌≡◌, ℕ, Bool, true, false, not, List, [], ◌∷◌, refl}
use Rattle.safety_laws.specs.Safe.{Indications}
use Rattle.judge_laws.specs.Joined.{knows_last}

pub knows-first : (joined : Bool) → not joined ≡ knows_last joined []
knows-first true = refl
knows-first false = refl

pub knows-next : (joined : Bool) (line : ℕ × Indications) (older : List (ℕ × Indications)) → true ≡ knows_last joined (line ∷ older)
knows-next true line older = refl
knows-next false line older = refl
