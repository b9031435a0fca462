use Rattle.std.proofs.Common.{◌≡◌, ℕ, ◌≤◌, length}
use Rattle.json.specs.Json.{members, value}
use Rattle.serde_json.specs.Data.{Members, object, no_members}
use Rattle.serde_json.specs.Read.{of_members, converted}
use Rattle.field_read.specs.Judging.{IsAnswer}
use Rattle.field_read.proofs.judged.judge_members.Given as goal

-- the answer to the pulses among the members so far
abbrev pub invariant-members : goal.invariant-members
invariant-members l =
    (n : ℕ) × (ms : Members) × (length l.reader ≤ n)
    × (converted (λ js. of_members js no_members) (members (value 126) (length l.fn.reader) l.fn.reader) ≡ converted (λ js. of_members js ms) (members (value 126) n l.reader))
    × IsAnswer l.extent l.answer (object ms)

abbrev pub decreases-members : goal.decreases-members
decreases-members l = length l.reader
