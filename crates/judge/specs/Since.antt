-- A tick if a test passes, otherwise none.
use Rattle.std.specs.Prelude.{ℕ, Bool, if◌then◌else◌, Option, Some, None}

abbrev pub since_if : Bool → ℕ → Option ℕ
since_if passes tick = if passes then Some tick else None
