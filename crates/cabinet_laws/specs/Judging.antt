-- What the end of a download says: the verdict of the rules on the tables staged at that moment.
use Rattle.std.specs.Prelude.{ℕ, ◌≡◌, Result, Ok, Err}
use Rattle.sig_types.specs.declared.notes.Broken.{Broken}
use Rattle.stage_txn.specs.Answers.{answered, staged, first_broken}
use Rattle.cabinet_history.specs.Coming.{Coming, past_of, in_force, is_flashing}

-- the first rule that the staged tables of a cabinet break together with those in force; Ok if they break none
abbrev pub verdict : Coming → Result (Unit {0}) Broken
verdict c = first_broken (staged (answered c.calls)) (in_force c) (is_flashing (past_of c))

-- the result of a download agrees with the rules. If it was accepted, the staged tables broke no rule, and the result
-- is the version after it. If it was refused, the result names the first rule that they broke
abbrev pub IsVerdict : Coming → Coming → Result ℕ Broken → Type 0
IsVerdict before after (Ok version) = (verdict before ≡ Ok tt) × (version ≡ (past_of after).version)
IsVerdict before after (Err broken) = verdict before ≡ Err broken
