-- What it means that a teller has taken lines, or has stopped before it had taken them all.
use Rattle.std.specs.Prelude.{ℕ, ◌≡◌, ◌<◌, ◌⊎◌, List, [], ◌∷◌, ◌++◌, Result, Ok, Err}
use Rattle.trace_text.specs.declared.lines.Line.{Line}

-- the laws of every teller. `none`: doing nothing takes no lines. `more`: taking some lines and then others takes
-- them together. `front`: if the teller stops in some lines, it also stops in these lines with others after them.
-- `later`: if it takes some lines and stops in the next lines, it stops in both together. `short`: if memory runs
-- out, it may stop before any line
pub record TellerLaws {T F : Type 0} (told : T → T → List Line → Type 0) (stopped : T → T → F → List Line → Type 0) (out_of_memory : F) : Type 0 where
  pub none : (a : T) → told a a []
  pub more : (a b c : T) (xs ys : List Line) → told a b xs → told b c ys → told a c (xs ++ ys)
  pub front : (a b : T) (fail : F) (xs ys : List Line) → stopped a b fail xs → stopped a b fail (xs ++ ys)
  pub later : (a b c : T) (fail : F) (xs ys : List Line) → told a b xs → stopped b c fail ys → stopped a c fail (xs ++ ys)
  pub short : (a : T) (line : Line) (lines : List Line) → stopped a a out_of_memory (line ∷ lines)

-- depending on the result, all of these lines were taken, or the teller stopped in them
abbrev pub TellsLines : {T F : Type 0} → (T → T → List Line → Type 0) → (T → T → F → List Line → Type 0) → Result (Unit {0}) F → T → T → List Line → Type 0
TellsLines told stopped (Ok done) old new lines = told old new lines
TellsLines told stopped (Err fail) old new lines = stopped old new fail lines

-- if all lines were taken, no part is left. If the teller stopped with parts left, it took no lines after these
abbrev pub TellsWithin : {T F : Type 0} → (T → T → List Line → Type 0) → (T → T → F → List Line → Type 0) → Result (Unit {0}) F → T → T → ℕ → List Line → Type 0
TellsWithin told stopped (Ok done) old new left lines = left ≡ 0
TellsWithin told stopped (Err fail) old new left lines = 0 < left → told old new lines ⊎ stopped old new fail lines
