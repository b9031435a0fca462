-- A condition on each moment of a history and on those before it. Lists of moments have the newest first.
use Rattle.std.specs.Prelude.{List, [], ◌∷◌}
use Rattle.sig_tables.specs.Past.{Moment}

-- each moment, with the moments before it, meets the condition
abbrev pub EachMoment : (List Moment → Moment → Type 0) → List Moment → Type 0
EachMoment asks [] = Unit {0}
EachMoment asks (m ∷ past) = asks past m × EachMoment asks past
