-- The smallest run: one round of one tick at one cabinet.
use Rattle.std.specs.Prelude.{ℕ, List, [], ◌∷◌, replicate, codes}
use Rattle.sig_types.specs.declared.frame.Colour.TheVariants.{Red}
use Rattle.sig_types.specs.declared.frame.Ped.TheVariants.{Dont}
use Rattle.sig_types.specs.declared.frame.Mode.TheVariants.{Start}
use Rattle.trace_text.specs.declared.lines.Line.{Line}
use Rattle.trace_text.specs.declared.lines.Line.TheVariants.{S, F, R, J, Z}
use Rattle.scenario_data.specs.declared.scenario.Base.TheVariants.{Std8}
use Rattle.scenario_data.specs.Content.{ScenarioContent}

-- the scenario: its cabinet has the standard tables, and nothing is sent to it
unfoldable pub smallest : ScenarioContent
smallest = record {
  version = 1;
  rounds = 1;
  ticks = 1;
  community = codes "public";
  cabinets = record { base = Std8; cells = []; pattern = 0; clock = 0; section = 0; gain = 0; lose = 0 } ∷ [];
  master = record { clock = 0; poll_every = 0; clock_every = 0; pattern_every = 0; retries = 0; schedule = [] };
  inputs = [];
  loads = [];
  priority = [];
  frames = [];
  faults = [];
  compact = [];
}

-- its only journal, with one tick
abbrev pub one_tick : List (List (List ℕ))
one_tick = ((4 ∷ []) ∷ []) ∷ []

-- its lines: the cabinet starts in all red, and shows the same one tick later
abbrev pub smallest_lines : List Line
smallest_lines =
    S [] ∷ F 1 0 (replicate 16 Red) (replicate 16 Dont) Start 0 0 0 ∷ R 1 ∷ J 1 ((4, 1) ∷ []) ∷ Z 1 ∷ []
