-- Worked cases: what a download puts in force; what a log of one cabinet shows before and after a load that the
-- scenario doesn't have; a run in which a download has the number of a load but other cells.
use Rattle.std.specs.Prelude.{ℕ, pos, false, List, [], ◌∷◌, replicate, codes, Ok}
use Rattle.sig_types.specs.declared.frame.Colour.TheVariants.{Green, Red}
use Rattle.sig_types.specs.declared.frame.Ped.TheVariants.{Dont}
use Rattle.sig_types.specs.declared.frame.Mode.TheVariants.{Free}
use Rattle.sig_tables.specs.declared.cells.Cell.{Cell}
use Rattle.sig_tables.specs.declared.cells.Cell.TheVariants.{Phase}
use Rattle.sig_tables.specs.Cells.{Content, Number}
use Rattle.sig_tables.specs.Standard.{max8}
use Rattle.trace_text.specs.declared.lines.Line.{Line}
use Rattle.trace_text.specs.declared.lines.Line.TheVariants.{F, L}
use Rattle.sig_types.specs.declared.notes.Way.TheVariants.{Load}
use Rattle.scenario_data.specs.Content.{LoadContent, FrameContent, ScenarioContent}
use Rattle.master_load.specs.declared.download.Step.{Step}
use Rattle.master_load.specs.declared.download.Step.TheVariants as step
use Rattle.master_load.specs.Downloads.{frame_text}
use Rattle.run_definition.specs.Smallest.{smallest}
use Rattle.stage_txn.specs.Calls.{Call, Begin, Part, Verify, Finish}

-- a yellow of 4.0 s for phase 2
abbrev pub yellow : List (Cell × Content)
yellow = (Phase 2 8, Number 40) ∷ []

-- calls that download it as load 1 into a cabinet with the tables max8, in one part; the newest call is first
abbrev pub one_download : List Call
one_download = Finish 1 max8 false ∷ Verify 1 1 max8 false ∷ Part 1 1 yellow ∷ Begin 1 max8 ∷ []

-- phases 1 and 2, which conflict, are both Green
abbrev pub both_green : ℕ → ℕ → Line
both_green tick version = F 1 tick (Green ∷ Green ∷ replicate 14 Red) (replicate 16 Dont) Free 0 0 version

-- load 7 is accepted
abbrev pub seventh : Line
seventh = L 1 7 (Ok 1)

-- a load of cabinet 1 with these cells, which the master sends from round 2 on
abbrev pub load_with : List (Cell × Content) → LoadContent
load_with cells = record { round = 2; cabinet = 1; cells = cells }

-- a message of other software for a step of a download of the yellow, with number 1
abbrev pub yellow_frame : ℕ → Step → FrameContent
yellow_frame id step = record {
  round = 1;
  cabinet = 1;
  stream = Load;
  hex = frame_text (codes "public") (load_with yellow ∷ []) (record { cab = 1; load = 1; step = step; id = pos id });
}

-- a scenario whose load 1 disables phase 2, while other software downloads the yellow as load 1
unfoldable pub disguised : ScenarioContent
disguised = record smallest {
  ticks = 60;
  loads = load_with ((Phase 2 21, Number 0) ∷ []) ∷ [];
  frames = yellow_frame 1 step.Begin ∷ yellow_frame 2 (step.Part 1) ∷ yellow_frame 3 step.Verify ∷ yellow_frame 4 step.Finish ∷ [];
}
