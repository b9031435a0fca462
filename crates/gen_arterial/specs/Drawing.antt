-- What has been generated so far.
use Rattle.std.specs.Prelude.{ℕ, ◌+◌, ◌≡◌}
use Rattle.serde_json.specs.Data.{Data}
use Rattle.scenario_data.specs.Content.{CabinetContent, LoadContent}
use Rattle.gen_arterial.specs.declared.draws.Draws.{Draws}
use Rattle.gen_arterial.specs.declared.drawing.Setup.{Setup}
use Rattle.gen_arterial.specs.declared.drawing.Rounds.{Rounds}
use Rattle.gen_arterial.specs.declared.drawing.Drawn.{Drawn}
use Rattle.gen_arterial.specs.Draws.{state_after}
use Rattle.gen_arterial.specs.Generated.{each_below, offset, correction, load_round, load_maximum, cabinet_with, load_with, all_inputs, all_faults}
use Rattle.gen_arterial.specs.Written.{cabinet_value, load_value}

-- the generator is at this place: it has made this many numbers
abbrev pub IsAt : Draws → ℕ → ℕ → Type 0
IsAt draws seed place = draws.state ≡ state_after seed place

-- what is generated for a cabinet, counted from 0
abbrev pub setup_made : ℕ → ℕ → ℕ → Setup
setup_made seed rounds i = record {
  cabinet = 1 + i;
  offset = offset seed i;
  correction = correction seed i;
  load_round = load_round seed rounds i;
  load_maximum = load_maximum seed i;
}

-- the inputs and the lost polls of this many rounds
pub record AreRounds (made : Rounds) (seed cabinets done : ℕ) : Type 0 where
  pub inputs : made.inputs.items ≡ all_inputs seed cabinets done
  pub faults : made.faults.items ≡ all_faults seed cabinets done

-- everything that is generated
pub record AreDrawn (made : Drawn) (seed cabinets rounds : ℕ) : Type 0 where
  pub setups : made.setups.items ≡ each_below (setup_made seed rounds) cabinets
  pub happens : AreRounds made.rounds seed cabinets rounds

-- the cabinet of this setup
abbrev pub setup_cabinet : Setup → CabinetContent
setup_cabinet s = cabinet_with s.offset s.correction

-- the load of this setup
abbrev pub setup_load : Setup → LoadContent
setup_load s = load_with s.load_round s.cabinet s.load_maximum

-- the cabinet of this setup as a JSON value
abbrev pub setup_cabinet_value : Setup → Data
setup_cabinet_value s = cabinet_value s.offset s.correction

-- the load of this setup as a JSON value
abbrev pub setup_load_value : Setup → Data
setup_load_value s = load_value s.load_round s.cabinet s.load_maximum
