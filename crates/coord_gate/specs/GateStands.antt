-- What a gate represents: the times of a pattern.
use Rattle.std.specs.Prelude.{ℕ, ◌≡◌}
use Rattle.sig_tables.specs.declared.tables.Tables.{Tables}
use Rattle.sig_tables.specs.Slots.{is_coordinated, least_service}
use Rattle.sig_tables.specs.Plan.{plan_of}
use Rattle.sig_tables.specs.Layout.{Has}
use Rattle.sig_tables.specs.Laying.{EachIs}
use Rattle.coord_gate.specs.declared.gate.Gate.{Gate}

-- the gate is that of pattern n: its plan, its coordinated phases, and the minimum service of each phase
pub record GateStands (g : Gate) (t : Tables) (n : ℕ) : Type 0 where
  pub plan : g.plan.now ≡ plan_of t n
  pub coordinated : Has g.coordinated (is_coordinated t n)
  pub services : EachIs g.services.now (least_service t)
