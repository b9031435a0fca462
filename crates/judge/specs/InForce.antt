-- The tables in force with their sets, and sets of phases by what a line shows.
use Rattle.std.specs.Prelude.{◌≡◌, not}
use Rattle.sig_types.specs.declared.frame.Colour.TheVariants.{Red}
use Rattle.sig_types.specs.declared.frame.Ped.TheVariants.{Dont}
use Rattle.sig_types.specs.declared.phase_set.PhaseSet.{PhaseSet}
use Rattle.sig_tables.specs.declared.tables.Tables.{Tables}
use Rattle.sig_tables.specs.Tables.{is_enabled}
use Rattle.sig_tables.specs.Sides.{are_incompatible}
use Rattle.sig_tables.specs.Layout.{Has, EachHas}
use Rattle.safety_laws.specs.Safe.{Indications}
use Rattle.judge_laws.specs.Breaches.{shows, gives}
use Rattle.judge.specs.declared.in_force.InForce.{InForce}

-- the tables in force are these, with the sets of their enabled and their conflicting phases
pub record IsInForce (in_force : InForce) (t : Tables) : Type 0 where
  pub tables : in_force.tables ≡ t
  pub enabled : Has in_force.enabled (is_enabled t)
  pub incompatible : EachHas in_force.incompatible (are_incompatible t)

-- the phases that are on, and the phases that show Walk or Flash
pub record LitBy (lit walking : PhaseSet) (x : Indications) : Type 0 where
  pub lamps : Has lit (λ p. not (shows Red p x))
  pub signals : Has walking (λ p. not (gives Dont p x))
