-- What the registers of a cabinet represent, and how what is found at each phase becomes a list of breaches.
use Rattle.std.specs.Prelude.{ℕ, ◌≡◌, ◌+◌, ◌-◌, ◌<◌, ◌&&◌, ◌++◌, nat_lt, false, Bool, List, [], ◌∷◌, get_or, Option, Some, None}
use Rattle.sig_types.specs.declared.frame.Ped.{Ped}
use Rattle.sig_types.specs.declared.frame.Ped.TheVariants.{Walk}
use Rattle.sig_types.specs.declared.frame.Colour.{Colour}
use Rattle.sig_types.specs.declared.frame.Colour.TheVariants.{Green}
use Rattle.sig_types.specs.declared.frame.Mode.{Mode}
use Rattle.sig_types.specs.PhaseSet.{has}
use Rattle.sig_types.specs.Phases.{all_phases}
use Rattle.sig_tables.specs.declared.tables.Tables.{Tables}
use Rattle.sig_tables.specs.Layout.{Has, no_set}
use Rattle.safety_laws.specs.Safe.{Indications}
use Rattle.judge_laws.specs.declared.Breach.{Breach}
use Rattle.judge_laws.specs.declared.Light.{Light}
use Rattle.judge_laws.specs.declared.Light.TheVariants as light
use Rattle.judge_laws.specs.declared.Overrun.{Overrun}
use Rattle.judge_laws.specs.Overrun.{overrun_at, each_overruns}
use Rattle.judge_laws.specs.declared.Clause.TheVariants.{Apart, Order, Clearance, ShortGreen, Pedestrian, OnGreen}
use Rattle.judge_laws.specs.Joined.{knows_last}
use Rattle.judge_laws.specs.Breaches.{are_together, is_lit_off, found, breach_at, each}
use Rattle.judge.specs.declared.phases.PhaseWatch.{PhaseWatch}
use Rattle.judge.specs.declared.phases.PhaseFound.{PhaseFound}
use Rattle.judge.specs.declared.phases.PhaseOverruns.{PhaseOverruns}
use Rattle.judge.specs.declared.phases.CourseFound.{CourseFound}
use Rattle.judge.specs.declared.in_force.InForce.{InForce}
use Rattle.judge.specs.declared.cabinet.CabinetJudge.{CabinetJudge}
use Rattle.judge.specs.InForce.{IsInForce}
use Rattle.judge.specs.Phase.{Follows, FindsCourse, RunsOver}

-- the values that are read for a phase that doesn't exist
abbrev pub no_watch : PhaseWatch
no_watch = record { colour = record { colour = Green; since = 0; time = 0; begun = false }; signal = record { signal = Walk; since = 0; time = 0; begun = false } }

abbrev pub no_course : CourseFound
no_course = record { order = false; clearance = false; green = false; pedestrian = false; on_green = false }

abbrev pub no_overruns : PhaseOverruns
no_overruns = record { yellow = None; clear = None; walk = None; flash = None }

abbrev pub no_found : PhaseFound
no_found = record { together = no_set; lit = false; course = no_course }

-- the registers of a cabinet represent these lines: they are what looking back over the lines gives
pub record AllFollow (judge : CabinetJudge) (joined : Bool) (tables : ℕ → Tables) (older : List (ℕ × Indications)) : Type 0 where
  pub known : judge.known ≡ knows_last joined older
  pub phases : (k : ℕ) → k < 16 → Follows (get_or judge.phases k no_watch) joined tables (k + 1) older

-- a line of this tick that shows these colours, signals and mode, under these tables
pub record ShowsAll (tick : ℕ) (veh : List Colour) (ped : List Ped) (mode : Mode) (in_force : InForce) (tables : ℕ → Tables) (line : ℕ × Indications) : Type 0 where
  pub at : line.0 ≡ tick
  pub shown : line.1.colours ≡ veh
  pub given : line.1.signals ≡ ped
  pub in_mode : line.1.mode ≡ mode
  pub under : IsInForce in_force (tables line.1.version)

-- what is found at phase p are the breaches that a line shows there
pub record Finds (found : PhaseFound) (tolerance : ℕ) (joined : Bool) (tables : ℕ → Tables) (p : ℕ) (older : List (ℕ × Indications)) (line : ℕ × Indications) : Type 0 where
  pub together : Has found.together (are_together (tables line.1.version) line.1 p)
  pub lit : found.lit ≡ is_lit_off (tables line.1.version) line.1 p
  pub course : FindsCourse found.course tolerance joined tables p older line

-- what is found at each phase are the breaches that a line shows there
abbrev pub AllFound : List PhaseFound → ℕ → Bool → (ℕ → Tables) → List (ℕ × Indications) → ℕ × Indications → Type 0
AllFound found tolerance joined tables older line =
    (k : ℕ) → k < 16 → Finds (get_or found k no_found) tolerance joined tables (k + 1) older line

-- the list of the breaches found at phase p; a pair of phases is listed at the lower number
abbrev pub listed_breaches : ℕ → ℕ → ℕ → PhaseFound → List Breach
listed_breaches cab tick p f =
    each (λ q. found (nat_lt p q && has f.together q) (breach_at cab tick Apart p q)) all_phases
    ++ (found f.lit (breach_at cab tick Apart p 0)
    ++ (found f.course.order (breach_at cab tick Order p 0)
    ++ (found f.course.clearance (breach_at cab tick Clearance p 0)
    ++ (found f.course.green (breach_at cab tick ShortGreen p 0)
    ++ (found f.course.pedestrian (breach_at cab tick Pedestrian p 0)
    ++ found f.course.on_green (breach_at cab tick OnGreen p 0))))))

-- the list of the breaches found at all phases
abbrev pub found_breaches : ℕ → ℕ → List PhaseFound → List Breach
found_breaches cab tick founds = each (λ p. listed_breaches cab tick p (get_or founds (p - 1) no_found)) all_phases

-- the intervals of each phase that exceed their time at a tick
abbrev pub AllRunOver : CabinetJudge → List PhaseOverruns → ℕ → ℕ → Type 0
AllRunOver judge overruns tick tolerance = (k : ℕ) → k < 16 → RunsOver (get_or judge.phases k no_watch) (get_or overruns k no_overruns) tick tolerance (k + 1)

-- a list of the interval that began at a tick, or the empty list
abbrev pub listed_overrun : ℕ → ℕ → Light → Option ℕ → List Overrun
listed_overrun cab p light None = []
listed_overrun cab p light (Some since) = overrun_at cab p light since ∷ []

-- the list of the intervals of phase p that exceed their time; the list of those of all phases
abbrev pub listed_by : ℕ → ℕ → PhaseOverruns → List Overrun
listed_by cab p o =
    listed_overrun cab p light.Yellow o.yellow ++ (listed_overrun cab p light.Clear o.clear
    ++ (listed_overrun cab p light.Walk o.walk ++ listed_overrun cab p light.Flash o.flash))

abbrev pub listed_overruns : ℕ → List PhaseOverruns → List Overrun
listed_overruns cab overruns = each_overruns (λ p. listed_by cab p (get_or overruns (p - 1) no_overruns)) all_phases
