-- The laws of this crate as lemmas, for the proofs of the layers above.
use Rattle.std.proofs.Common.{◌≡◌, ℕ, ◌≤◌, Bool, true, false, []}
use Rattle.sig_types.specs.Phases.{is_phase}
use Rattle.sig_tables.specs.declared.tables.Tables.{Tables}
use Rattle.sig_tables.specs.Tables.{is_enabled}
use Rattle.sig_tables.specs.Slots.{is_defined, force_point}
use Rattle.sig_tables.specs.Splits.{coordinated_phases}
use Rattle.rule_book.specs.RingLayout.{is_used}
use Rattle.rule_book.specs.Rules.{broken, Consistent}
use Rattle.tick_laws.specs.Lawful.{Sound, SameLayout}
use Rattle.rule_facts.specs.Rules.{KeepsRules}
use Rattle.rule_facts.specs.Sides.{SidesCut, SidesHold}
use Rattle.rule_facts.specs.Sequences.{SequenceServes}
use Rattle.plan_facts.specs.Goals.{GoTogether, PreemptFits}
use Rattle.plan_facts.specs.Times.{TimesHold}
use Rattle.plan_facts.specs.Plan.{PlanHolds}
use Rattle.rule_facts.specs.Forces.{AreEnough, force_with}
use Rattle.rule_facts.proofs.Soundness.{sound-of}
use Rattle.rule_facts.proofs.Numbered as numbered
use Rattle.rule_facts.proofs.Accepted as accepted
use Rattle.rule_facts.proofs.Sides as sides
use Rattle.rule_facts.proofs.Sequences as sequences
use Rattle.rule_facts.proofs.Goals as goals
use Rattle.rule_facts.proofs.Times as times
use Rattle.rule_facts.proofs.Plan as plan
use Rattle.rule_facts.proofs.Residues as residues

pub rules-kept : (t in_force : Tables) (flashing : Bool) → broken t in_force flashing ≡ [] → KeepsRules t
rules-kept = numbered.keeps-rules

pub accepted-consistent : (t in_force : Tables) (flashing : Bool) → broken t in_force flashing ≡ [] → Consistent t
accepted-consistent = accepted.alone

pub same-layout : (t in_force : Tables) → broken t in_force false ≡ [] → SameLayout in_force t
same-layout = accepted.same-layout

-- the rules of consistent tables
rules : (t : Tables) → Consistent t → KeepsRules t
rules t h = numbered.keeps-rules t t false h

pub sound : (t : Tables) → Consistent t → Sound t
sound t h = sound-of t (rules t h)

pub sides-cut : (t : Tables) → Consistent t → SidesCut t
sides-cut t h = sides.sides-cut t (rules t h)

pub sides-hold : (t : Tables) → Consistent t → SidesHold t
sides-hold t h = sides.sides-hold t (rules t h)

pub sequences-serve : (t : Tables) → Consistent t → (s : ℕ) → is_phase s ≡ true → is_used t s ≡ true → SequenceServes t s
sequences-serve t h s phase used = sequences.sequence-serves t s (rules t h) ((rules t h).sequences s phase used)

pub times-hold : (t : Tables) → Consistent t → TimesHold t
times-hold t h = times.times-hold t (rules t h)

pub preempts-fit : (t : Tables) → Consistent t → (i : ℕ) → 1 ≤ i → i ≤ 8 → PreemptFits t i
preempts-fit t h i low high = goals.preempt-fits t i (rules t h) low high

pub patterns-fit : (t : Tables) → Consistent t → (n : ℕ) → is_defined t n ≡ true → GoTogether t (coordinated_phases t n)
patterns-fit t h n defined = goals.coordinated-fits t n (rules t h) defined

pub plan-holds : (t : Tables) → Consistent t → (n : ℕ) → is_defined t n ≡ true → PlanHolds t n
plan-holds t h n defined = plan.plan-holds t (rules t h) n defined

pub force-is-residue : (t : Tables) (n p cycles : ℕ) → is_defined t n ≡ true → is_enabled t p ≡ true → AreEnough t n p cycles
    → force_point t n p ≡ force_with t n p cycles
force-is-residue = residues.force-residue
