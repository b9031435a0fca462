-- Tables that keep the rules are sound.
use Rattle.std.proofs.Common.{◌≡◌, ℕ, true, refl}
use Rattle.sig_types.specs.Phases.{is_in}
use Rattle.sig_tables.specs.declared.tables.Tables.{Tables}
use Rattle.sig_tables.specs.Tables.{ring_of, is_enabled}
use Rattle.sig_tables.specs.Cells.{pattern_of}
use Rattle.sig_tables.specs.Slots.{is_defined, pattern_order}
use Rattle.plan_facts.specs.Plan.{NamesThere}
use Rattle.tick_laws.specs.Lawful.{Sound}
use Rattle.rule_facts.specs.Rules.{KeepsRules}
use Rattle.rule_facts.specs.Sequences.{SequenceServes}
use Rattle.rule_facts.proofs.RingLayout.{across, in-ring}
use Rattle.rule_facts.proofs.Sides.{around, started}
use Rattle.rule_facts.proofs.Goals.{preempt-fits, coordinated-fits}
use Rattle.rule_facts.proofs.Times.{times-hold}
use Rattle.rule_facts.proofs.Plan.{plan-holds}
use Rattle.rule_facts.proofs.Sequences.{sequence-serves}

-- each enabled phase is in the order of its ring in the sequence of each defined pattern
in-order : (t : Tables) → KeepsRules t → (n p : ℕ) → is_defined t n ≡ true → is_enabled t p ≡ true → is_in (pattern_order t n (ring_of t p)) p ≡ true
in-order t k n p d e =
    let names : NamesThere t n = (plan-holds t k n d).names in
    let serves : SequenceServes t (pattern_of t n).sequence
    = sequence-serves t (pattern_of t n).sequence k (k.sequences (pattern_of t n).sequence names.sequence names.used) in
    (serves.ring (ring_of t p) (in-ring t p k e)).listed p e refl

pub sound-of : (t : Tables) → KeepsRules t → Sound t
sound-of t k = record {
  ring = λ p e. in-ring t p k e;
  across = λ p q c. across t p q k c;
  side = λ s p q h g ne. around t s p q k h g ne;
  start = λ p q u v. started t p q k u v;
  coordinated = λ n d. coordinated-fits t n k d;
  preempts = λ i low high. preempt-fits t i k low high;
  plans = λ n d. plan-holds t k n d;
  listed = λ n p d e. in-order t k n p d e;
  times = times-hold t k;
}
