use Rattle.std.proofs.Common.{refl}
use Rattle.sig_tables.specs.Standard.{std8, standard}
use Rattle.rule_facts.specs.Window.{five_ahead, short_window}
use Rattle.rule_facts.proofs.Missed.{late-misses}
use Rattle.rule_facts.proofs.broken_plans.offset_needs_correction_window.Goals as goal

pub returns-clause-broken : goal.returns-clause-broken
unfolding short_window std8 standard
returns-clause-broken c = refl

pub returns-clause-late : goal.returns-clause-late
unfolding short_window std8 standard
returns-clause-late c = refl

pub returns-clause-misses : goal.returns-clause-misses
returns-clause-misses c = late-misses (five_ahead short_window 1179) _ (returns-clause-late c) refl refl
