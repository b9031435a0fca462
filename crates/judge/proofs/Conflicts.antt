-- Conflicts by sets, and by tests.
use Rattle.std.proofs.Common.{◌≡◌, ℕ, Bool, true, false, not, ◌&&◌, ◌||◌, refl}
use Rattle.sig_types.specs.declared.phase_set.PhaseSet.{PhaseSet}
use Rattle.sig_tables.specs.Layout.{Has}
use Rattle.safety_laws.specs.Safe.{Indications}
use Rattle.judge_laws.specs.Breaches.{are_together, is_lit_off}
use Rattle.judge.specs.declared.phases.PhaseFound.{PhaseFound}
use Rattle.judge.specs.declared.in_force.InForce.{InForce}
use Rattle.judge.specs.InForce.{IsInForce, LitBy}

-- two are on together by their lamps or by their pedestrian signals
pub both-on : (red_p red_q dont_p dont_q : Bool) → ((not red_p && not red_q) || (not dont_p && not dont_q)) ≡ not ((red_p || red_q) && (dont_p || dont_q))
both-on true red_q true dont_q = refl
both-on true red_q false true = refl
both-on true red_q false false = refl
both-on false true true dont_q = refl
both-on false true false true = refl
both-on false true false false = refl
both-on false false dont_p dont_q = refl

-- what is found of phase p and the others, by the sets of what is lit
pub record FindsApart (in_force : InForce) (lit walking : PhaseSet) (p : ℕ) (found : PhaseFound) : Type 0 where
  pub pairs : (x : Indications) → IsInForce in_force in_force.tables → LitBy lit walking x → Has found.together (are_together in_force.tables x p)
  pub off : (x : Indications) → IsInForce in_force in_force.tables → LitBy lit walking x → found.lit ≡ is_lit_off in_force.tables x p
