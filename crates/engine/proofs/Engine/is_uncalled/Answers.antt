use Rattle.std.proofs.Common.{◌≡◌, ◌&&◌, Bool, not, refl, sym, ◌∙◌, ap}
use Rattle.sig_types.specs.PhaseSet.{has}
use Rattle.sig_tables.specs.Walking.{has_walk}
use Rattle.sig_types.specs.Phases.{is_in}
use Rattle.sig_tables.specs.Seen.{pedestrian_seen}
use Rattle.sig_tables.proofs.Below.{is-within}
use Rattle.engine.proofs.Engine.is_uncalled.Goals as goal

-- what the sets have of a phase
among : (y t z g h u v q : Bool) → y ≡ (t && not z) → t ≡ (g && not u) → g ≡ h → u ≡ v → z ≡ q → ((h && not v) && not q) ≡ y
among y t z g h u v q e f i j k = rw (← i, ← j, ← k, ← f) (sym e)

pub returns : goal.returns
returns g c = record {
  walks = λ past against p k o t h.
      ap (λ (b : Bool). (has_walk past.tables p && is_in (pedestrian_seen past) p) && b)
      (among _ _ _ _ _ _ _ _ (c.minus.ensures.has p (is-within p h)) (c.minus-steady.ensures.has p (is-within p h)) (k.shown.green p h) (k.signalling p h) (o p h))
      ∙ c.is_uncalled.ensures.walks past (has c.minus.result) p k.context (λ q g. refl) t h;
}
