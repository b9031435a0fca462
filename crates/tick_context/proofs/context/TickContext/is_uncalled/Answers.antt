use Rattle.std.proofs.Common.{◌≡◌, ◌&&◌, Bool, not, sym, ◌∙◌, ap}
use Rattle.sig_types.specs.Phases.{is_in, all_phases}
use Rattle.sig_types.specs.PhaseSet.{has}
use Rattle.sig_types.proofs.Sets.{empty-has, empty-is, some-same, listed-phase}
use Rattle.sig_tables.specs.Walking.{has_walk}
use Rattle.sig_tables.specs.Seen.{pedestrian_seen}
use Rattle.tick_context.proofs.context.TickContext.is_uncalled.Goals as goal

-- what the sets have of a phase
both : (x w y a b s o q : Bool) → x ≡ (w && y) → w ≡ (a && b) → a ≡ s → b ≡ o → y ≡ q → x ≡ ((s && o) && q)
both x w y a b s o q e f i j k = rw (← k, ← j, ← i, ← f) e

pub returns-clause-is : goal.returns-clause-is
returns-clause-is c = λ past among k h.
    empty-is c.meet.result c.is_empty.result c.is_empty.ensures.empty
    ∙ ap not (some-same (has c.meet.result) (λ p. (has_walk past.tables p && is_in (pedestrian_seen past) p) && among p) all_phases
    (λ p i. let g = listed-phase p i in
    both _ _ _ _ _ _ _ _ (c.meet.ensures.has p) (c.meet-called.ensures.has p) (k.layout.walks p g) (c.pedestrian.ensures.has past k.calls p g) (h p g)))

pub returns-clause-walks : goal.returns-clause-walks
returns-clause-walks c = λ past among p k h t g.
    sym (both _ _ _ _ _ _ _ _ (c.meet.ensures.has p) (c.meet-called.ensures.has p) (k.layout.walks p g) (c.pedestrian.ensures.has past k.calls p g) (h p g))
    ∙ empty-has c.meet.result p g (c.is_empty.ensures.empty.0 t)
