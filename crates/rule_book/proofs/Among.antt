-- A rule among others; and each is among all.
use Rattle.std.proofs.Common.{◌≡◌, ◌⊎◌, inl, inr, List, [], ◌∷◌, refl}
use Rattle.rule_book.specs.declared.rules.Rule.{Rule}
use Rattle.rule_book.specs.declared.rules.Rule.TheVariants.{OnPhase, OnSequence, OnPattern, TwoSides, Correction, PreemptPhases, LayoutInForce}
use Rattle.rule_book.specs.declared.rules.PhaseRule.TheVariants.{Ring, OtherPhases, NamedBack, OtherRing, ConcurrentPhase, SharedList, YellowChange, RedRevert, StartUp, Walk}
use Rattle.rule_book.specs.declared.rules.SequenceRule.TheVariants.{EachPhaseOnce, SideOrder}
use Rattle.rule_book.specs.declared.rules.PatternRule.TheVariants.{SplitAndSequence, Offset, CoordinatedPair, SplitSum, LeastService, CorrectionWindow}
use Rattle.rule_book.specs.Named.{all_rules}

abbrev pub Among : List Rule → Rule → Type 0
Among [] rule = ⊥
Among (x ∷ rules) rule = (rule ≡ x) ⊎ Among rules rule

pub among-all : (rule : Rule) → Among all_rules rule
among-all (OnPhase Ring) = inl refl
among-all (OnPhase OtherPhases) = inr (inl refl)
among-all (OnPhase NamedBack) = inr (inr (inl refl))
among-all (OnPhase OtherRing) = inr (inr (inr (inl refl)))
among-all (OnPhase ConcurrentPhase) = inr (inr (inr (inr (inl refl))))
among-all (OnPhase SharedList) = inr (inr (inr (inr (inr (inl refl)))))
among-all (OnPhase YellowChange) = inr (inr (inr (inr (inr (inr (inr (inr (inr (inl refl)))))))))
among-all (OnPhase RedRevert) = inr (inr (inr (inr (inr (inr (inr (inr (inr (inr (inl refl))))))))))
among-all (OnPhase StartUp) = inr (inr (inr (inr (inr (inr (inr (inr (inr (inr (inr (inl refl)))))))))))
among-all (OnPhase Walk) = inr (inr (inr (inr (inr (inr (inr (inr (inr (inr (inr (inr (inr (inr (inr (inr (inr (inr (inr (inr (inr (inl refl)))))))))))))))))))))
among-all (OnSequence EachPhaseOnce) = inr (inr (inr (inr (inr (inr (inr (inl refl)))))))
among-all (OnSequence SideOrder) = inr (inr (inr (inr (inr (inr (inr (inr (inl refl))))))))
among-all (OnPattern SplitAndSequence) = inr (inr (inr (inr (inr (inr (inr (inr (inr (inr (inr (inr (inr (inl refl)))))))))))))
among-all (OnPattern Offset) = inr (inr (inr (inr (inr (inr (inr (inr (inr (inr (inr (inr (inr (inr (inl refl))))))))))))))
among-all (OnPattern CoordinatedPair) = inr (inr (inr (inr (inr (inr (inr (inr (inr (inr (inr (inr (inr (inr (inr (inl refl)))))))))))))))
among-all (OnPattern SplitSum) = inr (inr (inr (inr (inr (inr (inr (inr (inr (inr (inr (inr (inr (inr (inr (inr (inl refl))))))))))))))))
among-all (OnPattern LeastService) = inr (inr (inr (inr (inr (inr (inr (inr (inr (inr (inr (inr (inr (inr (inr (inr (inr (inl refl)))))))))))))))))
among-all (OnPattern CorrectionWindow) = inr (inr (inr (inr (inr (inr (inr (inr (inr (inr (inr (inr (inr (inr (inr (inr (inr (inr (inl refl))))))))))))))))))
among-all TwoSides = inr (inr (inr (inr (inr (inr (inl refl))))))
among-all Correction = inr (inr (inr (inr (inr (inr (inr (inr (inr (inr (inr (inr (inl refl))))))))))))
among-all PreemptPhases = inr (inr (inr (inr (inr (inr (inr (inr (inr (inr (inr (inr (inr (inr (inr (inr (inr (inr (inr (inl refl)))))))))))))))))))
among-all LayoutInForce = inr (inr (inr (inr (inr (inr (inr (inr (inr (inr (inr (inr (inr (inr (inr (inr (inr (inr (inr (inr (inl refl))))))))))))))))))))
