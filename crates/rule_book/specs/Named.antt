-- The rules in rising order of their numbers, which the program prints.
use Rattle.std.specs.Prelude.{ℕ, List, [], ◌∷◌}
use Rattle.rule_book.specs.declared.rules.Rule.{Rule}
use Rattle.rule_book.specs.declared.rules.Rule.TheVariants.{OnPhase, OnSequence, OnPattern, TwoSides, Correction, PreemptPhases, LayoutInForce}
use Rattle.rule_book.specs.declared.rules.PhaseRule.{PhaseRule}
use Rattle.rule_book.specs.declared.rules.PhaseRule.TheVariants.{Ring, OtherPhases, NamedBack, OtherRing, ConcurrentPhase, SharedList, YellowChange, RedRevert, StartUp, Walk}
use Rattle.rule_book.specs.declared.rules.SequenceRule.{SequenceRule}
use Rattle.rule_book.specs.declared.rules.SequenceRule.TheVariants.{EachPhaseOnce, SideOrder}
use Rattle.rule_book.specs.declared.rules.PatternRule.{PatternRule}
use Rattle.rule_book.specs.declared.rules.PatternRule.TheVariants.{SplitAndSequence, Offset, CoordinatedPair, SplitSum, LeastService, CorrectionWindow}

-- the number of a rule on phases
abbrev pub phase_number : PhaseRule → ℕ
phase_number Ring = 1
phase_number OtherPhases = 2
phase_number NamedBack = 3
phase_number OtherRing = 4
phase_number ConcurrentPhase = 5
phase_number SharedList = 6
phase_number YellowChange = 10
phase_number RedRevert = 11
phase_number StartUp = 12
phase_number Walk = 22

-- the number of a rule on sequences
abbrev pub sequence_number : SequenceRule → ℕ
sequence_number EachPhaseOnce = 8
sequence_number SideOrder = 9

-- the number of a rule on patterns
abbrev pub pattern_number : PatternRule → ℕ
pattern_number SplitAndSequence = 14
pattern_number Offset = 15
pattern_number CoordinatedPair = 16
pattern_number SplitSum = 17
pattern_number LeastService = 18
pattern_number CorrectionWindow = 19

-- the number of a rule
abbrev pub number_of : Rule → ℕ
number_of (OnPhase rule) = phase_number rule
number_of (OnSequence rule) = sequence_number rule
number_of (OnPattern rule) = pattern_number rule
number_of TwoSides = 7
number_of Correction = 13
number_of PreemptPhases = 20
number_of LayoutInForce = 21

-- all rules, in rising order of their numbers
abbrev pub all_rules : List Rule
all_rules =
    OnPhase Ring ∷ OnPhase OtherPhases ∷ OnPhase NamedBack ∷ OnPhase OtherRing ∷ OnPhase ConcurrentPhase ∷ OnPhase SharedList
    ∷ TwoSides ∷ OnSequence EachPhaseOnce ∷ OnSequence SideOrder
    ∷ OnPhase YellowChange ∷ OnPhase RedRevert ∷ OnPhase StartUp ∷ Correction
    ∷ OnPattern SplitAndSequence ∷ OnPattern Offset ∷ OnPattern CoordinatedPair ∷ OnPattern SplitSum ∷ OnPattern LeastService
    ∷ OnPattern CorrectionWindow ∷ PreemptPhases ∷ LayoutInForce ∷ OnPhase Walk ∷ []
