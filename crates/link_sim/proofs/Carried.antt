-- What a line carries rests on the faults only by what fault each frame has.
use Rattle.std.proofs.Common.{◌≡◌, ℕ, zero, suc, ◌+◌, List, [], ◌∷◌, ◌++◌, length, refl, ap, ◌∙◌}
use Rattle.scenario_data.specs.declared.scenario.Fault.{Fault}
use Rattle.scenario_data.specs.Content.{ScenarioContent}
use Rattle.link_sim.specs.declared.Line.{Line}
use Rattle.link_sim.specs.Faults.{fault_of, arriving, copied}
use Rattle.link_sim.specs.Order.{SameFaults}
use Rattle.link_sim.specs.Carried.{arriving_from, copies_from, late_copies, carried}
use Rattle.link_sim.specs.Reaching.{requested}

same_arriving : (fs gs : List Fault) → SameFaults fs gs → (line : Line) (round place : ℕ) (texts : List (List ℕ))
    → arriving_from fs line round place texts ≡ arriving_from gs line round place texts
same_arriving fs gs same line round place [] = refl
same_arriving fs gs same line round place (text ∷ texts) =
    ap (λ f. arriving f text ++ arriving_from fs line round (place + 1) texts) (same line round place)
    ∙ ap (λ rest. arriving (fault_of gs line round place) text ++ rest) (same_arriving fs gs same line round (place + 1) texts)

same_copies : (fs gs : List Fault) → SameFaults fs gs → (line : Line) (round rounds place : ℕ) (texts : List (List ℕ))
    → copies_from fs line round rounds place texts ≡ copies_from gs line round rounds place texts
same_copies fs gs same line round rounds place [] = refl
same_copies fs gs same line round rounds place (text ∷ texts) =
    ap (λ f. copied f rounds text ++ copies_from fs line round rounds (place + 1) texts) (same line round place)
    ∙ ap (λ rest. copied (fault_of gs line round place) rounds text ++ rest) (same_copies fs gs same line round rounds (place + 1) texts)

same_late : (fs gs : List Fault) → SameFaults fs gs → (line : Line) (rounds : ℕ) (past : List (List (List ℕ)))
    → late_copies fs line rounds past ≡ late_copies gs line rounds past
same_late fs gs same line rounds [] = refl
same_late fs gs same line rounds (texts ∷ before) =
    ap (λ older. older ++ copies_from fs line (length before + 1) rounds 0 texts) (same_late fs gs same line (rounds + 1) before)
    ∙ ap (λ newer. late_copies gs line (rounds + 1) before ++ newer) (same_copies fs gs same line (length before + 1) rounds 0 texts)

pub same_carried : (fs gs : List Fault) → SameFaults fs gs → (line : Line) (past : List (List (List ℕ))) → carried fs line past ≡ carried gs line past
same_carried fs gs same line [] = refl
same_carried fs gs same line (texts ∷ before) =
    ap (λ now. now ++ late_copies fs line 1 before) (same_arriving fs gs same line (length before + 1) 0 texts)
    ∙ ap (λ late. arriving_from gs line (length before + 1) 0 texts ++ late) (same_late fs gs same line 1 before)

-- there is a list of requests for each round
pub requested_rounds : (s : ScenarioContent) (cab rounds : ℕ) → length (requested s cab rounds) ≡ rounds
requested_rounds s cab zero = refl
requested_rounds s cab (suc rounds) = ap suc (requested_rounds s cab rounds)
