-- A round over the lines as what reaches a cabinet and as what is held for later.
use Rattle.std.proofs.Common.{◌≡◌, ℕ, List, ◌∷◌, ◌++◌, map, ap, subst, ◌∙◌}
use Rattle.sig_types.specs.declared.frame.Field.{Field}
use Rattle.sig_types.specs.declared.notes.Way.{Way}
use Rattle.scenario_data.specs.declared.scenario.Direction.{Direction}
use Rattle.scenario_data.specs.declared.scenario.Fault.{Fault}
use Rattle.scenario_data.specs.Content.{ScenarioContent}
use Rattle.sig_types.specs.Items.{Item, InputTold, Came}
use Rattle.link_sim.specs.declared.lines.Lines.{Lines}
use Rattle.link_sim.specs.declared.Line.{Line}
use Rattle.link_sim.specs.Order.{SameFaults}
use Rattle.link_sim.specs.Carried.{carried}
use Rattle.link_sim.specs.Reaching.{frames_of, line_down}
use Rattle.link_sim.specs.StreamFrames.{Passed, AreLines, with_round}
use Rattle.link_sim.proofs.Carried.{same_carried}

-- what a line carries by the kept faults of what was sent is what it carries by the scenario's
pub carried_is : (fs gs : List Fault) → SameFaults fs gs → (line : Line) (texts first arrived : List (List ℕ)) (past : List (List (List ℕ)))
    → arrived ≡ carried fs line (texts ∷ past) → texts ≡ first → arrived ≡ carried gs line (first ∷ past)
carried_is fs gs same line texts first arrived past e f =
    e ∙ ap (λ (t : List (List ℕ)). carried fs line (t ∷ past)) f ∙ same_carried fs gs same line (first ∷ past)

-- and with the scenario's own frames after it, in the newest of that many rounds
pub stream_is : (fs : List Fault) (s : ScenarioContent) → SameFaults fs s.faults → (cab : ℕ) (way : Way) (round rounds : ℕ) (texts first arrived all : List (List ℕ))
    (past : List (List (List ℕ))) → all ≡ arrived ++ frames_of s.frames round cab way → arrived ≡ carried fs (line_down cab way) (texts ∷ past) → texts ≡ first
    → round ≡ rounds → all ≡ carried s.faults (line_down cab way) (first ∷ past) ++ frames_of s.frames rounds cab way
stream_is fs s same cab way round rounds texts first arrived all past own e f is =
    own ∙ ap (λ (a : List (List ℕ)). a ++ frames_of s.frames round cab way) (carried_is fs s.faults same (line_down cab way) texts first arrived past e f)
    ∙ ap (λ (r : ℕ). carried s.faults (line_down cab way) (first ∷ past) ++ frames_of s.frames r cab way) is

-- the streams are the same where their items are
pub same_streams : (a a2 : List Field) (b b2 c c2 d d2 : List (List ℕ)) (ticks : List (List Item)) → a ≡ a2 → b ≡ b2 → c ≡ c2 → d ≡ d2
    → ◌≡◌ {A = List (List Item)} (map InputTold a ∷ map Came b ∷ map Came c ∷ map Came d ∷ ticks) (map InputTold a2 ∷ map Came b2 ∷ map Came c2 ∷ map Came d2 ∷ ticks)
same_streams a a2 b b2 c c2 d d2 ticks p q r t =
    ap (λ (x : List Field). map InputTold x ∷ map Came b ∷ map Came c ∷ map Came d ∷ ticks) p
    ∙ ap (λ (x : List (List ℕ)). map InputTold a2 ∷ map Came x ∷ map Came c ∷ map Came d ∷ ticks) q
    ∙ ap (λ (x : List (List ℕ)). map InputTold a2 ∷ map Came b2 ∷ map Came x ∷ map Came d ∷ ticks) r
    ∙ ap (λ (x : List (List ℕ)). map InputTold a2 ∷ map Came b2 ∷ map Came c2 ∷ map Came x ∷ ticks) t

-- the lines hold a round by what was sent in it
pub held_is : (lines : Lines) (fs : List Fault) (cab : ℕ) (direction : Direction) (p p2 l l2 r r2 : List (List ℕ)) (past : Passed) → p ≡ p2 → l ≡ l2 → r ≡ r2
    → AreLines lines fs cab direction (with_round p l r past) → AreLines lines fs cab direction (with_round p2 l2 r2 past)
held_is lines fs cab direction p p2 l l2 r r2 past e f g are =
    subst (λ (x : List (List ℕ)). AreLines lines fs cab direction (with_round p2 l2 x past)) g
    (subst (λ (x : List (List ℕ)). AreLines lines fs cab direction (with_round p2 x r past)) f
    (subst (λ (x : List (List ℕ)). AreLines lines fs cab direction (with_round x l r past)) e are))
