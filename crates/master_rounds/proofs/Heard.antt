-- What happens at the street in a round is what the scenario says.
use Rattle.std.proofs.Common.{◌≡◌, ◌<◌, ◌==◌, ◌&&◌, ℕ, zero, suc, ◌+◌, Bool, true, false, cond, List, [], ◌∷◌, length, map, get_or, ◌⊎◌, inl, inr, refl, ap, sym, subst, ◌∙◌, arith}
use Rattle.sig_types.specs.declared.frame.Field.{Field}
use Rattle.scenario_data.specs.declared.scenario.Input.{Input}
use Rattle.scenario_data.specs.Content.{CabinetContent, ScenarioContent}
use Rattle.scenario_data.specs.Inputs.{inputs_of}
use Rattle.sig_types.specs.declared.streams.Streams.{Streams}
use Rattle.sig_types.specs.Items.{Item, InputTold, Came, Ticked, items_of}
use Rattle.sig_types.specs.Replies.{Reply}
use Rattle.master_rounds.specs.Rounds.{streams_of}
use Rattle.master_rounds.specs.Bounds.{AreInputs, IsInput}

-- what happens at the street, read from a stream
untold : List Item → List Field
untold [] = []
untold (InputTold field ∷ items) = field ∷ untold items
untold (Came octets ∷ items) = untold items
untold (Ticked ∷ items) = untold items

told_back : (fields : List Field) → untold (map InputTold fields) ≡ fields
unfolding untold
told_back [] = refl
told_back (field ∷ fields) = ap (λ others. field ∷ others) (told_back fields)

-- the inputs of a round at a cabinet are the scenario's
all_inputs : (round cab : ℕ) (inputs : List Input) → AreInputs (inputs_of round cab inputs) inputs
all_inputs round cab [] k field low = absurd (omega (arith, low))
all_inputs round cab (i ∷ inputs) k field low =
    split (all_inputs round cab inputs) ((i.round == round) && (i.cabinet == cab)) k low
  where
    others : List Field
    others = inputs_of round cab inputs

    split : AreInputs others inputs → (b : Bool) (k : ℕ) → k < length (cond b (i.field ∷ others) others)
        → (get_or (cond b (i.field ∷ others) others) k field ≡ i.field) ⊎ IsInput (get_or (cond b (i.field ∷ others) others) k field) inputs
    split more true zero low = inl refl
    split more true (suc k) low = inr (more k field (omega (arith, low)))
    split more false k low = inr (more k field low)

pub are_inputs : (streams : Streams) (s : ScenarioContent) (cab : ℕ) (c : CabinetContent) (answered : List (List Reply))
    → items_of streams ≡ streams_of s cab c answered → AreInputs streams.fields.items s.inputs
are_inputs streams s cab c answered is =
    let due = inputs_of (length answered + 1) cab s.inputs in
    let fields : streams.fields.items ≡ due = sym (told_back streams.fields.items) ∙ (ap (λ xs. untold (get_or xs 0 [])) is ∙ told_back due) in
    subst (λ xs. AreInputs xs s.inputs) (sym fields) (all_inputs (length answered + 1) cab s.inputs)
