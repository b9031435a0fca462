-- What an agenda gives for a round and a cabinet is what the scenario's list has for them.
use Rattle.std.proofs.Common.{◌≡◌, ℕ, ◌+◌, ◌==◌, ◌&&◌, Bool, true, false, cond, if◌then◌else◌, List, [], ◌∷◌, ◌++◌, length, map, filter, Some, refl, sym, ap, ◌∙◌, append_assoc, length-append, arith}
use Rattle.std.specs.Prelude.{pos, slice_get}
use Rattle.sig_types.specs.declared.frame.Field.{Field}
use Rattle.sig_types.specs.declared.notes.Way.{Way}
use Rattle.scenario_data.specs.declared.scenario.Input.{Input}
use Rattle.scenario_data.specs.declared.scenario.PriorityItem.{PriorityItem}
use Rattle.scenario_data.specs.Content.{FrameContent}
use Rattle.scenario_data.specs.Inputs.{inputs_of}
use Rattle.requests.specs.Requests.{set_text}
use Rattle.link_sim.specs.declared.agenda.Due.{Due}
use Rattle.link_sim.specs.Agenda.{is_of, listed, made, made_at, HasItems}
use Rattle.link_sim.specs.Faults.{same_way}
use Rattle.link_sim.specs.Priority.{act_bind, priority_from, priority_texts}
use Rattle.link_sim.specs.Made.{field_made, frame_made, request_made}
use Rattle.link_sim.specs.Reaching.{is_frame_of, frames_of}

-- what is made of the items of a round and a cabinet, the first item of all at this place
abbrev pub picked : {A B : Type 0} → (ℕ → A → List B) → (A → ℕ) → (A → ℕ) → ℕ → ℕ → ℕ → List A → List B
picked make round_of cabinet_of round cab place [] = []
picked make round_of cabinet_of round cab place (x ∷ xs) =
    if (round_of x == round) && (cabinet_of x == cab)
    then make place x ++ picked make round_of cabinet_of round cab (place + 1) xs
    else picked make round_of cabinet_of round cab (place + 1) xs

got_at : {A : Type 0} (front : List A) (x : A) (xs : List A) → slice_get (front ++ x ∷ xs) (length front) ≡ Some x
got_at [] x xs = refl
got_at (y ∷ front) x xs = got_at front x xs

made_listed : {A B : Type 0} (make : ℕ → A → List B) (round_of cabinet_of : A → ℕ) (round cab : ℕ) (front xs : List A) (place : ℕ) → place ≡ length front
    → made make (front ++ xs) (filter (is_of round cab) (listed round_of cabinet_of place xs)) ≡ picked make round_of cabinet_of round cab place xs
made_listed make round_of cabinet_of round cab front [] place is = refl
made_listed {A} {B} make round_of cabinet_of round cab front (x ∷ xs) place is =
    split ((round_of x == round) && (cabinet_of x == cab))
    (ap (λ (all : List A). made make all (filter (is_of round cab) (listed round_of cabinet_of (place + 1) xs))) (sym (append_assoc front (x ∷ []) xs))
    ∙ made_listed make round_of cabinet_of round cab (front ++ x ∷ []) xs (place + 1) (omega (arith, is, length-append front (x ∷ []))))
  where
    here : slice_get (front ++ x ∷ xs) place ≡ Some x
    here = ap (slice_get (front ++ x ∷ xs)) is ∙ got_at front x xs

    split : (b : Bool) → made make (front ++ x ∷ xs) (filter (is_of round cab) (listed round_of cabinet_of (place + 1) xs)) ≡ picked make round_of cabinet_of round cab (place + 1) xs
        → made make (front ++ x ∷ xs) (cond b (record { round = round_of x; cabinet = cabinet_of x; place = place } ∷ filter (is_of round cab) (listed round_of cabinet_of (place + 1) xs)) (filter (is_of round cab) (listed round_of cabinet_of (place + 1) xs)))
        ≡ (if b then make place x ++ picked make round_of cabinet_of round cab (place + 1) xs else picked make round_of cabinet_of round cab (place + 1) xs)
    split true ih = ap (λ o. made_at make place o ++ made make (front ++ x ∷ xs) (filter (is_of round cab) (listed round_of cabinet_of (place + 1) xs))) here ∙ ap (λ ys. make place x ++ ys) ih
    split false ih = ih

-- what an agenda of a list gives
found : {A B : Type 0} (make : ℕ → A → List B) (round_of cabinet_of : A → ℕ) (xs : List A) (dues : List Due) → HasItems round_of cabinet_of xs dues → (round cab : ℕ)
    → made make xs (filter (is_of round cab) dues) ≡ picked make round_of cabinet_of round cab 0 xs
found make round_of cabinet_of xs dues has round cab = ap (made make xs) (has round cab) ∙ made_listed make round_of cabinet_of round cab [] xs 0 refl

picked_fields : (round cab place : ℕ) (inputs : List Input) → picked field_made (λ i. i.round) (λ i. i.cabinet) round cab place inputs ≡ inputs_of round cab inputs
picked_fields round cab place [] = refl
picked_fields round cab place (i ∷ inputs) = split ((i.round == round) && (i.cabinet == cab)) (picked_fields round cab (place + 1) inputs)
  where
    split : (b : Bool) → picked field_made (λ i. i.round) (λ i. i.cabinet) round cab (place + 1) inputs ≡ inputs_of round cab inputs
        → (if b then (i.field ∷ []) ++ picked field_made (λ i. i.round) (λ i. i.cabinet) round cab (place + 1) inputs else picked field_made (λ i. i.round) (λ i. i.cabinet) round cab (place + 1) inputs)
        ≡ (if b then i.field ∷ inputs_of round cab inputs else inputs_of round cab inputs)
    split true ih = ap (λ (fields : List Field). i.field ∷ fields) ih
    split false ih = ih

pub fields_found : (inputs : List Input) (dues : List Due) → HasItems (λ i. i.round) (λ i. i.cabinet) inputs dues → (round cab : ℕ)
    → made field_made inputs (filter (is_of round cab) dues) ≡ inputs_of round cab inputs
fields_found inputs dues has round cab = found field_made (λ i. i.round) (λ i. i.cabinet) inputs dues has round cab ∙ picked_fields round cab 0 inputs

picked_frames : (way : Way) (round cab place : ℕ) (frames : List FrameContent)
    → picked (frame_made way) (λ f. f.round) (λ f. f.cabinet) round cab place frames ≡ frames_of frames round cab way
picked_frames way round cab place [] = refl
picked_frames way round cab place (f ∷ frames) = split ((f.round == round) && (f.cabinet == cab)) (same_way f.stream way) (picked_frames way round cab (place + 1) frames)
  where
    split : (b w : Bool) → picked (frame_made way) (λ f. f.round) (λ f. f.cabinet) round cab (place + 1) frames ≡ frames_of frames round cab way
        → (if b then (if w then f.hex ∷ [] else []) ++ picked (frame_made way) (λ f. f.round) (λ f. f.cabinet) round cab (place + 1) frames
        else picked (frame_made way) (λ f. f.round) (λ f. f.cabinet) round cab (place + 1) frames)
        ≡ map (λ f. f.hex) (cond (b && w) (f ∷ filter (is_frame_of round cab way) frames) (filter (is_frame_of round cab way) frames))
    split true true ih = ap (λ (texts : List (List ℕ)). f.hex ∷ texts) ih
    split true false ih = ih
    split false w ih = ih

pub frames_found : (way : Way) (frames : List FrameContent) (dues : List Due) → HasItems (λ f. f.round) (λ f. f.cabinet) frames dues → (round cab : ℕ)
    → made (frame_made way) frames (filter (is_of round cab) dues) ≡ frames_of frames round cab way
frames_found way frames dues has round cab = found (frame_made way) (λ f. f.round) (λ f. f.cabinet) frames dues has round cab ∙ picked_frames way round cab 0 frames

picked_requests : (community : List ℕ) (round cab place id : ℕ) (items : List PriorityItem) → id ≡ 2000000000 + place
    → picked (request_made community) (λ p. p.round) (λ p. p.cabinet) round cab place items ≡ priority_from community round cab id items
picked_requests community round cab place id [] is = refl
picked_requests community round cab place id (p ∷ items) is =
    split ((p.round == round) && (p.cabinet == cab)) (picked_requests community round cab (place + 1) (id + 1) items (omega (arith, is)))
  where
    split : (b : Bool) → picked (request_made community) (λ p. p.round) (λ p. p.cabinet) round cab (place + 1) items ≡ priority_from community round cab (id + 1) items
        → (if b then (set_text community (pos (2000000000 + place)) (act_bind p.act ∷ []) ∷ []) ++ picked (request_made community) (λ p. p.round) (λ p. p.cabinet) round cab (place + 1) items
        else picked (request_made community) (λ p. p.round) (λ p. p.cabinet) round cab (place + 1) items)
        ≡ (if b then set_text community (pos id) (act_bind p.act ∷ []) ∷ priority_from community round cab (id + 1) items else priority_from community round cab (id + 1) items)
    split true ih = ap (λ n. set_text community (pos n) (act_bind p.act ∷ []) ∷ picked (request_made community) (λ p. p.round) (λ p. p.cabinet) round cab (place + 1) items) (sym is)
        ∙ ap (λ (texts : List (List ℕ)). set_text community (pos id) (act_bind p.act ∷ []) ∷ texts) ih
    split false ih = ih

pub requests_found : (community : List ℕ) (items : List PriorityItem) (dues : List Due) → HasItems (λ p. p.round) (λ p. p.cabinet) items dues → (round cab : ℕ)
    → made (request_made community) items (filter (is_of round cab) dues) ≡ priority_texts community items round cab
requests_found community items dues has round cab =
    found (request_made community) (λ p. p.round) (λ p. p.cabinet) items dues has round cab ∙ picked_requests community round cab 0 2000000000 items refl
