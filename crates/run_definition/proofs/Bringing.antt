-- What a session brings to the scenario in a round is what its steps of that round bring to each cabinet.
use Rattle.std.proofs.Common.{◌≡◌, ◌≢◌, ◌∙◌, ◌+◌, ◌<◌, ◌≤◌, ◌==◌, ◌&&◌, cond, nat_le, if◌then◌else◌, ℕ, zero, suc, Bool, true, false, List, [], ◌∷◌, ◌++◌, length, map, filter, replicate, refl, sym, ap, subst, arith, leb-false, ne_eqb, eq-eqb, append-nil}
use Rattle.std.proofs.lemmas.List.{length-append, map-append, replicate-append-replicate}
use Rattle.sig_types.specs.declared.frame.Field.{Field}
use Rattle.sig_types.specs.declared.notes.Way.{Way}
use Rattle.sig_types.specs.declared.notes.Way.TheVariants.{Poll, Load, Prio}
use Rattle.sig_types.specs.Items.{Item, InputTold, Came, Ticked}
use Rattle.sig_types.specs.Passes.{pass_of}
use Rattle.scenario_data.specs.declared.scenario.Input.{Input}
use Rattle.scenario_data.specs.Content.{FrameContent}
use Rattle.scenario_data.specs.Inputs.{inputs_of}
use Rattle.link_sim.specs.Faults.{same_way}
use Rattle.link_sim.specs.Reaching.{is_frame_of, frames_of}
use Rattle.cabinet_history.specs.Journals.{Act}
use Rattle.session_words.specs.declared.request.Request.{Request}
use Rattle.session_words.specs.declared.request.Request.TheVariants.{Tick, Input as InputRequest, Frame}
use Rattle.run_definition.specs.Session.{Step, Ticks, Brings, step_of, steps_acts, ticks_in}
use Rattle.run_definition.specs.SessionRecord.{of_rounds, way_of, inputs_by, frames_by, inputs_brought, frames_brought}
use Rattle.run_definition.proofs.SessionLists.{filter-append, filter-within}
use Rattle.run_definition.proofs.Acts.{of_pass, of-pass-append}

-- steps that requests made
abbrev pub AreSteps : List Step → Type 0
AreSteps steps = (requests : List Request) × (steps ≡ map step_of requests)

-- one of all rounds: these are its steps, and those of the rounds before it; the newest is first
pub record IsRoundOf (all : List (List Step)) (steps : List Step) (before : List (List Step)) : Type 0 where
  pub later : List (List Step)
  pub whole : all ≡ later ++ (steps ∷ before)

pub round-within : (all : List (List Step)) (steps : List Step) (before : List (List Step)) → IsRoundOf all steps before → length before + 1 ≤ length all
round-within all steps before is =
    let counted : length all ≡ length is.later + length (steps ∷ before) = ap length is.whole ∙ length-append is.later (steps ∷ before) in
    omega (arith, counted)

-- ---- of what all rounds bring, a round's

-- items that rounds bring: what each round brings, one after another; of every other round nothing is kept
record IsByRound {A : Type 0} (keep : A → Bool) (round : ℕ) (by : ℕ → List Step → List A) (brought : List (List Step) → List A) : Type 0 where
  none : brought [] ≡ []
  more : (steps : List Step) (before : List (List Step)) → brought (steps ∷ before) ≡ brought before ++ by (length before + 1) steps
  others : (n : ℕ) (steps : List Step) → n ≢ round → filter keep (by n steps) ≡ []

earlier-none : {A : Type 0} (keep : A → Bool) (round : ℕ) (by : ℕ → List Step → List A) (brought : List (List Step) → List A) → IsByRound keep round by brought
    → (before : List (List Step)) → length before < round → filter keep (brought before) ≡ []
earlier-none keep round by brought is [] less = ap (filter keep) is.none
earlier-none keep round by brought is (steps ∷ before) less =
    let other : length before + 1 ≢ round = λ e. omega (arith, e, less) in
    ap (filter keep) (is.more steps before)
    ∙ filter-append keep (brought before) (by (length before + 1) steps)
    ∙ ap (λ r. r ++ filter keep (by (length before + 1) steps)) (earlier-none keep round by brought is before (omega (arith, less)))
    ∙ is.others (length before + 1) steps other

round-found : {A : Type 0} (keep : A → Bool) (round : ℕ) (by : ℕ → List Step → List A) (brought : List (List Step) → List A) → IsByRound keep round by brought
    → (later : List (List Step)) (steps : List Step) (before : List (List Step)) → round ≡ length before + 1
    → filter keep (brought (later ++ (steps ∷ before))) ≡ filter keep (by round steps)
round-found keep round by brought is [] steps before at =
    ap (filter keep) (is.more steps before)
    ∙ filter-append keep (brought before) (by (length before + 1) steps)
    ∙ ap (λ r. r ++ filter keep (by (length before + 1) steps)) (earlier-none keep round by brought is before (omega (arith, at)))
    ∙ ap (λ (n : ℕ). filter keep (by n steps)) (sym at)
round-found keep round by brought is (x ∷ later) steps before at =
    let rest : List (List Step) = later ++ (steps ∷ before) in
    let counted : length rest ≡ length later + length (steps ∷ before) = length-append later (steps ∷ before) in
    let other : length rest + 1 ≢ round = λ e. omega (arith, e, at, counted) in
    ap (filter keep) (is.more x rest)
    ∙ filter-append keep (brought rest) (by (length rest + 1) x)
    ∙ ap (λ r. filter keep (brought rest) ++ r) (is.others (length rest + 1) x other)
    ∙ append-nil (filter keep (brought rest))
    ∙ round-found keep round by brought is later steps before at

-- ---- frames

other-frames : (round cab : ℕ) (way : Way) (n : ℕ) (steps : List Step) → n ≢ round → filter (is_frame_of round cab way) (frames_by n steps) ≡ []
other-frames round cab way n [] other = refl
other-frames round cab way n (Ticks many ∷ steps) other = other-frames round cab way n steps other
other-frames round cab way n (Brings to pass (InputTold field) ∷ steps) other = other-frames round cab way n steps other
other-frames round cab way n (Brings to pass Ticked ∷ steps) other = other-frames round cab way n steps other
other-frames round cab way n (Brings to pass (Came octets) ∷ steps) other =
    let e : (n == round) ≡ false = ne_eqb n round other in rw e (other-frames round cab way n steps other)

later-frame : (rounds round cab : ℕ) (way : Way) → round ≤ rounds → (f : FrameContent) → nat_le f.round rounds ≡ false → is_frame_of round cab way f ≡ false
later-frame rounds round cab way within f late =
    let behind : rounds < f.round = leb-false f.round rounds late in
    let other : (f.round == round) ≡ false = ne_eqb f.round round (λ e. absurd (omega (arith, e, behind, within))) in
    rw other refl

-- the frames of a round in the scenario that results are those of the scenario, and then those that the round's steps
-- bring
pub frames-kept : (all : List (List Step)) (steps : List Step) (before : List (List Step)) (frames : List FrameContent) (round cab : ℕ) (way : Way)
    → IsRoundOf all steps before → round ≡ length before + 1
    → frames_of (of_rounds (λ (f : FrameContent). f.round) (length all) frames ++ frames_brought all) round cab way
    ≡ frames_of frames round cab way ++ frames_of (frames_by round steps) round cab way
frames-kept all steps before frames round cab way is at =
    let keep : FrameContent → Bool = is_frame_of round cab way in
    let front : List FrameContent = of_rounds (λ (f : FrameContent). f.round) (length all) frames in
    let hexes : List FrameContent → List (List ℕ) = map (λ (f : FrameContent). f.hex) in
    let by_round : IsByRound keep round frames_by frames_brought =
    record { none = refl; more = λ (steps : List Step) (before : List (List Step)). refl; others = other-frames round cab way } in
    let within : round ≤ length all = omega (arith, at, round-within all steps before is) in
    let own : filter keep (frames_brought all) ≡ filter keep (frames_by round steps) =
    ap (λ (a : List (List Step)). filter keep (frames_brought a)) is.whole ∙ round-found keep round frames_by frames_brought by_round is.later steps before at in
    ap hexes (filter-append keep front (frames_brought all)
    ∙ ap (λ (r : List FrameContent). r ++ filter keep (frames_brought all)) (filter-within keep (λ (f : FrameContent). nat_le f.round (length all)) (later-frame (length all) round cab way within) frames)
    ∙ ap (λ (r : List FrameContent). filter keep frames ++ r) own)
    ∙ map-append (λ (f : FrameContent). f.hex) (filter keep frames) (filter keep (frames_by round steps))

-- ---- inputs

abbrev is_input_of : ℕ → ℕ → Input → Bool
is_input_of round cab i = (i.round == round) && (i.cabinet == cab)

one-input : (b : Bool) (i : Input) (fields : List Field) (inputs : List Input) → fields ≡ map (λ (i : Input). i.field) inputs
    → (if b then i.field ∷ fields else fields) ≡ map (λ (i : Input). i.field) (cond b (i ∷ inputs) inputs)
one-input true i fields inputs e = ap (λ (r : List Field). i.field ∷ r) e
one-input false i fields inputs e = e

inputs-filter : (round cab : ℕ) (inputs : List Input) → inputs_of round cab inputs ≡ map (λ (i : Input). i.field) (filter (is_input_of round cab) inputs)
inputs-filter round cab [] = refl
inputs-filter round cab (i ∷ inputs) =
    one-input (is_input_of round cab i) i (inputs_of round cab inputs) (filter (is_input_of round cab) inputs) (inputs-filter round cab inputs)

other-inputs : (round cab n : ℕ) (steps : List Step) → n ≢ round → filter (is_input_of round cab) (inputs_by n steps) ≡ []
other-inputs round cab n [] other = refl
other-inputs round cab n (Ticks many ∷ steps) other = other-inputs round cab n steps other
other-inputs round cab n (Brings to pass (Came octets) ∷ steps) other = other-inputs round cab n steps other
other-inputs round cab n (Brings to pass Ticked ∷ steps) other = other-inputs round cab n steps other
other-inputs round cab n (Brings to pass (InputTold field) ∷ steps) other =
    let e : (n == round) ≡ false = ne_eqb n round other in rw e (other-inputs round cab n steps other)

later-input : (rounds round cab : ℕ) → round ≤ rounds → (i : Input) → nat_le i.round rounds ≡ false → is_input_of round cab i ≡ false
later-input rounds round cab within i late =
    let behind : rounds < i.round = leb-false i.round rounds late in
    let other : (i.round == round) ≡ false = ne_eqb i.round round (λ e. absurd (omega (arith, e, behind, within))) in
    rw other refl

-- so are its inputs
pub inputs-kept : (all : List (List Step)) (steps : List Step) (before : List (List Step)) (inputs : List Input) (round cab : ℕ)
    → IsRoundOf all steps before → round ≡ length before + 1
    → inputs_of round cab (of_rounds (λ (i : Input). i.round) (length all) inputs ++ inputs_brought all)
    ≡ inputs_of round cab inputs ++ inputs_of round cab (inputs_by round steps)
inputs-kept all steps before inputs round cab is at =
    let keep : Input → Bool = is_input_of round cab in
    let front : List Input = of_rounds (λ (i : Input). i.round) (length all) inputs in
    let fields : List Input → List Field = map (λ (i : Input). i.field) in
    let by_round : IsByRound keep round inputs_by inputs_brought =
    record { none = refl; more = λ (steps : List Step) (before : List (List Step)). refl; others = other-inputs round cab } in
    let within : round ≤ length all = omega (arith, at, round-within all steps before is) in
    let own : filter keep (inputs_brought all) ≡ filter keep (inputs_by round steps) =
    ap (λ (a : List (List Step)). filter keep (inputs_brought a)) is.whole ∙ round-found keep round inputs_by inputs_brought by_round is.later steps before at in
    inputs-filter round cab (front ++ inputs_brought all)
    ∙ ap fields (filter-append keep front (inputs_brought all)
    ∙ ap (λ (r : List Input). r ++ filter keep (inputs_brought all)) (filter-within keep (λ (i : Input). nat_le i.round (length all)) (later-input (length all) round cab within) inputs)
    ∙ ap (λ (r : List Input). filter keep inputs ++ r) own)
    ∙ map-append (λ (i : Input). i.field) (filter keep inputs) (filter keep (inputs_by round steps))
    ∙ ap (λ (r : List Field). r ++ fields (filter keep (inputs_by round steps))) (sym (inputs-filter round cab inputs))
    ∙ ap (λ (r : List Field). inputs_of round cab inputs ++ r) (sym (inputs-filter round cab (inputs_by round steps)))

-- ---- what steps are at a cabinet

abbrev tick : Act
tick = record { pass = 4; item = Ticked }

other-ticks : (p n : ℕ) → (p == 4) ≡ false → of_pass p (replicate n tick) ≡ []
other-ticks p zero e = refl
other-ticks p (suc n) e = rw e (other-ticks p n e)

own-ticks : (n : ℕ) → of_pass 4 (replicate n tick) ≡ replicate n Ticked
own-ticks zero = refl
own-ticks (suc n) = ap (λ (r : List Item). Ticked ∷ r) (own-ticks n)

past-ticks : (p n : ℕ) (acts : List Act) → (p == 4) ≡ false → of_pass p (replicate n tick ++ acts) ≡ of_pass p acts
past-ticks p n acts e = of-pass-append p (replicate n tick) acts ∙ ap (λ (r : List Item). r ++ of_pass p acts) (other-ticks p n e)

past-item : (b : Bool) (p pass : ℕ) (item : Item) (acts : List Act) → (p == pass) ≡ false
    → of_pass p ((if b then record { pass = pass; item = item } ∷ [] else []) ++ acts) ≡ of_pass p acts
past-item true p pass item acts e = rw e refl
past-item false p pass item acts e = refl

is-tick : (way : Way) → (pass_of way == 4) ≡ false
is-tick Poll = refl
is-tick Load = refl
is-tick Prio = refl

is-input : (way : Way) → (pass_of way == 0) ≡ false
is-input Poll = refl
is-input Load = refl
is-input Prio = refl

no-frame : (way : Way) → (0 == pass_of way) ≡ false
no-frame Poll = refl
no-frame Load = refl
no-frame Prio = refl

no-frame-tick : (way : Way) → (4 == pass_of way) ≡ false
no-frame-tick Poll = refl
no-frame-tick Load = refl
no-frame-tick Prio = refl

one-field : (b : Bool) (field : Field) (fields : List Field) (acts : List Act) → map InputTold fields ≡ of_pass 0 acts
    → map InputTold (if b then field ∷ fields else fields) ≡ of_pass 0 ((if b then record { pass = 0; item = InputTold field } ∷ [] else []) ++ acts)
one-field true field fields acts e = ap (λ (r : List Item). InputTold field ∷ r) e
one-field false field fields acts e = e

fields-asked : (round cab : ℕ) (requests : List Request)
    → map InputTold (inputs_of round cab (inputs_by round (map step_of requests))) ≡ of_pass 0 (steps_acts cab (map step_of requests))
fields-asked round cab [] = refl
fields-asked round cab (Tick many ∷ requests) =
    fields-asked round cab requests ∙ sym (past-ticks 0 many (steps_acts cab (map step_of requests)) refl)
fields-asked round cab (InputRequest to field ∷ requests) =
    let own : (round == round) ≡ true = eq-eqb round round refl in
    rw own (one-field (to == cab) field (inputs_of round cab (inputs_by round (map step_of requests))) (steps_acts cab (map step_of requests)) (fields-asked round cab requests))
fields-asked round cab (Frame to way octets ∷ requests) =
    fields-asked round cab requests ∙ sym (past-item (to == cab) 0 (pass_of way) (Came octets.items) (steps_acts cab (map step_of requests)) (no-frame way))

-- a frame of a stream, where it is the cabinet's
one-frame : (b : Bool) (from way : Way) (f : FrameContent) (frames : List FrameContent) (acts : List Act)
    → map Came (map (λ (f : FrameContent). f.hex) frames) ≡ of_pass (pass_of way) acts
    → map Came (map (λ (f : FrameContent). f.hex) (cond (b && same_way (way_of (pass_of from)) way) (f ∷ frames) frames))
    ≡ of_pass (pass_of way) ((if b then record { pass = pass_of from; item = Came f.hex } ∷ [] else []) ++ acts)
one-frame false from way f frames acts e = e
one-frame true Poll Poll f frames acts e = ap (λ (r : List Item). Came f.hex ∷ r) e
one-frame true Load Load f frames acts e = ap (λ (r : List Item). Came f.hex ∷ r) e
one-frame true Prio Prio f frames acts e = ap (λ (r : List Item). Came f.hex ∷ r) e
one-frame true Poll Load f frames acts e = e
one-frame true Poll Prio f frames acts e = e
one-frame true Load Poll f frames acts e = e
one-frame true Load Prio f frames acts e = e
one-frame true Prio Poll f frames acts e = e
one-frame true Prio Load f frames acts e = e

octets-asked : (round cab : ℕ) (way : Way) (requests : List Request)
    → map Came (frames_of (frames_by round (map step_of requests)) round cab way) ≡ of_pass (pass_of way) (steps_acts cab (map step_of requests))
octets-asked round cab way [] = refl
octets-asked round cab way (Tick many ∷ requests) =
    octets-asked round cab way requests ∙ sym (past-ticks (pass_of way) many (steps_acts cab (map step_of requests)) (is-tick way))
octets-asked round cab way (InputRequest to field ∷ requests) =
    octets-asked round cab way requests ∙ sym (past-item (to == cab) (pass_of way) 0 (InputTold field) (steps_acts cab (map step_of requests)) (is-input way))
octets-asked round cab way (Frame to from octets ∷ requests) =
    let own : (round == round) ≡ true = eq-eqb round round refl in
    let f : FrameContent = record { round = round; cabinet = to; stream = way_of (pass_of from); hex = octets.items } in
    rw own (one-frame (to == cab) from way f (filter (is_frame_of round cab way) (frames_by round (map step_of requests))) (steps_acts cab (map step_of requests)) (octets-asked round cab way requests))

ticks-asked : (cab : ℕ) (requests : List Request) → of_pass 4 (steps_acts cab (map step_of requests)) ≡ replicate (ticks_in (map step_of requests)) Ticked
ticks-asked cab [] = refl
ticks-asked cab (Tick many ∷ requests) =
    of-pass-append 4 (replicate many tick) (steps_acts cab (map step_of requests))
    ∙ ap (λ (r : List Item). r ++ of_pass 4 (steps_acts cab (map step_of requests))) (own-ticks many)
    ∙ ap (λ (r : List Item). replicate many Ticked ++ r) (ticks-asked cab requests)
    ∙ replicate-append-replicate many (ticks_in (map step_of requests)) Ticked
ticks-asked cab (InputRequest to field ∷ requests) =
    past-item (to == cab) 4 0 (InputTold field) (steps_acts cab (map step_of requests)) refl ∙ ticks-asked cab requests
ticks-asked cab (Frame to way octets ∷ requests) =
    past-item (to == cab) 4 (pass_of way) (Came octets.items) (steps_acts cab (map step_of requests)) (no-frame-tick way) ∙ ticks-asked cab requests

high-pass : (p : ℕ) (way : Way) → 5 ≤ p → (p == pass_of way) ≡ false
high-pass p Poll high = ne_eqb p 1 (λ e. absurd (omega (arith, e, high)))
high-pass p Load high = ne_eqb p 2 (λ e. absurd (omega (arith, e, high)))
high-pass p Prio high = ne_eqb p 3 (λ e. absurd (omega (arith, e, high)))

none-asked : (p cab : ℕ) (requests : List Request) → 5 ≤ p → of_pass p (steps_acts cab (map step_of requests)) ≡ []
none-asked p cab [] high = refl
none-asked p cab (Tick many ∷ requests) high =
    past-ticks p many (steps_acts cab (map step_of requests)) (ne_eqb p 4 (λ e. absurd (omega (arith, e, high)))) ∙ none-asked p cab requests high
none-asked p cab (InputRequest to field ∷ requests) high =
    past-item (to == cab) p 0 (InputTold field) (steps_acts cab (map step_of requests)) (ne_eqb p 0 (λ e. absurd (omega (arith, e, high)))) ∙ none-asked p cab requests high
none-asked p cab (Frame to way octets ∷ requests) high =
    past-item (to == cab) p (pass_of way) (Came octets.items) (steps_acts cab (map step_of requests)) (high-pass p way high) ∙ none-asked p cab requests high

-- the same of the steps
pub fields-brought : (round cab : ℕ) (steps : List Step) → AreSteps steps → map InputTold (inputs_of round cab (inputs_by round steps)) ≡ of_pass 0 (steps_acts cab steps)
fields-brought round cab steps (requests, made) =
    subst (λ (x : List Step). map InputTold (inputs_of round cab (inputs_by round x)) ≡ of_pass 0 (steps_acts cab x)) (sym made) (fields-asked round cab requests)

pub octets-brought : (round cab : ℕ) (way : Way) (steps : List Step) → AreSteps steps
    → map Came (frames_of (frames_by round steps) round cab way) ≡ of_pass (pass_of way) (steps_acts cab steps)
octets-brought round cab way steps (requests, made) =
    subst (λ (x : List Step). map Came (frames_of (frames_by round x) round cab way) ≡ of_pass (pass_of way) (steps_acts cab x)) (sym made) (octets-asked round cab way requests)

pub ticks-brought : (cab : ℕ) (steps : List Step) → AreSteps steps → of_pass 4 (steps_acts cab steps) ≡ replicate (ticks_in steps) Ticked
ticks-brought cab steps (requests, made) =
    subst (λ (x : List Step). of_pass 4 (steps_acts cab x) ≡ replicate (ticks_in x) Ticked) (sym made) (ticks-asked cab requests)

pub none-brought : (p cab : ℕ) (steps : List Step) → AreSteps steps → 5 ≤ p → of_pass p (steps_acts cab steps) ≡ []
none-brought p cab steps (requests, made) high =
    subst (λ (x : List Step). of_pass p (steps_acts cab x) ≡ []) (sym made) (none-asked p cab requests high)
