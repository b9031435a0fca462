-- The rounds of a session are rounds: requests made their steps, and each has as many ticks as a round of the scenario.
use Rattle.std.proofs.Common.{◌≡◌, ◌∙◌, ◌+◌, ◌-◌, ◌<◌, ◌≤◌, nat_le, bytes_eq, if◌then◌else◌, ℕ, zero, suc, Bool, true, false, List, [], ◌∷◌, ◌++◌, length, codes, decimal, Option, Some, None, Result, Ok, Err, refl, sym, ap, arith, eqb-true}
use Rattle.std.proofs.lemmas.List.{map_push}
use Rattle.std.proofs.lemmas.Bool.{eqb-false}
use Rattle.scenario_data.specs.Content.{ScenarioContent}
use Rattle.session_words.specs.declared.request.Request.{Request}
use Rattle.session_words.specs.declared.request.Request.TheVariants.{Tick, Input, Frame}
use Rattle.session_words.specs.declared.request.Untaken.{Untaken}
use Rattle.session_words.specs.declared.request.Untaken.TheVariants.{Full, Ticks as TicksWord}
use Rattle.session_words.specs.Requests.{number_among, number_to, switch_of, stream_of, octets_of, asked_for, word_at, veh_of, ped_of, preempt_of, frame_of, is_form, words_of, request_of_words, request_of}
use Rattle.run_definition.specs.Session.{SessionHistory, Step, Ticks, Brings, opened_session, step_of, ticks_in, ticks_left, items_brought, steps_with, is_last, with_round, steps_to_end, is_over}
use Rattle.run_definition.specs.SessionAnswers.{with_room_for, taken, next_by, rounds_from, rounds_by}
use Rattle.run_definition.proofs.Bringing.{AreSteps}
use Rattle.run_definition.proofs.SessionRounds.{AreRounds}

-- ---- a request has no more ticks than are left

-- what was read fits: ticks are no more than that many
abbrev Fits : ℕ → Result Request Untaken → Type 0
Fits left (Ok (Tick many)) = many ≤ left
Fits left (Ok (Input cab field)) = Unit {0}
Fits left (Ok (Frame cab way octets)) = Unit {0}
Fits left (Err untaken) = Unit {0}

fits-if : (b : Bool) (left : ℕ) (x y : Result Request Untaken) → Fits left x → Fits left y → Fits left (if b then x else y)
fits-if true left x y one other = one
fits-if false left x y one other = other

fits-asked : {A : Type 0} (left : ℕ) (untaken : Untaken) (found : Option A) (go_on : A → Result Request Untaken)
    → ((x : A) → Fits left (go_on x)) → Fits left (asked_for untaken found go_on)
fits-asked left untaken None go_on fits = tt
fits-asked left untaken (Some x) go_on fits = fits x

-- a number that was found is one of those looked for
abbrev IsAmong : ℕ → ℕ → Option ℕ → Type 0
IsAmong first many None = Unit {0}
IsAmong first many (Some n) = n < first + many

among-more : (first many : ℕ) (o : Option ℕ) → IsAmong (first + 1) many o → IsAmong first (suc many) o
among-more first many None is = tt
among-more first many (Some n) is = omega (arith, is)

among-if : (b : Bool) (first many : ℕ) (o : Option ℕ) → IsAmong (first + 1) many o → IsAmong first (suc many) (if b then Some first else o)
among-if true first many o is = omega arith
among-if false first many o is = among-more first many o is

number-found : (first many : ℕ) (word : List ℕ) → IsAmong first many (number_among first many word)
unfolding number_among
number-found first zero word = tt
number-found first (suc many) word =
    among-if (bytes_eq word (decimal first)) first many (number_among (first + 1) many word) (number-found (first + 1) many word)

tick-found : (left : ℕ) (o : Option ℕ) → IsAmong 1 left o → Fits left (asked_for TicksWord o (λ n. Ok (Tick n)))
tick-found left None is = tt
tick-found left (Some n) is = omega (arith, is)

veh-fits : (cabinets left : ℕ) (words : List (List ℕ)) → Fits left (veh_of cabinets words)
veh-fits cabinets left words =
    fits-asked left _ (number_to cabinets (word_at 1 words)) _ (λ cab.
    fits-asked left _ (number_to 16 (word_at 2 words)) _ (λ phase.
    fits-asked left _ (switch_of (word_at 3 words)) _ (λ on. tt)))

ped-fits : (cabinets left : ℕ) (words : List (List ℕ)) → Fits left (ped_of cabinets words)
ped-fits cabinets left words =
    fits-asked left _ (number_to cabinets (word_at 1 words)) _ (λ cab.
    fits-asked left _ (number_to 16 (word_at 2 words)) _ (λ phase. tt))

preempt-fits : (cabinets left : ℕ) (words : List (List ℕ)) → Fits left (preempt_of cabinets words)
preempt-fits cabinets left words =
    fits-asked left _ (number_to cabinets (word_at 1 words)) _ (λ cab.
    fits-asked left _ (number_to 8 (word_at 2 words)) _ (λ number.
    fits-asked left _ (switch_of (word_at 3 words)) _ (λ on. tt)))

frame-fits : (cabinets left : ℕ) (words : List (List ℕ)) → Fits left (frame_of cabinets words)
frame-fits cabinets left words =
    fits-asked left _ (number_to cabinets (word_at 1 words)) _ (λ cab.
    fits-asked left _ (stream_of (word_at 2 words)) _ (λ way.
    fits-asked left _ (octets_of (word_at 3 words)) _ (λ octets. tt)))

words-fit : (cabinets left : ℕ) (words : List (List ℕ)) → Fits left (request_of_words cabinets left words)
words-fit cabinets left words =
    fits-if (is_form (codes "tick") 2 words) left _ _ (tick-found left (number_to left (word_at 1 words)) (number-found 1 left (word_at 1 words)))
    (fits-if (is_form (codes "veh") 4 words) left _ _ (veh-fits cabinets left words)
    (fits-if (is_form (codes "ped") 3 words) left _ _ (ped-fits cabinets left words)
    (fits-if (is_form (codes "preempt") 4 words) left _ _ (preempt-fits cabinets left words)
    (fits-if (is_form (codes "frame") 4 words) left _ _ (frame-fits cabinets left words) tt))))

request-fits : (cabinets left : ℕ) (line : List ℕ) → Fits left (request_of cabinets left line)
request-fits cabinets left line = fits-if (nat_le (length line) 4096) left _ _ (words-fit cabinets left (words_of line)) tt

room-fits : (h : SessionHistory) (left : ℕ) (read : Result Request Untaken) → Fits left read → Fits left (with_room_for h read)
room-fits h left (Err untaken) fits = tt
room-fits h left (Ok (Tick many)) fits = fits
room-fits h left (Ok (Input cab field)) fits = fits-if (nat_le 100000 (items_brought h.steps)) left (Err Full) (Ok (Input cab field)) tt tt
room-fits h left (Ok (Frame cab way octets)) fits = fits-if (nat_le 100000 (items_brought h.steps)) left (Err Full) (Ok (Frame cab way octets)) tt tt

taken-fits : (s : ScenarioContent) (h : SessionHistory) (line : List ℕ) → Fits (ticks_left s h) (taken s h line)
taken-fits s h line =
    room-fits h (ticks_left s h) (request_of (length s.cabinets) (ticks_left s h) line) (request-fits (length s.cabinets) (ticks_left s h) line)

-- ---- steps and their ticks

ticks-more : (steps : List Step) (step : Step) → ticks_in (steps ++ step ∷ []) ≡ ticks_in steps + ticks_in (step ∷ [])
ticks-more [] step = omega arith
ticks-more (Ticks many ∷ steps) step = omega (arith, ticks-more steps step)
ticks-more (Brings cab pass item ∷ steps) step = ticks-more steps step

pub steps-made : (steps : List Step) (request : Request) → AreSteps steps → AreSteps (steps ++ step_of request ∷ [])
steps-made steps request (requests, made) =
    (requests ++ request ∷ [], ap (λ (x : List Step). x ++ step_of request ∷ []) made ∙ sym (map_push step_of requests request))

-- a session that has continued so far: its closed rounds are rounds, and in the round under way some ticks are left
pub record SessionGoesOn (s : ScenarioContent) (h : SessionHistory) : Type 0 where
  pub closed : AreRounds s h.closed
  pub made : AreSteps h.steps
  pub some : ticks_in h.steps < s.ticks

request-ticks : (s : ScenarioContent) (h : SessionHistory) (request : Request) → ticks_in h.steps < s.ticks → Fits (ticks_left s h) (Ok request)
    → ticks_in (steps_with h (step_of request)) ≤ s.ticks
request-ticks s h (Tick many) some fits = omega (arith, some, fits, ticks-more h.steps (Ticks many))
request-ticks s h (Input cab field) some fits = omega (arith, some, ticks-more h.steps (step_of (Input cab field)))
request-ticks s h (Frame cab way octets) some fits = omega (arith, some, ticks-more h.steps (step_of (Frame cab way octets)))

step-goes : (last : Bool) (s : ScenarioContent) (h : SessionHistory) (request : Request) → is_last s h (step_of request) ≡ last → SessionGoesOn s h → Fits (ticks_left s h) (Ok request)
    → SessionGoesOn s (if last then with_round h (steps_with h (step_of request)) else record { closed = h.closed; steps = steps_with h (step_of request) })
step-goes true s h request is goes fits =
    let few : ticks_in (steps_with h (step_of request)) ≤ s.ticks = request-ticks s h request goes.some fits in
    let none : s.ticks - ticks_in (steps_with h (step_of request)) ≡ 0 = eqb-true _ 0 is in
    record {
      closed = (record { made = steps-made h.steps request goes.made; full = omega (arith, few, none) }, goes.closed);
      made = ([], refl);
      some = omega (arith, goes.some);
    }
step-goes false s h request is goes fits =
    let few : ticks_in (steps_with h (step_of request)) ≤ s.ticks = request-ticks s h request goes.some fits in
    let left : s.ticks - ticks_in (steps_with h (step_of request)) ≡ 0 → ⊥ = eqb-false _ 0 is in
    record {
      closed = goes.closed;
      made = steps-made h.steps request goes.made;
      some = below (ticks_in (steps_with h (step_of request))) s.ticks left few;
    }
  where
    below : (a b : ℕ) → (b - a ≡ 0 → ⊥) → a ≤ b → a < b
    below a b left few = omega (arith, left, few)

next-goes : (s : ScenarioContent) (h : SessionHistory) (read : Result Request Untaken) → SessionGoesOn s h → Fits (ticks_left s h) read → SessionGoesOn s (next_by s h read)
next-goes s h (Ok request) goes fits = step-goes (is_last s h (step_of request)) s h request refl goes fits
next-goes s h (Err untaken) goes fits = goes

-- ---- all rounds

end-rounds : (s : ScenarioContent) (h : SessionHistory) → SessionGoesOn s h → AreRounds s (steps_to_end s h ∷ h.closed)
end-rounds s h goes =
    let left : ℕ = ticks_left s h in (
      record {
        made = steps-made h.steps (Tick left) goes.made;
        full = omega (arith, goes.some, ticks-more h.steps (Ticks left));
      },
      goes.closed,
    )

either-rounds : (over : Bool) (s : ScenarioContent) (h : SessionHistory) (lines : List (List ℕ)) → SessionGoesOn s h → AreRounds s (rounds_from s h lines)
    → AreRounds s (if over then h.closed else rounds_from s h lines)
either-rounds true s h lines goes are = goes.closed
either-rounds false s h lines goes are = are

rounds-sound : (s : ScenarioContent) (lines : List (List ℕ)) (h : SessionHistory) → SessionGoesOn s h → AreRounds s (rounds_from s h lines)
rounds-sound s [] h goes = end-rounds s h goes
rounds-sound s (line ∷ lines) h goes =
    let next : SessionHistory = next_by s h (taken s h line) in
    let on : SessionGoesOn s next = next-goes s h (taken s h line) goes (taken-fits s h line) in
    either-rounds (is_over s next) s next lines on (rounds-sound s lines next on)

pub session-rounds : (s : ScenarioContent) (lines : List (List ℕ)) → 1 ≤ s.ticks → AreRounds s (rounds_by s lines)
session-rounds s lines some =
    rounds-sound s lines opened_session (record { closed = tt; made = ([], refl); some = omega (arith, some) })
