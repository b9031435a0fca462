-- The streams of a round are short.
use Rattle.std.proofs.Common.{◌≡◌, ℕ, zero, suc, ◌+◌, ◌<◌, ◌≤◌, ◌==◌, ◌&&◌, Bool, true, false, cond, List, [], ◌∷◌, ◌++◌, length, get_or, Option, Some, None, ap, arith}
use Rattle.std.proofs.lemmas.List.{length-append, length-map, length-replicate}
use Rattle.std.proofs.lemmas.List.Sums.{length-filter, count_by-le-length}
use Rattle.std.specs.Option.{option_to_list}
use Rattle.std.specs.List.{filter}
use Rattle.sig_types.specs.declared.frame.Field.{Field}
use Rattle.sig_types.specs.declared.notes.Way.{Way}
use Rattle.sig_types.specs.declared.notes.Way.TheVariants.{Poll, Load, Prio}
use Rattle.scenario_data.specs.declared.scenario.Input.{Input}
use Rattle.scenario_data.specs.declared.scenario.PriorityItem.{PriorityItem}
use Rattle.scenario_data.specs.Content.{CabinetContent, FrameContent, ScenarioContent}
use Rattle.scenario_data.specs.Inputs.{inputs_of}
use Rattle.sig_types.specs.declared.streams.Streams.{Streams}
use Rattle.sig_types.specs.Items.{InputTold, Came, Ticked, items_of, texts_of}
use Rattle.sig_types.specs.Replies.{Reply}
use Rattle.link_sim.specs.declared.Line.{Line}
use Rattle.link_sim.specs.Carried.{carried}
use Rattle.link_sim.specs.Priority.{priority_from}
use Rattle.link_sim.specs.Reaching.{frames_of, is_frame_of, line_down, requested}
use Rattle.master_rounds.specs.Rounds.{delivered, polls_sent, loads_sent, streams_of}
use Rattle.master_rounds.specs.Served.{CanBeServed}
use Rattle.master_rounds.specs.Bounds.{IsShort, RoundIsShort}
use Rattle.master_rounds.proofs.Lines.{carries_few}

one_or_none : {A : Type 0} (b : Bool) (x : A) (xs : List A) (most : ℕ) → length xs ≤ most → length (cond b (x ∷ xs) xs) ≤ suc most
one_or_none true x xs most few = omega (arith, few)
one_or_none false x xs most few = omega (arith, few)

few_inputs : (round cab : ℕ) (inputs : List Input) → length (inputs_of round cab inputs) ≤ length inputs
few_inputs round cab [] = omega arith
few_inputs round cab (i ∷ inputs) =
    one_or_none ((i.round == round) && (i.cabinet == cab)) i.field (inputs_of round cab inputs) (length inputs) (few_inputs round cab inputs)

few_requests : (community : List ℕ) (round cab id : ℕ) (items : List PriorityItem) → length (priority_from community round cab id items) ≤ length items
few_requests community round cab id [] = omega arith
few_requests community round cab id (p ∷ items) =
    one_or_none ((p.round == round) && (p.cabinet == cab)) _ (priority_from community round cab (id + 1) items) (length items) (few_requests community round cab (id + 1) items)

few_frames : (frames : List FrameContent) (round cab : ℕ) (way : Way) → length (frames_of frames round cab way) ≤ length frames
few_frames frames round cab way =
    let test = is_frame_of round cab way in
    omega (arith, length-map (filter test frames) (λ f. f.hex), length-filter test frames, count_by-le-length test frames)

-- few frames are sent in the newest of these rounds
abbrev FewSent : List (List (List ℕ)) → Type 0
FewSent [] = Unit {0}
FewSent (texts ∷ before) = length texts ≤ 100000

one : {A : Type 0} (o : Option A) → length (option_to_list o) ≤ 100000
one None = omega arith
one (Some x) = omega arith

few_polls : (s : ScenarioContent) (cab : ℕ) (c : CabinetContent) (answered : List (List Reply)) → FewSent (polls_sent s cab c answered)
few_polls s cab c [] = one _
few_polls s cab c (replies ∷ before) = one _

few_loads : (s : ScenarioContent) (cab : ℕ) (c : CabinetContent) (answered : List (List Reply)) → FewSent (loads_sent s cab c answered)
few_loads s cab c [] = one _
few_loads s cab c (replies ∷ before) = one _

few_requested : (s : ScenarioContent) (cab rounds : ℕ) → length s.priority ≤ 100000 → FewSent (requested s cab rounds)
few_requested s cab zero few = tt
few_requested s cab (suc rounds) few = omega (arith, few, few_requests s.community (rounds + 1) cab 2000000000 s.priority)

-- what reaches a cabinet on a stream
few_reach : (s : ScenarioContent) (cab round : ℕ) (way : Way) (line : Line) (sent : List (List (List ℕ))) → CanBeServed s → FewSent sent
    → length (carried s.faults line sent ++ frames_of s.frames round cab way) ≤ 1000000
few_reach s cab round way line [] served few = omega (arith, few_frames s.frames round cab way, served.few_frames)
few_reach s cab round way line (texts ∷ before) served few =
    omega (
      arith,
      few,
      carries_few s.faults line texts before,
      few_frames s.frames round cab way,
      served.few_frames,
      served.few_faults,
      length-append (carried s.faults line (texts ∷ before)) (frames_of s.frames round cab way),
    )

pub round_is_short : (s : ScenarioContent) (cab : ℕ) (c : CabinetContent) (answered : List (List Reply)) → RoundIsShort s cab c answered
round_is_short s cab c answered served = record {
  few = by_pass;
  few_ticks = omega (arith, length-replicate s.ticks Ticked, served.few_ticks);
}
  where
    polls : List (List (List ℕ))
    polls = polls_sent s cab c answered

    loads : List (List (List ℕ))
    loads = loads_sent s cab c answered

    inputs : List Field
    inputs = inputs_of (length answered + 1) cab s.inputs

    by_pass : (pass : ℕ) → pass < 4 → length (get_or (streams_of s cab c answered) pass []) ≤ 1000000
    by_pass zero low = omega (arith, length-map inputs InputTold, few_inputs (length answered + 1) cab s.inputs, served.few_inputs)
    by_pass (suc zero) low =
        omega (arith, length-map (delivered s cab c answered 1) Came, few_reach s cab (length polls) Poll (line_down cab Poll) polls served (few_polls s cab c answered))
    by_pass (suc (suc zero)) low =
        omega (arith, length-map (delivered s cab c answered 2) Came, few_reach s cab (length loads) Load (line_down cab Load) loads served (few_loads s cab c answered))
    by_pass (suc (suc (suc zero))) low =
        omega (
          arith,
          length-map (delivered s cab c answered 3) Came,
          few_reach s cab (length polls) Prio (line_down cab Prio) (requested s cab (length polls)) served (few_requested s cab (length polls) served.few_requests),
        )
    by_pass (suc (suc (suc (suc pass)))) low = absurd (omega (arith, low))

-- and so are those that have these items
pub is_short : (streams : Streams) (s : ScenarioContent) (cab : ℕ) (c : CabinetContent) (answered : List (List Reply))
    → items_of streams ≡ streams_of s cab c answered → CanBeServed s → IsShort streams
is_short streams s cab c answered is served =
    let short = round_is_short s cab c answered served in
    record {
      few_fields = omega (arith, length-map streams.fields.items InputTold, ap (λ xs. length (get_or xs 0 [])) is, short.few 0 (omega arith));
      few_polls =
          omega (
            arith,
            length-map (texts_of streams.polls.items) Came,
            length-map streams.polls.items (λ octets. octets.items),
            ap (λ xs. length (get_or xs 1 [])) is,
            short.few 1 (omega arith),
          );
      few_loads =
          omega (
            arith,
            length-map (texts_of streams.loads.items) Came,
            length-map streams.loads.items (λ octets. octets.items),
            ap (λ xs. length (get_or xs 2 [])) is,
            short.few 2 (omega arith),
          );
      few_prios =
          omega (
            arith,
            length-map (texts_of streams.prios.items) Came,
            length-map streams.prios.items (λ octets. octets.items),
            ap (λ xs. length (get_or xs 3 [])) is,
            short.few 3 (omega arith),
          );
      few_ticks = omega (arith, length-replicate streams.ticks Ticked, ap (λ xs. length (get_or xs 4 [])) is, short.few_ticks);
    }
