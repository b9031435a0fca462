-- The rounds of all cabinets, cabinet by cabinet.
use Rattle.std.proofs.Common.{◌≡◌, ℕ, zero, suc, ◌+◌, List, [], ◌∷◌, ◌++◌, map, drop, length, Option, Some, refl, sym, subst, ◌∙◌, ap, arith, add-one}
use Rattle.std.specs.List.{slice_get}
use Rattle.std.proofs.lemmas.Grind.{common_steps}
use Rattle.std.proofs.lemmas.List.{append_assoc, map-append}
use Rattle.sig_types.specs.declared.notes.MasterNote.{MasterNote}
use Rattle.sig_types.specs.declared.streams.Sending.{Sending}
use Rattle.scenario_data.specs.Content.{ScenarioContent, CabinetContent}
use Rattle.requests.specs.Requests.{messages, octets_in}
use Rattle.master_plan.specs.Schedule.{master_clock, scheduled}
use Rattle.master_poll.specs.declared.command.Now.{Now}
use Rattle.master_poll.specs.declared.channel.Channel.{Channel}
use Rattle.master_poll.specs.CommandStands.{plan_with}
use Rattle.master_poll.specs.Channels.{HasSent}
use Rattle.master_poll.specs.Sends.{Arrived, Frames, notes_of, plan_of, sending_of, turns}
use Rattle.master_poll.specs.Masters.{MasterGoesOn, ChannelIsAt, frames_of, notes_from, sendings_from}

-- there are as many turns as rounds
turn_count : (s : ScenarioContent) (cab : ℕ) (c : CabinetContent) (arrived : List Arrived) → length (turns s cab c arrived) ≡ length arrived
turn_count s cab c [] = refl
turn_count s cab c (a ∷ arrived) = ap suc (turn_count s cab c arrived)

-- the elements of a list with one more
pushed : {A : Type 0} (P : ℕ → A → Type 0) (xs : List A) (x : A) → ((k : ℕ) (q : A) → slice_get xs k ≡ Some q → P k q) → P (length xs) x
    → (k : ℕ) (q : A) → slice_get (xs ++ x ∷ []) k ≡ Some q → P k q
pushed P [] x old here zero q e = let is : x ≡ q = cc in subst (P 0) is here
pushed P [] x old here (suc k) q e = absurd (nothing k q e)
  where
    nothing : {A : Type 0} (k : ℕ) (q : A) → slice_get [] k ≡ Some q → ⊥
    nothing zero q e = grind (arith, e, common_steps)
    nothing (suc k) q e = grind (arith, e, common_steps)
pushed P (y ∷ xs) x old here zero q e = old zero q e
pushed P (y ∷ xs) x old here (suc k) q e = pushed (λ n z. P (suc n) z) xs x (λ n z. old (suc n) z) here k q e

-- an element with those after it
from_there : {A : Type 0} (xs : List A) (n : ℕ) (x : A) → slice_get xs n ≡ Some x → drop n xs ≡ x ∷ drop (suc n) xs
from_there [] zero x e = grind (arith, e, common_steps)
from_there [] (suc n) x e = grind (arith, e, common_steps)
from_there (y ∷ xs) zero x e = cc
from_there (y ∷ xs) (suc n) x e = from_there xs n x e

-- one cabinet more
pub one_more_cabinet : (channels : List Channel) (sendings : List Sending) (notes after : List MasterNote) (s : ScenarioContent) (rounds place : ℕ) (arrived : ℕ → List Arrived)
    (p : Channel) (sending : Sending) (c : CabinetContent)
    → MasterGoesOn channels sendings notes s rounds place arrived → length channels ≡ place → slice_get s.cabinets place ≡ Some c
    → ChannelIsAt p s place rounds c (arrived (place + 1))
    → frames_of sending ≡ sending_of s (place + 1) c (arrived (place + 1))
    → after ≡ notes ++ notes_of s (place + 1) c (arrived (place + 1))
    → MasterGoesOn (channels ++ p ∷ []) (sendings ++ sending ∷ []) after s rounds (place + 1) arrived
one_more_cabinet channels sendings notes after s rounds place arrived p sending c g count cabinet at sends noted =
    let here : drop place s.cabinets ≡ c ∷ drop (place + 1) s.cabinets = from_there s.cabinets place c cabinet ∙ rw add-one refl in
    let more = sendings_from s arrived (place + 1 + 1) (drop (place + 1) s.cabinets) in
    let more_notes = notes_from s arrived (place + 1 + 1) (drop (place + 1) s.cabinets) in
    let last : (d : CabinetContent) → slice_get s.cabinets (length channels) ≡ Some d → ChannelIsAt p s (length channels) rounds d (arrived (length channels + 1)) =
    subst (λ n. (d : CabinetContent) → slice_get s.cabinets n ≡ Some d → ChannelIsAt p s n rounds d (arrived (n + 1))) (sym count)
    (λ d there. let same : c ≡ d = cc in subst (λ e. ChannelIsAt p s place rounds e (arrived (place + 1))) same at) in
    record {
      stands = λ k q d found there. pushed (λ n z. (e : CabinetContent) → slice_get s.cabinets n ≡ Some e → ChannelIsAt z s n rounds e (arrived (n + 1))) channels p
          (λ n z before e placed. g.stands n z e before placed) last k q found d there;
      sent =
          ap (λ xs. xs ++ more) (map-append frames_of sendings (sending ∷ []))
          ∙ (append_assoc (map frames_of sendings) (frames_of sending ∷ []) more
          ∙ (ap (λ f. map frames_of sendings ++ f ∷ more) sends
          ∙ (ap (λ cs. map frames_of sendings ++ sendings_from s arrived (place + 1) cs) (sym here) ∙ g.sent)));
      noted =
          ap (λ ns. ns ++ more_notes) noted
          ∙ (append_assoc notes (notes_of s (place + 1) c (arrived (place + 1))) more_notes
          ∙ (ap (λ cs. notes ++ notes_from s arrived (place + 1) cs) (sym here) ∙ g.noted));
    }

abbrev frames : Option (List ℕ) → Option (List ℕ) → Frames
frames poll load = record { poll = poll; load = load }

-- what holds for a cabinet in a round at a time of day
abbrev pub now_of : ScenarioContent → CabinetContent → ℕ → ℕ → Now
now_of s c round clock = record { round = round; clock = clock; pattern = scheduled s.master.schedule c.section clock }

-- a turn at a cabinet is that of the definitions
pub record Taken (p : Channel) (sending : Sending) (before after : List MasterNote) (s : ScenarioContent) (place rounds : ℕ) (c : CabinetContent) (arrived : List Arrived) : Type 0 where
  pub at : ChannelIsAt p s place rounds c arrived
  pub sends : frames_of sending ≡ sending_of s (place + 1) c arrived
  pub noted : after ≡ before ++ notes_of s (place + 1) c arrived

pub taken : (p : Channel) (sending : Sending) (before after : List MasterNote) (s : ScenarioContent) (place rounds : ℕ) (c : CabinetContent) (a : Arrived) (past : List Arrived) (now : Now)
    → length past + 1 ≡ rounds
    → now ≡ now_of s c rounds (master_clock s rounds)
    → HasSent p sending before after s.community (plan_with s.master (place + 1) now s.loads) (turns s (place + 1) c past) (messages a.polls) (messages a.loads)
    → Taken p sending before after s place rounds c (a ∷ past)
taken p sending before after s place rounds c a past now count is posted =
    let cab = place + 1 in
    let round : rounds ≡ length (turns s cab c past) + 1 = omega (arith, count, turn_count s cab c past) in
    let plan : plan_with s.master cab now s.loads ≡ plan_of s cab c (length (turns s cab c past) + 1) =
    ap (λ n. plan_with s.master cab n s.loads) is ∙ ap (λ r. plan_of s cab c r) round in
    let done = subst (λ k. HasSent p sending before after s.community k (turns s cab c past) (messages a.polls) (messages a.loads)) plan posted in
    record {
      at = record { stands = done.stands; count = omega (arith, count) };
      sends = ap (λ poll. frames poll (octets_in sending.load)) done.poll ∙ ap (λ load. frames (sending_of s cab c (a ∷ past)).poll load) done.load;
      noted = done.notes;
    }
