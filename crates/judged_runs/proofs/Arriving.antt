-- Over a link that changes no octet, each message that reaches a cabinet asks only for parts of loads.
use Rattle.std.proofs.Common.{◌≡◌, ◌+◌, ◌==◌, ◌&&◌, if◌then◌else◌, inl, inr, ℕ, zero, suc, Bool, true, false, List, [], ◌∷◌, length, map, replicate, get_or, filter, refl, sym, subst}
use Rattle.std.specs.List.{AllByRecursion}
use Rattle.std.specs.Option.{option_to_list}
use Rattle.std.proofs.lemmas.Bool.{and_parts}
use Rattle.std.proofs.lemmas.Bool.Decides.{Decides-eqb}
use Rattle.sig_types.specs.declared.frame.Field.{Field}
use Rattle.sig_types.specs.declared.notes.Way.{Way}
use Rattle.sig_types.specs.declared.notes.Way.TheVariants.{Poll, Load, Prio}
use Rattle.sig_types.specs.Items.{Item, InputTold, Came, Ticked}
use Rattle.sig_types.specs.Replies.{Reply as Answer}
use Rattle.scenario_data.specs.Content.{CabinetContent, FrameContent, ScenarioContent}
use Rattle.scenario_data.specs.Inputs.{inputs_of}
use Rattle.cabinet_history.specs.CabinetHistory.{CabinetHistory, with_item, after}
use Rattle.cabinet_history.specs.Journals.{acts_from, items_in, times}
use Rattle.link_sim.specs.Faults.{same_way}
use Rattle.link_sim.specs.Carried.{carried}
use Rattle.link_sim.specs.Reaching.{is_frame_of, frames_of, sent_on, line_down, reaching}
use Rattle.master_poll.specs.Sends.{Arrived, turns}
use Rattle.master_rounds.specs.Rounds.{arrivals, sendings, polls_sent, loads_sent, delivered, streams_of}
use Rattle.run_definition.specs.CabinetState.{CabinetState, HasComeTo, opened_cabinet_states, coming_streams, round_acts, each_cabinet_state, cabinet_states_after}
use Rattle.judge_session.specs.Told.{load_told}
use Rattle.judged_runs.specs.Messages.{IsOwnItem, IsPlainLink, MessagesAreOwn}
use Rattle.judged_runs.proofs.Sending.{Sound, IsOwnText, last-poll, last-load, requested-own}
use Rattle.judged_runs.proofs.Carrying.{both, carried-own}

module _ (only : Bool) (s : ScenarioContent) (plain : IsPlainLink only s) (sound : Sound s) where
  abbrev OwnItem : ℕ → Item → Type 0
  OwnItem cab item = IsOwnItem only (load_told s cab) s.community item

  abbrev OwnTexts : ℕ → List (List ℕ) → Type 0
  OwnTexts cab texts = AllByRecursion (λ text. IsOwnItem only (load_told s cab) s.community (Came text)) texts

  -- ---- what reaches a cabinet on a stream

  frames-own : (cab round : ℕ) (way : Way) (frames : List FrameContent) → AllByRecursion (λ f. IsOwnItem only (load_told s f.cabinet) s.community (Came f.hex)) frames
      → OwnTexts cab (frames_of frames round cab way)
  frames-own cab round way [] all = tt
  frames-own cab round way (f ∷ frames) all = split (is_frame_of round cab way f) refl (frames-own cab round way frames all.1)
    where
      test : FrameContent → Bool
      test = is_frame_of round cab way

      split : (b : Bool) → is_frame_of round cab way f ≡ b → OwnTexts cab (map (λ g. g.hex) (filter test frames))
          → OwnTexts cab (map (λ g. g.hex) (if b then f ∷ filter test frames else filter test frames))
      split true e rest =
          let a = and_parts (f.round == round && f.cabinet == cab) (same_way f.stream way) e in
          let b = and_parts (f.round == round) (f.cabinet == cab) a.0 in
          (subst (λ (n : ℕ). IsOwnItem only (load_told s n) s.community (Came f.hex)) ((Decides-eqb f.cabinet cab).0 b.1) all.0, rest)
      split false e rest = rest

  reach-own : (cab : ℕ) (way : Way) (sent : List (List (List ℕ))) → AllByRecursion (AllByRecursion (IsOwnText only s cab)) (sent_on s cab way sent) → OwnTexts cab (reaching s cab way sent)
  reach-own cab way sent own =
      both only s cab sound (carried s.faults (line_down cab way) (sent_on s cab way sent)) (frames_of s.frames (length sent) cab way)
      (carried-own only s cab sound (line_down cab way) refl s.faults plain.faults (sent_on s cab way sent) own)
      (frames-own cab (length sent) way s.frames plain.frames)

  polls-own : (cab : ℕ) (c : CabinetContent) (arrived : List Arrived)
      → AllByRecursion (AllByRecursion (IsOwnText only s cab)) (map (λ f. option_to_list f.poll) (sendings s cab c arrived))
  polls-own cab c [] = tt
  polls-own cab c (a ∷ arrived) = (last-poll only s cab (turns s cab c (a ∷ arrived)) sound, polls-own cab c arrived)

  loads-own : (cab : ℕ) (c : CabinetContent) (arrived : List Arrived)
      → AllByRecursion (AllByRecursion (IsOwnText only s cab)) (map (λ f. option_to_list f.load) (sendings s cab c arrived))
  loads-own cab c [] = tt
  loads-own cab c (a ∷ arrived) = (last-load only s cab c (a ∷ arrived) sound, loads-own cab c arrived)

  -- ---- the streams

  abbrev OwnItems : ℕ → List Item → Type 0
  OwnItems cab items = AllByRecursion (OwnItem cab) items

  came-own : (cab : ℕ) (texts : List (List ℕ)) → OwnTexts cab texts → OwnItems cab (map Came texts)
  came-own cab [] all = tt
  came-own cab (text ∷ texts) all = (all.0, came-own cab texts all.1)

  told-own : (cab : ℕ) (fields : List Field) → OwnItems cab (map InputTold fields)
  told-own cab [] = tt
  told-own cab (field ∷ fields) = (tt, told-own cab fields)

  ticks-own : (cab n : ℕ) → OwnItems cab (replicate n Ticked)
  ticks-own cab zero = tt
  ticks-own cab (suc n) = (tt, ticks-own cab n)

  streams-own : (cab : ℕ) (c : CabinetContent) (answered : List (List Answer)) → AllByRecursion (OwnItems cab) (streams_of s cab c answered)
  streams-own cab c answered = (
    told-own cab (inputs_of (length answered + 1) cab s.inputs),
    (
      came-own cab (delivered s cab c answered 1) (reach-own cab Poll (polls_sent s cab c answered) (polls-own cab c (arrivals s cab answered))),
      (
        came-own cab (delivered s cab c answered 2) (reach-own cab Load (loads_sent s cab c answered) (loads-own cab c (arrivals s cab answered))),
        (
          came-own cab (delivered s cab c answered 3)
              (reach-own cab Prio (polls_sent s cab c answered) (requested-own only s cab (length (polls_sent s cab c answered)) sound)),
          (ticks-own cab s.ticks, tt),
        ),
      ),
    ),
  )

  -- ---- the items of a round

  item-at : (cab : ℕ) (items : List Item) (i : ℕ) → OwnItems cab items → OwnItem cab (get_or items i Ticked)
  item-at cab [] i all = tt
  item-at cab (item ∷ items) zero all = all.0
  item-at cab (item ∷ items) (suc i) all = item-at cab items i all.1

  stream-at : (cab : ℕ) (streams : List (List Item)) (p : ℕ) → AllByRecursion (OwnItems cab) streams → OwnItems cab (get_or streams p [])
  stream-at cab [] p all = tt
  stream-at cab (items ∷ streams) zero all = all.0
  stream-at cab (items ∷ streams) (suc p) all = stream-at cab streams p all.1

  acts-own : (cab : ℕ) (streams : List (List Item)) (before journal : List ℕ) → AllByRecursion (OwnItems cab) streams → OwnItems cab (items_in (acts_from streams before journal))
  acts-own cab streams before [] all = tt
  acts-own cab streams before (p ∷ journal) all =
      (item-at cab (get_or streams p []) (times p before) (stream-at cab streams p all), acts-own cab streams (p ∷ before) journal all)

  -- ---- the histories

  -- the messages that have reached a cabinet, and the community of its history
  pub record OwnHistory (cab : ℕ) (h : CabinetHistory) : Type 0 where
    pub community : h.community ≡ s.community
    pub items : OwnItems cab h.items

  after-own : (cab : ℕ) (h : CabinetHistory) (items : List Item) → OwnHistory cab h → OwnItems cab items → OwnHistory cab (after h items)
  after-own cab h [] own all = own
  after-own cab h (item ∷ items) own all = after-own cab (with_item h item) items (record { community = own.community; items = (all.0, own.items) }) all.1

  -- each cabinet among these, counted from a first number
  abbrev EachOwn : ℕ → List CabinetState → Type 0
  EachOwn first [] = Unit {0}
  EachOwn first (t ∷ ts) = OwnHistory first t.cabinet_history × EachOwn (first + 1) ts

  each-own : (first : ℕ) (ts : List CabinetState) (js : List (List ℕ)) → EachOwn first ts → EachOwn first (each_cabinet_state s first ts js)
  each-own first [] js own = tt
  each-own first (t ∷ ts) [] own = tt
  each-own first (t ∷ ts) (j ∷ js) own = (
    after-own first t.cabinet_history (items_in (round_acts s first t j)) own.0
        (acts-own first (coming_streams s first t) [] j (streams-own first t.cabinet t.answered)),
    each-own (first + 1) ts js own.1,
  )

  rounds-own : (ts : List CabinetState) (journals : List (List (List ℕ))) → EachOwn 1 ts → EachOwn 1 (cabinet_states_after s ts journals)
  rounds-own ts [] own = own
  rounds-own ts (js ∷ later) own = rounds-own (each_cabinet_state s 1 ts js) later (each-own 1 ts js own)

  opened-own : (first : ℕ) (cabinets : List CabinetContent) → EachOwn first (opened_cabinet_states s cabinets)
  opened-own first [] = tt
  opened-own first (c ∷ cabinets) = (record { community = refl; items = tt }, opened-own (first + 1) cabinets)

  come-own : (cab first : ℕ) (end : CabinetState) (ts : List CabinetState) → HasComeTo cab end first ts → EachOwn first ts → OwnHistory cab end.cabinet_history
  come-own cab first end [] is own = absurd is
  come-own cab first end (t ∷ ts) (inl here) own =
      subst (λ (n : ℕ). OwnHistory n end.cabinet_history) (sym here.0) (subst (λ (x : CabinetState). OwnHistory first x.cabinet_history) (sym here.1) own.0)
  come-own cab first end (t ∷ ts) (inr later) own = come-own cab (first + 1) end ts later own.1

  pub plain-own : (journals : List (List (List ℕ))) → MessagesAreOwn only s journals
  plain-own journals cab end come =
      let h = come-own cab 1 end (cabinet_states_after s (opened_cabinet_states s s.cabinets) journals) come
      (rounds-own (opened_cabinet_states s s.cabinets) journals (opened-own 1 s.cabinets)) in
      subst (λ (community : List ℕ). AllByRecursion (IsOwnItem only (load_told s cab) community) end.cabinet_history.items) (sym h.community) h.items
