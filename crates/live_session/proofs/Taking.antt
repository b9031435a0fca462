-- What a book has reached by one step more.
use Rattle.std.proofs.Common.{◌≡◌, ◌≢◌, ◌<◌, ◌≤◌, ◌+◌, ◌-◌, ◌∙◌, ℕ, inl, inr, List, [], ◌∷◌, ◌++◌, length, get_or, append_assoc, append-nil, replicate, slice_set, refl, sym, ap, subst, arith}
use Rattle.std.proofs.lemmas.List.{get_or-set_same, get_or-set_other, length-append, length-map, replicate-append-replicate}
use Rattle.std.proofs.lemmas.Bool.Decides.{eqb_tells}
use Rattle.sig_types.specs.declared.frame.Frame.{Frame}
use Rattle.sig_types.specs.declared.streams.Stream.{Stream}
use Rattle.sig_types.specs.Passes.{number_of}
use Rattle.sig_types.specs.Items.{Item, Ticked}
use Rattle.scenario_data.specs.Content.{ScenarioContent}
use Rattle.cabinet_history.specs.declared.Reply.{Reply}
use Rattle.cabinet_history.specs.CabinetHistory.{CabinetHistory, with_item, after}
use Rattle.cabinet_history.specs.Journals.{Act, items_in}
use Rattle.cabinet_history.specs.CabinetAnswers.{item_written, acts_written, item_replies, acts_replies}
use Rattle.cab_book.specs.declared.book.Book.{Book}
use Rattle.cab_book.specs.declared.happened.Answered.{Answered}
use Rattle.cab_book.specs.Books.{BookStands, IsOnePart, IsBroughtAtEnd, acts_in, streams_in, journal_of, tick_acts, left_of, ticks_by_end, written_in, answered_in}
use Rattle.cab_book.proofs.OnePart.{one-stays}
use Rattle.run_definition.specs.CabinetState.{CabinetState}
use Rattle.run_definition.specs.Lines.{acts_lines}
use Rattle.round_run.specs.CabinetStates.{HasCome, AreTicks, HaveNoTicks}
use Rattle.round_run.specs.Lines.{new_frame_lines, new_reply_lines}
use Rattle.run_definition.specs.Session.{Step, Ticks, Brings, step_acts, session_acts, history_by}
use Rattle.live_session.specs.Standing.{HasComeBy, IsTicked, HasTaken}
use Rattle.live_session.proofs.Steps.{acts-more, brings-here, brings-elsewhere, ticks-more, ticks-same, items-more, items-same, are-ticks, no-tick}

-- with more acts there are no fewer frames and replies
written-more : (cabinet_history : CabinetHistory) (acts more : List Act) → length (acts_written cabinet_history acts) ≤ length (acts_written cabinet_history (acts ++ more))
written-more cabinet_history [] more = omega arith
written-more cabinet_history (act ∷ acts) more =
    let next : CabinetHistory = with_item cabinet_history act.item in
    omega (
      arith,
      length-append (item_written cabinet_history act.item) (acts_written next acts),
      length-append (item_written cabinet_history act.item) (acts_written next (acts ++ more)),
      written-more next acts more,
    )

replies-more : (cabinet_history : CabinetHistory) (acts more : List Act) → length (acts_replies cabinet_history acts) ≤ length (acts_replies cabinet_history (acts ++ more))
replies-more cabinet_history [] more = omega arith
replies-more cabinet_history (act ∷ acts) more =
    let next : CabinetHistory = with_item cabinet_history act.item in
    omega (
      arith,
      length-append (item_replies cabinet_history act.pass act.item) (acts_replies next acts),
      length-append (item_replies cabinet_history act.pass act.item) (acts_replies next (acts ++ more)),
      replies-more next acts more,
    )

many-written : (t : CabinetState) (acts : List Act) (b : Book) → HasCome t acts b → length (written_in b) ≡ length (acts_written t.cabinet_history acts)
many-written t acts b come =
    ap (λ (frames : List (ℕ × Frame)). length frames) come.stands.written.frames
    ∙ ap (λ (so_far : List Act). length (acts_written t.cabinet_history so_far)) come.acts_are

many-replies : (t : CabinetState) (acts : List Act) (b : Book) → HasCome t acts b → length (answered_in b) ≡ length (acts_replies t.cabinet_history acts)
many-replies t acts b come =
    sym (length-map (answered_in b) (λ (a : Answered). a.reply))
    ∙ ap (λ (replies : List Reply). length replies) come.stands.written.replies
    ∙ ap (λ (so_far : List Act). length (acts_replies t.cabinet_history so_far)) come.acts_are

pub longer-written : (t : CabinetState) (acts more : List Act) (old new : Book) → HasCome t acts old → HasCome t (acts ++ more) new
    → length (written_in old) ≤ length (written_in new)
longer-written t acts more old new was is =
    omega (arith, many-written t acts old was, many-written t (acts ++ more) new is, written-more t.cabinet_history acts more)

pub longer-replies : (t : CabinetState) (acts more : List Act) (old new : Book) → HasCome t acts old → HasCome t (acts ++ more) new
    → length (answered_in old) ≤ length (answered_in new)
longer-replies t acts more old new was is =
    omega (arith, many-replies t acts old was, many-replies t (acts ++ more) new is, replies-more t.cabinet_history acts more)

-- ---- ticks

-- of that many ticks all but a rest were brought to a book
pub record IsTickedTo (many rest : ℕ) (old now : Book) : Type 0 where
  pub stands : (cabinet_history : CabinetHistory) → BookStands old cabinet_history → BookStands now cabinet_history
  pub streams : streams_in now ≡ streams_in old
  pub acts : acts_in now ++ tick_acts 4 rest ≡ acts_in old ++ tick_acts 4 many
  pub one : IsOnePart old → IsOnePart now
  pub own : left_of now 4 + many ≡ left_of old 4 + rest
  pub within : rest ≤ left_of now 4
  pub others : (pass : ℕ) → pass < 4 → left_of now pass ≡ left_of old pass
  pub by_end : ticks_by_end now ≡ ticks_by_end old

-- some of the rest more
pub ticked-more : (many rest some : ℕ) (old now new : Book) → some ≤ rest → ((cabinet_history : CabinetHistory) → BookStands now cabinet_history → BookStands new cabinet_history)
    → streams_in new ≡ streams_in now → journal_of new ≡ journal_of now ++ replicate some 4 → acts_in new ≡ acts_in now ++ tick_acts 4 some
    → left_of new 4 + some ≡ left_of now 4 → ((pass : ℕ) → pass ≢ 4 → left_of new pass ≡ left_of now pass) → ticks_by_end new ≡ ticks_by_end now
    → IsTickedTo many rest old now → IsTickedTo many (rest - some) old new
ticked-more many rest some old now new few stands streams journal acts own others by_end so =
    let all : some + (rest - some) ≡ rest = omega (arith, few) in
    record {
      stands = λ cabinet_history stood. stands cabinet_history (so.stands cabinet_history stood);
      streams = streams ∙ so.streams;
      acts =
          ap (λ (x : List Act). x ++ tick_acts 4 (rest - some)) acts
          ∙ append_assoc (acts_in now) (tick_acts 4 some) (tick_acts 4 (rest - some))
          ∙ ap (λ (x : List Act). acts_in now ++ x) (replicate-append-replicate some (rest - some) (record { pass = 4; item = Ticked }))
          ∙ ap (λ (n : ℕ). acts_in now ++ tick_acts 4 n) all
          ∙ so.acts;
      one = λ one. one-stays now new 4 some (omega arith) journal others (so.one one);
      own = omega (arith, own, so.own, few);
      within = omega (arith, own, so.within, few);
      others = λ pass low. others pass (λ e. omega (arith, e, low)) ∙ so.others pass low;
      by_end = by_end ∙ so.by_end;
    }

module _ (s : ScenarioContent) (cab : ℕ) (t : CabinetState) (steps : List Step) (many : ℕ) (old new : Book) (was : HasComeBy s cab t steps old)
    (is : IsTicked many old new) where
  pub ticked-acts : HasCome t (session_acts s cab t steps ++ tick_acts 4 many) new
  ticked-acts = record {
    stands = is.stands t.cabinet_history was.come.stands;
    acts_are = is.acts ∙ ap (λ (acts : List Act). acts ++ tick_acts 4 many) was.come.acts_are;
    one = is.one was.come.one;
  }

  ticked-come : HasComeBy s cab t (steps ++ Ticks many ∷ []) new
  ticked-come = record {
    come = subst (λ (acts : List Act). HasCome t acts new) (sym (acts-more s cab t steps (Ticks many))) ticked-acts;
    brought = λ pass below. is.others pass below ∙ was.brought pass below;
    ticks = omega (arith, is.own, was.ticks, ticks-more s steps many);
    short = λ pass below.
        omega (arith, ap (λ (all : List (List Item)). length (get_or all pass [])) is.streams, was.short pass below, items-same steps many);
  }

  pub ticked-longer : length (written_in old) ≤ length (written_in new)
  ticked-longer = longer-written t (session_acts s cab t steps) (tick_acts 4 many) old new was.come ticked-acts

  pub ticked-lines : ((acts more : List Act) → HasCome t acts old → HasCome t (acts ++ more) new → AreTicks more
      → acts_lines cab (after t.cabinet_history (items_in acts)) more ≡ new_frame_lines cab old new)
      → acts_lines cab (history_by s cab t steps) (step_acts cab (Ticks many)) ≡ new_frame_lines cab old new
  ticked-lines law = law (session_acts s cab t steps) (tick_acts 4 many) was.come ticked-acts (are-ticks 4 many)

pub has-ticked : (cab many : ℕ) (old new : Book) → IsTicked many old new → HasTaken cab (Ticks many) old new
has-ticked cab many old new is = record {
  come = λ s t steps was. ticked-come s cab t steps many old new was is;
  by_end = is.by_end;
}

-- ---- an item

-- with an item more at the end of one stream each stream is longer by at most one
longer-by-one : (streams : List (List Item)) (pass p : ℕ) (item : Item) → pass < length streams
    → length (get_or (slice_set streams pass (get_or streams pass [] ++ item ∷ [])) p []) ≤ length (get_or streams p []) + 1
longer-by-one streams pass p item within = elim (eqb_tells p pass) [
  | inl (t, same) ↦
      subst (λ (q : ℕ). length (get_or (slice_set streams pass (get_or streams pass [] ++ item ∷ [])) q []) ≤ length (get_or streams q []) + 1) (sym same)
      (omega (
        arith,
        ap (λ (items : List Item). length items) (get_or-set_same streams pass (get_or streams pass [] ++ item ∷ []) [] within),
        length-append (get_or streams pass []) (item ∷ []),
      ))
  | inr (t, other) ↦
      omega (arith, ap (λ (items : List Item). length items) (get_or-set_other streams pass p (get_or streams pass [] ++ item ∷ []) [] other))
]

module _ (s : ScenarioContent) (cab : ℕ) (t : CabinetState) (steps : List Step) (stream : Stream) (item : Item) (old new : Book)
    (was : HasComeBy s cab t steps old) (is : IsBroughtAtEnd old new stream item)
    (law : (acts : List Act) → HasCome t acts old → HasCome t (acts ++ record { pass = number_of stream; item = item } ∷ []) new) where
  pub brought-acts : HasCome t (session_acts s cab t steps ++ record { pass = number_of stream; item = item } ∷ []) new
  brought-acts = law (session_acts s cab t steps) was.come

  pub brought-come : number_of stream < 4 → HasComeBy s cab t (steps ++ Brings cab (number_of stream) item ∷ []) new
  brought-come low = record {
    come =
        subst (λ (acts : List Act). HasCome t acts new)
        (sym (acts-more s cab t steps (Brings cab (number_of stream) item) ∙ ap (λ (acts : List Act). session_acts s cab t steps ++ acts) (brings-here cab (number_of stream) item)))
        brought-acts;
    brought = λ p below. is.left p ∙ was.brought p below;
    ticks = is.left 4 ∙ was.ticks ∙ sym (ticks-same s steps cab (number_of stream) item);
    short = λ p below.
        omega (
          arith,
          ap (λ (all : List (List Item)). length (get_or all p [])) is.streams,
          longer-by-one (streams_in old) (number_of stream) p item (omega (arith, low)),
          was.short p below,
          items-more steps cab (number_of stream) item,
        );
  }

  pub brought-longer : length (answered_in old) ≤ length (answered_in new)
  brought-longer = longer-replies t (session_acts s cab t steps) (record { pass = number_of stream; item = item } ∷ []) old new was.come brought-acts

  pub brought-lines : (item ≡ Ticked → ⊥) → ((acts more : List Act) → HasCome t acts old → HasCome t (acts ++ more) new → HaveNoTicks more
      → acts_lines cab (after t.cabinet_history (items_in acts)) more ≡ new_reply_lines cab old new)
      → acts_lines cab (history_by s cab t steps) (step_acts cab (Brings cab (number_of stream) item)) ≡ new_reply_lines cab old new
  brought-lines other others =
      ap (λ (acts : List Act). acts_lines cab (history_by s cab t steps) acts) (brings-here cab (number_of stream) item)
      ∙ others (session_acts s cab t steps) (record { pass = number_of stream; item = item } ∷ []) was.come brought-acts (no-tick (number_of stream) item other)

pub has-brought : (cab : ℕ) (stream : Stream) (item : Item) (old new : Book) → number_of stream < 4 → IsBroughtAtEnd old new stream item
    → ((t : CabinetState) (acts : List Act) → HasCome t acts old → HasCome t (acts ++ record { pass = number_of stream; item = item } ∷ []) new)
    → HasTaken cab (Brings cab (number_of stream) item) old new
has-brought cab stream item old new low is law = record {
  come = λ s t steps was. brought-come s cab t steps stream item old new was is (law t) low;
  by_end = is.ticks;
}

-- what is brought to another cabinet is nothing here
pub has-none : (to cab pass : ℕ) (item : Item) (b : Book) → to ≢ cab → HasTaken cab (Brings to pass item) b b
has-none to cab pass item b other = record {
  come = λ s t steps was. record {
    come =
        subst (λ (acts : List Act). HasCome t acts b)
        (sym (
        acts-more s cab t steps (Brings to pass item)
        ∙ ap (λ (acts : List Act). session_acts s cab t steps ++ acts) (brings-elsewhere to cab pass item other)
        ∙ append-nil (session_acts s cab t steps)
        )) was.come;
    brought = was.brought;
    ticks = was.ticks ∙ sym (ticks-same s steps to pass item);
    short = λ p below. omega (arith, was.short p below, items-more steps to pass item);
  };
  by_end = omega arith;
}
