-- What the books of a round have reached.
use Rattle.std.proofs.lemmas.List.{get_or_default}
use Rattle.std.proofs.Common.{◌≡◌, ◌<◌, ◌+◌, ◌∙◌, ℕ, zero, suc, List, [], ◌∷◌, length, get_or, refl, sym, ap, subst, arith}
use Rattle.scenario_data.specs.Content.{ScenarioContent}
use Rattle.cabinet_history.specs.declared.Reply.{Reply}
use Rattle.cabinet_history.specs.CabinetHistory.{after}
use Rattle.cabinet_history.specs.Journals.{Act, acts_of, items_in}
use Rattle.cabinet_history.specs.CabinetAnswers.{acts_replies}
use Rattle.run_definition.specs.CabinetState.{CabinetState, coming_streams, round_acts, answers_in, next_cabinet_state, each_cabinet_state}
use Rattle.sig_types.specs.Items.{Item}
use Rattle.cab_book.specs.declared.book.Book.{Book}
use Rattle.cab_book.specs.Books.{BookStands, streams_in, journal_of, acts_in}
use Rattle.round_run.specs.CabinetStates.{IsAt, AreAt, HasEnded, HasRun, HaveEnded, HaveRun}
use Rattle.round_run.specs.Replied.{replied_in}

-- what was brought to a book is what the journal brings
pub acts-run : (s : ScenarioContent) (cab : ℕ) (t : CabinetState) (journal : List ℕ) (b : Book) → HasRun s cab t journal b
    → acts_in b ≡ round_acts s cab t journal
acts-run s cab t journal b run =
    ap (λ (streams : List (List Item)). acts_of streams (journal_of b)) run.streams
    ∙ ap (λ (passes : List ℕ). acts_of (coming_streams s cab t) passes) run.journal_is

pub new-at : (b : Book) (t : CabinetState) → BookStands b t.cabinet_history → journal_of b ≡ [] → IsAt b t
new-at b t stands none = record {
  began = t.cabinet_history;
  stands = stands;
  now = ap (λ (passes : List ℕ). after t.cabinet_history (items_in (acts_of (streams_in b) passes))) none;
}

pub next-at : (s : ScenarioContent) (cab : ℕ) (t : CabinetState) (journal : List ℕ) (b : Book) → HasRun s cab t journal b
    → IsAt b (next_cabinet_state s cab t journal)
next-at s cab t journal b run = record {
  began = t.cabinet_history;
  stands = run.stands;
  now = ap (λ (acts : List Act). after t.cabinet_history (items_in acts)) (acts-run s cab t journal b run);
}

pub replied-newest : (s : ScenarioContent) (cab : ℕ) (t : CabinetState) (journal : List ℕ) (b : Book) → HasRun s cab t journal b
    → (next_cabinet_state s cab t journal).answered ≡ replied_in b ∷ t.answered
replied-newest s cab t journal b run =
    ap (λ (acts : List Act). answers_in (acts_replies t.cabinet_history acts) ∷ t.answered) (sym (acts-run s cab t journal b run))
    ∙ ap (λ (replies : List Reply). answers_in replies ∷ t.answered) (sym run.stands.written.replies)

pub each-length : (s : ScenarioContent) (first : ℕ) (ts : List CabinetState) (journals : List (List ℕ)) → length journals ≡ length ts
    → length (each_cabinet_state s first ts journals) ≡ length ts
each-length s first [] journals many = refl
each-length s first (t ∷ ts) [] many = many
each-length s first (t ∷ ts) (journal ∷ journals) many =
    let less : length journals ≡ length ts = omega (arith, many) in
    ap suc (each-length s (first + 1) ts journals less)

-- what one of the cabinets comes to
pub each-here : (s : ScenarioContent) (first : ℕ) (ts : List CabinetState) (journals : List (List ℕ)) (k : ℕ) (t : CabinetState) (journal : List ℕ)
    → length journals ≡ length ts → k < length ts
    → get_or (each_cabinet_state s first ts journals) k t ≡ next_cabinet_state s (first + k) (get_or ts k t) (get_or journals k journal)
each-here s first [] journals k t journal many below = absurd (omega (arith, below))
each-here s first (u ∷ ts) [] k t journal many below = absurd (omega (arith, many))
each-here s first (u ∷ ts) (own ∷ journals) zero t journal many below =
    let here : first ≡ first + 0 = omega arith in
    ap (λ (cab : ℕ). next_cabinet_state s cab u own) here
each-here s first (u ∷ ts) (own ∷ journals) (suc k) t journal many below =
    let there : first + 1 + k ≡ first + suc k = omega arith in
    each-here s (first + 1) ts journals k t journal (omega (arith, many)) (omega (arith, below))
    ∙ ap (λ (cab : ℕ). next_cabinet_state s cab (get_or ts k t) (get_or journals k journal)) there

-- each cabinet of a round that was run by journals has ended it
pub all-ended : (s : ScenarioContent) (ts : List CabinetState) (journals : List (List ℕ)) (books : List Book) → HaveRun s ts journals books
    → HaveEnded ts (each_cabinet_state s 1 ts journals) books
all-ended s ts journals books run = record {
  many = run.many;
  as_many = each-length s 1 ts journals run.as_many;
  each = λ k t u b below.
      let own = run.each k b t [] below in
      let within : k < length (each_cabinet_state s 1 ts journals) = omega (arith, below, each-length s 1 ts journals run.as_many) in
      let number : 1 + k ≡ k + 1 = omega arith in
      let is : get_or (each_cabinet_state s 1 ts journals) k u ≡ next_cabinet_state s (k + 1) (get_or ts k t) (get_or journals k []) =
      get_or_default (each_cabinet_state s 1 ts journals) k u t within
      ∙ each-here s 1 ts journals k t [] run.as_many below
      ∙ ap (λ (cab : ℕ). next_cabinet_state s cab (get_or ts k t) (get_or journals k [])) number in
      subst (λ (x : CabinetState). HasEnded (get_or ts k t) x (get_or books k b)) (sym is) (record {
        at = next-at s (k + 1) (get_or ts k t) (get_or journals k []) (get_or books k b) own;
        cabinet = refl;
        answered = replied-newest s (k + 1) (get_or ts k t) (get_or journals k []) (get_or books k b) own;
      });
}

pub all-at : (s : ScenarioContent) (ts : List CabinetState) (journals : List (List ℕ)) (books : List Book) → HaveRun s ts journals books
    → AreAt books (each_cabinet_state s 1 ts journals)
all-at s ts journals books run = record {
  many = run.many ∙ sym (each-length s 1 ts journals run.as_many);
  each = λ k b t below.
      let within : k < length ts = omega (arith, below, each-length s 1 ts journals run.as_many) in
      let number : 1 + k ≡ k + 1 = omega arith in
      let is : get_or (each_cabinet_state s 1 ts journals) k t ≡ next_cabinet_state s (k + 1) (get_or ts k t) (get_or journals k []) =
      each-here s 1 ts journals k t [] run.as_many within ∙ ap (λ (cab : ℕ). next_cabinet_state s cab (get_or ts k t) (get_or journals k [])) number in
      subst (λ (x : CabinetState). IsAt (get_or books k b) x) (sym is)
      (next-at s (k + 1) (get_or ts k t) (get_or journals k []) (get_or books k b) (run.each k b t [] within));
}
