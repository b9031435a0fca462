-- A round of the closed loop ends: what the cabinets have replied goes back to the master.
use Rattle.std.proofs.Common.{◌≡◌, ◌<◌, ◌≤◌, ◌+◌, ◌-◌, ◌*◌, ◌∙◌, ℕ, zero, suc, List, [], ◌∷◌, length, get_or, Option, Some, None, refl, sym, ap, subst, arith}
use Rattle.std.specs.List.{slice_get}
use Rattle.scenario_data.specs.Content.{CabinetContent, ScenarioContent}
use Rattle.sig_types.specs.declared.streams.Answers.{Answers}
use Rattle.sig_types.specs.Replies.{Reply, replied_on}
use Rattle.cab_book.specs.declared.book.Book.{Book}
use Rattle.cab_book.specs.Books.{ticks_by_end}
use Rattle.run_definition.specs.CabinetState.{CabinetState}
use Rattle.master_rounds.specs.Answered.{AreAllReplies, with_replies}
use Rattle.master_rounds.specs.RoundsStand.{MasterRoundsStands}
use Rattle.round_run.specs.CabinetStates.{AreAt, HaveEnded, TicksWithin}
use Rattle.round_run.specs.Replied.{replied_in, EachAnswers}
use Rattle.round_run.specs.declared.rounds.ClosedLoop.{ClosedLoop}
use Rattle.round_run.specs.ClosedLoop.{AreAnswered, Between, cabinets_of}
use Rattle.round_run.proofs.Places.{pick}

-- what the cabinets have replied in the round, by their numbers
replies_of : Option Book → List Reply
replies_of None = []
replies_of (Some b) = replied_in b

pub replied : List Book → ℕ → List Reply
replied books cab = replies_of (slice_get books (cab - 1))

slice-here : (books : List Book) (k : ℕ) (b : Book) → k < length books → slice_get books k ≡ Some (get_or books k b)
slice-here [] k b below = absurd (omega (arith, below))
slice-here (x ∷ books) zero b below = refl
slice-here (x ∷ books) (suc k) b below = slice-here books k b (omega (arith, below))

replied-here : (books : List Book) (k : ℕ) (b : Book) → k < length books → replied books (k + 1) ≡ replied_in (get_or books k b)
unfolding replies_of replied
replied-here books k b below =
    let place : k + 1 - 1 ≡ k = omega arith in
    ap (λ (n : ℕ). replies_of (slice_get books n)) place ∙ ap replies_of (slice-here books k b below)

-- they go back to the master
pub all-replied : (all : List Answers) (books : List Book) → EachAnswers all books → AreAllReplies all (replied books)
all-replied all books each = λ k a below.
    let place : k < length books = omega (arith, below, each.many) in
    let b : Book = (pick books k place).item in
    let own = each.each k a b place in
    let same : replied_in (get_or books k b) ≡ replied books (k + 1) = sym (replied-here books k b place) in
    record {
      polls = own.polls ∙ ap (λ (r : List Reply). replied_on 1 r) same;
      loads = own.loads ∙ ap (λ (r : List Reply). replied_on 2 r) same;
      prios = own.prios ∙ ap (λ (r : List Reply). replied_on 3 r) same;
    }

-- the cabinets stay the same
next-cabinets : (ts next : List CabinetState) → length next ≡ length ts
    → ((k : ℕ) (t u : CabinetState) → k < length ts → (get_or next k u).cabinet ≡ (get_or ts k t).cabinet) → cabinets_of next ≡ cabinets_of ts
next-cabinets [] [] many same = refl
next-cabinets [] (u ∷ next) many same = absurd (omega (arith, many))
next-cabinets (t ∷ ts) [] many same = absurd (omega (arith, many))
next-cabinets (t ∷ ts) (u ∷ next) many same =
    ap (λ (c : CabinetContent). c ∷ cabinets_of next) (same 0 t u (omega arith))
    ∙ ap (λ (cs : List CabinetContent). t.cabinet ∷ cs)
    (next-cabinets ts next (omega (arith, many)) (λ k v w below. same (suc k) v w (omega (arith, below))))

-- with the replies of the round the cabinets have answered what they have reached
module _ (ts next : List CabinetState) (books : List Book) (ended : HaveEnded ts next books) where
  answered-here : (answered : ℕ → List (List Reply)) → AreAnswered answered ts → (k : ℕ) (u : CabinetState) → k < length ts
      → with_replies (replied books) answered (k + 1) ≡ (get_or next k u).answered
  answered-here answered told k u below =
      let place : k < length books = omega (arith, below, ended.many) in
      let b : Book = (pick books k place).item in
      ap (λ (r : List Reply). r ∷ answered (k + 1)) (replied-here books k b place)
      ∙ ap (λ (a : List (List Reply)). replied_in (get_or books k b) ∷ a) (told k u below)
      ∙ sym (ended.each k u u b below).answered

  answered-next : (answered : ℕ → List (List Reply)) → AreAnswered answered ts → AreAnswered (with_replies (replied books) answered) next
  answered-next answered told = λ k u below. answered-here answered told k u (omega (arith, below, ended.as_many))

  books-next : AreAt books next
  books-next = record {
    many = ended.many ∙ sym ended.as_many;
    each = λ k b u below. (ended.each k u u b (omega (arith, below, ended.as_many))).at;
  }

  -- the closed loop after one round more
  pub between-next : (s : ScenarioContent) (done : ℕ) (c : ClosedLoop) (answered : ℕ → List (List Reply)) → c.books.items ≡ books → cabinets_of ts ≡ s.cabinets
      → TicksWithin (done * 600 + 600) books → AreAnswered answered ts
      → MasterRoundsStands c.master_rounds s (done + 1) (with_replies (replied books) answered) → Between s (done + 1) next c
  between-next s done c answered own cabinets within told master_rounds = record {
    cabinets = next-cabinets ts next ended.as_many (λ k t u below.
        let place : k < length books = omega (arith, below, ended.many) in
        (ended.each k t u (pick books k place).item below).cabinet) ∙ cabinets;
    books = subst (λ (bs : List Book). AreAt bs next) (sym own) books-next;
    ticks = subst (λ (bs : List Book). TicksWithin ((done + 1) * 600) bs) (sym own)
        (λ k b below. let most : ticks_by_end (get_or books k b) ≤ done * 600 + 600 = within k b below in omega (arith, most));
    answered = with_replies (replied books) answered;
    told = answered-next answered told;
    master_rounds = master_rounds;
  }
