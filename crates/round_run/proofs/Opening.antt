-- A closed loop before its first round.
use Rattle.std.proofs.Common.{◌≡◌, ◌<◌, ◌≤◌, ◌+◌, ◌⊎◌, inl, inr, ◌∙◌, ℕ, zero, suc, List, [], ◌∷◌, ◌++◌, length, map, drop, get_or, refl, sym, ap, subst, arith}
use Rattle.std.proofs.lemmas.List.{get_or_push, length_push, get_or_default, get_or_append_left, length-map, get_or-map}
use Rattle.std.proofs.lemmas.Bool.{cases_lt}
use Rattle.sig_tables.specs.declared.tables.Tables.{Tables}
use Rattle.sig_tables.specs.Putting.{EachFits}
use Rattle.sig_tables.specs.Decide.{frames}
use Rattle.scenario_data.specs.declared.scenario.Cabinet.{Cabinet as Setup}
use Rattle.scenario_data.specs.Content.{CabinetContent, ScenarioContent, cabinet_content}
use Rattle.scenario_data.specs.Opening.{opening_tables}
use Rattle.plan_facts.specs.Times.{CorrectionHolds}
use Rattle.rule_book.specs.Rules.{Consistent}
use Rattle.rule_facts.proofs.Facts.{times-hold}
use Rattle.tick_context.specs.CanRun.{CanRun}
use Rattle.runnable.specs.Runnable.{CanOpen, AllOpen}
use Rattle.runnable.specs.Cabinets.{opening_history}
use Rattle.cabinet_history.specs.CabinetHistory.{opened}
use Rattle.cab_book.specs.declared.cabinet.Cabinet.{Cabinet}
use Rattle.cab_book.specs.declared.book.Book.{Book}
use Rattle.cab_book.specs.CabinetStands.{IsNew, CabinetStands}
use Rattle.cab_book.specs.Books.{BookStands, journal_of, ticks_by_end}
use Rattle.run_definition.specs.CabinetState.{CabinetState, opened_cabinet_state, opened_cabinet_states}
use Rattle.round_run.specs.CabinetStates.{IsAt, AreAt, TicksWithin}
use Rattle.round_run.specs.ClosedLoop.{AreAnswered, cabinets_of}
use Rattle.round_run.proofs.Places.{next_item, pick}

-- consistent tables can be run
pub can_run : (t : Tables) (c : CabinetContent) → t ≡ opening_tables c → Consistent (opening_tables c) → CanRun t
can_run t c same ok =
    let holds : CorrectionHolds (opening_tables c) = (times-hold (opening_tables c) ok).correction in
    subst (λ (u : Tables). CanRun u) (sym same) (record { adds = holds.add; subtracts = holds.subtract })

pub next_opens : (setups : List Setup) (i : ℕ) (c : Setup) → i < length setups → c ≡ get_or setups i c
    → AllOpen (map cabinet_content (drop i setups)) → CanOpen (cabinet_content c)
next_opens setups i c more is can = (subst (λ (xs : List Setup). AllOpen (map cabinet_content xs)) (next_item setups i c more is) can).0

pub others_open : (setups : List Setup) (i : ℕ) (c : Setup) → i < length setups → c ≡ get_or setups i c
    → AllOpen (map cabinet_content (drop i setups)) → AllOpen (map cabinet_content (drop (i + 1) setups))
others_open setups i c more is can = (subst (λ (xs : List Setup). AllOpen (map cabinet_content xs)) (next_item setups i c more is) can).1

-- what a cabinet has reached before any round, by its place
opened-at : (s : ScenarioContent) (cabinets : List CabinetContent) (k : ℕ) (t : CabinetState) (c : CabinetContent) → k < length cabinets
    → get_or (opened_cabinet_states s cabinets) k t ≡ opened_cabinet_state s (get_or cabinets k c)
opened-at s [] k t c below = absurd (omega (arith, below))
opened-at s (d ∷ cabinets) zero t c below = refl
opened-at s (d ∷ cabinets) (suc k) t c below = opened-at s cabinets k t c (omega (arith, below))

opened-many : (s : ScenarioContent) (cabinets : List CabinetContent) → length (opened_cabinet_states s cabinets) ≡ length cabinets
opened-many s [] = refl
opened-many s (c ∷ cabinets) = ap suc (opened-many s cabinets)

-- the book of the cabinet at a place of the setups
pub record OpenedHere (community : List ℕ) (b : Book) (setup : Setup) : Type 0 where
  pub stands : BookStands b (opened community (opening_history (cabinet_content setup)))
  pub journal : journal_of b ≡ []
  pub ticks : ticks_by_end b ≡ 0

-- the books are those of the setups before this place
pub record OpenedTo (community : List ℕ) (books : List Book) (setups : List Setup) (i : ℕ) : Type 0 where
  pub many : length books ≡ i
  pub each : (k : ℕ) (b : Book) (setup : Setup) → k < i → OpenedHere community (get_or books k b) (get_or setups k setup)

pub opened_none : (community : List ℕ) (setups : List Setup) → OpenedTo community [] setups 0
opened_none community setups = record { many = refl; each = λ k b setup below. absurd (omega (arith, below)) }

pub opened_next : (community : List ℕ) (books : List Book) (book : Book) (setups : List Setup) (i : ℕ) (c : Setup) → i < length setups → c ≡ get_or setups i c
    → OpenedHere community book c → OpenedTo community books setups i → OpenedTo community (books ++ book ∷ []) setups (i + 1)
opened_next community books book setups i c more is here so = record {
  many = length_push books book ∙ ap (λ (n : ℕ). n + 1) so.many;
  each = λ k b setup below. split k b setup below;
}
  where
    own : (k : ℕ) (b : Book) (setup : Setup) → k ≡ i → OpenedHere community (get_or (books ++ book ∷ []) k b) (get_or setups k setup)
    own k b setup e =
        subst (λ (n : ℕ). OpenedHere community (get_or (books ++ book ∷ []) n b) (get_or setups n setup)) (sym e)
        (subst (λ (x : Book). OpenedHere community x (get_or setups i setup)) (sym (get_or_push books book b i so.many))
        (subst (λ (u : Setup). OpenedHere community book u) (is ∙ get_or_default setups i c setup more) here))

    before : (k : ℕ) (b : Book) (setup : Setup) → k < i → OpenedHere community (get_or (books ++ book ∷ []) k b) (get_or setups k setup)
    before k b setup below = subst (λ (x : Book). OpenedHere community x (get_or setups k setup)) (sym (get_or_append_left books (book ∷ []) b k (omega (arith, below, so.many))))
        (so.each k b setup below)

    split : (k : ℕ) (b : Book) (setup : Setup) → k < i + 1 → OpenedHere community (get_or (books ++ book ∷ []) k b) (get_or setups k setup)
    split k b setup below = from (cases_lt k i)
      where
        from : (k < i) ⊎ (i ≤ k) → OpenedHere community (get_or (books ++ book ∷ []) k b) (get_or setups k setup)
        from (inl less) = before k b setup less
        from (inr more_or_same) = own k b setup (omega (arith, below, more_or_same))

-- all of them
pub opened_all : (s : ScenarioContent) (community : List ℕ) (books : List Book) (setups : List Setup) (i : ℕ) → s.community ≡ community → length setups ≤ i
    → i ≤ length setups → ((b : Book) (t : CabinetState) → BookStands b t.cabinet_history → journal_of b ≡ [] → IsAt b t)
    → OpenedTo community books setups i → AreAt books (opened_cabinet_states s (map cabinet_content setups))
opened_all s community books setups i same all within new so = record {
  many = omega (arith, so.many, all, within, opened-many s (map cabinet_content setups), length-map setups cabinet_content);
  each = λ k b t below.
      let place : k < length (map cabinet_content setups) = omega (arith, below, opened-many s (map cabinet_content setups)) in
      each-at k b t place (omega (arith, place, length-map setups cabinet_content, all));
}
  where
    each-at : (k : ℕ) (b : Book) (t : CabinetState) → k < length (map cabinet_content setups) → k < i
        → IsAt (get_or books k b) (get_or (opened_cabinet_states s (map cabinet_content setups)) k t)
    each-at k b t place less =
        let d : Setup = (pick setups k (omega (arith, place, length-map setups cabinet_content))).item in
        let here : OpenedHere community (get_or books k b) (get_or setups k d) = so.each k b d less in
        let cabinet_state : CabinetState = opened_cabinet_state s (cabinet_content (get_or setups k d)) in
        let is : get_or (opened_cabinet_states s (map cabinet_content setups)) k t ≡ cabinet_state =
        opened-at s (map cabinet_content setups) k t (cabinet_content d) place
        ∙ ap (λ (c : CabinetContent). opened_cabinet_state s c) (get_or-map cabinet_content setups k d (cabinet_content d) (omega (arith, place, length-map setups cabinet_content))) in
        subst (λ (u : CabinetState). IsAt (get_or books k b) u) (sym is)
        (new (get_or books k b) cabinet_state
        (subst (λ (w : List ℕ). BookStands (get_or books k b) (opened w (opening_history (cabinet_content (get_or setups k d))))) (sym same) here.stands)
        here.journal)

pub opened_ticks : (community : List ℕ) (books : List Book) (setups : List Setup) (i : ℕ) → OpenedTo community books setups i → i ≤ length setups → TicksWithin 0 books
opened_ticks community books setups i so within = λ k b below.
    let place : k < length setups = omega (arith, below, so.many, within) in
    let none : ticks_by_end (get_or books k b) ≡ 0 = (so.each k b (pick setups k place).item (omega (arith, below, so.many))).ticks in
    omega (arith, none)

-- the history of a cabinet to which nothing has happened is new
pub is-new : (c : CabinetContent) → CanOpen c → EachFits (opening_tables c) → IsNew (opening_history c)
is-new c can fits = record { events = tt; of_day = can.of_day; fits = fits }

-- and has no tick
pub no-ticks : (cabinet : Cabinet) (community : List ℕ) (c : CabinetContent) → CabinetStands cabinet (opened community (opening_history c)) → cabinet.ticks ≡ 0
no-ticks cabinet community c stands =
    let one : length (frames (opening_history c)) ≡ 1 = refl in
    let so : cabinet.ticks + 1 ≡ length (frames (opening_history c)) = stands.keeps.sound.ticks in
    omega (arith, one, so)

-- no cabinet has answered anything
none-answered : (s : ScenarioContent) (cabinets : List CabinetContent) (k : ℕ) (t : CabinetState) → k < length (opened_cabinet_states s cabinets)
    → [] ≡ (get_or (opened_cabinet_states s cabinets) k t).answered
none-answered s [] k t below = absurd (omega (arith, below))
none-answered s (c ∷ cabinets) zero t below = refl
none-answered s (c ∷ cabinets) (suc k) t below = none-answered s cabinets k t (omega (arith, below))

pub opened-answered : (s : ScenarioContent) → AreAnswered (λ cab. []) (opened_cabinet_states s s.cabinets)
opened-answered s = λ k t below. none-answered s s.cabinets k t below

-- they are the cabinets of the scenario
pub opened-cabinets : (s : ScenarioContent) (cabinets : List CabinetContent) → cabinets_of (opened_cabinet_states s cabinets) ≡ cabinets
opened-cabinets s [] = refl
opened-cabinets s (c ∷ cabinets) = ap (λ (cs : List CabinetContent). c ∷ cs) (opened-cabinets s cabinets)
