-- Of lines that come cabinet by cabinet, those of one.
use Rattle.std.proofs.Common.{◌≡◌, ◌≢◌, ◌∙◌, inl, inr, ◌+◌, ◌<◌, ◌≤◌, ◌==◌, ℕ, Bool, true, false, List, [], ◌∷◌, ◌++◌, length, filter, Option, Some, None, refl, sym, ap, arith, append-nil, append_assoc, eq-eqb, ne_eqb}
use Rattle.std.specs.List.{AllByRecursion}
use Rattle.sig_types.specs.declared.frame.Frame.{Frame}
use Rattle.trace_text.specs.declared.lines.Line.{Line}
use Rattle.trace_text.specs.declared.lines.Line.TheVariants.{A}
use Rattle.cabinet_history.specs.declared.Load.{Load}
use Rattle.cabinet_history.specs.declared.Reply.{Reply}
use Rattle.cabinet_history.specs.CabinetHistory.{CabinetHistory, with_item}
use Rattle.cabinet_history.specs.Journals.{Act}
use Rattle.cabinet_history.specs.CabinetAnswers.{item_replies, item_written}
use Rattle.run_definition.specs.CabinetState.{CabinetState, HasComeTo}
use Rattle.run_definition.specs.Lines.{frame_lines, load_lines, reply_lines, item_lines, acts_lines}
use Rattle.run_definition.specs.SessionRecord.{begins_part, is_of_street, is_journal_of, is_told_of, cabinets_in_order}
use Rattle.run_definition.proofs.SessionLists.{filter-append, filter-all, filter-none}

-- ---- each of some

pub all-append : {X : Type 0} (P : X → Type 0) (xs ys : List X) → AllByRecursion P xs → AllByRecursion P ys → AllByRecursion P (xs ++ ys)
all-append P [] ys all more = more
all-append P (x ∷ xs) ys all more = (all.0, all-append P xs ys all.1 more)

pub all-map : {X : Type 0} (P Q : X → Type 0) → ((x : X) → P x → Q x) → (xs : List X) → AllByRecursion P xs → AllByRecursion Q xs
all-map P Q turn [] all = tt
all-map P Q turn (x ∷ xs) all = (turn x all.0, all-map P Q turn xs all.1)

-- ---- lines about a cabinet

-- the line is about this cabinet, and is not a journal
pub record IsToldOf (cab : ℕ) (line : Line) : Type 0 where
  pub street : is_of_street line ≡ false
  pub journal : (n : ℕ) → is_journal_of n line ≡ false
  pub told : (n : ℕ) → is_told_of n line ≡ (cab == n)
  pub part : begins_part line ≡ false

abbrev pub AreToldOf : ℕ → List Line → Type 0
AreToldOf cab lines = AllByRecursion (IsToldOf cab) lines

frames-told : (cab : ℕ) (frames : List (ℕ × Frame)) → AreToldOf cab (frame_lines cab frames)
frames-told cab [] = tt
frames-told cab (f ∷ frames) =
    (record { street = refl; journal = λ n. refl; told = λ n. refl; part = refl }, frames-told cab frames)

load-told : (cab : ℕ) (load : Option Load) → AreToldOf cab (load_lines cab load)
load-told cab None = tt
load-told cab (Some load) = (record { street = refl; journal = λ n. refl; told = λ n. refl; part = refl }, tt)

replies-told : (cab : ℕ) (replies : List Reply) → AreToldOf cab (reply_lines cab replies)
replies-told cab [] = tt
replies-told cab (r ∷ replies) =
    all-append (IsToldOf cab) (load_lines cab r.load) (A cab r.pass r.text ∷ reply_lines cab replies) (load-told cab r.load)
    (record { street = refl; journal = λ n. refl; told = λ n. refl; part = refl }, replies-told cab replies)

pub acts-told : (cab : ℕ) (h : CabinetHistory) (acts : List Act) → AreToldOf cab (acts_lines cab h acts)
acts-told cab h [] = tt
acts-told cab h (act ∷ acts) =
    all-append (IsToldOf cab) (item_lines cab h act.pass act.item) (acts_lines cab (with_item h act.item) acts)
    (all-append (IsToldOf cab) (frame_lines cab (item_written h act.item)) (reply_lines cab (item_replies h act.pass act.item))
    (frames-told cab (item_written h act.item)) (replies-told cab (item_replies h act.pass act.item)))
    (acts-told cab (with_item h act.item) acts)

pub told-street : (cab : ℕ) (lines : List Line) → AreToldOf cab lines → filter is_of_street lines ≡ []
told-street cab lines are =
    filter-none is_of_street lines (all-map (IsToldOf cab) (λ (x : Line). is_of_street x ≡ false) (λ x is. is.street) lines are)

pub told-journal : (cab n : ℕ) (lines : List Line) → AreToldOf cab lines → filter (is_journal_of n) lines ≡ []
told-journal cab n lines are =
    filter-none (is_journal_of n) lines (all-map (IsToldOf cab) (λ (x : Line). is_journal_of n x ≡ false) (λ x is. is.journal n) lines are)

pub told-own : (cab : ℕ) (lines : List Line) → AreToldOf cab lines → filter (is_told_of cab) lines ≡ lines
told-own cab lines are =
    filter-all (is_told_of cab) lines (all-map (IsToldOf cab) (λ (x : Line). is_told_of cab x ≡ true) (λ x is. is.told cab ∙ eq-eqb cab cab refl) lines are)

pub told-other : (cab n : ℕ) (lines : List Line) → cab ≢ n → AreToldOf cab lines → filter (is_told_of n) lines ≡ []
told-other cab n lines other are =
    filter-none (is_told_of n) lines (all-map (IsToldOf cab) (λ (x : Line). is_told_of n x ≡ false) (λ x is. is.told n ∙ ne_eqb cab n other) lines are)

-- ---- cabinet by cabinet

-- lines of each cabinet, counted from a first number
abbrev pub each : (ℕ → CabinetState → List Line) → ℕ → List CabinetState → List Line
each lines first [] = []
each lines first (t ∷ ts) = lines first t ++ each lines (first + 1) ts

pub each-all : (P : Line → Type 0) (lines : ℕ → CabinetState → List Line) → ((n : ℕ) (t : CabinetState) → AllByRecursion P (lines n t))
    → (first : ℕ) (ts : List CabinetState) → AllByRecursion P (each lines first ts)
each-all P lines all first [] = tt
each-all P lines all first (t ∷ ts) =
    all-append P (lines first t) (each lines (first + 1) ts) (all first t) (each-all P lines all (first + 1) ts)

pub each-none : (keep : Line → Bool) (lines : ℕ → CabinetState → List Line) → ((n : ℕ) (t : CabinetState) → filter keep (lines n t) ≡ [])
    → (first : ℕ) (ts : List CabinetState) → filter keep (each lines first ts) ≡ []
each-none keep lines none first [] = refl
each-none keep lines none first (t ∷ ts) =
    filter-append keep (lines first t) (each lines (first + 1) ts)
    ∙ ap (λ (x : List Line). x ++ filter keep (each lines (first + 1) ts)) (none first t)
    ∙ each-none keep lines none (first + 1) ts

each-past : (keep : Line → Bool) (lines : ℕ → CabinetState → List Line) (cab : ℕ) → ((n : ℕ) (t : CabinetState) → n ≢ cab → filter keep (lines n t) ≡ [])
    → (first : ℕ) (ts : List CabinetState) → cab < first → filter keep (each lines first ts) ≡ []
each-past keep lines cab none first [] past = refl
each-past keep lines cab none first (t ∷ ts) past =
    filter-append keep (lines first t) (each lines (first + 1) ts)
    ∙ ap (λ (x : List Line). x ++ filter keep (each lines (first + 1) ts)) (none first t (λ e. omega (arith, e, past)))
    ∙ each-past keep lines cab none (first + 1) ts (omega (arith, past))

come-late : (cab : ℕ) (t : CabinetState) (first : ℕ) (ts : List CabinetState) → HasComeTo cab t first ts → first ≤ cab
come-late cab t first [] come = absurd come
come-late cab t first (u ∷ ts) (inl here) = omega (arith, here.0)
come-late cab t first (u ∷ ts) (inr later) = omega (arith, come-late cab t (first + 1) ts later)

pub each-found : (keep : Line → Bool) (lines : ℕ → CabinetState → List Line) (cab : ℕ) → ((n : ℕ) (t : CabinetState) → n ≢ cab → filter keep (lines n t) ≡ [])
    → (t : CabinetState) (first : ℕ) (ts : List CabinetState) → HasComeTo cab t first ts → filter keep (each lines first ts) ≡ filter keep (lines cab t)
each-found keep lines cab none t first [] come = absurd come
each-found keep lines cab none t first (u ∷ ts) (inl here) =
    filter-append keep (lines first u) (each lines (first + 1) ts)
    ∙ ap (λ (x : List Line). filter keep (lines first u) ++ x) (each-past keep lines cab none (first + 1) ts (omega (arith, here.0)))
    ∙ append-nil (filter keep (lines first u))
    ∙ ap (λ (n : ℕ). filter keep (lines n u)) (sym here.0)
    ∙ ap (λ (x : CabinetState). filter keep (lines cab x)) (sym here.1)
each-found keep lines cab none t first (u ∷ ts) (inr later) =
    let high : first + 1 ≤ cab = come-late cab t (first + 1) ts later in
    filter-append keep (lines first u) (each lines (first + 1) ts)
    ∙ ap (λ (x : List Line). x ++ filter keep (each lines (first + 1) ts)) (none first u (λ e. omega (arith, e, high)))
    ∙ each-found keep lines cab none t (first + 1) ts later

-- what a part has of a cabinet: its journal, and what else is reported of it
pub record HasOf (part journal told : List Line) (cab : ℕ) : Type 0 where
  pub of_journal : filter (is_journal_of cab) part ≡ journal
  pub of_told : filter (is_told_of cab) part ≡ told

-- a part cabinet by cabinet
pub cabinets-ordered : (part : List Line) (journal told : ℕ → CabinetState → List Line) (first : ℕ) (ts : List CabinetState)
    → ((cab : ℕ) (t : CabinetState) → HasComeTo cab t first ts → HasOf part (journal cab t) (told cab t) cab)
    → cabinets_in_order first (length ts) part ≡ each (λ n t. journal n t ++ told n t) first ts
cabinets-ordered part journal told first [] has = refl
cabinets-ordered part journal told first (t ∷ ts) has =
    let own : HasOf part (journal first t) (told first t) first = has first t (inl (refl, refl)) in
    let later : cabinets_in_order (first + 1) (length ts) part ≡ each (λ n t. journal n t ++ told n t) (first + 1) ts =
    cabinets-ordered part journal told (first + 1) ts (λ cab u come. has cab u (inr come)) in
    let rest : List Line = cabinets_in_order (first + 1) (length ts) part in
    ap (λ (x : List Line). x ++ (filter (is_told_of first) part ++ rest)) own.of_journal
    ∙ ap (λ (x : List Line). journal first t ++ (x ++ rest)) own.of_told
    ∙ sym (append_assoc (journal first t) (told first t) rest)
    ∙ ap (λ (x : List Line). (journal first t ++ told first t) ++ x) later
