-- The lines of what a cabinet's items bring tell the numbers of the downloads that they put in force.
use Rattle.std.proofs.Common.{◌≡◌, ◌∙◌, ◌==◌, ℕ, Bool, true, List, [], ◌∷◌, ◌++◌, map, reverse, Option, Some, None, Result, Ok, Err, refl, sym, ap, append-nil, append_assoc}
use Rattle.std.proofs.lemmas.Bool.{eq-eqb}
use Rattle.std.proofs.lemmas.List.{reverse-append, map-append}
use Rattle.sig_types.specs.declared.frame.Frame.{Frame}
use Rattle.sig_types.specs.declared.notes.Broken.{Broken}
use Rattle.sig_types.specs.declared.notes.StageAnswer.{StageAnswer}
use Rattle.sig_types.specs.declared.notes.StageAnswer.TheVariants.{Staged, Repeated, Verified, Accepted, WrongToken, WrongPart, NotVerified, Refused}
use Rattle.sig_types.specs.Items.{Item, InputTold as Input, Came, Ticked}
use Rattle.sig_tables.specs.declared.tables.Tables.{Tables}
use Rattle.sig_tables.specs.declared.cells.Cell.{Cell}
use Rattle.sig_tables.specs.Cells.{Content}
use Rattle.trace_text.specs.declared.lines.Line.{Line}
use Rattle.trace_text.specs.declared.lines.Line.TheVariants.{A, L}
use Rattle.agent.specs.declared.ask.Wish.{Wish}
use Rattle.agent.specs.declared.ask.Wish.TheVariants.{Get, Next, Direct, Begin, Part, Verify, Finish, Bad}
use Rattle.agent.specs.declared.ask.Ask.{Ask}
use Rattle.stage_txn.specs.Calls.{Call, Begin as BeginCall, Part as PartCall, Verify as VerifyCall, Finish as FinishCall, Answered, Deed, deed_of, deeds}
use Rattle.stage_txn.specs.Answers.{answered}
use Rattle.cabinet_history.specs.declared.Load.{Load}
use Rattle.cabinet_history.specs.CabinetHistory.{CabinetHistory, with_item, after}
use Rattle.cabinet_history.specs.Journals.{Act, items_in}
use Rattle.cabinet_history.specs.Coming.{Coming, past_of, in_force, is_flashing, answer_in, outcome, carried_out, heeded, coming, ask_after}
use Rattle.cabinet_history.specs.CabinetAnswers.{load_end, reply_to, in_frame, item_written, verify_end, finish_end, wish_end, ask_end}
use Rattle.cabinet_history.specs.Downloads.{accepted_by}
use Rattle.run_definition.specs.Lines.{frame_lines, load_lines, item_lines, acts_lines}
use Rattle.judged_runs.specs.Loads.{brought_by, brought}
use Rattle.judged_runs.proofs.Ids.{ids_told, ids-append}

-- the number of a download
abbrev number_of : ℕ × List (Cell × Content) → ℕ
number_of d = d.0

abbrev cells_in : ℕ × List (Cell × Content) → List (Cell × Content)
cells_in d = d.1

-- those of the downloads that were put in force, in their order
abbrev pub ids_of : List Answered → List ℕ
ids_of [] = []
ids_of (a ∷ past) = ids_of past ++ map (λ d. d.0) (brought_by a.call a.answer (deeds past))

one-brought : (call : Call) (a : StageAnswer) (past : List Deed) → reverse (map number_of (brought_by call a past)) ≡ map number_of (brought_by call a past)
one-brought (BeginCall id t) a past = refl
one-brought (PartCall id number cells) a past = refl
one-brought (VerifyCall id total t flashing) a past = refl
one-brought (FinishCall id t flashing) Accepted past = refl
one-brought (FinishCall id t flashing) Staged past = refl
one-brought (FinishCall id t flashing) Repeated past = refl
one-brought (FinishCall id t flashing) Verified past = refl
one-brought (FinishCall id t flashing) WrongToken past = refl
one-brought (FinishCall id t flashing) (WrongPart n) past = refl
one-brought (FinishCall id t flashing) NotVerified past = refl
one-brought (FinishCall id t flashing) (Refused b) past = refl

-- the newest first
pub ids-brought : (past : List Answered) → ids_of past ≡ reverse (map (λ d. d.0) (brought past))
ids-brought [] = refl
ids-brought (a ∷ past) =
    let new : List (ℕ × List (Cell × Content)) = brought_by a.call a.answer (deeds past) in
    ap (λ (x : List ℕ). x ++ map number_of new) (ids-brought past)
    ∙ ap (λ (x : List ℕ). reverse (map number_of (brought past)) ++ x) (sym (one-brought a.call a.answer (deeds past)))
    ∙ sym (reverse-append (map number_of new) (map number_of (brought past)))
    ∙ ap reverse (sym (map-append number_of new (brought past)))

one-accepted : (call : Call) (a : StageAnswer) (past : List Deed) → map cells_in (brought_by call a past) ++ accepted_by past ≡ accepted_by (deed_of call a ∷ past)
one-accepted (BeginCall id t) Staged past = refl
one-accepted (BeginCall id t) Repeated past = refl
one-accepted (BeginCall id t) Verified past = refl
one-accepted (BeginCall id t) Accepted past = refl
one-accepted (BeginCall id t) WrongToken past = refl
one-accepted (BeginCall id t) (WrongPart n) past = refl
one-accepted (BeginCall id t) NotVerified past = refl
one-accepted (BeginCall id t) (Refused b) past = refl
one-accepted (PartCall id number cells) Staged past = refl
one-accepted (PartCall id number cells) Repeated past = refl
one-accepted (PartCall id number cells) Verified past = refl
one-accepted (PartCall id number cells) Accepted past = refl
one-accepted (PartCall id number cells) WrongToken past = refl
one-accepted (PartCall id number cells) (WrongPart n) past = refl
one-accepted (PartCall id number cells) NotVerified past = refl
one-accepted (PartCall id number cells) (Refused b) past = refl
one-accepted (VerifyCall id total t flashing) Staged past = refl
one-accepted (VerifyCall id total t flashing) Repeated past = refl
one-accepted (VerifyCall id total t flashing) Verified past = refl
one-accepted (VerifyCall id total t flashing) Accepted past = refl
one-accepted (VerifyCall id total t flashing) WrongToken past = refl
one-accepted (VerifyCall id total t flashing) (WrongPart n) past = refl
one-accepted (VerifyCall id total t flashing) NotVerified past = refl
one-accepted (VerifyCall id total t flashing) (Refused b) past = refl
one-accepted (FinishCall id t flashing) Staged past = refl
one-accepted (FinishCall id t flashing) Repeated past = refl
one-accepted (FinishCall id t flashing) Verified past = refl
one-accepted (FinishCall id t flashing) Accepted past = refl
one-accepted (FinishCall id t flashing) WrongToken past = refl
one-accepted (FinishCall id t flashing) (WrongPart n) past = refl
one-accepted (FinishCall id t flashing) NotVerified past = refl
one-accepted (FinishCall id t flashing) (Refused b) past = refl

-- their contents are those that were accepted
pub cells-brought : (past : List Answered) → map (λ d. d.1) (brought past) ≡ accepted_by (deeds past)
cells-brought [] = refl
cells-brought (a ∷ past) =
    map-append cells_in (brought_by a.call a.answer (deeds past)) (brought past)
    ∙ ap (λ (x : List (List (Cell × Content))). map cells_in (brought_by a.call a.answer (deeds past)) ++ x) (cells-brought past)
    ∙ one-accepted a.call a.answer (deeds past)

-- ---- what an item brings

-- the number of an accepted load that a frame ended
abbrev result_ids : ℕ → Result ℕ Broken → List ℕ
result_ids id (Ok version) = id ∷ []
result_ids id (Err broken) = []

abbrev load_ids : Option Load → List ℕ
load_ids None = []
load_ids (Some load) = result_ids load.id load.result

abbrev ids_in : Coming → List ℕ
ids_in c = ids_of (answered c.calls)

-- the same of a cabinet history
abbrev pub ids_to : CabinetHistory → List ℕ
ids_to cabinet_history = ids_in (coming cabinet_history)

verify-none : (id : ℕ) (a : StageAnswer) → load_ids (verify_end id (Some a)) ≡ []
verify-none id Staged = refl
verify-none id Repeated = refl
verify-none id Verified = refl
verify-none id Accepted = refl
verify-none id WrongToken = refl
verify-none id (WrongPart n) = refl
verify-none id NotVerified = refl
verify-none id (Refused b) = refl

finish-ids : (version id : ℕ) (t : Tables) (flashing : Bool) (a : StageAnswer) (past : List Deed)
    → map number_of (brought_by (FinishCall id t flashing) a past) ≡ load_ids (finish_end version id (Some a))
finish-ids version id t flashing Accepted past = refl
finish-ids version id t flashing Staged past = refl
finish-ids version id t flashing Repeated past = refl
finish-ids version id t flashing Verified past = refl
finish-ids version id t flashing WrongToken past = refl
finish-ids version id t flashing (WrongPart n) past = refl
finish-ids version id t flashing NotVerified past = refl
finish-ids version id t flashing (Refused b) past = refl

wish-ids : (c : Coming) (wish : Wish) → ids_in (carried_out c wish) ≡ ids_in c ++ load_ids (wish_end (past_of c).version wish (outcome c wish))
wish-ids c (Direct orders) = sym (append-nil (ids_in c))
wish-ids c (Begin id) = refl
wish-ids c (Part id number puts) = refl
wish-ids c (Verify id total) =
    ap (λ (x : List ℕ). ids_in c ++ x) (sym (verify-none id (answer_in c (VerifyCall id total (in_force c) (is_flashing (past_of c))))))
wish-ids c (Finish id) =
    ap (λ (x : List ℕ). ids_in c ++ x)
    (finish-ids (past_of c).version id (in_force c) (is_flashing (past_of c)) (answer_in c (FinishCall id (in_force c) (is_flashing (past_of c)))) (deeds (answered c.calls)))
wish-ids c Get = sym (append-nil (ids_in c))
wish-ids c Next = sym (append-nil (ids_in c))
wish-ids c (Bad status index) = sym (append-nil (ids_in c))

ask-ids : (c : Coming) (ask : Option Ask) → ids_in (heeded c ask) ≡ ids_in c ++ load_ids (ask_end c ask)
ask-ids c (Some ask) = wish-ids c ask.wish
ask-ids c None = sym (append-nil (ids_in c))

-- ---- what its lines tell

frames-none : (cab n : ℕ) (frames : List (ℕ × Frame)) (more : List Line) → ids_told cab (frame_lines n frames ++ more) ≡ ids_told cab more
frames-none cab n [] more = refl
frames-none cab n (f ∷ frames) more = frames-none cab n frames more

result-told : (cab id : ℕ) (result : Result ℕ Broken) (more : List Line) → ids_told cab (L cab id result ∷ more) ≡ result_ids id result ++ ids_told cab more
result-told cab id (Ok version) more = let e : (cab == cab) ≡ true = eq-eqb cab cab refl in rw e refl
result-told cab id (Err broken) more = refl

load-told : (cab : ℕ) (load : Option Load) (more : List Line) → ids_told cab (load_lines cab load ++ more) ≡ load_ids load ++ ids_told cab more
load-told cab None more = refl
load-told cab (Some load) more = result-told cab load.id load.result more

item-ids : (cab : ℕ) (h : CabinetHistory) (pass : ℕ) (item : Item) → ids_to (with_item h item) ≡ ids_to h ++ ids_told cab (item_lines cab h pass item)
item-ids cab h pass (Input field) = sym (append-nil (ids_to h))
item-ids cab h pass (Came octets) =
    ask-ids (coming h) (ask_after h octets)
    ∙ ap (λ (x : List ℕ). ids_to h ++ x)
    (sym (load-told cab (load_end h octets) (A cab pass (in_frame (reply_to h octets)) ∷ []) ∙ append-nil (load_ids (load_end h octets))))
item-ids cab h pass Ticked =
    sym (append-nil (ids_to h)) ∙ ap (λ (x : List ℕ). ids_to h ++ x) (sym (frames-none cab cab (item_written h Ticked) []))

pub acts-ids : (cab : ℕ) (h : CabinetHistory) (acts : List Act) → ids_to (after h (items_in acts)) ≡ ids_to h ++ ids_told cab (acts_lines cab h acts)
acts-ids cab h [] = sym (append-nil (ids_to h))
acts-ids cab h (act ∷ acts) =
    let own : List Line = item_lines cab h act.pass act.item in
    let later : List Line = acts_lines cab (with_item h act.item) acts in
    acts-ids cab (with_item h act.item) acts
    ∙ ap (λ (x : List ℕ). x ++ ids_told cab later) (item-ids cab h act.pass act.item)
    ∙ append_assoc (ids_to h) (ids_told cab own) (ids_told cab later)
    ∙ ap (λ (x : List ℕ). ids_to h ++ x) (sym (ids-append cab own later))
