-- What the lines of a cabinet's acts say about it is what its cabinet history says of them; the lines of others say
-- nothing of it.
use Rattle.std.proofs.Common.{◌≡◌, ◌≢◌, ◌∙◌, ◌==◌, if◌then◌else◌, ℕ, Bool, true, false, List, [], ◌∷◌, ◌++◌, map, Option, Some, None, Result, Ok, Err, refl, ap, append-nil}
use Rattle.std.proofs.lemmas.Bool.{ne_eqb, eq-eqb}
use Rattle.sig_types.specs.declared.frame.Frame.{Frame}
use Rattle.sig_types.specs.declared.notes.Broken.{Broken}
use Rattle.sig_types.specs.declared.notes.MasterNote.{MasterNote}
use Rattle.trace_text.specs.declared.lines.Line.{Line}
use Rattle.trace_text.specs.declared.lines.Line.TheVariants.{S, F, R, M, J, L, A, Z}
use Rattle.safety_laws.specs.Written.{shown_by}
use Rattle.safety_laws.specs.CabinetTold.{CabinetTold, Shows, Loads, told_in}
use Rattle.sig_types.specs.Items.{Item, InputTold as Input, Came, Ticked}
use Rattle.cabinet_history.specs.declared.Load.{Load}
use Rattle.cabinet_history.specs.CabinetHistory.{CabinetHistory, with_item}
use Rattle.cabinet_history.specs.Journals.{Act}
use Rattle.cabinet_history.specs.CabinetAnswers.{load_end, reply_to, in_frame, item_written}
use Rattle.cabinet_laws.specs.Telling.{version_told, load_told, frames_told, item_told, acts_told}
use Rattle.run_definition.specs.Lines.{frame_lines, load_lines, item_lines, acts_lines}

pub told-append : (cab : ℕ) (lines more : List Line) → told_in cab (lines ++ more) ≡ told_in cab lines ++ told_in cab more
told-append cab [] more = refl
told-append cab (F c tick veh ped mode counter target version ∷ lines) more = split (c == cab) (told-append cab lines more)
  where
    said : CabinetTold
    said = Shows tick (record { colours = veh; signals = ped; mode = mode; version = version })

    split : (b : Bool) → told_in cab (lines ++ more) ≡ told_in cab lines ++ told_in cab more
        → (if b then said ∷ told_in cab (lines ++ more) else told_in cab (lines ++ more))
        ≡ (if b then said ∷ told_in cab lines else told_in cab lines) ++ told_in cab more
    split true e = ap (λ (x : List CabinetTold). said ∷ x) e
    split false e = e
told-append cab (L c id (Ok version) ∷ lines) more = split (c == cab) (told-append cab lines more)
  where
    split : (b : Bool) → told_in cab (lines ++ more) ≡ told_in cab lines ++ told_in cab more
        → (if b then Loads version ∷ told_in cab (lines ++ more) else told_in cab (lines ++ more))
        ≡ (if b then Loads version ∷ told_in cab lines else told_in cab lines) ++ told_in cab more
    split true e = ap (λ (x : List CabinetTold). Loads version ∷ x) e
    split false e = e
told-append cab (L c id (Err broken) ∷ lines) more = told-append cab lines more
told-append cab (S json ∷ lines) more = told-append cab lines more
told-append cab (R round ∷ lines) more = told-append cab lines more
told-append cab (M note ∷ lines) more = told-append cab lines more
told-append cab (J c runs ∷ lines) more = told-append cab lines more
told-append cab (A c pass reply ∷ lines) more = told-append cab lines more
told-append cab (Z rounds ∷ lines) more = told-append cab lines more

-- lines that say nothing of a cabinet, before others and after them
pub told-behind : (cab : ℕ) (lines more : List Line) → told_in cab lines ≡ [] → told_in cab (lines ++ more) ≡ told_in cab more
told-behind cab lines more e = told-append cab lines more ∙ ap (λ (x : List CabinetTold). x ++ told_in cab more) e

pub told-before : (cab : ℕ) (lines more : List Line) → told_in cab more ≡ [] → told_in cab (lines ++ more) ≡ told_in cab lines
told-before cab lines more e =
    told-append cab lines more ∙ ap (λ (x : List CabinetTold). told_in cab lines ++ x) e ∙ append-nil (told_in cab lines)

-- ---- a cabinet's own lines

frames-tell : (cab : ℕ) (frames : List (ℕ × Frame)) → told_in cab (frame_lines cab frames) ≡ frames_told frames
frames-tell cab [] = refl
frames-tell cab (f ∷ frames) =
    let e : (cab == cab) ≡ true = eq-eqb cab cab refl in
    rw e (ap (λ (x : List CabinetTold). Shows f.0 (shown_by f.1) ∷ x) (frames-tell cab frames))

result-tells : (cab id : ℕ) (result : Result ℕ Broken) (more : List Line) → told_in cab (L cab id result ∷ more) ≡ version_told result ++ told_in cab more
result-tells cab id (Ok version) more = let e : (cab == cab) ≡ true = eq-eqb cab cab refl in rw e refl
result-tells cab id (Err broken) more = refl

load-tells : (cab : ℕ) (load : Option Load) (more : List Line) → told_in cab (load_lines cab load ++ more) ≡ load_told load ++ told_in cab more
load-tells cab None more = refl
load-tells cab (Some load) more = result-tells cab load.id load.result more

item-tells : (cab : ℕ) (cabinet_history : CabinetHistory) (pass : ℕ) (item : Item) → told_in cab (item_lines cab cabinet_history pass item) ≡ item_told cabinet_history item
item-tells cab cabinet_history pass (Input field) = refl
item-tells cab cabinet_history pass (Came octets) =
    load-tells cab (load_end cabinet_history octets) (A cab pass (in_frame (reply_to cabinet_history octets)) ∷ []) ∙ append-nil (load_told (load_end cabinet_history octets))
item-tells cab cabinet_history pass Ticked =
    ap (told_in cab) (append-nil (frame_lines cab (item_written cabinet_history Ticked))) ∙ frames-tell cab (item_written cabinet_history Ticked)

pub acts-lines-tell : (cab : ℕ) (cabinet_history : CabinetHistory) (acts : List Act) → told_in cab (acts_lines cab cabinet_history acts) ≡ acts_told cabinet_history acts
acts-lines-tell cab cabinet_history [] = refl
acts-lines-tell cab cabinet_history (act ∷ acts) =
    let later : List Line = acts_lines cab (with_item cabinet_history act.item) acts in
    told-append cab (item_lines cab cabinet_history act.pass act.item) later
    ∙ ap (λ (x : List CabinetTold). x ++ told_in cab later) (item-tells cab cabinet_history act.pass act.item)
    ∙ ap (λ (x : List CabinetTold). item_told cabinet_history act.item ++ x) (acts-lines-tell cab (with_item cabinet_history act.item) acts)

-- ---- the lines of another cabinet, and notes

other-frames : (cab n : ℕ) (frames : List (ℕ × Frame)) → n ≢ cab → told_in cab (frame_lines n frames) ≡ []
other-frames cab n [] other = refl
other-frames cab n (f ∷ frames) other =
    let e : (n == cab) ≡ false = ne_eqb n cab other in rw e (other-frames cab n frames other)

other-result : (cab n id : ℕ) (result : Result ℕ Broken) (more : List Line) → n ≢ cab → told_in cab (L n id result ∷ more) ≡ told_in cab more
other-result cab n id (Ok version) more other = let e : (n == cab) ≡ false = ne_eqb n cab other in rw e refl
other-result cab n id (Err broken) more other = refl

other-load : (cab n : ℕ) (load : Option Load) (more : List Line) → n ≢ cab → told_in cab (load_lines n load ++ more) ≡ told_in cab more
other-load cab n None more other = refl
other-load cab n (Some load) more other = other-result cab n load.id load.result more other

other-item : (cab n : ℕ) (cabinet_history : CabinetHistory) (pass : ℕ) (item : Item) → n ≢ cab → told_in cab (item_lines n cabinet_history pass item) ≡ []
other-item cab n cabinet_history pass (Input field) other = refl
other-item cab n cabinet_history pass (Came octets) other =
    other-load cab n (load_end cabinet_history octets) (A n pass (in_frame (reply_to cabinet_history octets)) ∷ []) other
other-item cab n cabinet_history pass Ticked other =
    ap (told_in cab) (append-nil (frame_lines n (item_written cabinet_history Ticked))) ∙ other-frames cab n (item_written cabinet_history Ticked) other

pub other-acts : (cab n : ℕ) (cabinet_history : CabinetHistory) (acts : List Act) → n ≢ cab → told_in cab (acts_lines n cabinet_history acts) ≡ []
other-acts cab n cabinet_history [] other = refl
other-acts cab n cabinet_history (act ∷ acts) other =
    told-behind cab (item_lines n cabinet_history act.pass act.item) (acts_lines n (with_item cabinet_history act.item) acts) (other-item cab n cabinet_history act.pass act.item other)
    ∙ other-acts cab n (with_item cabinet_history act.item) acts other

pub notes-tell : (cab : ℕ) (notes : List MasterNote) (more : List Line) → told_in cab (map M notes ++ more) ≡ told_in cab more
notes-tell cab [] more = refl
notes-tell cab (note ∷ notes) more = notes-tell cab notes more
