-- The downloads that the master begins in the first rounds are the same where later ones are left out: these are last,
-- and none of them is begun in these rounds.
use Rattle.std.proofs.Common.{◌≡◌, ◌∙◌, ◌+◌, ◌-◌, ◌<◌, ◌≤◌, ◌==◌, cond, nat_le, if◌then◌else◌, ℕ, zero, suc, ℤ, Bool, true, false, List, [], ◌∷◌, length, Option, Some, None, slice_get, option_map, refl, sym, ap, subst, arith, leb-false, leb-true, le-leb}
use Rattle.std.proofs.lemmas.Bool.{lt-leb}
use Rattle.std.proofs.lemmas.Option.{none-some}
use Rattle.snmp_msg.specs.declared.message.Message.{Message}
use Rattle.scenario_data.specs.Content.{LoadContent}
use Rattle.requests.specs.Requests.{is_good, set_text}
use Rattle.master_load.specs.declared.download.Step.{Step}
use Rattle.master_load.specs.declared.download.Step.TheVariants.{Begin}
use Rattle.master_load.specs.declared.download.LoadFrame.{LoadFrame}
use Rattle.master_load.specs.Downloads.{loads_of, load_at, cells_in, parts_for, step_after, step_binds, frame_text}
use Rattle.master_load.specs.Loading.{LoadEvent, last_frame, answer, begin_where, begin_next, begun_by, step_due, go_on, next_frame, frame_of}
use Rattle.run_definition.specs.SessionRecord.{of_rounds}
use Rattle.run_definition.specs.SessionDialogue.{first_early}
use Rattle.run_definition.proofs.SessionLists.{early-parts, rounds-late, if-true, if-false}

abbrev pub round_of : LoadContent → ℕ
round_of l = l.round

-- the loads of that many first rounds
abbrev pub loads_to : ℕ → List LoadContent → List LoadContent
loads_to rounds loads = of_rounds round_of rounds loads

-- a load, where it is of these rounds
abbrev pub within : ℕ → Option LoadContent → Option LoadContent
within rounds None = None
within rounds (Some l) = if nat_le l.round rounds then Some l else None

own-late : (b : Bool) (rounds cab n : ℕ) (l : LoadContent) (loads : List LoadContent) → rounds < l.round
    → ((m : ℕ) → within rounds (slice_get (loads_of cab loads) m) ≡ None)
    → within rounds (slice_get (cond b (l ∷ loads_of cab loads) (loads_of cab loads)) n) ≡ None
own-late true rounds cab zero l loads behind ih = if-false (nat_le l.round rounds) (Some l) None (lt-leb l.round rounds behind)
own-late true rounds cab (suc n) l loads behind ih = ih n
own-late false rounds cab n l loads behind ih = ih n

loads-late : (rounds cab place last : ℕ) (loads : List LoadContent) → first_early round_of place last loads ≡ None → rounds < last
    → (n : ℕ) → within rounds (slice_get (loads_of cab loads) n) ≡ None
loads-late rounds cab place last [] e late n = refl
loads-late rounds cab place last (l ∷ loads) e late n =
    let parts = early-parts round_of place last l loads e in
    let behind : rounds < l.round = omega (arith, parts.first, late) in
    own-late (l.cabinet == cab) rounds cab n l loads behind (loads-late rounds cab (place + 1) l.round loads parts.others behind)

own-kept : (c : Bool) (rounds cab n : ℕ) (l : LoadContent) (loads : List LoadContent) → nat_le l.round rounds ≡ true
    → ((m : ℕ) → slice_get (loads_of cab (loads_to rounds loads)) m ≡ within rounds (slice_get (loads_of cab loads) m))
    → slice_get (cond c (l ∷ loads_of cab (loads_to rounds loads)) (loads_of cab (loads_to rounds loads))) n
    ≡ within rounds (slice_get (cond c (l ∷ loads_of cab loads) (loads_of cab loads)) n)
own-kept true rounds cab zero l loads is ih = sym (if-true (nat_le l.round rounds) (Some l) None is)
own-kept true rounds cab (suc n) l loads is ih = ih n
own-kept false rounds cab n l loads is ih = ih n

load-kept : (b : Bool) (rounds cab n place last : ℕ) (l : LoadContent) (loads : List LoadContent) → nat_le l.round rounds ≡ b
    → first_early round_of place last (l ∷ loads) ≡ None
    → ((m : ℕ) → slice_get (loads_of cab (loads_to rounds loads)) m ≡ within rounds (slice_get (loads_of cab loads) m))
    → slice_get (loads_of cab (cond b (l ∷ loads_to rounds loads) (loads_to rounds loads))) n ≡ within rounds (slice_get (loads_of cab (l ∷ loads)) n)
load-kept true rounds cab n place last l loads is e ih = own-kept (l.cabinet == cab) rounds cab n l loads is ih
load-kept false rounds cab n place last l loads is e ih =
    let parts = early-parts round_of place last l loads e in
    let behind : rounds < l.round = leb-false l.round rounds is in
    ap (λ (xs : List LoadContent). slice_get (loads_of cab xs) n) (rounds-late round_of rounds (place + 1) l.round loads parts.others behind)
    ∙ sym (own-late (l.cabinet == cab) rounds cab n l loads behind (loads-late rounds cab (place + 1) l.round loads parts.others behind))

loads-kept : (rounds cab place last : ℕ) (loads : List LoadContent) → first_early round_of place last loads ≡ None
    → (n : ℕ) → slice_get (loads_of cab (loads_to rounds loads)) n ≡ within rounds (slice_get (loads_of cab loads) n)
loads-kept rounds cab place last [] e n = refl
loads-kept rounds cab place last (l ∷ loads) e n =
    let parts = early-parts round_of place last l loads e in
    load-kept (nat_le l.round rounds) rounds cab n place last l loads refl e (loads-kept rounds cab (place + 1) l.round loads parts.others)

-- ---- frames of downloads

-- the frame goes to the cabinet, and its load is the same where later ones are left out
pub record Agrees (rounds cab : ℕ) (loads : List LoadContent) (frame : LoadFrame) : Type 0 where
  pub own : frame.cab ≡ cab
  pub same : load_at (loads_of cab (loads_to rounds loads)) frame.load ≡ load_at (loads_of cab loads) frame.load

abbrev pub AgreesIf : ℕ → ℕ → List LoadContent → Option LoadFrame → Type 0
AgreesIf rounds cab loads None = Unit {0}
AgreesIf rounds cab loads (Some frame) = Agrees rounds cab loads frame

one-begin : (b : Bool) (rounds cab round begun : ℕ) (id : ℤ) (l : LoadContent) → nat_le l.round rounds ≡ b → round ≤ rounds
    → begin_where cab round id begun (if b then Some l else None) ≡ begin_where cab round id begun (Some l)
one-begin true rounds cab round begun id l is before = refl
one-begin false rounds cab round begun id l is before =
    let behind : rounds < l.round = leb-false l.round rounds is in
    let later : round < l.round = omega (arith, behind, before) in
    sym (if-false (nat_le l.round round) (Some (frame_of cab (begun + 1) id Begin)) None (lt-leb l.round round later))

begin-within : (rounds cab round begun : ℕ) (id : ℤ) (o : Option LoadContent) → round ≤ rounds
    → begin_where cab round id begun (within rounds o) ≡ begin_where cab round id begun o
begin-within rounds cab round begun id None before = refl
begin-within rounds cab round begun id (Some l) before = one-begin (nat_le l.round rounds) rounds cab round begun id l refl before

begin-kept : (rounds cab round begun : ℕ) (id : ℤ) (loads : List LoadContent) → first_early round_of 0 0 loads ≡ None → round ≤ rounds
    → begin_next (loads_to rounds loads) cab round id begun ≡ begin_next loads cab round id begun
begin-kept rounds cab round begun id loads e before =
    ap (begin_where cab round id begun) (loads-kept rounds cab 0 0 loads e (begun + 1 - 1))
    ∙ begin-within rounds cab round begun id (load_at (loads_of cab loads) (begun + 1)) before

one-agrees : (b : Bool) (rounds cab round begun : ℕ) (id : ℤ) (loads : List LoadContent) (l : LoadContent) → nat_le l.round round ≡ b
    → first_early round_of 0 0 loads ≡ None → round ≤ rounds → load_at (loads_of cab loads) (begun + 1) ≡ Some l
    → AgreesIf rounds cab loads (if b then Some (frame_of cab (begun + 1) id Begin) else None)
one-agrees false rounds cab round begun id loads l is e before found = tt
one-agrees true rounds cab round begun id loads l is e before found =
    let due : l.round ≤ round = leb-true l.round round is in
    let kept : within rounds (Some l) ≡ Some l = if-true (nat_le l.round rounds) (Some l) None (le-leb l.round rounds (omega (arith, due, before))) in
    record {
      own = refl;
      same = loads-kept rounds cab 0 0 loads e (begun + 1 - 1) ∙ ap (within rounds) found ∙ kept ∙ sym found;
    }

begin-agrees : (rounds cab round begun : ℕ) (id : ℤ) (loads : List LoadContent) (o : Option LoadContent) → first_early round_of 0 0 loads ≡ None → round ≤ rounds
    → load_at (loads_of cab loads) (begun + 1) ≡ o → AgreesIf rounds cab loads (begin_where cab round id begun o)
begin-agrees rounds cab round begun id loads None e before found = tt
begin-agrees rounds cab round begun id loads (Some l) e before found = one-agrees (nat_le l.round round) rounds cab round begun id loads l refl e before found

step-kept : (rounds cab : ℕ) (loads : List LoadContent) (sent : Option LoadFrame) (m : Option Message) → AgreesIf rounds cab loads sent
    → step_due (loads_to rounds loads) cab sent m ≡ step_due loads cab sent m
step-kept rounds cab loads None m agrees = refl
step-kept rounds cab loads (Some frame) None agrees = refl
step-kept rounds cab loads (Some frame) (Some m) agrees =
    ap (λ (o : Option LoadContent). if is_good m then step_after (parts_for (length (cells_in o))) frame.step else None) agrees.same

go-kept : (rounds cab round begun : ℕ) (id : ℤ) (loads : List LoadContent) (o : Option Step) → first_early round_of 0 0 loads ≡ None → round ≤ rounds
    → go_on (loads_to rounds loads) cab round id begun o ≡ go_on loads cab round id begun o
go-kept rounds cab round begun id loads (Some step) e before = refl
go-kept rounds cab round begun id loads None e before = begin-kept rounds cab round begun id loads e before

pub next-kept : (rounds cab round : ℕ) (id : ℤ) (loads : List LoadContent) (past : List LoadEvent) → first_early round_of 0 0 loads ≡ None → round ≤ rounds
    → AgreesIf rounds cab loads (last_frame past) → next_frame (loads_to rounds loads) cab round id past ≡ next_frame loads cab round id past
next-kept rounds cab round id loads past e before agrees =
    ap (go_on (loads_to rounds loads) cab round id (begun_by (last_frame past))) (step-kept rounds cab loads (last_frame past) (answer past) agrees)
    ∙ go-kept rounds cab round (begun_by (last_frame past)) id loads (step_due loads cab (last_frame past) (answer past)) e before

go-agrees : (rounds cab round : ℕ) (id : ℤ) (loads : List LoadContent) (sent : Option LoadFrame) (m : Option Message) (o : Option Step)
    → first_early round_of 0 0 loads ≡ None → round ≤ rounds → AgreesIf rounds cab loads sent → step_due loads cab sent m ≡ o
    → AgreesIf rounds cab loads (go_on loads cab round id (begun_by sent) o)
go-agrees rounds cab round id loads sent m None e before agrees due =
    begin-agrees rounds cab round (begun_by sent) id loads (load_at (loads_of cab loads) (begun_by sent + 1)) e before refl
go-agrees rounds cab round id loads None m (Some step) e before agrees due = absurd (none-some step due)
go-agrees rounds cab round id loads (Some frame) m (Some step) e before agrees due = record { own = refl; same = agrees.same }

pub next-agrees : (rounds cab round : ℕ) (id : ℤ) (loads : List LoadContent) (past : List LoadEvent) → first_early round_of 0 0 loads ≡ None → round ≤ rounds
    → AgreesIf rounds cab loads (last_frame past) → AgreesIf rounds cab loads (next_frame loads cab round id past)
next-agrees rounds cab round id loads past e before agrees =
    go-agrees rounds cab round id loads (last_frame past) (answer past) (step_due loads cab (last_frame past) (answer past)) e before agrees refl

pub text-kept : (rounds cab : ℕ) (community : List ℕ) (loads : List LoadContent) (sent : Option LoadFrame) → AgreesIf rounds cab loads sent
    → option_map (frame_text community (loads_to rounds loads)) sent ≡ option_map (frame_text community loads) sent
text-kept rounds cab community loads None agrees = refl
text-kept rounds cab community loads (Some frame) agrees =
    let same : load_at (loads_of frame.cab (loads_to rounds loads)) frame.load ≡ load_at (loads_of frame.cab loads) frame.load =
    subst (λ (c : ℕ). load_at (loads_of c (loads_to rounds loads)) frame.load ≡ load_at (loads_of c loads) frame.load) (sym agrees.own) agrees.same in
    ap (λ (o : Option LoadContent). Some (set_text community frame.id (step_binds frame.load (cells_in o) frame.step))) same
