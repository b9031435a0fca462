-- What is carried out leaves a cabinet that can be continued with.
use Rattle.std.proofs.Common.{◌≡◌, ◌≤◌, ◌<◌, ℕ, ◌∙◌, List, [], ◌∷◌, length, map, refl, sym, subst, Option, Some, None}
use Rattle.sig_types.specs.declared.notes.StageAnswer.{StageAnswer}
use Rattle.sig_types.specs.declared.notes.StageAnswer.TheVariants.{Staged, Repeated, Verified, Accepted, WrongToken, WrongPart, NotVerified, Refused}
use Rattle.sig_tables.specs.declared.tables.Tables.{Tables}
use Rattle.sig_tables.specs.declared.cells.Cell.{Cell}
use Rattle.sig_tables.specs.Cells.{Content}
use Rattle.sig_tables.specs.Putting.{EachFits, put_content}
use Rattle.sig_tables.specs.Past.{History, Moment}
use Rattle.sig_tables.specs.Looking.{last_moment}
use Rattle.sig_tables.specs.Clock.{clock_told}
use Rattle.sig_tables.specs.Decide.{past_at, frames}
use Rattle.stage_txn.specs.Calls.{Begin as BeginCall, Part as PartCall, Verify as VerifyCall, Finish as FinishCall, Deed, begin_deed, part_deed, verify_deed, finish_deed, kept_by, deeds}
use Rattle.stage_txn.specs.Answers.{answered, answer_to, staged, stage_state, kept}
use Rattle.stage_txn.proofs.InRange.{staged-fits}
use Rattle.agent.specs.declared.ask.Wish.{Wish}
use Rattle.agent.specs.declared.ask.Wish.TheVariants.{Get, Next, Direct, Begin, Part, Verify, Finish, Bad}
use Rattle.agent.specs.Asks.{CanBeCarriedOut}
use Rattle.cabinet_history.specs.Coming.{Coming, in_force, is_flashing, past_of, carried_out, installs, with_events}
use Rattle.cabinet_history.specs.Installs.{FewInstalls}
use Rattle.cab_book.specs.CabinetStands.{IsShowable, IsSound}
use Rattle.cabinet_history.proofs.Installing.{few-begin, few-part, few-verify, few-finish, version_after}
use Rattle.cab_book.proofs.Ordering.{orders-aside}

begin-kept : (id : ℕ) (t : Tables) (a : StageAnswer) (past : List Deed) → id ≤ 2147483647 → kept_by past ≤ 2147483647
    → kept_by (begin_deed id t a ∷ past) ≤ 2147483647
begin-kept id t Staged past new old = new
begin-kept id t Repeated past new old = old
begin-kept id t Verified past new old = old
begin-kept id t Accepted past new old = old
begin-kept id t WrongToken past new old = old
begin-kept id t (WrongPart n) past new old = old
begin-kept id t NotVerified past new old = old
begin-kept id t (Refused b) past new old = old

part-kept : (cells : List (Cell × Content)) (a : StageAnswer) (past : List Deed) → kept_by past ≤ 2147483647 → kept_by (part_deed cells a ∷ past) ≤ 2147483647
part-kept cells Staged past old = old
part-kept cells Repeated past old = old
part-kept cells Verified past old = old
part-kept cells Accepted past old = old
part-kept cells WrongToken past old = old
part-kept cells (WrongPart n) past old = old
part-kept cells NotVerified past old = old
part-kept cells (Refused b) past old = old

verify-kept : (a : StageAnswer) (past : List Deed) → kept_by past ≤ 2147483647 → kept_by (verify_deed a ∷ past) ≤ 2147483647
verify-kept Staged past old = old
verify-kept Repeated past old = old
verify-kept Verified past old = old
verify-kept Accepted past old = old
verify-kept WrongToken past old = old
verify-kept (WrongPart n) past old = old
verify-kept NotVerified past old = old
verify-kept (Refused b) past old = old

finish-kept : (a : StageAnswer) (past : List Deed) → kept_by past ≤ 2147483647 → kept_by (finish_deed a ∷ past) ≤ 2147483647
finish-kept Staged past old = old
finish-kept Repeated past old = old
finish-kept Verified past old = old
finish-kept Accepted past old = old
finish-kept WrongToken past old = old
finish-kept (WrongPart n) past old = old
finish-kept NotVerified past old = old
finish-kept (Refused b) past old = old

-- the clock that was given does not ask for tables
told-aside : (o : Option ℕ) (u v : Tables) (moments : List Moment) → clock_told o (last_moment u moments) ≡ clock_told o (last_moment v moments)
told-aside (Some time) u v moments = refl
told-aside None u v [] = refl
told-aside None u v (m ∷ moments) = refl

-- a history after the install of a finish that was answered so
record Installed (h : History) (t : Tables) (a : StageAnswer) : Type 0 where
  version : (past_at (with_events h (installs t a))).version ≡ version_after (past_at h).version a
  frames : length (frames (with_events h (installs t a))) ≡ length (frames h)
  shows : IsShowable (past_at (with_events h (installs t a)))
  fits : EachFits (past_at (with_events h (installs t a))).tables

installed : (h : History) (t : Tables) (a : StageAnswer) → IsShowable (past_at h) → EachFits (past_at h).tables → EachFits t → Installed h t a
installed h t Staged s old new = record { version = refl; frames = refl; shows = s; fits = old }
installed h t Repeated s old new = record { version = refl; frames = refl; shows = s; fits = old }
installed h t Verified s old new = record { version = refl; frames = refl; shows = s; fits = old }
installed h t Accepted s old new =
    record {
      version = refl;
      frames = refl;
      shows = record {
        clock = subst (λ (x : ℕ). x < 864000) (told-aside (past_at h).clock_set (past_at h).tables t (past_at h).moments) s.clock;
        counter = s.counter;
        target = s.target;
      };
      fits = new;
    }
installed h t WrongToken s old new = record { version = refl; frames = refl; shows = s; fits = old }
installed h t (WrongPart n) s old new = record { version = refl; frames = refl; shows = s; fits = old }
installed h t NotVerified s old new = record { version = refl; frames = refl; shows = s; fits = old }
installed h t (Refused b) s old new = record { version = refl; frames = refl; shows = s; fits = old }

pub carried-sound : (n : ℕ) (has : Coming) (wish : Wish) → CanBeCarriedOut wish → IsSound n has → IsSound n (carried_out has wish)
carried-sound n has Get can is = is
carried-sound n has Next can is = is
carried-sound n has (Bad status index) can is = is
carried-sound n has (Direct orders) can is =
    let a = orders-aside has.history orders.items can is.shows in
    record {
      ticks = is.ticks ∙ sym a.frames;
      shows = a.shows;
      fits = subst EachFits (sym a.tables) is.fits;
      begins = is.begins;
      few = subst (λ (v : ℕ). FewInstalls v (kept (answered has.calls)) (stage_state (answered has.calls))) (sym a.version) is.few;
      ids = is.ids;
    }
carried-sound n has (Begin id) can is = record {
  ticks = is.ticks;
  shows = is.shows;
  fits = is.fits;
  begins = (is.fits, is.begins);
  few = few-begin (past_of has).version id (in_force has) (answered has.calls) is.few;
  ids = begin-kept id (in_force has) (answer_to (answered has.calls) (BeginCall id (in_force has))) (deeds (answered has.calls)) can.1 is.ids;
}
carried-sound n has (Part id number puts) can is = record {
  ticks = is.ticks;
  shows = is.shows;
  fits = is.fits;
  begins = is.begins;
  few = few-part (past_of has).version id number (map put_content puts.items) (answered has.calls) is.few;
  ids = part-kept (map put_content puts.items) (answer_to (answered has.calls) (PartCall id number (map put_content puts.items))) (deeds (answered has.calls)) is.ids;
}
carried-sound n has (Verify id total) can is = record {
  ticks = is.ticks;
  shows = is.shows;
  fits = is.fits;
  begins = is.begins;
  few = few-verify (past_of has).version id total (in_force has) (is_flashing (past_of has)) (answered has.calls) can.0.0 is.few;
  ids = verify-kept (answer_to (answered has.calls) (VerifyCall id total (in_force has) (is_flashing (past_of has)))) (deeds (answered has.calls)) is.ids;
}
carried-sound n has (Finish id) can is =
    let call = FinishCall id (in_force has) (is_flashing (past_of has)) in
    let a = answer_to (answered has.calls) call in
    let i = installed has.history (staged (answered has.calls)) a is.shows is.fits (staged-fits has.calls is.begins) in
    record {
      ticks = is.ticks ∙ sym i.frames;
      shows = i.shows;
      fits = i.fits;
      begins = is.begins;
      few = subst (λ (v : ℕ). FewInstalls v (kept (answered (call ∷ has.calls))) (stage_state (answered (call ∷ has.calls)))) (sym i.version)
          (few-finish (past_of has).version id (in_force has) (is_flashing (past_of has)) (answered has.calls) is.few);
      ids = finish-kept a (deeds (answered has.calls)) is.ids;
    }
