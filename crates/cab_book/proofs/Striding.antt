-- Ticks one after another: what they give, and what the cabinet has reached.
use Rattle.std.proofs.Common.{◌≡◌, ◌≤◌, ◌<◌, ℕ, zero, suc, ◌+◌, ◌∙◌, Bool, false, if◌then◌else◌, List, [], ◌∷◌, ◌++◌, length, refl, sym, ap, subst, arith}
use Rattle.sig_types.specs.declared.frame.Frame.{Frame}
use Rattle.sig_tables.specs.Past.{History}
use Rattle.sig_tables.specs.Putting.{EachFits}
use Rattle.sig_tables.specs.Decide.{decide, ticked, past_at, frames, last_frame_of}
use Rattle.cab_book.specs.declared.control.Control.{Control}
use Rattle.cab_book.specs.Controls.{ControlStands, tick_count}
use Rattle.tick_context.specs.Strides.{ticks_more, is_told}
use Rattle.stage_txn.specs.Answers.{answered, kept, stage_state}
use Rattle.cabinet_history.specs.Installs.{FewInstalls}
use Rattle.cabinet_history.specs.CabinetHistory.{CabinetHistory}
use Rattle.cabinet_history.specs.Coming.{Coming, coming, history_of}
use Rattle.cabinet_history.specs.Frames.{tick_written}
use Rattle.cab_book.specs.declared.cabinet.Cabinet.{Cabinet}
use Rattle.cab_book.specs.CabinetStands.{CabinetKeeps, CabinetStands}
use Rattle.cab_book.specs.Ticks.{ticks_on, ticks_written}
use Rattle.cab_book.proofs.Showable.{ticked-shows}

-- what the cabinet history has reached by then
pub coming-on : (k : ℕ) (cabinet_history : CabinetHistory)
    → coming (ticks_on k cabinet_history) ≡ record { history = ticks_more k (history_of cabinet_history); calls = (coming cabinet_history).calls }
coming-on zero cabinet_history = refl
coming-on (suc k) cabinet_history = ap (λ (c : Coming). record { history = ticked c.history; calls = c.calls }) (coming-on k cabinet_history)

history-on : (k : ℕ) (cabinet_history : CabinetHistory) → history_of (ticks_on k cabinet_history) ≡ ticks_more k (history_of cabinet_history)
history-on k cabinet_history = ap (λ (c : Coming). c.history) (coming-on k cabinet_history)

community-on : (k : ℕ) (cabinet_history : CabinetHistory) → (ticks_on k cabinet_history).community ≡ cabinet_history.community
community-on zero cabinet_history = refl
community-on (suc k) cabinet_history = community-on k cabinet_history

-- where these ticks are all plain no frame has a line
none-written : (k : ℕ) (cabinet_history : CabinetHistory) → ((j : ℕ) → j ≤ k → is_told (history_of cabinet_history) j ≡ false) → ticks_written k cabinet_history ≡ []
none-written zero cabinet_history plain = refl
none-written (suc k) cabinet_history plain =
    let h = history_of cabinet_history in
    let here : is_told h (suc k) ≡ false = plain (suc k) (omega arith) in
    ap (λ (x : List (ℕ × Frame)). x ++ tick_written (history_of (ticks_on k cabinet_history))) (none-written k cabinet_history (λ j le. plain j (omega (arith, le))))
    ∙ ap tick_written (history-on k cabinet_history)
    ∙ ap (λ (b : Bool). if b then (length (frames (ticks_more k h)), decide (ticks_more k h)) ∷ [] else []) here

frames-on : (k : ℕ) (h : History) → length (frames (ticks_more k h)) ≡ length (frames h) + k
frames-on zero h = omega arith
frames-on (suc k) h = omega (arith, frames-on k h)

-- the frame of the last tick is written, where it has a line
pub stride-written : (m ticks : ℕ) (told : Bool) (next : Frame) (cabinet_history : CabinetHistory) → 1 ≤ m
    → ((k : ℕ) → k < m → is_told (history_of cabinet_history) k ≡ false) → told ≡ is_told (history_of cabinet_history) m
    → next ≡ last_frame_of (ticks_more m (history_of cabinet_history)) → ticks + 1 ≡ length (frames (history_of cabinet_history))
    → (if told then (ticks + m, next) ∷ [] else []) ≡ ticks_written m cabinet_history
stride-written zero ticks told next cabinet_history some plain line last many = absurd (omega (arith, some))
stride-written (suc k) ticks told next cabinet_history some plain line last many =
    let h = history_of cabinet_history in
    let number : ticks + suc k ≡ length (frames (ticks_more k h)) = omega (arith, frames-on k h, many) in
    let new : next ≡ decide (ticks_more k h) = last in
    ap (λ (b : Bool). if b then (ticks + suc k, next) ∷ [] else []) line
    ∙ ap (λ (n : ℕ). if is_told h (suc k) then (n, next) ∷ [] else []) number
    ∙ ap (λ (f : Frame). if is_told h (suc k) then (length (frames (ticks_more k h)), f) ∷ [] else []) new
    ∙ sym (ap tick_written (history-on k cabinet_history))
    ∙ sym (ap (λ (x : List (ℕ × Frame)). x ++ tick_written (history_of (ticks_on k cabinet_history))) (none-written k cabinet_history (λ j le. plain j (omega (arith, le)))))

-- ticks leave the tables and the version as they are
tables-on : (k : ℕ) (h : History) → (past_at (ticks_more k h)).tables ≡ (past_at h).tables
tables-on zero h = refl
tables-on (suc k) h = tables-on k h

version-on : (k : ℕ) (h : History) → (past_at (ticks_more k h)).version ≡ (past_at h).version
version-on zero h = refl
version-on (suc k) h = version-on k h

-- the cabinet with what its controller has become by that many ticks
abbrev pub with_ticks : Cabinet → Control → ℕ → Cabinet
with_ticks c k m = record { control = k; stage = c.stage; community = c.community; ticks = c.ticks + m; ask = c.ask }

stride-keeps : (c : Cabinet) (k : Control) (m : ℕ) (has : Coming) → 1 ≤ m → CabinetKeeps c has → ControlStands k (ticks_more m has.history)
    → tick_count k ≡ tick_count c.control + m
    → CabinetKeeps (with_ticks c k m) (record { history = ticks_more m has.history; calls = has.calls })
stride-keeps c k zero has some is stands counted = absurd (omega (arith, some))
stride-keeps c k (suc m) has some is stands counted =
    let fits : EachFits (past_at (ticks_more m has.history)).tables = subst EachFits (sym (tables-on m has.history)) is.sound.fits in
    let few : ℕ → Type 0 = λ v. FewInstalls v (kept (answered has.calls)) (stage_state (answered has.calls)) in
    record {
      control = stands;
      stage = is.stage;
      counted = omega (arith, counted, is.counted);
      sound = record {
        ticks = omega (arith, is.sound.ticks, frames-on (suc m) has.history);
        shows = ticked-shows k (past_at (ticks_more m has.history)) stands fits;
        fits = fits;
        begins = is.sound.begins;
        few = subst few (sym (version-on m has.history)) is.sound.few;
        ids = is.sound.ids;
      };
    }

pub stride-stands : (c : Cabinet) (k : Control) (m : ℕ) (cabinet_history : CabinetHistory) → 1 ≤ m → CabinetStands c cabinet_history
    → ControlStands k (ticks_more m (history_of cabinet_history)) → tick_count k ≡ tick_count c.control + m
    → CabinetStands (with_ticks c k m) (ticks_on m cabinet_history)
stride-stands c k m cabinet_history some is stands counted = record {
  community = is.community ∙ sym (community-on m cabinet_history);
  blank = is.blank;
  keeps = subst (CabinetKeeps (with_ticks c k m)) (sym (coming-on m cabinet_history)) (stride-keeps c k m (coming cabinet_history) some is.keeps stands counted);
}
