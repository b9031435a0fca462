-- What was seen of a cabinet of a trace, and what is to be reported of its overlaps.
use Rattle.std.proofs.Common.{◌≡◌, ◌≢◌, inl, inr, ℕ, ◌+◌, Bool, List, [], ◌∷◌, length, Result, Ok, Err, refl, sym, ◌∙◌, ap, subst, arith}
use Rattle.sig_types.specs.declared.frame.Frame.{Frame}
use Rattle.sig_tables.specs.declared.tables.Tables.{Tables}
use Rattle.sig_tables.specs.Past.{History}
use Rattle.sig_tables.specs.Decide.{frames, past_at}
use Rattle.trace_text.specs.declared.lines.Line.{Line}
use Rattle.safety_laws.specs.Safe.{Safe, told, intersection_of}
use Rattle.safety_laws.specs.Whole.{downloads}
use Rattle.safety_laws.specs.Written.{written, tables_of}
use Rattle.safety_laws.specs.TraceText.{AreLines}
use Rattle.safety_laws.specs.CabinetTold.{told_in, history_told}
use Rattle.safety_laws.proofs.Shown.{lines-show}
use Rattle.scenario_data.specs.Content.{CabinetContent, ScenarioContent}
use Rattle.scenario_data.specs.Opening.{opening_tables}
use Rattle.runnable.specs.Cabinets.{IsCabinet}
use Rattle.runnable.specs.Runnable.{Runnable}
use Rattle.cabinet_history.specs.Coming.{history_of}
use Rattle.cabinet_history.specs.Frames.{has_line}
use Rattle.cabinet_laws.proofs.Telling.{cabinet_history-tells}
use Rattle.run_definition.specs.CabinetState.{CabinetState, opened_cabinet_states, cabinet_states_after}
use Rattle.run_definition.specs.Lines.{run_lines}
use Rattle.run_definition.specs.Orders.{AreJournals}
use Rattle.run_definition.specs.Safe.{Kept}
use Rattle.run_definition.proofs.Streets.{Ended, drift_in, run-ended}
use Rattle.trace_laws.specs.Laws.{JournalsAreTold, TellsOfRun}
use Rattle.overlap_run.specs.declared.overlap.Timing.{Timing}
use Rattle.overlap_run.specs.Overlap.{timed}
use Rattle.overlap_run.specs.Text.{overlap_text}
use Rattle.overlap_run.specs.Parents.{green_at, AreFrames}
use Rattle.overlap_run.specs.declared.faults.OverlapFault.{OverlapFault}
use Rattle.overlap_run.specs.Rules.{verdict}
use Rattle.overlap_run.specs.Street.{CanOverlap, IsCovered, IsApart}
use Rattle.overlap_run.specs.Trace.{frames_told, frames_written, AreByVersion, IsToldOf, text_of}
use Rattle.trace_laws.specs.declared.seen.Seen.{Seen}
use Rattle.trace_laws.specs.Seen.{HasSeen, IsSeenOf}
use Rattle.command_words.specs.declared.command.Overlap.{Overlap}
use Rattle.overlap_report.specs.Overlaps.{HasEnded, AreInForce, AtCabinet, NoCabinet, times_of, verdict_of, BreaksRule, street_of, TellsOverlap}
use Rattle.overlap_report.specs.BySeen.{IsUnbroken, SaysOfOverlap}
use Rattle.overlap_report.proofs.Cabinets.{SomeOrNone, some-or-none, one-cabinet_state, one-by-version}

-- a fact of every overlap at a cabinet that lines have reported, where it breaks no rule
abbrev WhereUnbroken : (Timing → List ℕ → ℕ → (ℕ → Tables) → List Line → Type 0) → Type 0
WhereUnbroken Fact = (cab : ℕ) (tables : ℕ → Tables) (lines : List Line) (by_version : List Tables) (parents : List ℕ) (trail yellow red : ℕ)
    → IsToldOf cab tables lines by_version → verdict by_version parents trail yellow red ≡ Ok tt
    → Fact (timed trail yellow red) parents cab tables lines

-- what other crates have proved of traces, of the lines of runs, and of overlaps
pub record Laws : Type 0 where
  pub one_run : JournalsAreTold
  pub proper : (s : ScenarioContent) → Runnable s → (journals : List (List (List ℕ))) → AreJournals s journals → AreLines (run_lines s journals)
  pub can : WhereUnbroken (λ t parents cab tables lines. CanOverlap t parents (intersection_of cab tables lines) (downloads cab lines))
  pub covered : WhereUnbroken (λ t parents cab tables lines. (tick : ℕ) → IsCovered t parents (intersection_of cab tables lines) tick)
  pub apart : WhereUnbroken (λ t parents cab tables lines. (tick : ℕ) → IsApart t parents (intersection_of cab tables lines) tick)
  pub text : (t : Timing) (parents : List ℕ) (cab ticks : ℕ) (tables : ℕ → Tables) (lines : List Line) (shown : List (ℕ × Frame))
      → told cab lines ≡ frames_told shown → AreFrames shown ticks
      → overlap_text t (green_at parents shown) ticks ≡ text_of t parents cab tables lines ticks
  pub rising : (h : History) (has : Frame → Frame → Bool) (ticks : ℕ) → ticks + 1 ≡ length (frames h) → AreFrames (frames_written has (frames h)) ticks
  pub tell : (h : History) (has : Frame → Frame → Bool) → frames_told (frames_written has (frames h)) ≡ written has (frames h)
  pub versions : (h : History) (has : Frame → Frame → Bool) (cab : ℕ) (lines : List Line) → told_in cab lines ≡ history_told has h
      → downloads cab lines ≡ (past_at h).version

-- the run that the text gives
abbrev run_of : (text : List ℕ) (cab : ℕ) (seen : Seen) → HasSeen text cab seen → TellsOfRun text
run_of text cab seen hs = record {
  scenario = hs.scenario;
  journals = hs.journals;
  told = hs.told;
  runs = hs.runs;
  are = hs.are;
  text_is = hs.text_is;
  kept = hs.kept;
}

-- a cabinet of the trace of which all was seen: what it came to, what its lines reported, and that the frames are those
-- that have a line
record Found (text : List ℕ) (cab : ℕ) (seen : Seen) : Type 0 where
  run : TellsOfRun text
  cabinet : CabinetContent
  end : CabinetState
  own : IsCabinet run.scenario cab cabinet
  ended : HasEnded run.scenario run.journals cab end
  all : seen.ticks + 1 ≡ length (frames (history_of end.cabinet_history))
  lines_told : IsToldOf cab (tables_of (history_of end.cabinet_history)) run.kept.lines seen.tables.items
  shown : told cab run.kept.lines ≡ frames_told seen.frames.items
  rise : AreFrames seen.frames.items seen.ticks

found-at : Laws → (text : List ℕ) (cab : ℕ) (seen : Seen) (hs : HasSeen text cab seen) (c : CabinetContent) → IsCabinet hs.scenario cab c → Found text cab seen
found-at laws text cab seen hs c is =
    let e : Ended hs.scenario hs.journals cab c = run-ended hs.scenario hs.journals cab c hs.are is in
    let k : Kept hs.scenario hs.journals hs.kept.lines cab c = hs.kept.kept cab c is in
    let h : History = history_of e.end.cabinet_history in
    let all_seen : IsSeenOf seen h = hs.own c e.end is e.come in
    let lines : run_lines hs.scenario hs.journals ≡ hs.kept.lines =
    hs.kept.its.only (run_lines hs.scenario hs.journals) (laws.proper hs.scenario hs.runs hs.journals hs.are) hs.text_is in
    let tells : told_in cab hs.kept.lines ≡ history_told has_line h =
    ap (told_in cab) (sym lines) ∙ e.told ∙ cabinet_history-tells e.end.cabinet_history (opening_tables c) (drift_in c) e.opens in
    let same : k.end ≡ e.end =
    one-cabinet_state cab 1 k.end e.end (cabinet_states_after hs.scenario (opened_cabinet_states hs.scenario hs.scenario.cabinets) hs.journals) k.come e.come in
    record {
      run = run_of text cab seen hs;
      cabinet = c;
      end = e.end;
      own = is;
      ended = e.come;
      all = all_seen.ticks;
      lines_told = record {
        safe = subst (λ (t : CabinetState). Safe (intersection_of cab (tables_of (history_of t.cabinet_history)) hs.kept.lines)) same k.safe;
        whole = k.whole;
        versions = subst (λ (n : ℕ). AreByVersion seen.tables.items (tables_of h) n) (sym (laws.versions h has_line cab hs.kept.lines tells)) all_seen.tables;
      };
      shown = lines-show cab hs.kept.lines h has_line tells ∙ sym (laws.tell h has_line) ∙ ap frames_told (sym all_seen.frames);
      rise = subst (λ (fs : List (ℕ × Frame)). AreFrames fs seen.ticks) (sym all_seen.frames) (laws.rising h has_line seen.ticks all_seen.ticks);
    }

found : Laws → (text : List ℕ) (cab : ℕ) (seen : Seen) → HasSeen text cab seen → seen.tables.items ≢ [] → Found text cab seen
found laws text cab seen hs some = from (some-or-none cab 1 hs.scenario.cabinets)
  where
    from : SomeOrNone cab 1 hs.scenario.cabinets → Found text cab seen
    from (inl (c, is)) = found-at laws text cab seen hs c is
    from (inr none) = absurd (some (hs.none none))

-- ---- rules that are broken

abbrev refused : OverlapFault → Result (Unit {0}) OverlapFault
refused f = Err f

pub fault-not-ok : (f : OverlapFault) (r : Result (Unit {0}) OverlapFault) → r ≡ Err f → r ≢ Ok tt
fault-not-ok f r e ok = differ f (sym e ∙ ok)
  where
    differ : (g : OverlapFault) → refused g ≢ Ok tt
    differ g = grind arith

-- and one fault is reported
pub one-fault : (f g : OverlapFault) (r : Result (Unit {0}) OverlapFault) → r ≡ Err f → r ≡ Err g → f ≡ g
one-fault f g r e d = same (sym e ∙ d)
  where
    same : refused f ≡ refused g → f ≡ g
    same h = cc

-- tables by which no rule is broken are some
some-tables : (tables : List Tables) (asked : Overlap) → verdict_of tables asked ≡ Ok tt → tables ≢ []
some-tables [] asked ok = absurd (fault-not-ok _ _ refl ok)
some-tables (t ∷ tables) asked ok = λ none. absurd (let empty : length (t ∷ tables) ≡ 0 = ap length none in omega (arith, empty))

-- the tables that were in force are those that were seen
same-tables : (text : List ℕ) (cab : ℕ) (seen : Seen) (hs : HasSeen text cab seen) (tables : List Tables) → AreInForce hs.scenario hs.journals cab tables
    → tables ≡ seen.tables.items
same-tables text cab seen hs tables (AtCabinet c end is come are) =
    one-by-version tables seen.tables.items (tables_of (history_of end.cabinet_history)) (past_at (history_of end.cabinet_history)).version are (hs.own c end is come).tables
same-tables text cab seen hs tables (NoCabinet none e) = e ∙ sym (hs.none none)

in-force : (text : List ℕ) (cab : ℕ) (seen : Seen) (hs : HasSeen text cab seen) → AreInForce hs.scenario hs.journals cab seen.tables.items
in-force text cab seen hs = from (some-or-none cab 1 hs.scenario.cabinets)
  where
    from : SomeOrNone cab 1 hs.scenario.cabinets → AreInForce hs.scenario hs.journals cab seen.tables.items
    from (inl (c, is)) =
        let k : Kept hs.scenario hs.journals hs.kept.lines cab c = hs.kept.kept cab c is in
        AtCabinet c k.end is k.come (hs.own c k.end is k.come).tables
    from (inr none) = NoCabinet none (hs.none none)

breaks : (text : List ℕ) (asked : Overlap) (seen : Seen) → HasSeen text asked.cabinet seen → (fault : OverlapFault)
    → verdict_of seen.tables.items asked ≡ Err fault → BreaksRule text asked fault
breaks text asked seen hs fault is = record {
  run = run_of text asked.cabinet seen hs;
  tables = seen.tables.items;
  in_force = in-force text asked.cabinet seen hs;
  broken = is;
}

due : Laws → (text : List ℕ) (asked : Overlap) (seen : Seen) → HasSeen text asked.cabinet seen → (fault : OverlapFault)
    → BreaksRule text asked fault → verdict_of seen.tables.items asked ≡ Err fault
due laws text asked seen hs fault b =
    let (one, order) = laws.one_run hs.scenario b.run.scenario hs.journals b.run.journals hs.told b.run.told hs.are b.run.are (sym hs.text_is ∙ b.run.text_is) in
    let mine : AreInForce hs.scenario b.run.journals asked.cabinet b.tables =
    subst (λ (s : ScenarioContent). AreInForce s b.run.journals asked.cabinet b.tables) (sym one) b.in_force in
    let here : AreInForce hs.scenario hs.journals asked.cabinet b.tables =
    subst (λ (js : List (List (List ℕ))). AreInForce hs.scenario js asked.cabinet b.tables) (sym order) mine in
    ap (λ (ts : List Tables). verdict_of ts asked) (sym (same-tables text asked.cabinet seen hs b.tables here)) ∙ b.broken

-- ---- overlaps that break none

module _ (laws : Laws) (text : List ℕ) (asked : Overlap) (seen : Seen) (hs : HasSeen text asked.cabinet seen) where
  found-here : IsUnbroken seen asked → Found text asked.cabinet seen
  found-here ok = found laws text asked.cabinet seen hs (some-tables seen.tables.items asked ok)

  told-here : IsUnbroken seen asked → Found text asked.cabinet seen
      → TellsOverlap text asked (overlap_text (times_of asked) (green_at asked.parents.items seen.frames.items) seen.ticks)
  told-here ok f =
      let tables : ℕ → Tables = tables_of (history_of f.end.cabinet_history) in
      record {
        run = f.run;
        cabinet = f.cabinet;
        end = f.end;
        own = f.own;
        ended = f.ended;
        unbroken = λ fault b. fault-not-ok fault (verdict_of seen.tables.items asked) (due laws text asked seen hs fault b) ok;
        ticks = seen.ticks;
        all = f.all;
        written_is = laws.text (times_of asked) asked.parents.items asked.cabinet seen.ticks tables f.run.kept.lines seen.frames.items f.shown f.rise;
        covered = laws.covered asked.cabinet tables f.run.kept.lines seen.tables.items asked.parents.items asked.trail asked.yellow asked.red f.lines_told ok;
        apart = laws.apart asked.cabinet tables f.run.kept.lines seen.tables.items asked.parents.items asked.trail asked.yellow asked.red f.lines_told ok;
      }

  can-here : IsUnbroken seen asked → (f : Found text asked.cabinet seen)
      → CanOverlap (times_of asked) asked.parents.items (street_of asked.cabinet f.end f.run.kept.lines) (downloads asked.cabinet f.run.kept.lines)
  can-here ok f = laws.can asked.cabinet (tables_of (history_of f.end.cabinet_history)) f.run.kept.lines seen.tables.items
      asked.parents.items asked.trail asked.yellow asked.red f.lines_told ok

  pub says : SaysOfOverlap text asked seen
  says = record {
    breaks = breaks text asked seen hs;
    due = due laws text asked seen hs;
    tells = λ ok. told-here ok (found-here ok);
    frames = λ ok. (found-here ok).rise;
    phases = λ ok. (can-here ok (found-here ok)).phases;
    lasting = λ ok. (can-here ok (found-here ok)).lasting;
  }
