-- A log, line by line, as it is judged and reported.
use Rattle.std.proofs.Common.{◌≡◌, ◌≢◌, ◌<◌, ◌≤◌, ◌+◌, ◌⊎◌, ◌∙◌, inl, inr, nat_le, ℕ, Bool, true, false, if◌then◌else◌, List, [], ◌∷◌, ◌++◌, length, map, reverse, Option, Some, None, Result, Ok, Err, IfOk, OnOk, append_assoc, append-nil, refl, sym, ap, subst, arith}
use Rattle.std.proofs.lemmas.Bool.{lt-leb, le-leb}
use Rattle.std.proofs.lemmas.List.{map-append, length-append}
use Rattle.std.proofs.lemmas.List.Elements.{filter-append}
use Rattle.std.proofs.lemmas.Grind.{reverse_onto}
use Rattle.io_edge.specs.Edge.{Appends}
use Rattle.io_edge.proofs.Appending.{appended-nil}
use Rattle.trace_writer.specs.Bytes.{AppendsFront}
use Rattle.trace_writer.proofs.Writing.{some_behind}
use Rattle.trace_text.specs.declared.lines.Line.{Line}
use Rattle.trace_text.specs.Line.{line_text}
use Rattle.scenario_data.specs.Content.{ScenarioContent}
use Rattle.session_words.specs.Lines.{behind_first}
use Rattle.session_words.specs.Unread.{behind_told, GivesLine, PassesLong}
use Rattle.judge_laws.specs.declared.Terms.{Terms}
use Rattle.judge_session.specs.declared.log.LogJudge.{LogJudge}
use Rattle.judge_session.specs.Log.{IsLog, IsRead, IsFault, ended, fault_of, short_lines}
use Rattle.judge_session.specs.Report.{log_found, log_overruns, log_report, end_report, overruns_text, total_text}
use Rattle.judge_session.specs.Standing.{JudgeStands, Takes}
use Rattle.station.specs.declared.status.LogFault.{LogFault}
use Rattle.station.specs.declared.status.Status.{Status}
use Rattle.station.specs.declared.status.Status.TheVariants.{Done, Usage, Scenario, NotATrace, Overlap as BrokenOverlap, Unsafe, NotALog, ReadFault, WriteFault, NoMemory}
use Rattle.station.specs.Io.{io}
use Rattle.station.specs.Answers.{WritesText}
use Rattle.station.specs.Living.{AreAhead}
use Rattle.station.specs.Judged.{AreLogLines, HasHead, JudgesShort, LogEnds, Judged}
use Rattle.station.specs.Judging.{IsHeadRead, IsJudging, JudgesNext, RefusesNext, StopsReading}
use Rattle.station.proofs.Sessions.{appends_then, front_then, line_behind, long_line, more_ahead, none_ahead, whole_front}
use Rattle.judge_session.proofs.KnownTables.{safe_of_none, none_of_safe}
use Rattle.judge_session.proofs.KnownParts.{so-far-of-none, none-of-so-far}

-- the lines of a log, and one more: a line of at most 4,096 bytes counts, and a longer one is ignored
one_line : (line : List ℕ) (b : Bool) → nat_le (length line) 4096 ≡ b → short_lines (line ∷ []) ≡ (if b then line ∷ [] else [])
one_line line true e = rw e refl
one_line line false e = rw e refl

with_short : (bytes : List (List ℕ)) (line : List ℕ) (b : Bool) → nat_le (length line) 4096 ≡ b
    → short_lines (bytes ++ line ∷ []) ≡ short_lines bytes ++ (if b then line ∷ [] else [])
with_short bytes line b e =
    filter-append (λ l. nat_le (length l) 4096) bytes (line ∷ []) ∙ ap (λ (ls : List (List ℕ)). short_lines bytes ++ ls) (one_line line b e)

log_long : (s : ScenarioContent) (bytes : List (List ℕ)) (before : List Line) (line : List ℕ) → 4096 < length line → IsLog s bytes before → IsLog s (bytes ++ line ∷ []) before
log_long s bytes before line long is = record {
  texts = ap (map ended) (with_short bytes line false (lt-leb (length line) 4096 long) ∙ append-nil (short_lines bytes)) ∙ is.texts;
  are = is.are;
  follow = is.follow;
}

log_line : (s : ScenarioContent) (bytes : List (List ℕ)) (before : List Line) (line : List ℕ) (l : Line) → length line ≤ 4096 → IsRead line l
    → fault_of s before l ≡ None → IsLog s bytes before → IsLog s (bytes ++ line ∷ []) (l ∷ before)
log_line s bytes before line l short read follows is = record {
  texts =
      ap (map ended) (with_short bytes line true (le-leb (length line) 4096 short)) ∙ (map-append ended (short_lines bytes) (line ∷ [])
      ∙ (ap (λ (ts : List (List ℕ)). ts ++ ended line ∷ []) is.texts ∙ (ap (λ (t : List ℕ). map line_text (reverse before) ++ t ∷ []) read.text
      ∙ (sym (map-append line_text (reverse before) (l ∷ [])) ∙ ap (map line_text) (sym (reverse_onto before l []))))));
  are = (read.is, is.are);
  follow = (follows, is.follow);
}

-- the report at the end of a log isn't empty
some_total : (cabinets breaches : ℕ) → total_text cabinets breaches ≢ []
unfolding total_text
some_total cabinets breaches = λ none. cc none

some_end : (s : ScenarioContent) (terms : Terms) (before : List Line) → end_report s terms before ≢ []
some_end s terms before =
    some_behind (overruns_text (log_overruns s terms before)) (total_text (length s.cabinets) (length (log_found s terms before)))
    (some_total (length s.cabinets) (length (log_found s terms before)))

module _ (s : ScenarioContent) (terms : Terms) (before : List Line) where
  -- a line was taken
  pub next_taken : (judge : LogJudge) (ahead behind : Option (List ℕ)) (line text : List ℕ) (over : Bool) → Takes judge s terms before line [] text
      → GivesLine ahead behind line → length line ≤ 4096 → over ≡ false → JudgesNext over s terms before judge ahead behind text
  next_taken judge ahead behind line text over takes gives short on = inl (record {
    line = line;
    next = gives;
    after = takes.line ∷ before;
    log = λ bytes is. log_line s bytes before line takes.line short takes.read takes.on.follows is;
    stands = takes.on.stands;
    report = ap (λ (t : List ℕ). log_report s terms before ++ t) (sym takes.on.report);
    over_is = on;
  })

  -- a longer line is ignored
  pub next_long : (judge : LogJudge) (ahead behind : Option (List ℕ)) (text : List ℕ) (over : Bool) → PassesLong ahead behind → JudgeStands judge s terms before
      → text ≡ [] → over ≡ false → JudgesNext over s terms before judge ahead behind text
  next_long judge ahead behind text over passes stands nothing on =
      let (line, next, long) = long_line ahead behind passes in
      inl (record {
        line = line;
        next = next;
        after = before;
        log = λ bytes is. log_long s bytes before line long is;
        stands = stands;
        report = sym (ap (λ (t : List ℕ). log_report s terms before ++ t) nothing ∙ append-nil (log_report s terms before));
        over_is = on;
      })

-- the next line is judged: the log goes on, has ended, or its report stopped short
module _ (s : ScenarioContent) (terms : Terms) (from judge : LogJudge) (left ahead behind old mid new : Option (List ℕ)) (text : List ℕ) (number : ℕ)
    (is : IsJudging left ahead old mid s terms from number)
  where
    two_values : (b : Bool) → b ≡ true → b ≡ false → ⊥
    two_values b one other = cc

    pub judge_on : (over : Bool) → JudgesNext over s terms is.before judge ahead behind text → over ≡ false → Appends mid new text
        → IsJudging left behind old new s terms judge (number + 1)
    judge_on over (inl line) on written = record {
      bytes = is.bytes ++ line.line ∷ [];
      before = line.after;
      asked = line_behind left ahead behind is.bytes line.line is.asked line.next;
      log = line.log is.bytes is.log;
      stands = line.stands;
      number_is =
          let many : length (is.bytes ++ line.line ∷ []) ≡ length is.bytes + 1 = length-append is.bytes (line.line ∷ []) in
          let last : number ≡ length is.bytes + 2 = is.number_is in
          omega (arith, many, last);
      written = subst (λ (t : List ℕ). Appends old new t) (sym line.report) (appends_then old mid new _ _ is.written written);
    }
    judge_on over (inr end) on written = absurd (two_values over end.over_is on)

    pub judge_whole : (status : Status) (over : Bool) (unread unwritten : Type 0) → JudgesNext over s terms is.before judge ahead behind text → over ≡ true → Appends mid new text
        → ((before : List Line) → JudgeStands judge s terms before → ((status ≡ Done) × (log_found s terms before ≡ [])) ⊎ ((status ≡ Unsafe) × (log_found s terms before ≡ [] → ⊥)))
        → LogEnds terms status unread unwritten left old new s
    judge_whole status over unread unwritten (inl line) end written verdict = absurd (two_values over end line.over_is)
    judge_whole status over unread unwritten (inr last) end written verdict = by (verdict is.before last.stands)
      where
        whole : Appends mid new (end_report s terms is.before)
        whole = subst (λ (t : List ℕ). Appends mid new t) last.report written

        by : ((status ≡ Done) × (log_found s terms is.before ≡ [])) ⊎ ((status ≡ Unsafe) × (log_found s terms is.before ≡ [] → ⊥)) → LogEnds terms status unread unwritten left old new s
        by (inl (so, none)) = subst (λ (x : Status). LogEnds terms x unread unwritten left old new s) (sym so) (record {
          whole = record { lines = is.bytes; before = is.before; all = none_ahead left ahead is.bytes is.asked last.none; log = is.log; written = appends_then old mid new _ _ is.written whole };
          none = none;
          so_far = λ to_tick. so-far-of-none s is.before is.log.follow (subst (λ (x : Terms). log_found s x is.before ≡ []) to_tick none);
          safe = λ to_tick known. safe_of_none s is.before is.log.follow known (subst (λ (x : Terms). log_found s x is.before ≡ []) to_tick none);
        })
        by (inr (so, some)) = subst (λ (x : Status). LogEnds terms x unread unwritten left old new s) (sym so) (record {
          whole = record { lines = is.bytes; before = is.before; all = none_ahead left ahead is.bytes is.asked last.none; log = is.log; written = appends_then old mid new _ _ is.written whole };
          some = some;
          so_far = λ to_tick safe. some (subst (λ (x : Terms). log_found s x is.before ≡ []) (sym to_tick) (none-of-so-far s is.before is.log.follow safe));
          unsafe = λ to_tick known safe. some (subst (λ (x : Terms). log_found s x is.before ≡ []) (sym to_tick) (none_of_safe s is.before is.log.follow known safe));
        })

    -- a prefix of the report of the line, or of that at the end, was written
    pub judge_short : (over : Bool) → JudgesNext over s terms is.before judge ahead behind text → AppendsFront mid new text → JudgesShort terms left old new s
    judge_short over (inl line) front =
        let more = more_ahead left behind (is.bytes ++ line.line ∷ []) (line_behind left ahead behind is.bytes line.line is.asked line.next) in
        record {
          bytes = is.bytes ++ line.line ∷ [];
          before = line.after;
          rest = more.more;
          all = more.all;
          log = line.log is.bytes is.log;
          front = subst (λ (t : List ℕ). AppendsFront old new t)
              (sym (append_assoc (log_report s terms is.before) text (end_report s terms line.after)) ∙ ap (λ (t : List ℕ). t ++ end_report s terms line.after) (sym line.report))
              (front_then old mid new (log_report s terms is.before) text (end_report s terms line.after) is.written front);
        }
    judge_short over (inr end) front =
        let more = more_ahead left ahead is.bytes is.asked in
        record {
          bytes = is.bytes;
          before = is.before;
          rest = more.more;
          all = more.all;
          log = is.log;
          front = subst (λ (t : List ℕ). AppendsFront old new (log_report s terms is.before ++ t)) (append-nil text ∙ end.report)
              (front_then old mid new (log_report s terms is.before) text [] is.written front);
        }

    -- nothing more was written than the report of the lines that were judged
    pub judged_here : mid ≡ new → JudgesShort terms left old new s
    judged_here same =
        let more = more_ahead left ahead is.bytes is.asked in
        record {
          bytes = is.bytes;
          before = is.before;
          rest = more.more;
          all = more.all;
          log = is.log;
          front = whole_front old new (log_report s terms is.before) (end_report s terms is.before) (some_end s terms is.before) (sym same ∙ is.written);
        }

    -- the next line can't follow
    refused_here : (fault : LogFault) → mid ≡ new → RefusesNext fault number s is.before ahead behind → LogEnds terms (NotALog fault) (Unit {0}) (Unit {0}) left old new s
    refused_here fault same refuses =
        let more = more_ahead left behind (is.bytes ++ refuses.line ∷ []) (line_behind left ahead behind is.bytes refuses.line is.asked refuses.next) in
        record {
          lines = is.bytes ++ refuses.line ∷ more.more;
          place = length is.bytes;
          before = is.before;
          all = told_lines left ((is.bytes ++ refuses.line ∷ []) ++ more.more) (is.bytes ++ refuses.line ∷ more.more) (append_assoc is.bytes (refuses.line ∷ []) more.more) more.all;
          stops = record { front = is.bytes; line = refuses.line; rest = more.more; cut = refl; at = refl; log = is.log; short = refuses.short; why = refuses.is };
          number = refuses.number_is ∙ is.number_is;
          written = sym same ∙ is.written;
        }
      where
        told_lines : (o : Option (List ℕ)) (lines same : List (List ℕ)) → lines ≡ same → AreLogLines o lines → AreLogLines o same
        told_lines None lines same e so = tt
        told_lines (Some input) lines same e so = sym e ∙ so

    pub stops_here : (status : Status) (unread since unwritten : Type 0) → (unread → since) → mid ≡ new
        → StopsReading status unread (λ fault. (t : ScenarioContent) (by : Terms) (before : List Line) → JudgeStands from t by before → RefusesNext fault number t before ahead behind)
        → LogEnds terms status since unwritten left old new s
    stops_here (NotALog fault) unread since unwritten wider same stops = refused_here fault same (stops s terms is.before is.stands)
    stops_here ReadFault unread since unwritten wider same stops = (wider stops, judged_here same)
    stops_here NoMemory unread since unwritten wider same stops = judged_here same
    stops_here Done unread since unwritten wider same stops = absurd stops
    stops_here Usage unread since unwritten wider same stops = absurd stops
    stops_here (Scenario refusal) unread since unwritten wider same stops = absurd stops
    stops_here (NotATrace fault) unread since unwritten wider same stops = absurd stops
    stops_here (BrokenOverlap fault) unread since unwritten wider same stops = absurd stops
    stops_here Unsafe unread since unwritten wider same stops = absurd stops
    stops_here WriteFault unread since unwritten wider same stops = absurd stops

-- what a judge that was given a line says of the next one
pub judged_line : (result : Result Bool Status) (old new : LogJudge) (ahead behind : Option (List ℕ)) (line text : List ℕ) → GivesLine ahead behind line → length line ≤ 4096
    → IfOk result (λ over. over ≡ false)
    → OnOk result ((s : ScenarioContent) (terms : Terms) (before : List Line) → JudgeStands old s terms before → Takes new s terms before line [] text)
    → IfOk result (λ over. (s : ScenarioContent) (terms : Terms) (before : List Line) → JudgeStands old s terms before → JudgesNext over s terms before new ahead behind text)
judged_line (Ok over) old new ahead behind line text gives short on takes =
    λ s terms before stands. next_taken s terms before new ahead behind line text over (takes s terms before stands) gives short on
judged_line (Err status) old new ahead behind line text gives short on takes = tt

-- a log that goes on is still judged
pub still_judges : (over : Bool) (s : ScenarioContent) (terms : Terms) (before : List Line) (judge : LogJudge) (ahead behind : Option (List ℕ)) (text : List ℕ)
    → JudgesNext over s terms before judge ahead behind text → over ≡ false → (after : List Line) × JudgeStands judge s terms after
still_judges over s terms before judge ahead behind text (inl line) on = (line.after, line.stands)
still_judges over s terms before judge ahead behind text (inr end) on = (before, end.stands)

-- a write failed within a report
pub told_log : (terms : Terms) (status : Status) (text : List ℕ) (unread failed unwritten : Type 0) (left old mid new : Option (List ℕ)) (s : ScenarioContent) → (status ≡ Done → ⊥)
    → (failed → unwritten) → WritesText status text failed mid new → (AppendsFront mid new text → JudgesShort terms left old new s) → LogEnds terms status unread unwritten left old new s
told_log terms Done text unread failed unwritten left old mid new s other since told short = absurd (other refl)
told_log terms Usage text unread failed unwritten left old mid new s other since told short = absurd told
told_log terms (Scenario refusal) text unread failed unwritten left old mid new s other since told short = absurd told
told_log terms (NotATrace fault) text unread failed unwritten left old mid new s other since told short = absurd told
told_log terms (BrokenOverlap fault) text unread failed unwritten left old mid new s other since told short = absurd told
told_log terms Unsafe text unread failed unwritten left old mid new s other since told short = absurd told
told_log terms (NotALog fault) text unread failed unwritten left old mid new s other since told short = absurd told
told_log terms ReadFault text unread failed unwritten left old mid new s other since told short = absurd told
told_log terms WriteFault text unread failed unwritten left old mid new s other since told short = (since told.0, short told.1)
told_log terms NoMemory text unread failed unwritten left old mid new s other since told short = absurd told

-- a line that was given is refused
pub refuses_given : (status : Status) (number : ℕ) (unread : Type 0) (judge : LogJudge) (ahead behind : Option (List ℕ)) (line : List ℕ) → GivesLine ahead behind line
    → length line ≤ 4096
    → StopsReading status ⊥ (λ fault. (fault.line ≡ number) × ((s : ScenarioContent) (terms : Terms) (before : List Line) → JudgeStands judge s terms before → IsFault s before line fault.fault))
    → StopsReading status unread (λ fault. (s : ScenarioContent) (terms : Terms) (before : List Line) → JudgeStands judge s terms before → RefusesNext fault number s before ahead behind)
refuses_given (NotALog fault) number unread judge ahead behind line gives short (at, is) =
    λ s terms before stands. record { line = line; next = gives; short = short; is = is s terms before stands; number_is = at }
refuses_given ReadFault number unread judge ahead behind line gives short stops = absurd stops
refuses_given NoMemory number unread judge ahead behind line gives short stops = tt
refuses_given Done number unread judge ahead behind line gives short stops = absurd stops
refuses_given Usage number unread judge ahead behind line gives short stops = absurd stops
refuses_given (Scenario refusal) number unread judge ahead behind line gives short stops = absurd stops
refuses_given (NotATrace fault) number unread judge ahead behind line gives short stops = absurd stops
refuses_given (BrokenOverlap fault) number unread judge ahead behind line gives short stops = absurd stops
refuses_given Unsafe number unread judge ahead behind line gives short stops = absurd stops
refuses_given WriteFault number unread judge ahead behind line gives short stops = absurd stops

-- a read failed, or memory ran out
pub stops_unread : (status : Status) (unread : Type 0) (Refuses : LogFault → Type 0) → ((status ≡ ReadFault) × unread) ⊎ (status ≡ NoMemory) → StopsReading status unread Refuses
stops_unread status unread Refuses (inl (is, failed)) = subst (λ (x : Status). StopsReading x unread Refuses) (sym is) failed
stops_unread status unread Refuses (inr is) = subst (λ (x : Status). StopsReading x unread Refuses) (sym is) tt

-- no line that wasn't judged ends well
pub never_done : (status : Status) (unread : Type 0) (Refuses : LogFault → Type 0) → StopsReading status unread Refuses → status ≡ Done → ⊥
never_done status unread Refuses stops is = let none : StopsReading Done unread Refuses = subst (λ (x : Status). StopsReading x unread Refuses) is stops in none

-- no line was judged yet
pub at_head : (left ahead behind old : Option (List ℕ)) (s : ScenarioContent) (terms : Terms) (judge : LogJudge) → IsHeadRead left behind s → ahead ≡ behind
    → JudgeStands judge s terms [] → IsJudging left ahead old old s terms judge 2
at_head left ahead behind old s terms judge head same stands = record {
  bytes = [];
  before = [];
  asked = all_ahead left ahead (same ∙ head.rest);
  log = record { texts = refl; are = tt; follow = tt };
  stands = stands;
  number_is = refl;
  written = sym (appended-nil old);
}
  where
    all_ahead : (left ahead : Option (List ℕ)) → ahead ≡ behind_told left → AreAhead left ahead []
    all_ahead None ahead so = tt
    all_ahead (Some input) ahead so = (behind_first input, so, refl)

-- how the judging of the rest ended is how the whole did
pub ends_judged : (terms : Terms) (status : Status) (left ends old new : Option (List ℕ)) (unread since unwritten put : Type 0) (s : ScenarioContent) → HasHead left s
    → (unread → since) → (unwritten → put) → LogEnds terms status unread unwritten left old new s → Judged terms status (io left ends since old new put)
ends_judged terms Done left ends old new unread since unwritten put s head wider more ended = record { scenario = s; head = head; ends = ended }
ends_judged terms Unsafe left ends old new unread since unwritten put s head wider more ended = record { scenario = s; head = head; ends = ended }
ends_judged terms (NotALog fault) left ends old new unread since unwritten put s head wider more ended = record { scenario = s; head = head; ends = ended }
ends_judged terms ReadFault left ends old new unread since unwritten put s head wider more ended =
    (wider ended.0, inr (record { scenario = s; head = head; ends = (wider ended.0, ended.1) }))
ends_judged terms WriteFault left ends old new unread since unwritten put s head wider more ended = record { scenario = s; head = head; ends = (more ended.0, ended.1) }
ends_judged terms NoMemory left ends old new unread since unwritten put s head wider more ended = inr (record { scenario = s; head = head; ends = ended })
ends_judged terms Usage left ends old new unread since unwritten put s head wider more ended = absurd ended
ends_judged terms (Scenario refusal) left ends old new unread since unwritten put s head wider more ended = absurd ended
ends_judged terms (NotATrace fault) left ends old new unread since unwritten put s head wider more ended = absurd ended
ends_judged terms (BrokenOverlap fault) left ends old new unread since unwritten put s head wider more ended = absurd ended
