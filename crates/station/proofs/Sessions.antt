-- The answers of a session, line by line, as they are written.
use Rattle.std.proofs.Common.{◌≡◌, ◌≢◌, ◌<◌, ◌⊎◌, inl, inr, ℕ, Bool, true, false, List, [], ◌∷◌, ◌++◌, length, replicate, Option, Some, None, IfSome, Result, Ok, Err, IfOk, append_assoc, append-nil, if◌then◌else◌, refl, sym, ◌∙◌, ap, subst, arith}
use Rattle.std.proofs.lemmas.List.{length-replicate}
use Rattle.io_edge.specs.Edge.{appended, Appends}
use Rattle.io_edge.proofs.Appending.{appended-appended}
use Rattle.trace_writer.specs.Bytes.{AppendsFront}
use Rattle.trace_writer.proofs.Writing.{some_behind}
use Rattle.scenario_data.specs.Content.{ScenarioContent}
use Rattle.session_words.specs.Lines.{behind_first, whole_lines}
use Rattle.session_words.proofs.Cuts.{whole_lines-cut, whole_lines-none}
use Rattle.session_words.specs.Unread.{GivesLine, HasNoLine, PassesLong}
use Rattle.run_definition.specs.Session.{SessionHistory, opened_session, is_over}
use Rattle.run_definition.specs.SessionAnswers.{Answer, Lines, NotTaken, answer_to, answers_from, end_of_input_lines, next_session, open_lines}
use Rattle.run_definition.specs.SessionDialogue.{answer_text, answers_text, dot, requests_in, session_text}
use Rattle.live_session.specs.declared.session.Session.{Session}
use Rattle.live_session.specs.Standing.{SessionStands}
use Rattle.station.specs.declared.status.Status.{Status}
use Rattle.station.specs.declared.status.Status.TheVariants.{Done, Usage, Scenario, NotATrace, Overlap as BrokenOverlap, Unsafe, NotALog, ReadFault, WriteFault, NoMemory}
use Rattle.run_definition.specs.SessionLaws.{SessionIsRun}
use Rattle.station.specs.Io.{io}
use Rattle.station.specs.Answers.{WritesText}
use Rattle.station.specs.Lived.{Lived, LivesShort}
use Rattle.station.specs.Living.{AreAhead, IsAnswering, AnswersThis, AnswersNext, IsOpened, IsWhole, IsShortOf, Ends, StopsAtOpening}

-- the texts of answers, one list after another
text-append : (xs ys : List Answer) → answers_text (xs ++ ys) ≡ answers_text xs ++ answers_text ys
text-append [] ys = refl
text-append (x ∷ xs) ys = ap (λ t. answer_text x ++ t) (text-append xs ys) ∙ sym (append_assoc (answer_text x) (answers_text xs) (answers_text ys))

text-one : (x : Answer) → answers_text (x ∷ []) ≡ answer_text x
text-one x = append-nil (answer_text x)

-- the text of an answer isn't empty
some_answer : (x : Answer) → answer_text x ≢ []
some_answer (Lines lines) = some_behind _ dot (λ none. cc none)
some_answer (NotTaken untaken) = λ none. cc none

some_answers : (x : Answer) (xs : List Answer) → answers_text (x ∷ xs) ≢ []
some_answers x xs = some_before (answer_text x) (answers_text xs) (some_answer x)
  where
    some_before : {A : Type 0} (front rest : List A) → front ≢ [] → front ++ rest ≢ []
    some_before [] rest some = absurd (some refl)
    some_before (y ∷ front) rest some = λ none. cc none

-- whatever lines are ahead, something is still to be answered
some_ahead : (s : ScenarioContent) (h : SessionHistory) (lines : List (List ℕ)) → answers_text (answers_from s h lines) ≢ []
some_ahead s h [] = some_answers (Lines (end_of_input_lines s h)) []
some_ahead s h (line ∷ lines) =
    some_answers (answer_to s h line) (if is_over s (next_session s h line) then [] else answers_from s (next_session s h line) lines)

-- the requests of the input are some lines, and these after them
pub record MoreAhead (left : Option (List ℕ)) (lines : List (List ℕ)) : Type 0 where
  pub more : List (List ℕ)
  pub all : IfSome left (λ input. lines ++ more ≡ requests_in input)

pub more_ahead : (left ahead : Option (List ℕ)) (lines : List (List ℕ)) → AreAhead left ahead lines → MoreAhead left lines
more_ahead None ahead lines are = record { more = []; all = tt }
more_ahead (Some input) ahead lines (rest, told, are) = record { more = whole_lines rest; all = sym are }

-- with a line given, the others are still ahead
pub line_behind : (left ahead behind : Option (List ℕ)) (lines : List (List ℕ)) (line : List ℕ) → AreAhead left ahead lines → GivesLine ahead behind line
    → AreAhead left behind (lines ++ line ∷ [])
line_behind None ahead behind lines line are gives = tt
line_behind (Some input) ahead behind lines line (rest, told, are) gives =
    let (later, so, cut) = subst (λ (o : Option (List ℕ)). GivesLine o behind line) told gives in (
      later,
      so,
      are ∙ ap (λ (bytes : List ℕ). lines ++ whole_lines bytes) cut.whole ∙ ap (λ (ls : List (List ℕ)). lines ++ ls) (whole_lines-cut line later cut.lacks)
          ∙ sym (append_assoc lines (line ∷ []) (whole_lines later)),
    )

-- with none ahead, they are all requests of the input
pub none_ahead : (left ahead : Option (List ℕ)) (lines : List (List ℕ)) → AreAhead left ahead lines → HasNoLine ahead → IfSome left (λ input. lines ≡ requests_in input)
none_ahead None ahead lines are none = tt
none_ahead (Some input) ahead lines (rest, told, are) none =
    let lacks = subst HasNoLine told none in
    sym (append-nil lines) ∙ ap (λ (ls : List (List ℕ)). lines ++ ls) (sym (whole_lines-none rest lacks)) ∙ sym are

-- one text after another
pub appends_then : (old mid new : Option (List ℕ)) (p q : List ℕ) → Appends old mid p → Appends mid new q → Appends old new (p ++ q)
appends_then old mid new p q one two = two ∙ ap (λ (o : Option (List ℕ)). appended o q) one ∙ appended-appended old p q

pub front_then : (old mid new : Option (List ℕ)) (p q later : List ℕ) → Appends old mid p → AppendsFront mid new q → AppendsFront old new (p ++ (q ++ later))
front_then old mid new p q later one (rest, some, (front, e, two)) = (
  rest ++ later,
  (λ none. some (empty_front rest later none)),
  (
    p ++ front,
    ap (λ (x : List ℕ). p ++ (x ++ later)) e ∙ ap (λ (x : List ℕ). p ++ x) (append_assoc front rest later) ∙ sym (append_assoc p front (rest ++ later)),
    appends_then old mid new p front one two,
  ),
)
  where
    empty_front : (xs ys : List ℕ) → xs ++ ys ≡ [] → xs ≡ []
    empty_front [] ys none = refl
    empty_front (x ∷ xs) ys none = absurd (cc none)

pub whole_front : (old new : Option (List ℕ)) (p q : List ℕ) → q ≢ [] → Appends old new p → AppendsFront old new (p ++ q)
whole_front old new p q some one = (q, some, (p, refl, one))

module _ (s : ScenarioContent) where
  -- the text of a session of some lines and more, of which the first were answered so
  text_so : (lines more : List (List ℕ)) (done : List Answer) (h : SessionHistory) → ((rest : List (List ℕ)) → answers_from s opened_session (lines ++ rest) ≡ done ++ answers_from s h rest)
      → session_text s (lines ++ more) ≡ answers_text (Lines (open_lines s) ∷ done) ++ answers_text (answers_from s h more)
  text_so lines more done h goes =
      ap (λ (xs : List Answer). answers_text (Lines (open_lines s) ∷ xs)) (goes more) ∙ text-append (Lines (open_lines s) ∷ done) (answers_from s h more)

  -- nothing was asked yet: the answer to the scenario is pending
  pub at_opening : (left ahead old new : Option (List ℕ)) → AreAhead left ahead [] → Appends old new (answer_text (Lines (open_lines s)))
      → IsAnswering left ahead old new s opened_session
  at_opening left ahead old new asked written = record {
    lines = [];
    done = [];
    asked = asked;
    goes = λ rest. refl;
    written = subst (λ (t : List ℕ). Appends old new t) (sym (text-one (Lines (open_lines s)))) written;
  }

  -- one more line is answered, and the session continues
  pub with_line : (left ahead behind old mid new : Option (List ℕ)) (h : SessionHistory) (line : List ℕ) → IsAnswering left ahead old mid s h
      → GivesLine ahead behind line → is_over s (next_session s h line) ≡ false → Appends mid new (answer_text (answer_to s h line))
      → IsAnswering left behind old new s (next_session s h line)
  with_line left ahead behind old mid new h line is gives on written = record {
    lines = is.lines ++ line ∷ [];
    done = is.done ++ answer_to s h line ∷ [];
    asked = line_behind left ahead behind is.lines line is.asked gives;
    goes = λ rest.
        ap (answers_from s opened_session) (append_assoc is.lines (line ∷ []) rest) ∙ is.goes (line ∷ rest)
        ∙ ap (λ (xs : List Answer). is.done ++ xs) (rw on refl)
        ∙ sym (append_assoc is.done (answer_to s h line ∷ []) (answers_from s (next_session s h line) rest));
    written = subst (λ (t : List ℕ). Appends old new t)
        (ap (λ (t : List ℕ). answers_text (Lines (open_lines s) ∷ is.done) ++ t) (sym (text-one (answer_to s h line))) ∙ sym (text-append (Lines (open_lines s) ∷ is.done) (answer_to s h line ∷ [])))
        (appends_then old mid new _ _ is.written written);
  }

  -- a line is the last that is answered: with it the session is over
  pub whole_by_line : (left ahead behind old mid new : Option (List ℕ)) (h : SessionHistory) (line : List ℕ) → IsAnswering left ahead old mid s h
      → GivesLine ahead behind line → is_over s (next_session s h line) ≡ true → Appends mid new (answer_text (answer_to s h line)) → IsWhole left old new s
  whole_by_line left ahead behind old mid new h line is gives over written =
      let ahead_of = more_ahead left behind (is.lines ++ line ∷ []) (line_behind left ahead behind is.lines line is.asked gives) in
      let later = ahead_of.more in
      let last : answers_text (answers_from s h (line ∷ later)) ≡ answer_text (answer_to s h line) = rw over (text-one (answer_to s h line)) in
      record {
        requests = (is.lines ++ line ∷ []) ++ later;
        asked = ahead_of.all;
        written = subst (λ (t : List ℕ). Appends old new t)
            (ap (λ (t : List ℕ). answers_text (Lines (open_lines s) ∷ is.done) ++ t) (sym last) ∙ sym (text_so is.lines (line ∷ later) is.done h is.goes)
            ∙ ap (session_text s) (sym (append_assoc is.lines (line ∷ []) later)))
            (appends_then old mid new _ _ is.written written);
      }

  -- the end of the input is answered
  pub whole_by_end : (left ahead old mid new : Option (List ℕ)) (h : SessionHistory) → IsAnswering left ahead old mid s h → HasNoLine ahead
      → Appends mid new (answer_text (Lines (end_of_input_lines s h))) → IsWhole left old new s
  whole_by_end left ahead old mid new h is none written = record {
    requests = is.lines;
    asked = none_ahead left ahead is.lines is.asked none;
    written = subst (λ (t : List ℕ). Appends old new t)
        (ap (λ (t : List ℕ). answers_text (Lines (open_lines s) ∷ is.done) ++ t) (sym (text-one (Lines (end_of_input_lines s h)))) ∙ sym (text_so is.lines [] is.done h is.goes)
        ∙ ap (session_text s) (append-nil is.lines))
        (appends_then old mid new _ _ is.written written);
  }

  -- no more than whole answers were written, and something is still to be answered
  pub short_here : (left ahead old new : Option (List ℕ)) (h : SessionHistory) → IsAnswering left ahead old new s h → IsShortOf left old new s
  short_here left ahead old new h is =
      let ahead_of = more_ahead left ahead is.lines is.asked in
      record {
        requests = is.lines ++ ahead_of.more;
        asked = ahead_of.all;
        front = subst (λ (t : List ℕ). AppendsFront old new t) (sym (text_so is.lines ahead_of.more is.done h is.goes))
            (whole_front old new _ _ (some_ahead s h ahead_of.more) is.written);
      }

  -- a prefix of the answer to a line was written
  pub short_in_line : (left ahead behind old mid new : Option (List ℕ)) (h : SessionHistory) (line : List ℕ) → IsAnswering left ahead old mid s h
      → GivesLine ahead behind line → AppendsFront mid new (answer_text (answer_to s h line)) → IsShortOf left old new s
  short_in_line left ahead behind old mid new h line is gives written =
      let ahead_of = more_ahead left behind (is.lines ++ line ∷ []) (line_behind left ahead behind is.lines line is.asked gives) in
      let later = ahead_of.more in
      record {
        requests = (is.lines ++ line ∷ []) ++ later;
        asked = ahead_of.all;
        front = subst (λ (t : List ℕ). AppendsFront old new t)
            (sym (text_so is.lines (line ∷ later) is.done h is.goes) ∙ ap (session_text s) (sym (append_assoc is.lines (line ∷ []) later)))
            (front_then old mid new _ _ _ is.written written);
      }

  -- a prefix of the answer to the end of the input was written
  pub short_in_end : (left ahead old mid new : Option (List ℕ)) (h : SessionHistory) → IsAnswering left ahead old mid s h → HasNoLine ahead
      → AppendsFront mid new (answer_text (Lines (end_of_input_lines s h))) → IsShortOf left old new s
  short_in_end left ahead old mid new h is none written = record {
    requests = is.lines;
    asked = none_ahead left ahead is.lines is.asked none;
    front = subst (λ (t : List ℕ). AppendsFront old new t)
        (sym (text_so is.lines [] is.done h is.goes) ∙ ap (session_text s) (append-nil is.lines))
        (front_then old mid new _ _ _ is.written written);
  }

-- a line that was skipped, since it has more than 4,096 bytes; where the source tells none, some such line
pub long_line : (before behind : Option (List ℕ)) → PassesLong before behind → (line : List ℕ) × GivesLine before behind line × (4096 < length line)
long_line None behind passes = (replicate 4097 0, passes, omega (arith, length-replicate {A = ℕ} 4097 0))
long_line (Some bytes) behind (line, rest, told, cut, long) = (line, (rest, told, cut), long)

-- what is answered to such a line is the answer to the next one
pub answers_long : (result : Result Bool Status) (old new : Session) (before behind : Option (List ℕ)) (text : List ℕ) → PassesLong before behind
    → IfOk result (λ over. (s : ScenarioContent) (h : SessionHistory) (line : List ℕ) → SessionStands old s h → 4096 < length line → AnswersThis over s h new line text)
    → IfOk result (λ over. (s : ScenarioContent) (h : SessionHistory) → SessionStands old s h → AnswersNext over s h new before behind text)
answers_long (Ok over) old new before behind text passes answers = λ s h stands.
    let (line, next, long) = long_line before behind passes in inl (record { line = line; next = next; answers = answers s h line stands long })
answers_long (Err status) old new before behind text passes answers = tt

-- one answer more: the session continues, is over, or stopped short in the answer
module _ (s : ScenarioContent) (h : SessionHistory) (session : Session) (left ahead behind old mid new : Option (List ℕ)) (text : List ℕ) where
  pub answer_on : (over : Bool) → IsAnswering left ahead old mid s h → AnswersNext over s h session ahead behind text → over ≡ false → Appends mid new text
      → (h_now : SessionHistory) × SessionStands session s h_now × IsAnswering left behind old new s h_now
  answer_on over is (inl line) on written =
      let goes : is_over s (next_session s h line.line) ≡ false = sym line.answers.over_is ∙ on in
      let told = subst (λ (t : List ℕ). Appends mid new t) line.answers.answer written in
      (next_session s h line.line, line.answers.stands on, with_line s left ahead behind old mid new h line.line is line.next goes told)
  answer_on over is (inr end) on written = absurd (true_or_false over end.over_is on)
    where
      true_or_false : (b : Bool) → b ≡ true → b ≡ false → ⊥
      true_or_false b one other = cc

  pub answer_whole : (over : Bool) → IsAnswering left ahead old mid s h → AnswersNext over s h session ahead behind text → over ≡ true → Appends mid new text
      → IsWhole left old new s
  answer_whole over is (inl line) ended written =
      whole_by_line s left ahead behind old mid new h line.line is line.next (sym line.answers.over_is ∙ ended) (subst (λ (t : List ℕ). Appends mid new t) line.answers.answer written)
  answer_whole over is (inr end) ended written = whole_by_end s left ahead old mid new h is end.none (subst (λ (t : List ℕ). Appends mid new t) end.answer written)

  pub answer_short : (over : Bool) → IsAnswering left ahead old mid s h → AnswersNext over s h session ahead behind text → AppendsFront mid new text → IsShortOf left old new s
  answer_short over is (inl line) written =
      short_in_line s left ahead behind old mid new h line.line is line.next (subst (λ (t : List ℕ). AppendsFront mid new t) line.answers.answer written)
  answer_short over is (inr end) written = short_in_end s left ahead old mid new h is end.none (subst (λ (t : List ℕ). AppendsFront mid new t) end.answer written)

-- the rest of a session ends with a fault of the source or because memory ran out: no more than whole answers were
-- written
pub stopped_ends : (status : Status) (unread unwritten : Type 0) (left old new : Option (List ℕ)) (s : ScenarioContent) → ((status ≡ ReadFault) × unread) ⊎ (status ≡ NoMemory)
    → IsShortOf left old new s → Ends status unread unwritten left old new s
stopped_ends status unread unwritten left old new s (inl (is, failed)) short = subst (λ (x : Status). Ends x unread unwritten left old new s) (sym is) (failed, short)
stopped_ends status unread unwritten left old new s (inr is) short = subst (λ (x : Status). Ends x unread unwritten left old new s) (sym is) short

-- it ends within an answer, since a write failed
pub told_ends : (status : Status) (text : List ℕ) (unread failed unwritten : Type 0) (left old mid new : Option (List ℕ)) (s : ScenarioContent) → (status ≡ Done → ⊥)
    → (failed → unwritten) → WritesText status text failed mid new → (AppendsFront mid new text → IsShortOf left old new s) → Ends status unread unwritten left old new s
told_ends Done text unread failed unwritten left old mid new s other since told short = absurd (other refl)
told_ends Usage text unread failed unwritten left old mid new s other since told short = absurd told
told_ends (Scenario refusal) text unread failed unwritten left old mid new s other since told short = absurd told
told_ends (NotATrace fault) text unread failed unwritten left old mid new s other since told short = absurd told
told_ends (BrokenOverlap fault) text unread failed unwritten left old mid new s other since told short = absurd told
told_ends Unsafe text unread failed unwritten left old mid new s other since told short = absurd told
told_ends (NotALog fault) text unread failed unwritten left old mid new s other since told short = absurd told
told_ends ReadFault text unread failed unwritten left old mid new s other since told short = absurd told
told_ends WriteFault text unread failed unwritten left old mid new s other since told short = (since told.0, short told.1)
told_ends NoMemory text unread failed unwritten left old mid new s other since told short = absurd told

-- with an answer after which the session isn't over it is still under way
pub still_stands : (over : Bool) (s : ScenarioContent) (h : SessionHistory) (session : Session) (ahead behind : Option (List ℕ)) (text : List ℕ)
    → AnswersNext over s h session ahead behind text → over ≡ false → (h_now : SessionHistory) × SessionStands session s h_now
still_stands over s h session ahead behind text (inl line) on = (next_session s h line.line, line.answers.stands on)
still_stands over s h session ahead behind text (inr end) on = absurd (true_or_false over end.over_is on)
  where
    true_or_false : (b : Bool) → b ≡ true → b ≡ false → ⊥
    true_or_false b one other = cc

-- a fault of the source, seen from before
pub since_first : (status : Status) (unread since : Type 0) → (unread → since) → ((status ≡ ReadFault) × unread) ⊎ (status ≡ NoMemory)
    → ((status ≡ ReadFault) × since) ⊎ (status ≡ NoMemory)
since_first status unread since wider (inl (is, failed)) = inl (is, wider failed)
since_first status unread since wider (inr is) = inr is

-- where the answer to the scenario was not written whole, a prefix of it was
pub opening_stops : (status : Status) (text : List ℕ) (failed : Type 0) (old new : Option (List ℕ)) (s : ScenarioContent) → (status ≡ Done → ⊥)
    → text ≡ answer_text (Lines (open_lines s)) → WritesText status text failed old new → StopsAtOpening status failed old new s
opening_stops Done text failed old new s other same told = absurd (other refl)
opening_stops Usage text failed old new s other same told = absurd told
opening_stops (Scenario refusal) text failed old new s other same told = absurd told
opening_stops (NotATrace fault) text failed old new s other same told = absurd told
opening_stops (BrokenOverlap fault) text failed old new s other same told = absurd told
opening_stops Unsafe text failed old new s other same told = absurd told
opening_stops (NotALog fault) text failed old new s other same told = absurd told
opening_stops ReadFault text failed old new s other same told = absurd told
opening_stops WriteFault text failed old new s other same told = (told.0, subst (λ (t : List ℕ). AppendsFront old new t) same told.1)
opening_stops NoMemory text failed old new s other same told = absurd told

pub opening_undone : (failed : Type 0) (old new : Option (List ℕ)) (s : ScenarioContent) (status : Status) → StopsAtOpening status failed old new s → status ≡ Done → ⊥
opening_undone failed old new s status stops is = let told : StopsAtOpening Done failed old new s = subst (λ (x : Status). StopsAtOpening x failed old new s) is stops in told

-- the requests of the input, if the source reports its bytes
requests_told : Option (List ℕ) → List (List ℕ)
requests_told None = []
requests_told (Some input) = requests_in input

are_told : (left : Option (List ℕ)) → IfSome left (λ input. requests_told left ≡ requests_in input)
unfolding requests_told
are_told None = tt
are_told (Some input) = refl

-- a prefix of the answer to the scenario is one of the whole session's text
front_of_whole : (old new : Option (List ℕ)) (p q : List ℕ) → AppendsFront old new p → AppendsFront old new (p ++ q)
front_of_whole old new p q (rest, some, (front, e, put)) =
    (rest ++ q, (λ none. some (empty_front rest q none)), (front, ap (λ (x : List ℕ). x ++ q) e ∙ append_assoc front rest q, put))
  where
    empty_front : (xs ys : List ℕ) → xs ++ ys ≡ [] → xs ≡ []
    empty_front [] ys none = refl
    empty_front (x ∷ xs) ys none = absurd (cc none)

-- nothing but the answer to the scenario was at hand
pub opening_lived : (status : Status) (left ends behind old new : Option (List ℕ)) (unread unwritten : Type 0) (s : ScenarioContent) → IsOpened left behind s
    → StopsAtOpening status unwritten old new s → Lived status (io left ends unread old new unwritten)
opening_lived Done left ends behind old new unread unwritten s opened stops = absurd stops
opening_lived Usage left ends behind old new unread unwritten s opened stops = absurd stops
opening_lived (Scenario refusal) left ends behind old new unread unwritten s opened stops = absurd stops
opening_lived (NotATrace fault) left ends behind old new unread unwritten s opened stops = absurd stops
opening_lived (BrokenOverlap fault) left ends behind old new unread unwritten s opened stops = absurd stops
opening_lived Unsafe left ends behind old new unread unwritten s opened stops = absurd stops
opening_lived (NotALog fault) left ends behind old new unread unwritten s opened stops = absurd stops
opening_lived ReadFault left ends behind old new unread unwritten s opened stops = absurd stops
opening_lived WriteFault left ends behind old new unread unwritten s opened stops = (
  stops.0,
  record {
    scenario = s;
    requests = requests_told left;
    input = record { line = opened.line; first = opened.first; base = opened.base; asked = are_told left };
    front = front_of_whole old new _ (answers_text (answers_from s opened_session (requests_told left))) stops.1;
  },
)
opening_lived NoMemory left ends behind old new unread unwritten s opened stops = inl stops

-- how the rest of a session ended is how the whole did
module _ (left ends behind old new : Option (List ℕ)) (s : ScenarioContent) (opened : IsOpened left behind s)
    (runs : (requests : List (List ℕ)) (compact : List ℕ) → SessionIsRun s requests compact)
  where
    lived_short : IsShortOf left old new s → LivesShort left old new
    lived_short short = record {
      scenario = s;
      requests = short.requests;
      input = record { line = opened.line; first = opened.first; base = opened.base; asked = short.asked };
      front = short.front;
    }

    pub ends_lived : (status : Status) (unread since unwritten put : Type 0) → (unread → since) → (unwritten → put) → Ends status unread unwritten left old new s
        → Lived status (io left ends since old new put)
    ends_lived Done unread since unwritten put wider more ended = record {
      scenario = s;
      requests = ended.requests;
      input = record { line = opened.line; first = opened.first; base = opened.base; asked = ended.asked };
      written = ended.written;
      run = runs ended.requests;
    }
    ends_lived Usage unread since unwritten put wider more ended = absurd ended
    ends_lived (Scenario refusal) unread since unwritten put wider more ended = absurd ended
    ends_lived (NotATrace fault) unread since unwritten put wider more ended = absurd ended
    ends_lived (BrokenOverlap fault) unread since unwritten put wider more ended = absurd ended
    ends_lived Unsafe unread since unwritten put wider more ended = absurd ended
    ends_lived (NotALog fault) unread since unwritten put wider more ended = absurd ended
    ends_lived ReadFault unread since unwritten put wider more ended = (wider ended.0, inr (lived_short ended.1))
    ends_lived WriteFault unread since unwritten put wider more ended = (more ended.0, lived_short ended.1)
    ends_lived NoMemory unread since unwritten put wider more ended = inr (lived_short ended)

-- after the first line all requests of the input are ahead
pub ahead_at_first : (left ahead behind : Option (List ℕ)) (s : ScenarioContent) → IsOpened left behind s → ahead ≡ behind → AreAhead left ahead []
ahead_at_first None ahead behind s opened same = tt
ahead_at_first (Some input) ahead behind s opened same = (behind_first input, same ∙ opened.rest, refl)
