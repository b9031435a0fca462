-- The whole text: what each cabinet shows at first, the rounds, the end; and the scenario before them.
use Rattle.std.proofs.Common.{◌≡◌, ◌≢◌, ◌<◌, ◌+◌, ◌-◌, ◌∙◌, ◌⊎◌, inl, inr, ℕ, zero, suc, List, [], ◌∷◌, ◌++◌, Result, Ok, Err, OnOk, length, drop, get_or, refl, sym, ap, subst, arith, append-nil}
use Rattle.std.proofs.lemmas.List.{at_drop_more, length-append}
use Rattle.sig_types.specs.declared.frame.Frame.{Frame}
use Rattle.sig_tables.specs.Decide.{last_frame_of}
use Rattle.trace_text.specs.declared.lines.Line.{Line}
use Rattle.trace_text.specs.declared.lines.Line.TheVariants.{S, Z}
use Rattle.trace_text.specs.IsLine.{IsLine}
use Rattle.trace_text.specs.Line.{line_text}
use Rattle.safety_laws.specs.TraceText.{lines_text}
use Rattle.scenario_data.specs.Content.{ScenarioContent}
use Rattle.scenario_read.specs.Answers.{IsScenario}
use Rattle.scenario_read.proofs.OneAnswer.{one-scenario}
use Rattle.cabinet_history.specs.CabinetHistory.{CabinetHistory}
use Rattle.cabinet_history.specs.Coming.{history_of}
use Rattle.cab_book.specs.declared.book.Book.{Book}
use Rattle.cab_book.specs.Books.{BookStands, cabinet_history_now}
use Rattle.run_definition.specs.CabinetState.{CabinetState, opened_cabinet_states, each_cabinet_state, cabinet_states_after}
use Rattle.run_definition.specs.Lines.{shown_line, opening_lines, round_lines, rounds_lines, rest_lines, run_text}
use Rattle.run_definition.specs.Orders.{AreMerges, AreJournals}
use Rattle.runnable.specs.Cabinets.{IsCabinet}
use Rattle.runnable.specs.Runnable.{Runnable}
use Rattle.trace_laws.specs.Text.{TellsAllKept}
use Rattle.round_run.specs.CabinetStates.{IsAt, AreAt}
use Rattle.round_run.specs.declared.rounds.ClosedLoop.{ClosedLoop}
use Rattle.round_run.specs.ClosedLoop.{Between}
use Rattle.trace_laws.specs.Traces.{Opens, IsTrace, IsCheckable}
use Rattle.trace_laws.specs.Faults.{first_piece, FirstFault, NoFirst, NoScenario}
use Rattle.trace_laws.specs.Script.{Script, Ends, Says, say, rounds_script, round_script, script_of, FaultsAt, Walks, Beyond}
use Rattle.trace_laws.specs.Laws.{FaultsAreDetermined, TracesHaveNoFault, TellsOfRun}
use Rattle.trace_check.specs.declared.faults.TraceFault.{TraceFault}
use Rattle.trace_check.specs.declared.faults.CheckFail.{CheckFail}
use Rattle.trace_check.specs.declared.faults.CheckFail.TheVariants.{NotATrace, NoMemory}
use Rattle.trace_check.specs.declared.places.Place.{Place}
use Rattle.trace_check.specs.Reading.{Fails, Leads, ReadsWhole}
use Rattle.trace_laws.specs.declared.seen.Seen.{Seen}
use Rattle.trace_laws.specs.Seen.{IsSeenOf, HasSeen}
use Rattle.trace_check.specs.Watching.{IsWatched}
use Rattle.trace_check.specs.Rounds.{RoundRead, RoundsSeen}
use Rattle.trace_check.specs.Checked.{TellsNone, Tells, RestSeen, TextSeen}
use Rattle.trace_laws.proofs.Walking.{stops-here, whole-is-trace, fault-is-first}
use Rattle.trace_check.specs.Expecting.{fails-on}
use Rattle.trace_check.proofs.Walking.{leads-here, leads-on}
use Rattle.trace_check.proofs.Taking.{said-text, texts-on, nothing-behind, after-round, merges-round, lines-round, after-many}
use Rattle.trace_check.proofs.Watched.{come-at, numbered-at, opened-many}

-- that many rounds were read, by journals that the text gives; what was seen is what the cabinets have reached by these
pub record RoundsSoFar (s : ScenarioContent) (first : List CabinetState) (start at : Place) (done : ℕ) (c : ClosedLoop) (watched : ℕ) (old now : Seen) : Type 0 where
  pub journals : List (List (List ℕ))
  pub many : length journals ≡ done
  pub merges : AreMerges s first journals
  pub text_is : start.left.now ≡ lines_text (rounds_lines s 1 first journals) ++ at.left.now
  pub between : Between s done (cabinet_states_after s first journals) c
  pub seen : IsWatched watched old first → IsWatched watched now (cabinet_states_after s first journals)
  pub leads : (n : ℕ) → done + n ≡ s.rounds → Leads (rounds_script s 1 s.rounds first) start (rounds_script s (done + 1) n (cabinet_states_after s first journals)) at

pub rounds-none : (s : ScenarioContent) (first : List CabinetState) (start : Place) (c : ClosedLoop) (watched : ℕ) (seen : Seen) → Between s 0 first c
    → RoundsSoFar s first start start 0 c watched seen seen
rounds-none s first start c watched seen between = record {
  journals = [];
  many = refl;
  merges = tt;
  text_is = refl;
  between = between;
  seen = λ is. is;
  leads = λ n e.
      let all : s.rounds ≡ n = omega (arith, e) in
      subst (λ (m : ℕ). Leads (rounds_script s 1 s.rounds first) start (rounds_script s 1 m first) start) all (leads-here (rounds_script s 1 s.rounds first) start);
}

module _ (s : ScenarioContent) (first : List CabinetState) (start at next : Place) (done : ℕ) (was new : ClosedLoop) (watched : ℕ) (old mid now : Seen)
    (so : RoundsSoFar s first start at done was watched old mid) (read : RoundRead s done (cabinet_states_after s first so.journals) at new watched mid now next) where
  come : each_cabinet_state s 1 (cabinet_states_after s first so.journals) read.journals ≡ cabinet_states_after s first (so.journals ++ read.journals ∷ [])
  come = sym (after-round s first so.journals read.journals)

  text-more : start.left.now ≡ lines_text (rounds_lines s 1 first (so.journals ++ read.journals ∷ [])) ++ next.left.now
  text-more =
      let number : done + 1 ≡ 1 + length so.journals = omega (arith, so.many) in
      texts-on (rounds_lines s 1 first so.journals) (round_lines s (done + 1) (cabinet_states_after s first so.journals) read.journals) start.left.now at.left.now next.left.now so.text_is read.text_is
      ∙ ap (λ (n : ℕ). lines_text (rounds_lines s 1 first so.journals ++ round_lines s n (cabinet_states_after s first so.journals) read.journals) ++ next.left.now) number
      ∙ ap (λ (x : List Line). lines_text x ++ next.left.now) (sym (lines-round s 1 first so.journals read.journals))

  pub rounds-more : RoundsSoFar s first start next (done + 1) new watched old now
  rounds-more = record {
    journals = so.journals ++ read.journals ∷ [];
    many = length-append so.journals (read.journals ∷ []) ∙ ap (λ (n : ℕ). n + 1) so.many;
    merges = merges-round s first so.journals read.journals so.merges read.merges;
    text_is = text-more;
    between = subst (λ (x : List CabinetState). Between s (done + 1) x new) come read.between;
    seen = λ is. subst (λ (x : List CabinetState). IsWatched watched now x) come (read.seen (so.seen is));
    leads = λ n e.
        subst (λ (x : List CabinetState). Leads (rounds_script s 1 s.rounds first) start (rounds_script s (done + 1 + 1) n x) next) come
        (leads-on _ _ _ start at next (so.leads (suc n) (omega (arith, e))) (read.leads (rounds_script s (done + 1 + 1) n)));
  }

pub rounds-fail : (s : ScenarioContent) (first : List CabinetState) (start at : Place) (done : ℕ) (old : ClosedLoop) (watched : ℕ) (was now : Seen) (fail : CheckFail) → done < s.rounds
    → (so : RoundsSoFar s first start at done old watched was now)
    → ((rest : List CabinetState → Script) → Fails (round_script s (done + 1) (cabinet_states_after s first so.journals) rest) at fail)
    → Fails (rounds_script s 1 s.rounds first) start fail
rounds-fail s first start at done old watched was now fail few so fails =
    let n : ℕ = s.rounds - done - 1 in
    fails-on _ _ start at fail (so.leads (suc n) (omega (arith, few))) (fails (rounds_script s (done + 1 + 1) n))

pub rounds-all : (s : ScenarioContent) (first : List CabinetState) (start at : Place) (done : ℕ) (c : ClosedLoop) (watched : ℕ) (was now : Seen) → done ≡ s.rounds
    → RoundsSoFar s first start at done c watched was now → Leads (rounds_script s 1 s.rounds first) start (Says (Z s.rounds) Ends) at
rounds-all s first start at done c watched was now all so = so.leads zero (omega (arith, all))

pub rounds-seen : (s : ScenarioContent) (first : List CabinetState) (start at : Place) (done : ℕ) (c : ClosedLoop) (watched : ℕ) (was now : Seen) → done ≡ s.rounds
    → RoundsSoFar s first start at done c watched was now → RoundsSeen s first start at watched was now
rounds-seen s first start at done c watched was now all so =
    record { journals = so.journals; all = so.many ∙ all; merges = so.merges; text_is = so.text_is; seen = so.seen }

-- all that is left of the text, with nothing after it
pub rest-seen : (s : ScenarioContent) (start rounds end behind : Place) (watched : ℕ) (first seen : Seen) (result : Result (Unit {0}) CheckFail)
    → ((rest : Script) → Leads (say (opening_lines 1 (opened_cabinet_states s s.cabinets)) rest) start rest rounds)
    → RoundsSeen s (opened_cabinet_states s s.cabinets) rounds end watched first seen → ((rest : Script) → Leads (Says (Z s.rounds) rest) end rest behind)
    → ReadsWhole Ends behind result → IsWatched watched first (opened_cabinet_states s s.cabinets) → OnOk result (RestSeen s start.left.now watched seen)
rest-seen s start rounds end behind watched first seen (Ok done) opens so last whole is = record {
  journals = so.journals;
  are = record { all = so.all; merges = so.merges };
  text_is = text;
  watched_so = so.seen is;
}
  where
    text : start.left.now ≡ lines_text (rest_lines s so.journals)
    text =
        let ts : List CabinetState = opened_cabinet_states s s.cabinets in
        texts-on (opening_lines 1 ts ++ rounds_lines s 1 ts so.journals) (Z s.rounds ∷ []) start.left.now end.left.now behind.left.now
        (texts-on (opening_lines 1 ts) (rounds_lines s 1 ts so.journals) start.left.now rounds.left.now end.left.now (said-text (opening_lines 1 ts) start rounds (opens Ends)) so.text_is)
        (said-text (Z s.rounds ∷ []) end behind (last Ends))
        ∙ ap (λ (x : List ℕ). lines_text (rest_lines s so.journals) ++ x) (nothing-behind behind whole)
        ∙ append-nil (lines_text (rest_lines s so.journals))
rest-seen s start rounds end behind watched first seen (Err fail) opens so last whole is = tt

-- and so of the whole text
pub text-seen : (s : ScenarioContent) (line : Line) (text piece left : List ℕ) (watched : ℕ) (seen : Seen) (result : Result (Unit {0}) CheckFail) → Opens line s → Runnable s
    → piece ≡ line_text line → text ≡ piece ++ left → OnOk result (RestSeen s left watched seen) → OnOk result (TextSeen text watched seen)
text-seen s line text piece left watched seen (Ok done) opens runs told all rest = record {
  scenario = s;
  journals = rest.journals;
  told = opens.1;
  runs = runs;
  are = rest.are;
  text_is = all ∙ ap (λ (x : List ℕ). x ++ left) (told ∙ ap line_text opens.0) ∙ ap (λ (x : List ℕ). line_text (S s.compact) ++ x) rest.text_is;
  watched_so = rest.watched_so;
}
text-seen s line text piece left watched seen (Err fail) opens runs told all rest = tt

-- what the answer gives
pub has-seen : ((s : ScenarioContent) → Runnable s → (journals : List (List (List ℕ))) → AreJournals s journals → TellsAllKept s journals (run_text s journals))
    → (text : List ℕ) (cab : ℕ) (seen : Seen) → TextSeen text cab seen → HasSeen text cab seen
has-seen law text cab seen is = record {
  scenario = is.scenario;
  journals = is.journals;
  told = is.told;
  runs = is.runs;
  are = is.are;
  text_is = is.text_is;
  kept = subst (λ (x : List ℕ). TellsAllKept is.scenario is.journals x) (sym is.text_is) (law is.scenario is.runs is.journals is.are);
  own = λ c end numbered come.
      let (k, below, number, here) = come-at cab 1 end (cabinet_states_after is.scenario (opened_cabinet_states is.scenario is.scenario.cabinets) is.journals) come in
      subst (λ (t : CabinetState). IsSeenOf seen (history_of t.cabinet_history)) (here end) (is.watched_so.own k end below (omega (arith, number)));
  none = λ never. is.watched_so.none (λ k below same.
      let s : ScenarioContent = is.scenario in
      let within : k < length s.cabinets =
      omega (arith, below, after-many s (opened_cabinet_states s s.cabinets) is.journals is.are.merges, opened-many s s.cabinets) in
      let (c, numbered) = numbered-at s.cabinets 1 k within in
      let number : 1 + k ≡ cab = omega (arith, same) in
      never c (subst (λ (n : ℕ). IsCabinet s n c) number numbered));
}

-- bytes after the end
pub behind-end : (at : Place) → at.left.now ≢ [] → FaultsAt Ends at.left.now at.line at.line 11
behind-end at some = stops-here Ends at.left.now at.line 11 (Beyond at.left.now refl some)

-- or in one whose text has a fault, or is not the compact text of what it says
pub refused-told : (json : List ℕ) → ((s : ScenarioContent) → IsScenario json s → ⊥) → (s : ScenarioContent) → Opens (S json) s → ⊥
refused-told json none s opens =
    let same : json ≡ s.compact = cc (opens.0) in
    none s (subst (λ (x : List ℕ). IsScenario x s) (sym same) opens.1)

pub other-told : (json : List ℕ) (s : ScenarioContent) → IsScenario json s → s.compact ≢ json → (t : ScenarioContent) → Opens (S json) t → ⊥
other-told json s is differs t opens =
    let same : json ≡ t.compact = cc (opens.0) in
    let one : s ≡ t = one-scenario json s t is (subst (λ (x : List ℕ). IsScenario x t) (sym same) opens.1) in
    differs (ap (λ (u : ScenarioContent). u.compact) one ∙ sym same)

-- the answer of what follows the first line is that of the text
pub rest-tells : (s : ScenarioContent) (line : Line) (text piece : List ℕ) (start : Place) (result : Result (Unit {0}) CheckFail) → Opens line s → IsCheckable text
    → piece ≡ line_text line → text ≡ piece ++ start.left.now → start.line ≡ 2 → ReadsWhole (script_of s) start result → Tells text result
rest-tells s line text piece start result opens short told all second reads = from result reads
  where
    is : text ≡ line_text line ++ start.left.now
    is = all ∙ ap (λ (x : List ℕ). x ++ start.left.now) told

    from : (r : Result (Unit {0}) CheckFail) → ReadsWhole (script_of s) start r → Tells text r
    from (Ok done) (next, w) = (
      subst IsTrace (sym is)
          (whole-is-trace s line start.left.now next opens (subst (λ (n : ℕ). Walks (script_of s) start.left.now n Ends [] next) second w)),
      short,
    )
    from (Err (NotATrace f)) fails =
        subst (λ (x : List ℕ). FirstFault x f.line f.rule) (sym is)
        (fault-is-first s line start.left.now f.line f.rule (subst IsCheckable is short) opens
        (subst (λ (n : ℕ). FaultsAt (script_of s) start.left.now n f.line f.rule) second fails))
    from (Err NoMemory) fails = tt

-- the faults of the first line
pub no-first : (text piece : List ℕ) → IsCheckable text → text ≢ [] → piece ≡ first_piece text → ((line : Line) → IsLine line → piece ≢ line_text line) → FirstFault text 1 2
no-first text piece short some is none = NoFirst text short some (λ line proper e. none line proper (is ∙ e))

pub no-scenario : (line : Line) (text piece left : List ℕ) (fail : CheckFail) → IsLine line → IsCheckable text → piece ≡ line_text line → text ≡ piece ++ left
    → TellsNone line fail → Tells text (Err fail)
no-scenario line text piece left (NotATrace f) proper short told all (none, first, third) =
    let is : text ≡ line_text line ++ left = all ∙ ap (λ (x : List ℕ). x ++ left) told in
    subst (λ (x : List ℕ). FirstFault x f.line f.rule) (sym is)
    (subst (λ (n : ℕ). FirstFault (line_text line ++ left) n f.rule) (sym first)
    (subst (λ (n : ℕ). FirstFault (line_text line ++ left) 1 n) (sym third) (NoScenario line left (subst IsCheckable is short) proper none)))
no-scenario line text piece left NoMemory proper short told all tells = tt

-- which answer a trace has, and which a text with a fault
pub trace-answer : TracesHaveNoFault → (text : List ℕ) (result : Result (Unit {0}) CheckFail) → Tells text result → IsTrace text → IsCheckable text
    → (result ≡ Ok tt) ⊎ (result ≡ Err NoMemory)
trace-answer none text (Ok done) tells trace short = inl refl
trace-answer none text (Err (NotATrace f)) tells trace short = absurd (none text f.line f.rule short trace tells)
trace-answer none text (Err NoMemory) tells trace short = inr refl

abbrev fault-made : ℕ → ℕ → TraceFault
fault-made line rule = record { line = line; rule = rule }

same-fault : (f g : TraceFault) → f.line ≡ g.line → f.rule ≡ g.rule → f ≡ g
same-fault f g line rule = ap (λ (n : ℕ). fault-made n f.rule) line ∙ ap (λ (r : ℕ). fault-made g.line r) rule

pub fault-answer : TracesHaveNoFault → FaultsAreDetermined → (text : List ℕ) (result : Result (Unit {0}) CheckFail) → Tells text result
    → (f : TraceFault) → FirstFault text f.line f.rule → (result ≡ Err (NotATrace f)) ⊎ (result ≡ Err NoMemory)
fault-answer none one text (Ok done) tells f first = absurd (none text f.line f.rule tells.1 tells.0 first)
fault-answer none one text (Err (NotATrace g)) tells f first =
    let (line, rule) = one text g.line g.rule f.line f.rule tells first in
    inl (ap (λ (x : TraceFault). Err (NotATrace x)) (same-fault g f line rule))
fault-answer none one text (Err NoMemory) tells f first = inr refl

-- the answer where the first line has no scenario
pub none-by : (json : List ℕ) (fail : CheckFail) → fail ≡ NotATrace (record { line = 1; rule = 3 }) → ((s : ScenarioContent) → Opens (S json) s → ⊥) → TellsNone (S json) fail
none-by json fail is none = subst (λ (x : CheckFail). TellsNone (S json) x) (sym is) (none, refl, refl)

-- what a trace says
pub kept-answer : ((text : List ℕ) → IsTrace text → TellsOfRun text) → (text : List ℕ) (result : Result (Unit {0}) CheckFail) → Tells text result
    → OnOk result (TellsOfRun text)
kept-answer law text (Ok done) tells = law text tells.0
kept-answer law text (Err fail) tells = tt

-- the same of an answer that has something to give
pub no-trace-fails : TracesHaveNoFault → (text : List ℕ) (fail : CheckFail) → Tells text (Err fail) → IsTrace text → IsCheckable text → fail ≡ NoMemory
no-trace-fails none text (NotATrace f) tells trace short = absurd (none text f.line f.rule short trace tells)
no-trace-fails none text NoMemory tells trace short = refl

pub no-fault-passes : TracesHaveNoFault → (text : List ℕ) → Tells text (Ok tt) → (f : TraceFault) → FirstFault text f.line f.rule → ⊥
no-fault-passes none text tells f first = none text f.line f.rule tells.1 tells.0 first

pub same-fault-fails : {A : Type 0} → FaultsAreDetermined → (text : List ℕ) (fail : CheckFail) (result : Result A CheckFail) → result ≡ Err fail → Tells text (Err fail)
    → (f : TraceFault) → FirstFault text f.line f.rule → (result ≡ Err (NotATrace f)) ⊎ (result ≡ Err NoMemory)
same-fault-fails one text (NotATrace g) result is tells f first =
    let (line, rule) = one text g.line g.rule f.line f.rule tells first in
    inl (is ∙ ap (λ (x : TraceFault). Err (NotATrace x)) (same-fault g f line rule))
same-fault-fails one text NoMemory result is tells f first = inr is
