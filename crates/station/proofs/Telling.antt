-- What an answer says, by the words that asked for it.
use Rattle.std.proofs.Common.{◌≡◌, ◌⊎◌, inl, inr, ◌↔◌, ℕ, List, Option, Some, None, sym, subst}
use Rattle.scenario_data.specs.declared.refusal.Refusal.{Refusal}
use Rattle.trace_check.specs.declared.faults.TraceFault.{TraceFault}
use Rattle.command_words.specs.declared.command.Command.{Command}
use Rattle.command_words.specs.declared.command.Command.TheVariants.{Run, Check, Generate, Survey, Band, Respond, Overlaps, Live, Judge, Help, Version}
use Rattle.command_words.specs.declared.command.Overlap.{Overlap}
use Rattle.judge_laws.specs.declared.Terms.{Terms}
use Rattle.command_words.specs.Words.{IsRun, IsCheck, IsOverlaps, IsLive, IsJudge, AskFor, IsCommand}
use Rattle.overlap_run.specs.declared.faults.OverlapFault.{OverlapFault}
use Rattle.station.specs.declared.status.Status.{Status}
use Rattle.station.specs.declared.status.Status.TheVariants.{Usage, Scenario, NotATrace, Overlap as BrokenOverlap, Unsafe, NotALog, ReadFault, NoMemory}
use Rattle.station.specs.declared.status.LogFault.{LogFault}
use Rattle.station.specs.Io.{Io}
use Rattle.station.specs.Answers.{StopsShort}
use Rattle.station.specs.Lived.{LivesShort}
use Rattle.station.specs.Judged.{EndsLog}
use Rattle.station.specs.Commands.{Answered, ReadsNothing, NeedsNoInput, IsRefusedFor, LeavesRun, LeavesSession, LeavesLog, Causes, Answers}

-- the words ask for one command, or for none
pub one_command : (found : Option Command) (c d : Command) → found ≡ Some c → found ≡ Some d → c ≡ d
one_command found c d e f = cc

pub none_found : (found : Option Command) (c : Command) → found ≡ None → found ≡ Some c → ⊥
none_found found c none some = cc

pub no_command : (words : List (List ℕ)) (found : Option Command) → found ≡ None → ((c : Command) → (found ≡ Some c) ↔ AskFor words c) → IsCommand words → ⊥
no_command words found none is (c, asked) = none_found found c none ((is c).1 asked)

-- what reads nothing by another name
pub reads_nothing : (c d : Command) → c ≡ d → ReadsNothing d → ReadsNothing c
reads_nothing c d same none = subst (λ (x : Command). ReadsNothing x) (sym same) none

module _ (status : Status) (io : Io) where
  abbrev Tells : Command → Status → Type 0
  Tells c answer = Answered c answer io

  -- an answer to a command is one to the same command by another name
  pub to_same : (c d : Command) → c ≡ d → Tells c status → Tells d status
  to_same c d same tells = subst (λ (x : Command). Tells x status) same tells

  -- no command is answered with Usage
  pub never_usage : (c : Command) → Tells c status → status ≡ Usage → ⊥
  never_usage c tells e = none c (subst (λ (x : Status). Tells c x) e tells)
    where
      none : (d : Command) → Tells d Usage → ⊥
      none (Run workers) is = is.told
      none Check is = is.1.told
      none (Generate from) is = is
      none (Survey from) is = is
      none Band is = is.told
      none Respond is = is.told
      none (Overlaps o) is = is.told
      none Live is = is.told
      none (Judge terms) is = is.told
      none Help is = is
      none Version is = is

  -- what is left where memory ran out
  abbrev LeavesShort : List (List ℕ) → Type 0
  LeavesShort words = (io.new ≡ io.old) ⊎ (LeavesRun words io ⊎ (LeavesSession words io ⊎ LeavesLog words NoMemory io))

  pub told_no_memory : (words : List (List ℕ)) (c : Command) → AskFor words c → Tells c status → status ≡ NoMemory → LeavesShort words
  told_no_memory words c asked tells e = from c asked (subst (λ (x : Status). Tells c x) e tells)
    where
      run : (workers : ℕ) → IsRun words workers → (io.new ≡ io.old) ⊎ StopsShort workers io.left io.ends io.old io.new → LeavesShort words
      run workers is (inl same) = inl same
      run workers is (inr short) = inr (inl (workers, is, short))

      live : IsLive words → (io.new ≡ io.old) ⊎ LivesShort io.left io.old io.new → LeavesShort words
      live is (inl same) = inl same
      live is (inr short) = inr (inr (inl (is, short)))

      judge : (terms : Terms) → IsJudge words terms → (io.new ≡ io.old) ⊎ EndsLog terms NoMemory io → LeavesShort words
      judge terms is (inl same) = inl same
      judge terms is (inr short) = inr (inr (inr (terms, is, short)))

      from : (d : Command) → AskFor words d → Tells d NoMemory → LeavesShort words
      from (Run workers) is so = run workers is so.told
      from Check is so = inl so.0
      from (Generate seeding) is so = inl so
      from (Survey seeding) is so = inl so
      from Band is so = inl so.told
      from Respond is so = inl so.told
      from (Overlaps o) is so = inl so.told
      from Live is so = live is so.told
      from (Judge terms) is so = judge terms is so.told
      from Help is so = absurd so
      from Version is so = absurd so

  -- what is left where a read failed
  abbrev LeavesUnread : List (List ℕ) → Type 0
  LeavesUnread words = (io.new ≡ io.old) ⊎ (LeavesSession words io ⊎ LeavesLog words ReadFault io)

  pub told_read_fault : (words : List (List ℕ)) (c : Command) → AskFor words c → Tells c status → status ≡ ReadFault → io.unread × LeavesUnread words
  told_read_fault words c asked tells e = from c asked (subst (λ (x : Status). Tells c x) e tells)
    where
      none : io.unread × (io.new ≡ io.old) → io.unread × LeavesUnread words
      none (failed, same) = (failed, inl same)

      live : IsLive words → (io.new ≡ io.old) ⊎ LivesShort io.left io.old io.new → LeavesUnread words
      live is (inl same) = inl same
      live is (inr short) = inr (inl (is, short))

      judge : (terms : Terms) → IsJudge words terms → (io.new ≡ io.old) ⊎ EndsLog terms ReadFault io → LeavesUnread words
      judge terms is (inl same) = inl same
      judge terms is (inr short) = inr (inr (terms, is, short))

      from : (d : Command) → AskFor words d → Tells d ReadFault → io.unread × LeavesUnread words
      from (Run workers) is so = none so.told
      from Check is so = none (so.1.told, so.0)
      from (Generate seeding) is so = absurd so
      from (Survey seeding) is so = absurd so
      from Band is so = none so.told
      from Respond is so = none so.told
      from (Overlaps o) is so = none so.told
      from Live is so = (so.told.0, live is so.told.1)
      from (Judge terms) is so = (so.told.0, judge terms is so.told.1)
      from Help is so = absurd so
      from Version is so = absurd so

  pub told_refused : (words : List (List ℕ)) (c : Command) (r : Refusal) → AskFor words c → Tells c status → status ≡ Scenario r
      → IsRefusedFor words r io.left io.ends × (io.new ≡ io.old)
  told_refused words c r asked tells e = from c asked (subst (λ (x : Status). Tells c x) e tells)
    where
      from : (d : Command) → AskFor words d → Tells d (Scenario r) → IsRefusedFor words r io.left io.ends × (io.new ≡ io.old)
      from (Run workers) is so = (inl ((workers, is), so.told.0), so.told.1)
      from Check is so = absurd so.1.told
      from (Generate seeding) is so = absurd so
      from (Survey seeding) is so = absurd so
      from Band is so = (inr (inl (is, so.told.0)), so.told.1)
      from Respond is so = (inr (inr (inl (is, so.told.0))), so.told.1)
      from (Overlaps o) is so = absurd so.told
      from Live is so = (inr (inr (inr (inl (is, so.told.0)))), so.told.1)
      from (Judge terms) is so = (inr (inr (inr (inr ((terms, is), so.told.0)))), so.told.1)
      from Help is so = absurd so
      from Version is so = absurd so

  pub told_no_trace : (words : List (List ℕ)) (c : Command) (fault : TraceFault) → AskFor words c → Tells c status → status ≡ NotATrace fault
      → IsCheck words ⊎ ((o : Overlap) × IsOverlaps words o)
  told_no_trace words c fault asked tells e = from c asked (subst (λ (x : Status). Tells c x) e tells)
    where
      from : (d : Command) → AskFor words d → Tells d (NotATrace fault) → IsCheck words ⊎ ((o : Overlap) × IsOverlaps words o)
      from (Run workers) is so = absurd so.told
      from Check is so = inl is
      from (Generate seeding) is so = absurd so
      from (Survey seeding) is so = absurd so
      from Band is so = absurd so.told
      from Respond is so = absurd so.told
      from (Overlaps o) is so = inr (o, is)
      from Live is so = absurd so.told
      from (Judge terms) is so = absurd so.told
      from Help is so = absurd so
      from Version is so = absurd so

  pub told_broken : (words : List (List ℕ)) (c : Command) (fault : OverlapFault) → AskFor words c → Tells c status → status ≡ BrokenOverlap fault
      → (o : Overlap) × IsOverlaps words o
  told_broken words c fault asked tells e = from c asked (subst (λ (x : Status). Tells c x) e tells)
    where
      from : (d : Command) → AskFor words d → Tells d (BrokenOverlap fault) → (o : Overlap) × IsOverlaps words o
      from (Run workers) is so = absurd so.told
      from Check is so = absurd so.1.told
      from (Generate seeding) is so = absurd so
      from (Survey seeding) is so = absurd so
      from Band is so = absurd so.told
      from Respond is so = absurd so.told
      from (Overlaps o) is so = (o, is)
      from Live is so = absurd so.told
      from (Judge terms) is so = absurd so.told
      from Help is so = absurd so
      from Version is so = absurd so

  pub told_unsafe : (words : List (List ℕ)) (c : Command) → AskFor words c → Tells c status → status ≡ Unsafe → (terms : Terms) × IsJudge words terms
  told_unsafe words c asked tells e = from c asked (subst (λ (x : Status). Tells c x) e tells)
    where
      from : (d : Command) → AskFor words d → Tells d Unsafe → (terms : Terms) × IsJudge words terms
      from (Run workers) is so = absurd so.told
      from Check is so = absurd so.1.told
      from (Generate seeding) is so = absurd so
      from (Survey seeding) is so = absurd so
      from Band is so = absurd so.told
      from Respond is so = absurd so.told
      from (Overlaps o) is so = absurd so.told
      from Live is so = absurd so.told
      from (Judge terms) is so = (terms, is)
      from Help is so = absurd so
      from Version is so = absurd so

  pub told_no_log : (words : List (List ℕ)) (c : Command) (fault : LogFault) → AskFor words c → Tells c status → status ≡ NotALog fault → (terms : Terms) × IsJudge words terms
  told_no_log words c fault asked tells e = from c asked (subst (λ (x : Status). Tells c x) e tells)
    where
      from : (d : Command) → AskFor words d → Tells d (NotALog fault) → (terms : Terms) × IsJudge words terms
      from (Run workers) is so = absurd so.told
      from Check is so = absurd so.1.told
      from (Generate seeding) is so = absurd so
      from (Survey seeding) is so = absurd so
      from Band is so = absurd so.told
      from Respond is so = absurd so.told
      from (Overlaps o) is so = absurd so.told
      from Live is so = absurd so.told
      from (Judge terms) is so = (terms, is)
      from Help is so = absurd so
      from Version is so = absurd so

  -- the causes of an answer to a command that the words ask for
  causes : (words : List (List ℕ)) (c : Command) → AskFor words c → Tells c status → Causes words status io
  causes words c asked tells = record {
    no_memory = λ e. told_no_memory words c asked tells e;
    read_fault = λ e. told_read_fault words c asked tells e;
    refused = λ r e. told_refused words c r asked tells e;
    no_trace = λ fault e. told_no_trace words c fault asked tells e;
    broken_overlap = λ fault e. told_broken words c fault asked tells e;
    unsafe = λ e. told_unsafe words c asked tells e;
    no_log = λ fault e. told_no_log words c fault asked tells e;
  }

  -- what an answer to the command that was found says, by the words
  pub found_answers : (words : List (List ℕ)) (found : Option Command) (c : Command) → found ≡ Some c
      → ((d : Command) → (found ≡ Some d) ↔ AskFor words d) → Tells c status → Answers words status io
  found_answers words found c some is tells =
      let told : (d : Command) → AskFor words d → Tells d status = λ d asked. to_same c d (one_command found c d some ((is d).1 asked)) tells in
      record {
        help = told Help;
        version = told Version;
        generate = λ from. told (Generate from);
        survey = λ from. told (Survey from);
        run = λ workers. told (Run workers);
        check = λ asked. (told Check asked).1;
        overlaps = λ o. told (Overlaps o);
        band = told Band;
        respond = told Respond;
        live = told Live;
        judge = λ terms. told (Judge terms);
        causes = causes words c ((is c).0 some) tells;
      }

-- the words ask for no command: the answer is Usage, and no command is named
pub none_answers : (words : List (List ℕ)) (found : Option Command) (io : Io) → found ≡ None
    → ((d : Command) → (found ≡ Some d) ↔ AskFor words d) → Answers words Usage io
none_answers words found io none is =
    let never : (d : Command) → AskFor words d → ⊥ = λ d asked. none_found found d none ((is d).1 asked) in
    record {
      help = λ asked. absurd (never Help asked);
      version = λ asked. absurd (never Version asked);
      generate = λ from asked. absurd (never (Generate from) asked);
      survey = λ from asked. absurd (never (Survey from) asked);
      run = λ workers asked. absurd (never (Run workers) asked);
      check = λ asked. absurd (never Check asked);
      overlaps = λ o asked. absurd (never (Overlaps o) asked);
      band = λ asked. absurd (never Band asked);
      respond = λ asked. absurd (never Respond asked);
      live = λ asked. absurd (never Live asked);
      judge = λ terms asked. absurd (never (Judge terms) asked);
      causes = record {
        no_memory = λ e. absurd (cc);
        read_fault = λ e. absurd (cc);
        refused = λ r e. absurd (cc);
        no_trace = λ fault e. absurd (cc);
        broken_overlap = λ fault e. absurd (cc);
        unsafe = λ e. absurd (cc);
        no_log = λ fault e. absurd (cc);
      };
    }

-- a command that needs no input reads nothing
pub found_unread : (words : List (List ℕ)) (found : Option Command) (c : Command) → found ≡ Some c → ((d : Command) → (found ≡ Some d) ↔ AskFor words d)
    → NeedsNoInput words → ReadsNothing c
found_unread words found c some is (d, asked, none) = reads_nothing c d (one_command found c d some ((is d).1 asked)) none
