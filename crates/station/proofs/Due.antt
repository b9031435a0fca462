-- From what an answer to `run` says to the answer expected for an input.
use Rattle.std.proofs.Common.{◌≡◌, ◌<◌, ◌≤◌, ◌⊎◌, inl, inr, ℕ, List, Option, Some, None, IfSome, length, subst, refl, arith}
use Rattle.scenario_data.specs.Content.{ScenarioContent}
use Rattle.scenario_data.specs.declared.refusal.Refusal.{Refusal}
use Rattle.scenario_read.specs.Answers.{IsScenario, IsFirstFault}
use Rattle.scenario_read.proofs.OneAnswer.{no-fault-beside}
use Rattle.station.specs.declared.status.Status.{Status}
use Rattle.station.specs.declared.status.Status.TheVariants.{Done, Usage, Scenario, NotATrace, Overlap as BrokenOverlap, Unsafe, NotALog, ReadFault, WriteFault, NoMemory}
use Rattle.station.specs.Io.{io}
use Rattle.station.specs.Answers.{IsShort, IsRead, IsRefused, Ran, RunAnswer, IsDue, IsLengthRefusal, WritesText}
use Rattle.station.specs.Replied.{IsTextOfInput, Replied, ReplyAnswer, IsReplyDue}

-- what a refusal says where nothing but it is the answer: the length's where the input is too long, and else a first
-- fault
module _ (IsFirst : List ℕ → Refusal → Type 0) where
  refused_long : (refusal : Refusal) (input : List ℕ) (ends : Option (List ℕ)) → IsRefused IsFirst refusal (Some input) ends → 16777216 < length input
      → IsLengthRefusal (Scenario refusal)
  refused_long refusal input ends (inl (limit, (long, stopped))) more = limit
  refused_long refusal input ends (inr (other, has)) more =
      let short : length input ≤ 16777216 = subst IsShort has.all has.short in absurd (omega (arith, short, more))

  refused_named : (refusal : Refusal) (input : List ℕ) (ends : Option (List ℕ)) → IsRefused IsFirst refusal (Some input) ends → IsShort input → IsFirst input refusal
  refused_named refusal input ends (inl (limit, (long, stopped))) short = absurd (omega (arith, short, long))
  refused_named refusal input ends (inr (other, has)) short = subst (λ (x : List ℕ). IsFirst x refusal) has.all has.first

-- the input that was read is short, and is a scenario
read_short : (input : List ℕ) (s : ScenarioContent) → IsRead (Some input) s → IsShort input
read_short input s (bytes, same, short, is) = subst IsShort same short

read_is : (input : List ℕ) (s : ScenarioContent) → IsRead (Some input) s → IsScenario input s
read_is input s (bytes, same, short, is) = subst (λ (x : List ℕ). IsScenario x s) same is

-- the answer expected for a scenario is that it was run
due_run : (status : Status) (input : List ℕ) (s : ScenarioContent) (unwritten : Type 0) → IsRead (Some input) s → (¬ unwritten → status ≡ Done)
    → IsDue status input unwritten
due_run status input s unwritten read done = record {
  too_long = λ long. let short : length input ≤ 16777216 = read_short input s read in absurd (omega (arith, short, long));
  fault = λ short none. absurd (none s (read_is input s read));
  done = λ short t is put. done put;
}

-- a refusal is expected
due_refused : (refusal : Refusal) (input : List ℕ) (ends : Option (List ℕ)) (unwritten : Type 0) → IsRefused IsFirstFault refusal (Some input) ends
    → IsDue (Scenario refusal) input unwritten
due_refused refusal input ends unwritten is = record {
  too_long = λ more. refused_long IsFirstFault refusal input ends is more;
  fault = λ short none. (refusal, refl, refused_named IsFirstFault refusal input ends is short);
  done = λ short s read put. absurd (no-fault-beside input s refusal read (refused_named IsFirstFault refusal input ends is short));
}

due : (workers : ℕ) (status : Status) (left ends : Option (List ℕ)) (unread : Type 0) (old new : Option (List ℕ)) (unwritten : Type 0)
    → Ran workers status (io left ends unread old new unwritten) → ¬ unread → IfSome left (λ input. IsDue status input unwritten ⊎ (status ≡ NoMemory))
due workers status None ends unread old new unwritten ran sound = tt
due workers Done (Some input) ends unread old new unwritten ran sound = inl (due_run Done input ran.scenario unwritten ran.input (λ put. refl))
due workers Usage (Some input) ends unread old new unwritten ran sound = absurd ran
due workers (Scenario refusal) (Some input) ends unread old new unwritten ran sound = inl (due_refused refusal input ends unwritten ran.0)
due workers (NotATrace fault) (Some input) ends unread old new unwritten ran sound = absurd ran
due workers (BrokenOverlap fault) (Some input) ends unread old new unwritten ran sound = absurd ran
due workers Unsafe (Some input) ends unread old new unwritten ran sound = absurd ran
due workers (NotALog fault) (Some input) ends unread old new unwritten ran sound = absurd ran
due workers ReadFault (Some input) ends unread old new unwritten ran sound = absurd (sound ran.0)
due workers WriteFault (Some input) ends unread old new unwritten ran sound = inl (due_run WriteFault input ran.1.scenario unwritten ran.1.input (λ put. absurd (put ran.0)))
due workers NoMemory (Some input) ends unread old new unwritten ran sound = inr refl

-- what an answer to a run says, and that it is expected
pub run_answer : (workers : ℕ) (status : Status) (left ends : Option (List ℕ)) (unread : Type 0) (old new : Option (List ℕ)) (unwritten : Type 0)
    → Ran workers status (io left ends unread old new unwritten) → RunAnswer workers status (io left ends unread old new unwritten)
run_answer workers status left ends unread old new unwritten ran = record {
  told = ran;
  due = λ sound. due workers status left ends unread old new unwritten ran sound;
}

-- the same of a command that reads an object and writes a text of it
module _ (Tells : List ℕ → List ℕ → Type 0) (IsFirst : List ℕ → Refusal → Type 0) (Asks : List ℕ → Type 0)
    (asks : (bytes text : List ℕ) → Tells bytes text → Asks bytes) (apart : (bytes : List ℕ) → (refusal : Refusal) → Asks bytes → IsFirst bytes refusal → ⊥)
  where
    told_due : (status : Status) (input text : List ℕ) (ends : Option (List ℕ)) (unwritten : Type 0) → IsTextOfInput Tells text (Some input) ends
        → (¬ unwritten → status ≡ Done) → IsReplyDue Asks IsFirst status input unwritten
    told_due status input text ends unwritten is done =
        let few : length input ≤ 16777216 = subst IsShort is.all is.short in
        let tells : Tells input text = subst (λ (x : List ℕ). Tells x text) is.all is.tells in
        record {
          too_long = λ long. absurd (omega (arith, few, long));
          fault = λ short none. absurd (none (asks input text tells));
          done = λ short asked put. done put;
        }

    refused_due : (refusal : Refusal) (input : List ℕ) (ends : Option (List ℕ)) (unwritten : Type 0) → IsRefused IsFirst refusal (Some input) ends
        → IsReplyDue Asks IsFirst (Scenario refusal) input unwritten
    refused_due refusal input ends unwritten is = record {
      too_long = λ more. refused_long IsFirst refusal input ends is more;
      fault = λ short none. (refusal, refl, refused_named IsFirst refusal input ends is short);
      done = λ short asked put. absurd (apart input refusal asked (refused_named IsFirst refusal input ends is short));
    }

    reply_due : (status : Status) (left ends : Option (List ℕ)) (unread : Type 0) (old new : Option (List ℕ)) (unwritten : Type 0)
        → Replied Tells IsFirst status (io left ends unread old new unwritten) → ¬ unread
        → IfSome left (λ input. IsReplyDue Asks IsFirst status input unwritten ⊎ (status ≡ NoMemory))
    reply_due status None ends unread old new unwritten is sound = tt
    reply_due Done (Some input) ends unread old new unwritten is sound = inl (told_due Done input is.text ends unwritten is.of_input (λ put. refl))
    reply_due Usage (Some input) ends unread old new unwritten is sound = absurd is
    reply_due (Scenario refusal) (Some input) ends unread old new unwritten is sound = inl (refused_due refusal input ends unwritten is.0)
    reply_due (NotATrace fault) (Some input) ends unread old new unwritten is sound = absurd is
    reply_due (BrokenOverlap fault) (Some input) ends unread old new unwritten is sound = absurd is
    reply_due Unsafe (Some input) ends unread old new unwritten is sound = absurd is
    reply_due (NotALog fault) (Some input) ends unread old new unwritten is sound = absurd is
    reply_due ReadFault (Some input) ends unread old new unwritten is sound = absurd (sound is.0)
    reply_due WriteFault (Some input) ends unread old new unwritten is sound =
        inl (told_due WriteFault input is.1.text ends unwritten is.1.of_input (λ put. absurd (put is.0)))
    reply_due NoMemory (Some input) ends unread old new unwritten is sound = inr refl

    pub reply_answer : (status : Status) (left ends : Option (List ℕ)) (unread : Type 0) (old new : Option (List ℕ)) (unwritten : Type 0)
        → Replied Tells IsFirst status (io left ends unread old new unwritten) → ReplyAnswer Tells Asks IsFirst status (io left ends unread old new unwritten)
    reply_answer status left ends unread old new unwritten is = record {
      told = is;
      due = λ sound. reply_due status left ends unread old new unwritten is sound;
    }

-- an answer to a command that reads and writes so: a text was reported, and written or not
pub told_reply : (Tells : List ℕ → List ℕ → Type 0) (IsFirst : List ℕ → Refusal → Type 0) (status : Status) (left ends : Option (List ℕ)) (unread : Type 0)
    (old new : Option (List ℕ)) (unwritten : Type 0) (text : List ℕ) → IsTextOfInput Tells text left ends → WritesText status text unwritten old new
    → Replied Tells IsFirst status (io left ends unread old new unwritten)
told_reply Tells IsFirst Done left ends unread old new unwritten text is so = record { text = text; of_input = is; written = so }
told_reply Tells IsFirst WriteFault left ends unread old new unwritten text is so = (so.0, record { text = text; of_input = is; front = so.1 })
told_reply Tells IsFirst Usage left ends unread old new unwritten text is so = absurd so
told_reply Tells IsFirst (Scenario refusal) left ends unread old new unwritten text is so = absurd so
told_reply Tells IsFirst (NotATrace fault) left ends unread old new unwritten text is so = absurd so
told_reply Tells IsFirst (BrokenOverlap fault) left ends unread old new unwritten text is so = absurd so
told_reply Tells IsFirst Unsafe left ends unread old new unwritten text is so = absurd so
told_reply Tells IsFirst (NotALog fault) left ends unread old new unwritten text is so = absurd so
told_reply Tells IsFirst ReadFault left ends unread old new unwritten text is so = absurd so
told_reply Tells IsFirst NoMemory left ends unread old new unwritten text is so = absurd so
