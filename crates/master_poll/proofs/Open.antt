-- The open command is the last one that was neither answered nor given up: by induction over the turns.
use Rattle.std.proofs.Common.{◌≡◌, ℕ, ◌+◌, ℤ, pos, length, Bool, true, false, nat_le, ◌||◌, not, if◌then◌else◌, List, [], ◌∷◌, Option, Some, None, refl, sym, ◌∙◌, ap, arith}
use Rattle.std.specs.List.{find, list_any}
use Rattle.std.proofs.lemmas.Grind.{common_steps}
use Rattle.snmp_msg.specs.declared.message.Message.{Message}
use Rattle.scenario_data.specs.Content.{ScenarioContent, CabinetContent}
use Rattle.requests.specs.Requests.{answers, messages}
use Rattle.master_plan.specs.Schedule.{or_else}
use Rattle.master_poll.specs.declared.command.Kind.{Kind}
use Rattle.master_poll.specs.declared.command.Now.{Now}
use Rattle.std.proofs.lemmas.Bool.{and_parts, false≢true}
use Rattle.master_poll.specs.declared.command.Command.{Command}
use Rattle.master_poll.specs.Commands.{Turn, open_command, ending_of, unless_ended, unless_tried, frames_sent, is_some}
use Rattle.master_poll.specs.Turns.{Plan, command_now, next_turn, due_now, first_kind}
use Rattle.master_poll.specs.Sends.{Arrived, turns, plan_of}
use Rattle.master_poll.specs.Laws.{last_command, is_answered, is_given_up, still_open, OpenIsLast}

-- what is found passes the test
found_any : (test : Message → Bool) (ms : List Message) (m : Message) → find test ms ≡ Some m → list_any test ms ≡ true
found_any test [] m e = grind (arith, common_steps)
found_any test (x ∷ ms) m e = split (found_any test ms m) (test x) refl e
  where
    split : (find test ms ≡ Some m → list_any test ms ≡ true) → (b : Bool) → test x ≡ b → (if b then Some x else find test ms) ≡ Some m
        → (b || list_any test ms) ≡ true
    split ih true t k = refl
    split ih false t k = ih k

gave_up : (retries : ℕ) (past : List Turn) (c : Command) → is_given_up retries past c ≡ true → nat_le retries c.tries ≡ true
gave_up retries [] c e = absurd (false≢true e)
gave_up retries (t ∷ past) c e = (and_parts (not (is_some t.command)) (nat_le retries c.tries) e).1

none_is_some : {A : Type 0} {x : A} → None ≡ Some x → ⊥
none_is_some e = grind (arith, common_steps)

-- where nothing is sent although a command was open, it was answered or given up
silent : (retries : ℕ) (c : Command) (polls : List Message) (now : Now) (id : ℤ) (kind : Option Kind)
    → None ≡ command_now now id (unless_tried retries (unless_ended (find (answers c.id) polls) (Some c))) kind
    → (list_any (answers c.id) polls || nat_le retries c.tries) ≡ true
silent retries c polls now id kind e = by_found (find (answers c.id) polls) refl e
  where
    by_tried : (b : Bool) → nat_le retries c.tries ≡ b → None ≡ command_now now id (if b then None else Some c) kind → (list_any (answers c.id) polls || b) ≡ true
    by_tried true t k = grind (arith, common_steps)
    by_tried false t k = absurd (none_is_some k)

    by_found : (found : Option Message) → find (answers c.id) polls ≡ found
        → None ≡ command_now now id (unless_tried retries (unless_ended found (Some c))) kind
        → (list_any (answers c.id) polls || nat_le retries c.tries) ≡ true
    by_found (Some m) f k = rw (found_any (answers c.id) polls m f) refl
    by_found None f k = by_tried (nat_le retries c.tries) refl k

-- the command that was last is no longer open
ended : (retries : ℕ) (past : List Turn) (c : Command) (polls : List Message) (now : Now) (id : ℤ) (kind : Option Kind)
    → open_command past ≡ still_open retries past (Some c)
    → None ≡ command_now now id (unless_tried retries (unless_ended (ending_of (open_command past) polls) (open_command past))) kind
    → ((list_any (answers c.id) polls || is_answered past c) || nat_le retries c.tries) ≡ true
ended retries past c polls now id kind is none = by_answer (is_answered past c) refl
  where
    by_given_up : is_answered past c ≡ false → (b : Bool) → is_given_up retries past c ≡ b → ((list_any (answers c.id) polls || is_answered past c) || nat_le retries c.tries) ≡ true
    by_given_up a true g = let tried = gave_up retries past c g in grind (arith, tried, common_steps)
    by_given_up a false g =
        let open_is : open_command past ≡ Some c = is ∙ rw (a, g) refl in
        let quiet = silent retries c polls now id kind (none ∙ ap (λ o. command_now now id (unless_tried retries (unless_ended (ending_of o polls) o)) kind) open_is) in
        grind (arith, quiet, a, common_steps)

    by_answer : (b : Bool) → is_answered past c ≡ b → ((list_any (answers c.id) polls || is_answered past c) || nat_le retries c.tries) ≡ true
    by_answer true a = grind (arith, a, common_steps)
    by_answer false a = by_given_up a (is_given_up retries past c) refl

-- one turn more
one_more : (retries : ℕ) (past : List Turn) (t : Turn) (now : Now) (id : ℤ) (kind : Option Kind)
    → open_command past ≡ still_open retries past (last_command past)
    → t.command ≡ command_now now id (unless_tried retries (unless_ended (ending_of (open_command past) t.polls) (open_command past))) kind
    → t.command ≡ still_open retries (t ∷ past) (or_else t.command (last_command past))
one_more retries past t now id kind is sent = by_command t.command refl
  where
    by_last : (last : Option Command) → last_command past ≡ last → t.command ≡ None → None ≡ still_open retries (t ∷ past) last
    by_last None l e = refl
    by_last (Some c) l e =
        let over = ended retries past c t.polls now id kind (is ∙ ap (still_open retries past) l) (sym e ∙ sent) in
        rw (e, over) refl

    by_command : (command : Option Command) → t.command ≡ command → t.command ≡ still_open retries (t ∷ past) (or_else t.command (last_command past))
    by_command (Some c) e = rw e refl
    by_command None e = e ∙ (by_last (last_command past) refl e ∙ ap (λ k. still_open retries (t ∷ past) (or_else k (last_command past))) (sym e))

-- the same of the turn that the master makes
next_open : (plan : Plan) (past : List Turn) (polls loads : List Message)
    → open_command past ≡ still_open plan.setup.retries past (last_command past)
    → (next_turn plan past polls loads).command
    ≡ still_open plan.setup.retries (next_turn plan past polls loads ∷ past) (last_command (next_turn plan past polls loads ∷ past))
next_open plan past polls loads is =
    one_more plan.setup.retries past (next_turn plan past polls loads) plan.now (pos (frames_sent past + 1)) (first_kind (due_now plan past polls) past) is refl

pub open_is : (s : ScenarioContent) (cab : ℕ) (c : CabinetContent) (arrived : List Arrived) → OpenIsLast s cab c arrived
open_is s cab c [] = refl
open_is s cab c (now ∷ before) =
    let past = turns s cab c before in
    next_open (plan_of s cab c (length past + 1)) past (messages now.polls) (messages now.loads) (open_is s cab c before)
