-- The parts of a turn make the whole.
use Rattle.std.proofs.Common.{◌≡◌, ℕ, ◌+◌, ℤ, pos, List, ◌++◌, Option, Some, None, if◌then◌else◌, refl, ◌∙◌, ap, arith}
use Rattle.std.specs.Option.{is_some, option_map}
use Rattle.std.proofs.lemmas.Grind.{common_steps}
use Rattle.arrayvec.specs.ArrayVec.{ArrayVec}
use Rattle.requests.specs.Requests.{octets_in}
use Rattle.std.proofs.lemmas.List.{append_assoc}
use Rattle.sig_types.specs.declared.notes.MasterNote.{MasterNote}
use Rattle.sig_types.specs.declared.notes.MasterNote.TheVariants.{Fail, Good}
use Rattle.snmp_msg.specs.declared.message.Message.{Message}
use Rattle.master_load.specs.declared.loader.Loader.{Loader}
use Rattle.master_load.specs.Loading.{next_frame}
use Rattle.master_poll.specs.declared.command_state.CommandState.{CommandState}
use Rattle.master_poll.specs.declared.command.Turned.{Turned}
use Rattle.master_poll.specs.Commands.{Turn, frames_sent, count_of}
use Rattle.master_poll.specs.Turns.{Plan, next_turn, load_events, told}
use Rattle.master_poll.specs.Notes.{turn_notes, load_notes, where_made, pattern_note}
use Rattle.master_poll.specs.CommandStands.{IsTurn, sent_by}

-- the id of the next frame is that of the turn's frame of a download
pub frame_is : (d : CommandState) (r : Turned) (plan : Plan) (past : List Turn) (polls loads : List Message) (id : ℤ)
    → IsTurn d r plan past polls loads → id ≡ pos (sent_by d + 1)
    → next_frame plan.loads plan.cab plan.now.round id (told loads (load_events past)) ≡ (next_turn plan past polls loads).frame
frame_is d r plan past polls loads id is next =
    ap (λ (n : ℤ). next_frame plan.loads plan.cab plan.now.round n (told loads (load_events past)))
    (next ∙ ap (λ (n : ℕ). pos (n + 1)) (is.sent ∙ ap (λ command. frames_sent past + count_of command) is.command))

-- a frame counts as one
pub one_more : {A : Type 0} (octets : Option (ArrayVec ℕ)) (text : A → List ℕ) (frame : Option A) → octets_in octets ≡ option_map text frame
    → (if is_some octets then 1 else 0) ≡ count_of frame
one_more None text None e = refl
one_more (Some octets) text (Some frame) e = refl
one_more None text (Some frame) e = grind (arith, e, common_steps)
one_more (Some octets) text None e = grind (arith, e, common_steps)

-- five pieces of notes, one after another
pub notes_are : (plan : Plan) (past : List Turn) (polls loads : List Message) (d : CommandState) (r : Turned) (l : Loader) (n0 n1 n2 n3 n4 : List MasterNote)
    → IsTurn d r plan past polls loads
    → n1 ≡ n0 ++ where_made r.good (Good plan.cab)
    → n2 ≡ n1 ++ pattern_note plan.cab r.acknowledged
    → n3 ≡ n2 ++ load_notes (load_events past) loads
    → n4 ≡ n3 ++ where_made r.failed (Fail plan.cab)
    → n4 ≡ n0 ++ turn_notes plan past polls loads
notes_are plan past polls loads d r l n0 n1 n2 n3 n4 is a b e f =
    f ∙ (ap (λ xs. xs ++ where_made r.failed (Fail plan.cab)) (e ∙ ap (λ xs. xs ++ load_notes (load_events past) loads) (b ∙ ap (λ xs. xs ++ pattern_note plan.cab r.acknowledged) a))
    ∙ rw (is.good, is.pattern, is.fail) (simp append_assoc refl))
