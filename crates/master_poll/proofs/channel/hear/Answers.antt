use Rattle.std.proofs.Common.{◌≡◌, ◌+◌, [], ◌∷◌, ◌++◌, drop, Some, None, sym, subst, ◌∙◌, ap, arith}
use Rattle.std.proofs.lemmas.Grind.{common_steps}
use Rattle.std.proofs.lemmas.List.{append_assoc, append-nil, drop_all}
use Rattle.snmp_msg.specs.Reading.{message_of}
use Rattle.sig_types.specs.Items.{texts_of}
use Rattle.requests.specs.Requests.{messages}
use Rattle.master_load.specs.Loading.{AnswerTold, note_of}
use Rattle.master_load.specs.LoaderStands.{LoaderStands}
use Rattle.master_poll.specs.Turns.{told}
use Rattle.master_poll.specs.Notes.{noted, load_notes}
use Rattle.master_poll.proofs.LoaderTold.{heard_none, heard_one, noted_front}
use Rattle.master_poll.proofs.channel.hear.Goals as goal

pub loop-octets-preserved : goal.loop-octets-preserved
loop-octets-preserved c = λ cab all past h.
    let k = c.loop-octets.invariant cab all past h in
    let x = c.octets-item.result in
    let m = c.in-Some.m in
    let notes = c.loop-octets.notes.items in
    let rest = messages (texts_of (drop (c.loop-octets.octets-index + 1) c.args.arrived.now)) in
    let split : drop c.loop-octets.octets-index c.args.arrived.now ≡ x ∷ drop (c.loop-octets.octets-index + 1) c.args.arrived.now = grind (arith, common_steps) in
    let read : message_of x.items ≡ Some m = grind (arith, common_steps) in
    let next : messages (texts_of (drop c.loop-octets.octets-index c.args.arrived.now)) ≡ m ∷ rest =
    ap (λ xs. messages (texts_of xs)) split ∙ heard_one x (drop (c.loop-octets.octets-index + 1) c.args.arrived.now) m read in
    record {
      past = AnswerTold m ∷ k.past;
      stands = c.in_ok-tell.ensures.stands cab all k.past k.stands;
      ending = ap (λ ms. told ms k.past) (sym next) ∙ k.ending;
      noted =
          ap (λ xs. xs ++ load_notes (AnswerTold m ∷ k.past) rest) (c.in_ok-tell.ensures.noted cab all k.past k.stands)
          ∙ (append_assoc notes (noted (note_of k.past m) []) (load_notes (AnswerTold m ∷ k.past) rest)
          ∙ (ap (λ xs. notes ++ xs) (noted_front (note_of k.past m) (load_notes (AnswerTold m ∷ k.past) rest))
          ∙ (ap (λ ms. notes ++ load_notes k.past ms) (sym next) ∙ k.noted)));
    }

pub loop-octets-preserved-in_default : goal.loop-octets-preserved-in_default
loop-octets-preserved-in_default c = λ cab all past h.
    let k = c.loop-octets.invariant cab all past h in
    let x = c.octets-item.result in
    let notes = c.loop-octets.notes.items in
    let more = drop (c.loop-octets.octets-index + 1) c.args.arrived.now in
    let split : drop c.loop-octets.octets-index c.args.arrived.now ≡ x ∷ drop (c.loop-octets.octets-index + 1) c.args.arrived.now = grind (arith, common_steps) in
    let none : message_of x.items ≡ None = grind (arith, common_steps) in
    let next : messages (texts_of (drop c.loop-octets.octets-index c.args.arrived.now)) ≡ messages (texts_of more) =
    ap (λ xs. messages (texts_of xs)) split ∙ heard_none x more none in
    record {
      past = k.past;
      stands = k.stands;
      ending = ap (λ ms. told ms k.past) (sym next) ∙ k.ending;
      noted = ap (λ ms. notes ++ load_notes k.past ms) (sym next) ∙ k.noted;
    }

pub returns : goal.returns
returns c = λ cab all past h.
    let k = c.loop-octets.invariant cab all past h in
    let notes = c.loop-octets.notes.items in
    let end : drop c.loop-octets.octets-index c.args.arrived.now ≡ [] = drop_all c.loop-octets.octets-index c.args.arrived.now c.loop-octets-test.false in
    let over : k.past ≡ told (messages (texts_of c.args.arrived.now)) past = ap (λ xs. told (messages (texts_of xs)) k.past) (sym end) ∙ k.ending in
    record {
      stands = subst (λ events. LoaderStands c.loop-octets.loader cab all events) over k.stands;
      noted = sym (append-nil notes) ∙ (ap (λ xs. notes ++ load_notes k.past (messages (texts_of xs))) (sym end) ∙ k.noted);
    }
