use Rattle.std.proofs.Common.{◌<◌, List, length, Bool, Ok, Err, true, false, refl, ap, subst, ◌∙◌, inl, inr, arith}
use Rattle.std.proofs.lemmas.Bool.{cases_lt, false≢true}
use Rattle.snmp_msg.specs.Parts.{message_in}
use Rattle.snmp_msg.specs.Shortest.{shortest}
use Rattle.snmp_msg.specs.Around.{message_around}
use Rattle.snmp_msg.specs.declared.message.Bind.{Bind}
use Rattle.agent.specs.Bindings.{IsSmall, each_gives}
use Rattle.agent.specs.Seen.{seen}
use Rattle.agent.specs.Replies.{given}
use Rattle.agent.specs.Written.{Written}
use Rattle.agent.proofs.Gathered.{given_small}
use Rattle.agent.proofs.Written.{written-small, reached-fits, reached-long, reached-full}
use Rattle.agent.proofs.reply.reached.Goals as goal

pub repeated-requires-in-Err-clause-few_statuses : goal.repeated-requires-in-Err-clause-few_statuses
repeated-requires-in-Err-clause-few_statuses c =
    let binds = c.as_slice.result.now in
    let all = each_gives (given c.args.reach (seen c.args.cabinet.now)) 1 binds in
    let small : IsSmall c.in-Err.field-0 =
    written-small (Err c.in-Err.field-0) c.values_into.new.list.items all c.in-Err.ensures.written (given_small c.args.reach (seen c.args.cabinet.now) binds (omega arith)) in
    small.0

pub repeated-requires-in-Err-clause-few_places : goal.repeated-requires-in-Err-clause-few_places
repeated-requires-in-Err-clause-few_places c =
    let binds = c.as_slice.result.now in
    let all = each_gives (given c.args.reach (seen c.args.cabinet.now)) 1 binds in
    let small : IsSmall c.in-Err.field-0 =
    written-small (Err c.in-Err.field-0) c.values_into.new.list.items all c.in-Err.ensures.written (given_small c.args.reach (seen c.args.cabinet.now) binds (omega arith)) in
    small.1

pub returns-in-Ok : goal.returns-in-Ok
returns-in-Ok c =
    let m = c.args.m.now in
    let text = c.values_into.new.list.items in
    let all = each_gives (given c.args.reach (seen c.args.cabinet.now)) 1 m.binds.items in
    let gives = λ (binds : List Bind). each_gives (given c.args.reach (seen c.args.cabinet.now)) 1 binds in
    let told : Written (Ok c.in-Ok-true.field-0) text (gives c.as_slice.result.now) = c.in-Ok-true.ensures.written in
    let of-all : Written (Ok c.in-Ok-true.field-0) text all = subst (λ (binds : List Bind). Written (Ok c.in-Ok-true.field-0) text (gives binds)) c.as_slice.ensures.value told in
    let is : Written (Ok true) text all = subst (λ (b : Bool). Written (Ok b) text all) c.in-Ok-true.field-0-test of-all in
    c.in-Ok.ensures.ok ∙ reached-fits (message_in c.response.result) m text all c.response.ensures.message is (c.in-Ok.ensures.variant.0 refl)

pub returns-in-Err-write_around_into : goal.returns-in-Err-write_around_into
returns-in-Err-write_around_into c =
    let m = c.args.m.now in
    let p = message_in c.response.result in
    let text = c.values_into.new.list.items in
    let all = each_gives (given c.args.reach (seen c.args.cabinet.now)) 1 m.binds.items in
    let gives = λ (binds : List Bind). each_gives (given c.args.reach (seen c.args.cabinet.now)) 1 binds in
    let told : Written (Ok c.in-Ok-true.field-0) text (gives c.as_slice.result.now) = c.in-Ok-true.ensures.written in
    let of-all : Written (Ok c.in-Ok-true.field-0) text all = subst (λ (binds : List Bind). Written (Ok c.in-Ok-true.field-0) text (gives binds)) c.as_slice.ensures.value told in
    let is : Written (Ok true) text all = subst (λ (b : Bool). Written (Ok b) text all) c.in-Ok-true.field-0-test of-all in
    let long : 1472 < length (message_around p text) =
    elim (cases_lt 1472 (length (message_around p text))) [ inl above ↦ above | inr below ↦ absurd (false≢true (c.in-Err-write_around_into.ensures.variant.1 (omega arith))) ] in
    c.repeated.ensures ∙ ap shortest (reached-long p m text all c.response.ensures.message is long)

pub returns-in-Ok-false : goal.returns-in-Ok-false
returns-in-Ok-false c =
    let m = c.args.m.now in
    let text = c.values_into.new.list.items in
    let all = each_gives (given c.args.reach (seen c.args.cabinet.now)) 1 m.binds.items in
    let gives = λ (binds : List Bind). each_gives (given c.args.reach (seen c.args.cabinet.now)) 1 binds in
    let told : Written (Ok c.in-Ok-false.field-0) text (gives c.as_slice.result.now) = c.in-Ok-false.ensures.written in
    let of-all : Written (Ok c.in-Ok-false.field-0) text all = subst (λ (binds : List Bind). Written (Ok c.in-Ok-false.field-0) text (gives binds)) c.as_slice.ensures.value told in
    let is : Written (Ok false) text all = subst (λ (b : Bool). Written (Ok b) text all) c.in-Ok-false.field-0-test of-all in
    c.repeated-in-Ok-false.ensures ∙ ap shortest (reached-full m text all is)
