-- Writing one instance after another.
use Rattle.std.proofs.Common.{◌≡◌, ℕ, ◌<◌, ◌≤◌, Bool, true, false, ◌&&◌, nat_le, List, [], ◌++◌, length, Result, Ok, Err, refl, sym, ap, subst, ◌∙◌, append_assoc, arith}
use Rattle.std.specs.Prelude.{pos, IfErr}
use Rattle.std.proofs.lemmas.Bool.Decides.{nat_tests}
use Rattle.std.specs.List.{flat_map}
use Rattle.std.proofs.lemmas.List.{append-nil, length-append}
use Rattle.snmp_msg.specs.declared.message.Bind.{Bind}
use Rattle.ber_code.specs.Lengths.{length_text, tagged_text}
use Rattle.ber_code.specs.Integers.{integer_text}
use Rattle.snmp_msg.specs.declared.message.Message.{Message}
use Rattle.snmp_msg.specs.Messages.{tag_of}
use Rattle.snmp_msg.specs.Shortest.{binding_text, ids_text, pdu_content, message_content, shortest}
use Rattle.snmp_msg.specs.Around.{pdu_around, content_around, message_around}
use Rattle.agent.specs.declared.bindings.Fault.{Fault}
use Rattle.agent.specs.Bindings.{before, IsSmall}
use Rattle.agent.specs.Replies.{response, repeated, with_values}
use Rattle.agent.specs.Written.{Puts, Written, Leads}

-- nothing was written before all
pub leads-start : (all : Result (List Bind) Fault) → Leads true [] all all
leads-start (Ok binds) = refl
leads-start (Err fault) = refl

-- one more was written, or found no room
pub leads-more : (fits found : Bool) (old new : List ℕ) (one : Result Bind ℕ) (place : ℕ) (others all : Result (List Bind) Fault)
    → Puts (Ok found) old new one → Leads fits old (before one place others) all → Leads (fits && found) new others all
leads-more true true old new (Ok bind) place (Ok binds) (Ok all) is leads =
    ap (λ (t : List ℕ). t ++ flat_map binding_text binds) is ∙ append_assoc old (binding_text bind) (flat_map binding_text binds) ∙ leads
leads-more true false old new (Ok bind) place (Ok binds) (Ok all) is leads =
    omega (arith, is, ap length leads, length-append old (binding_text bind ++ flat_map binding_text binds), length-append (binding_text bind) (flat_map binding_text binds))
leads-more false found old new (Ok bind) place (Ok binds) (Ok all) is leads = leads
leads-more fits found old new (Ok bind) place (Err fault) (Err other) is leads = leads
leads-more fits found old new (Ok bind) place (Ok binds) (Err other) is leads = absurd leads
leads-more fits found old new (Ok bind) place (Err fault) (Ok all) is leads = absurd leads
leads-more fits found old new (Err status) place others all is leads = absurd is

-- there is no instance: the first fault
pub leads-fault : (fits : Bool) (status : ℕ) (old new : List ℕ) (one : Result Bind ℕ) (place : ℕ) (others all : Result (List Bind) Fault)
    → Puts (Err status) old new one → Leads fits old (before one place others) all → Written (Err (record { status = status; index = place })) new all
leads-fault fits status old new (Err other) place others (Err fault) is leads = ap (λ (s : ℕ). record { status = s; index = place }) is ∙ leads
leads-fault fits status old new (Err other) place others (Ok all) is leads = absurd leads
leads-fault fits status old new (Ok bind) place others all is leads = absurd is

-- all were gone through
pub leads-end : (fits : Bool) (text : List ℕ) (all : Result (List Bind) Fault) → Leads fits text (Ok []) all → Written (Ok fits) text all
leads-end true text (Ok all) leads = sym (append-nil text) ∙ leads
leads-end false text (Ok all) leads = leads
leads-end fits text (Err fault) leads = absurd leads

-- ---- the answer to a Get or a GetNext

-- the Response with values has the text that is written around those of its bindings
around-is : (p m : Message) (binds : List Bind) → p ≡ response m 0 0 [] → message_around p (flat_map binding_text binds) ≡ shortest (response m 0 0 binds)
unfolding shortest message_content pdu_content message_around content_around pdu_around
around-is p m binds same = rw same refl

-- and is at least as long as these
list_within : (m : Message) → length (flat_map binding_text m.binds.items) ≤ length (shortest m)
unfolding shortest message_content pdu_content
list_within m =
    let list = flat_map binding_text m.binds.items in
    let fields = pdu_content m in
    let content = message_content m in
    omega (
      arith,
      length-append (length_text (length list)) list,
      length-append (ids_text m.id m.status m.index) (tagged_text 48 list),
      length-append (length_text (length fields)) fields,
      length-append (tagged_text 4 m.community.items) (tagged_text (tag_of m.pdu) fields),
      length-append (integer_text (pos 0)) (tagged_text 4 m.community.items ++ tagged_text (tag_of m.pdu) fields),
      length-append (length_text (length content)) content,
    )

pub reached-fits : (p m : Message) (text : List ℕ) (all : Result (List Bind) Fault) → p ≡ response m 0 0 [] → Written (Ok true) text all
    → length (message_around p text) ≤ 1472 → message_around p text ≡ shortest (with_values m all)
reached-fits p m text (Ok binds) same is fits =
    let whole : message_around p text ≡ shortest (response m 0 0 binds) = ap (λ (t : List ℕ). message_around p t) is ∙ around-is p m binds same in
    let small : nat_le (length (shortest (response m 0 0 binds))) 1472 ≡ true = grind (arith, nat_tests, ap length whole, fits) in
    rw small whole
reached-fits p m text (Err fault) same is fits = absurd is

pub reached-long : (p m : Message) (text : List ℕ) (all : Result (List Bind) Fault) → p ≡ response m 0 0 [] → Written (Ok true) text all
    → 1472 < length (message_around p text) → repeated m 1 0 ≡ with_values m all
reached-long p m text (Ok binds) same is long =
    let whole : message_around p text ≡ shortest (response m 0 0 binds) = ap (λ (t : List ℕ). message_around p t) is ∙ around-is p m binds same in
    let great : nat_le (length (shortest (response m 0 0 binds))) 1472 ≡ false = grind (arith, nat_tests, ap length whole, long) in
    rw great refl
reached-long p m text (Err fault) same is long = absurd is

pub reached-full : (m : Message) (text : List ℕ) (all : Result (List Bind) Fault) → Written (Ok false) text all → repeated m 1 0 ≡ with_values m all
reached-full m text (Ok binds) is =
    let great : nat_le (length (shortest (response m 0 0 binds))) 1472 ≡ false = grind (arith, nat_tests, is, list_within (response m 0 0 binds)) in
    rw great refl
reached-full m text (Err fault) is = absurd is

pub reached-fault : (m : Message) (text : List ℕ) (fault : Fault) (all : Result (List Bind) Fault) → Written (Err fault) text all → repeated m fault.status fault.index ≡ with_values m all
reached-fault m text fault (Err other) is = rw is refl
reached-fault m text fault (Ok binds) is = absurd is

-- a fault is small where those of all are
pub written-small : (result : Result Bool Fault) (text : List ℕ) (all : Result (List Bind) Fault) → Written result text all → IfErr all IsSmall → IfErr result IsSmall
written-small (Ok fits) text all is small = tt
written-small (Err fault) text (Err other) is small = subst IsSmall (sym is) small
written-small (Err fault) text (Ok binds) is small = absurd is
