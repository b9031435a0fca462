-- The frame of a priority request fits into 1,472 octets: it has one binding, of at most 50 octets.
use Rattle.std.proofs.Common.{◌≡◌, ℕ, ◌+◌, ◌≤◌, ◌==◌, List, [], ◌∷◌, ◌++◌, length, arith}
use Rattle.std.specs.Prelude.{ℤ}
use Rattle.std.proofs.lemmas.Bool.Decides.{nat_tests}
use Rattle.std.proofs.lemmas.List.{length-append}
use Rattle.ber_code.specs.Lengths.{length_text, tagged_text}
use Rattle.ber_code.specs.Names.{name_text}
use Rattle.snmp_msg.specs.declared.message.Pdu.TheVariants.{Set}
use Rattle.snmp_msg.specs.declared.message.Bind.{Bind}
use Rattle.snmp_msg.specs.Shortest.{value_text, binding_text, binding_content}
use Rattle.oid_map.specs.declared.names.Name.TheVariants.{Cancel as CancelName}
use Rattle.requests.specs.Requests.{set_text}
use Rattle.requests.proofs.Fits.{own_few, number_few, request_few}
use Rattle.scenario_data.specs.declared.scenario.PriorityAct.{PriorityAct}
use Rattle.scenario_data.specs.declared.scenario.PriorityAct.TheVariants.{Request as RequestAct, Cancel as CancelAct}
use Rattle.sig_types.specs.declared.notes.Request.{Request}
use Rattle.link_sim.specs.Priority.{request_octets, act_bind}

length_few : (n : ℕ) → length (length_text n) ≤ 5
unfolding length_text
length_few n = grind (arith, nat_tests)

tagged_few : (tag : ℕ) (content : List ℕ) → length (tagged_text tag content) ≤ 6 + length content
tagged_few tag content = omega (arith, length_few (length content), length-append (length_text (length content)) content)

-- the binding of a request: a name of ours and eight octets
octets_few : (r : Request) → length (binding_text (act_bind (RequestAct r))) ≤ 50
unfolding binding_text value_text
octets_few r =
    let bind = act_bind (RequestAct r) in
    omega (
      arith,
      own_few (4 ∷ 1 ∷ 0 ∷ []) (omega arith, (omega arith, (omega arith, tt))) (omega arith),
      tagged_few 4 (request_octets r),
      tagged_few 48 (binding_content bind),
      length-append (name_text bind.name.items) (value_text bind.value),
    )

act_few : (act : PriorityAct) → length (binding_text (act_bind act)) ≤ 50
act_few (RequestAct r) = octets_few r
act_few (CancelAct n) = number_few CancelName n (own_few (4 ∷ 2 ∷ 0 ∷ []) (omega arith, (omega arith, (omega arith, tt))) (omega arith))

pub act_fits : (community : List ℕ) (id : ℤ) (act : PriorityAct) (binds : List Bind) → length community ≤ 32 → binds ≡ act_bind act ∷ []
    → length (set_text community id binds) ≤ 1472
act_fits community id act binds short is = rw is (request_few Set community id (act_bind act ∷ []) short (act_few act, tt) (omega arith))
