use Rattle.std.proofs.Common.{◌≡◌, ◌∙◌, ◌≤◌, List, ℕ, [], length, sym, ap, subst, w32}
use Rattle.std.specs.Prelude.{ℤ}
use Rattle.std.specs.List.{flat_map}
use Rattle.std.proofs.lemmas.Bool.{false≢true}
use Rattle.std.proofs.lemmas.Int.{to_z-of_z}
use Rattle.snmp_msg.specs.declared.message.Bind.{Bind}
use Rattle.snmp_msg.specs.declared.message.Pdu.TheVariants.{Get}
use Rattle.snmp_msg.specs.Around.{message_around}
use Rattle.snmp_msg.specs.Shortest.{binding_text}
use Rattle.requests.specs.Requests.{get_text, request}
use Rattle.requests.proofs.Around.{around_is}
use Rattle.requests.proofs.writing.write_get_around.Goals as goal

-- what is written around the texts of some bindings is the Get of them
is_get : (community list : List ℕ) (id passed : ℤ) (binds : List Bind) → passed ≡ id → list ≡ flat_map binding_text binds
    → message_around (request Get community passed []) list ≡ get_text community id binds
is_get community list id passed binds same is =
    ap (λ (n : ℤ). message_around (request Get community n []) list) same ∙ ap (message_around (request Get community id [])) is ∙ around_is Get community id binds

pub returns-in-Ok : goal.returns-in-Ok
returns-in-Ok c = λ binds is fits.
    c.in-Ok.ensures.ok ∙ is_get c.args.community.now.items c.args.list.now c.args.id _ binds (to_z-of_z w32 c.args.id c.ranges.id) is

pub returns-in-Err : goal.returns-in-Err
returns-in-Err c = λ binds is fits.
    absurd (false≢true (c.in-Err.ensures.variant.1
    (subst (λ (text : List ℕ). length text ≤ 1472) (sym (is_get c.args.community.now.items c.args.list.now c.args.id _ binds (to_z-of_z w32 c.args.id c.ranges.id) is)) fits)))
