use Rattle.std.proofs.Common.{List, ℕ, arith, subst}
use Rattle.ber_code.specs.Names.{name_text, name_octets, IsName}
use Rattle.ber_code.proofs.Texts.{tagged_is}
use Rattle.ber_code.proofs.names.oid_size.Goals as goal

pub returns-clause-text : goal.returns-clause-text
unfolding name_text
returns-clause-text c =
    let arcs = c.as_slice.result.now in
    let few = c.contents_size.ensures.small in
    let size = c.contents_size.ensures.size in
    subst (λ (all : List ℕ). IsName (name_text all) all) c.as_slice.ensures.value
    (name_octets arcs, c.contents_size.ensures.contents, tagged_is 6 (name_octets arcs) (omega arith))
