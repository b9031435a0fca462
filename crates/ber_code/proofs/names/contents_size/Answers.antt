use Rattle.std.proofs.Common.{arith}
use Rattle.ber_code.proofs.Texts.{contents_of_name, all_fit}
use Rattle.ber_code.proofs.names.contents_size.Goals as goal

pub returns-clause-contents : goal.returns-clause-contents
returns-clause-contents c = contents_of_name c.args.arcs.now c.requires (all_fit c.args.arcs.now (λ i. omega (arith, c.type_inv.arcs i)))
