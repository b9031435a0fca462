use Rattle.ber_code.proofs.Exact.{found_by, none_by, each_by}
use Rattle.ber_code.proofs.LengthLaws.{tagged_exact}
use Rattle.ber_code.proofs.lengths.read_tagged.Goals as goal

pub returns-clause-found : goal.returns-clause-found
returns-clause-found c = found_by (λ x. x.0.now) (λ x. x.1.now) (tagged_exact c.args.tag) c.args.bytes.now c.tagged_of.result c.tagged_of.ensures

pub returns-clause-none : goal.returns-clause-none
returns-clause-none c = none_by (λ x. x.0.now) (λ x. x.1.now) (tagged_exact c.args.tag) c.args.bytes.now c.tagged_of.result c.tagged_of.ensures

pub returns-clause-each : goal.returns-clause-each
returns-clause-each c = each_by (λ x. (x.0.now, x.1.now)) (tagged_exact c.args.tag) c.args.bytes.now c.tagged_of.result c.tagged_of.ensures
