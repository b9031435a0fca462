use Rattle.ber_code.proofs.Exact.{found_by, none_by, each_by}
use Rattle.ber_code.proofs.IntegerLaws.{integer_exact}
use Rattle.ber_code.proofs.integers.read_int.Goals as goal

pub returns-clause-found : goal.returns-clause-found
returns-clause-found c = found_by (λ x. x.0) (λ x. x.1.now) integer_exact c.args.bytes.now c.integer_of.result c.integer_of.ensures

pub returns-clause-none : goal.returns-clause-none
returns-clause-none c = none_by (λ x. x.0) (λ x. x.1.now) integer_exact c.args.bytes.now c.integer_of.result c.integer_of.ensures

pub returns-clause-each : goal.returns-clause-each
returns-clause-each c = each_by (λ x. (x.0, x.1.now)) integer_exact c.args.bytes.now c.integer_of.result c.integer_of.ensures
