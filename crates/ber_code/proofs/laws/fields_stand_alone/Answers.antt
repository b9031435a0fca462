use Rattle.ber_code.proofs.Exact.{alone_by}
use Rattle.ber_code.proofs.LengthLaws.{length_exact, tagged_exact}
use Rattle.ber_code.proofs.IntegerLaws.{integer_exact}
use Rattle.ber_code.proofs.NameLaws.{name_exact}
use Rattle.ber_code.proofs.laws.fields_stand_alone.Goals as goal

pub returns-clause-lengths : goal.returns-clause-lengths
returns-clause-lengths c = alone_by length_exact

pub returns-clause-integers : goal.returns-clause-integers
returns-clause-integers c = alone_by integer_exact

pub returns-clause-octets : goal.returns-clause-octets
returns-clause-octets c = alone_by (tagged_exact 4)

pub returns-clause-names : goal.returns-clause-names
returns-clause-names c = alone_by name_exact
