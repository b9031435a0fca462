use Rattle.ber_code.proofs.Texts.{length_is, tagged_is, integer_is, name_is}
use Rattle.ber_code.proofs.laws.shortest_texts_are_texts.Goals as goal

pub returns-clause-lengths : goal.returns-clause-lengths
returns-clause-lengths c = length_is

pub returns-clause-integers : goal.returns-clause-integers
returns-clause-integers c = integer_is

pub returns-clause-octets : goal.returns-clause-octets
returns-clause-octets c = tagged_is 4

pub returns-clause-names : goal.returns-clause-names
returns-clause-names c = name_is
