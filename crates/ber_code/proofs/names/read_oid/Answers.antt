use Rattle.ber_code.proofs.names.read_oid.Goals as goal

pub returns-clause-each : goal.returns-clause-each
returns-clause-each c = c.in_ok-rest.ensures.each
