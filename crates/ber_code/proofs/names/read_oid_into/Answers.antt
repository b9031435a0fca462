use Rattle.std.proofs.Common.{List, ℕ, [], Some, None}
use Rattle.ber_code.proofs.Exact.{found_by, none_by, each_by}
use Rattle.ber_code.proofs.NameLaws.{name_exact, name_writable}
use Rattle.ber_code.proofs.names.read_oid_into.Goals as goal

pub returns-in-Some-clause-found : goal.returns-in-Some-clause-found
returns-in-Some-clause-found c = found_by (λ rest. c.oid_into.new.name.items) (λ rest. rest) name_exact c.args.bytes.now (Some c.in-Some.rest.now) c.in-Some.ensures

pub returns-in-Some-clause-each : goal.returns-in-Some-clause-each
returns-in-Some-clause-each c = each_by (λ rest. (c.oid_into.new.name.items, rest)) name_exact c.args.bytes.now (Some c.in-Some.rest.now) c.in-Some.ensures

pub returns-in-Some-clause-writable : goal.returns-in-Some-clause-writable
returns-in-Some-clause-writable c =
    let begins = returns-in-Some-clause-found c in
    name_writable begins.0 c.oid_into.new.name.items begins.1

pub returns-in-None-clause-none : goal.returns-in-None-clause-none
returns-in-None-clause-none c = none_by (λ (rest : List ℕ). []) (λ (rest : List ℕ). rest) name_exact c.args.bytes.now None c.in-None.ensures

pub returns-in-None-clause-each : goal.returns-in-None-clause-each
returns-in-None-clause-each c = each_by (λ (rest : List ℕ). ([], rest)) name_exact c.args.bytes.now None c.in-None.ensures
