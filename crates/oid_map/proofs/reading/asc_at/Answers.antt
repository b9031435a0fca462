use Rattle.std.proofs.Common.{◌≡◌, ◌++◌, ℕ, List, sym, subst}
use Rattle.std.specs.Prelude.{IfSome}
use Rattle.oid_map.specs.Objects.{asc}
use Rattle.oid_map.specs.Names.{IsName, arcs_of}
use Rattle.oid_map.proofs.Back.{five_is, six_is}
use Rattle.oid_map.proofs.reading.asc_at.Goals as goal

pub returns-in-len5-clause-found : goal.returns-in-len5-clause-found
returns-in-len5-clause-found c = subst (λ (arcs : List ℕ). IfSome c.by_one_at.result (λ n. IsName n × (asc ++ arcs ≡ arcs_of n)))
    (sym (five_is c.args.arcs.now c.in-len5.len_at_least c.in-len5.len_below)) c.by_one_at.ensures.found

pub returns-in-len6-clause-found : goal.returns-in-len6-clause-found
returns-in-len6-clause-found c = subst (λ (arcs : List ℕ). IfSome c.by_two_at.result (λ n. IsName n × (asc ++ arcs ≡ arcs_of n)))
    (sym (six_is c.args.arcs.now c.in-len6.len_at_least c.in-len6.len_below)) c.by_two_at.ensures.found
