use Rattle.sig_tables.specs.Decide.{since_opening}
use Rattle.rule_facts.proofs.GivesWay.{each-gives-way}
use Rattle.rule_facts.proofs.greens_give_way.Goals as goal

pub returns : goal.returns
returns c = λ h a. each-gives-way h.tables (since_opening h) a
