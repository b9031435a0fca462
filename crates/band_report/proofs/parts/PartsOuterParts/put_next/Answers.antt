use Rattle.band_report.proofs.parts.PartsOuterParts.put_next.Goals as goal

pub returns-in-scenario-clause-ok : goal.returns-in-scenario-clause-ok
returns-in-scenario-clause-ok c = rw c.in-scenario.is c.scenario_member.ensures.ok

pub returns-in-section-clause-ok : goal.returns-in-section-clause-ok
returns-in-section-clause-ok c = rw c.in-section.is c.section_member.ensures.ok

pub returns-in-pattern-clause-ok : goal.returns-in-pattern-clause-ok
returns-in-pattern-clause-ok c = rw c.in-pattern.is c.pattern_member.ensures.ok

pub returns-in-travel-clause-ok : goal.returns-in-travel-clause-ok
returns-in-travel-clause-ok c = rw c.in-travel.is c.travel_member.ensures.ok
