use Rattle.std.proofs.Common.{◌≡◌, subst}
use Rattle.scenario_read.specs.Content.{list_in, whole_of}
use Rattle.scenario_checked.specs.Inside.{scenario}
use Rattle.band_report.specs.Asked.{section, pattern, travel}
use Rattle.band_report.specs.Parts.{AnswersAt, SaysCabinets, SaysNumber}
use Rattle.band_report.proofs.ByParts.{scenario-refused, section-refused, pattern-refused, travel-refused, none-found}
use Rattle.band_report.proofs.by_parts.named_in_parts.Goals as goal

pub returns-in-Err-clause-read : goal.returns-in-Err-clause-read
returns-in-Err-clause-read c = λ ms stand.
    let s = subst (λ a. AnswersAt scenario a SaysCabinets ms) c.in-Err.is stand.scenario in
    scenario-refused ms stand.known c.in-Err.fail s

pub returns-in-Err-section-clause-read : goal.returns-in-Err-section-clause-read
returns-in-Err-section-clause-read c = λ ms stand.
    let s = subst (λ a. AnswersAt scenario a SaysCabinets ms) c.in-Ok.is stand.scenario in
    let n = subst (λ a. AnswersAt section a SaysNumber ms) c.in-Err-section.is stand.section in
    section-refused ms stand.known s.0 c.in-Err-section.fail n

pub returns-in-Err-pattern-clause-read : goal.returns-in-Err-pattern-clause-read
returns-in-Err-pattern-clause-read c = λ ms stand.
    let s = subst (λ a. AnswersAt scenario a SaysCabinets ms) c.in-Ok.is stand.scenario in
    let n = subst (λ a. AnswersAt section a SaysNumber ms) c.in-Ok-section.is stand.section in
    let p = subst (λ a. AnswersAt pattern a SaysNumber ms) c.in-Err-pattern.is stand.pattern in
    pattern-refused ms stand.known s.0 n.0 c.in-Err-pattern.fail p

pub returns-in-Err-travel-clause-read : goal.returns-in-Err-travel-clause-read
returns-in-Err-travel-clause-read c = λ ms stand.
    let s = subst (λ a. AnswersAt scenario a SaysCabinets ms) c.in-Ok.is stand.scenario in
    let n = subst (λ a. AnswersAt section a SaysNumber ms) c.in-Ok-section.is stand.section in
    let p = subst (λ a. AnswersAt pattern a SaysNumber ms) c.in-Ok-pattern.is stand.pattern in
    let t = subst (λ a. AnswersAt travel a (λ found d. found.items ≡ list_in whole_of d) ms) c.in-Err-travel.is stand.travel in
    travel-refused ms stand.known s.0 n.0 p.0 c.in-Err-travel.fail t

pub returns-clause-read : goal.returns-clause-read
returns-clause-read c = λ ms stand.
    let s = subst (λ a. AnswersAt scenario a SaysCabinets ms) c.in-Ok.is stand.scenario in
    let n = subst (λ a. AnswersAt section a SaysNumber ms) c.in-Ok-section.is stand.section in
    let p = subst (λ a. AnswersAt pattern a SaysNumber ms) c.in-Ok-pattern.is stand.pattern in
    let t = subst (λ a. AnswersAt travel a (λ found d. found.items ≡ list_in whole_of d) ms) c.in-Ok-travel.is stand.travel in
    (none-found ms stand.known s.0 n.0 p.0 t.0, record { cabinets = s.1.0; section = n.1; pattern = p.1; travel = t.1 })
