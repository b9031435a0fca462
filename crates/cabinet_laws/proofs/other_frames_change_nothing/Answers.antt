use Rattle.std.proofs.Common.{ap, Option}
use Rattle.agent.specs.declared.ask.Ask.{Ask}
use Rattle.cabinet_history.specs.Coming.{coming, heeded, in_force}
use Rattle.cabinet_history.specs.CabinetAnswers.{replied, ask_end}
use Rattle.cabinet_laws.proofs.other_frames_change_nothing.Goals as goal

pub returns-clause-nothing : goal.returns-clause-nothing
returns-clause-nothing c = λ cabinet_history octets none.
    ap (λ (a : Option Ask). heeded (coming cabinet_history) a)
    (c.other_frames_ask_nothing.ensures.nothing octets cabinet_history.community (in_force (coming cabinet_history)) none)

pub returns-clause-silence : goal.returns-clause-silence
returns-clause-silence c = λ cabinet_history octets none.
    ap (λ (a : Option Ask). replied (coming cabinet_history) a)
    (c.other_frames_ask_nothing.ensures.nothing octets cabinet_history.community (in_force (coming cabinet_history)) none)

pub returns-clause-no_end : goal.returns-clause-no_end
returns-clause-no_end c = λ cabinet_history octets none.
    ap (λ (a : Option Ask). ask_end (coming cabinet_history) a)
    (c.other_frames_ask_nothing.ensures.nothing octets cabinet_history.community (in_force (coming cabinet_history)) none)
