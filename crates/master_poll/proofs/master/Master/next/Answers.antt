use Rattle.master_poll.proofs.master.Master.next.Goals as goal

pub returns-clause-round : goal.returns-clause-round
returns-clause-round c = λ before h.
    let made = c.in-Ok.ensures.made before h in
    record { stands = made.stands; sendings = made.sendings; notes = made.notes }
