use Rattle.look_back.proofs.window.Window.read.Goals as goal

pub returns-then-shows_last : goal.returns-then-shows_last
returns-then-shows_last c = λ past stands.
    rw (← c.shows_last.ensures.veh c.if-shows_last.true, ← c.shows_last.ensures.ped c.if-shows_last.true, c.newest.ensures) stands.shown
