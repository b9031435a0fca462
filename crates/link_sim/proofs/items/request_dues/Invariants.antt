use Rattle.std.proofs.Common.{◌≡◌, ◌++◌, drop}
use Rattle.link_sim.specs.Agenda.{listed}
use Rattle.link_sim.proofs.items.request_dues.Given as goal

-- what is listed so far, with the rest, is the whole list
abbrev pub invariant-loop-item : goal.invariant-loop-item
invariant-loop-item l =
    (l.place ≡ l.item-index)
    × (l.dues.items ++ listed (λ p. p.round) (λ p. p.cabinet) l.place (drop l.item-index l.items) ≡ listed (λ p. p.round) (λ p. p.cabinet) 0 l.items)
