use Rattle.std.proofs.Common.{◌≡◌, ◌++◌, drop}
use Rattle.link_sim.specs.Agenda.{listed}
use Rattle.link_sim.proofs.items.input_dues.Given as goal

-- what is listed so far, with the rest, is the whole list
abbrev pub invariant-loop-input : goal.invariant-loop-input
invariant-loop-input l =
    (l.place ≡ l.input-index)
    × (l.dues.items ++ listed (λ i. i.round) (λ i. i.cabinet) l.place (drop l.input-index l.inputs) ≡ listed (λ i. i.round) (λ i. i.cabinet) 0 l.inputs)
