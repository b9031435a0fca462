use Rattle.std.proofs.Common.{◌≡◌, ℕ, ◌≤◌, ◌+◌, ◌++◌, drop}
use Rattle.sig_types.specs.Items.{texts_of}
use Rattle.link_sim.specs.LateLists.{listed_late, NoneAfter}
use Rattle.link_sim.specs.Kept.{faults_in}
use Rattle.link_sim.specs.Carried.{arriving_from, copies_from}
use Rattle.link_sim.proofs.stream_line.send.Given as goal

-- what has arrived and what is kept so far, with that of the frames to come, is that of all
abbrev pub invariant-loop-octets : goal.invariant-loop-octets
invariant-loop-octets l =
    (l.place ≡ l.octets-index)
    × (texts_of l.out.items ++ arriving_from (faults_in l.faults) l.line l.round l.place (texts_of (drop l.octets-index l.sent))
    ≡ texts_of l.fn.out.items ++ arriving_from (faults_in l.faults) l.line l.round 0 (texts_of l.sent))
    × ((rounds : ℕ) → 1 ≤ rounds → listed_late (l.round + 1) (l.round + rounds) l.late ++ copies_from (faults_in l.faults) l.line l.round rounds l.place (texts_of (drop l.octets-index l.sent))
    ≡ listed_late (l.round + 1) (l.round + rounds) l.fn.late ++ copies_from (faults_in l.faults) l.line l.round rounds 0 (texts_of l.sent))
    × ((due : ℕ) → listed_late l.round due l.late ≡ listed_late l.round due l.fn.late)
    × NoneAfter l.round l.late
