use Rattle.std.proofs.Common.{[], refl}
use Rattle.scenario_cut.specs.declared.judge.Listing.TheVariants.{Inputs, Loads, Priority, Frames, Faults}
use Rattle.scenario_cut.proofs.Passes.{looked-for}
use Rattle.scenario_cut.proofs.groups.first_of.Goals as goal

pub returns : goal.returns
returns c = λ s d group knows.
    let e = s.extent in
    let five = c.behind-from_faults.ensures Faults e d [] (knows Faults (looked-for s Faults group refl)) (refl, tt) in
    let four = c.behind-from_frames.ensures Frames e d _ (knows Frames (looked-for s Frames group refl)) five in
    let three = c.behind-from_priority.ensures Priority e d _ (knows Priority (looked-for s Priority group refl)) four in
    let two = c.behind-from_loads.ensures Loads e d _ (knows Loads (looked-for s Loads group refl)) three in
    c.behind.ensures Inputs e d _ (knows Inputs (looked-for s Inputs group refl)) two
