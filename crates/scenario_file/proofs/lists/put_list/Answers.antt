use Rattle.std.proofs.Common.{◌≡◌, codes, true, refl, subst}
use Rattle.scenario_file.specs.declared.found.Found.{Found}
use Rattle.scenario_file.specs.declared.found.Found.TheVariants.{Cabinets, Inputs, Loads, Priority, Frames, Faults, Schedule}
use Rattle.scenario_file.specs.Listing.{Holds, AllOf, Within, name_of}
use Rattle.scenario_file.specs.Framing.{is_list, stand_in}
use Rattle.scenario_file.proofs.Standing.{stand-here, stand-other, schedule-here, schedule-other, same-list, no-such-list}
use Rattle.scenario_file.proofs.lists.put_list.Goals as goal

pub returns-in-Cabinets-clause-top : goal.returns-in-Cabinets-clause-top
returns-in-Cabinets-clause-top c = λ top frame rows ds stands listed.
    let far = c.farthest-lists.ensures in
    let now = c.farthest-lists.result in
    let found = Cabinets c.in-Cabinets.cabinets in
    let here : Holds found ds = subst (λ (f : Found). Holds f ds) c.in-Cabinets.is listed.holds in
    let within : AllOf (Within (codes "cabinets") c.args.listed.last) ds = subst (λ (f : Found). AllOf (Within (name_of f) c.args.listed.last) ds) c.in-Cabinets.is listed.within in
    same-list _ c.args.listed.found found frame rows ds c.in-Cabinets.is
    record {
      cabinets = stand-here found c.args.listed.text c.args.listed.last now frame ds here listed.text within far.other_far;
      inputs = stand-other _ _ c.args.lists.now.last now frame _ (codes "cabinets") (stand_in (codes "cabinets") ds) refl far.self_far stands.inputs;
      loads = stand-other _ _ c.args.lists.now.last now frame _ (codes "cabinets") (stand_in (codes "cabinets") ds) refl far.self_far stands.loads;
      priority = stand-other _ _ c.args.lists.now.last now frame _ (codes "cabinets") (stand_in (codes "cabinets") ds) refl far.self_far stands.priority;
      frames = stand-other _ _ c.args.lists.now.last now frame _ (codes "cabinets") (stand_in (codes "cabinets") ds) refl far.self_far stands.frames;
      faults = stand-other _ _ c.args.lists.now.last now frame _ (codes "cabinets") (stand_in (codes "cabinets") ds) refl far.self_far stands.faults;
      schedule = schedule-other _ _ frame _ (codes "cabinets") (stand_in (codes "cabinets") ds) refl stands.schedule;
    }

pub returns-in-Cabinets-clause-schedule : goal.returns-in-Cabinets-clause-schedule
returns-in-Cabinets-clause-schedule c = λ named. absurd (no-such-list c.args.listed.found (Cabinets c.in-Cabinets.cabinets) c.in-Cabinets.is named refl)

pub returns-in-Inputs-clause-top : goal.returns-in-Inputs-clause-top
returns-in-Inputs-clause-top c = λ top frame rows ds stands listed.
    let far = c.farthest-lists.ensures in
    let now = c.farthest-lists.result in
    let found = Inputs c.in-Inputs.inputs in
    let here : Holds found ds = subst (λ (f : Found). Holds f ds) c.in-Inputs.is listed.holds in
    let within : AllOf (Within (codes "inputs") c.args.listed.last) ds = subst (λ (f : Found). AllOf (Within (name_of f) c.args.listed.last) ds) c.in-Inputs.is listed.within in
    same-list _ c.args.listed.found found frame rows ds c.in-Inputs.is
    record {
      cabinets = stand-other _ _ c.args.lists.now.last now frame _ (codes "inputs") (stand_in (codes "inputs") ds) refl far.self_far stands.cabinets;
      inputs = stand-here found c.args.listed.text c.args.listed.last now frame ds here listed.text within far.other_far;
      loads = stand-other _ _ c.args.lists.now.last now frame _ (codes "inputs") (stand_in (codes "inputs") ds) refl far.self_far stands.loads;
      priority = stand-other _ _ c.args.lists.now.last now frame _ (codes "inputs") (stand_in (codes "inputs") ds) refl far.self_far stands.priority;
      frames = stand-other _ _ c.args.lists.now.last now frame _ (codes "inputs") (stand_in (codes "inputs") ds) refl far.self_far stands.frames;
      faults = stand-other _ _ c.args.lists.now.last now frame _ (codes "inputs") (stand_in (codes "inputs") ds) refl far.self_far stands.faults;
      schedule = schedule-other _ _ frame _ (codes "inputs") (stand_in (codes "inputs") ds) refl stands.schedule;
    }

pub returns-in-Inputs-clause-schedule : goal.returns-in-Inputs-clause-schedule
returns-in-Inputs-clause-schedule c = λ named. absurd (no-such-list c.args.listed.found (Inputs c.in-Inputs.inputs) c.in-Inputs.is named refl)

pub returns-in-Loads-clause-top : goal.returns-in-Loads-clause-top
returns-in-Loads-clause-top c = λ top frame rows ds stands listed.
    let far = c.farthest-lists.ensures in
    let now = c.farthest-lists.result in
    let found = Loads c.in-Loads.loads in
    let here : Holds found ds = subst (λ (f : Found). Holds f ds) c.in-Loads.is listed.holds in
    let within : AllOf (Within (codes "loads") c.args.listed.last) ds = subst (λ (f : Found). AllOf (Within (name_of f) c.args.listed.last) ds) c.in-Loads.is listed.within in
    same-list _ c.args.listed.found found frame rows ds c.in-Loads.is
    record {
      cabinets = stand-other _ _ c.args.lists.now.last now frame _ (codes "loads") (stand_in (codes "loads") ds) refl far.self_far stands.cabinets;
      inputs = stand-other _ _ c.args.lists.now.last now frame _ (codes "loads") (stand_in (codes "loads") ds) refl far.self_far stands.inputs;
      loads = stand-here found c.args.listed.text c.args.listed.last now frame ds here listed.text within far.other_far;
      priority = stand-other _ _ c.args.lists.now.last now frame _ (codes "loads") (stand_in (codes "loads") ds) refl far.self_far stands.priority;
      frames = stand-other _ _ c.args.lists.now.last now frame _ (codes "loads") (stand_in (codes "loads") ds) refl far.self_far stands.frames;
      faults = stand-other _ _ c.args.lists.now.last now frame _ (codes "loads") (stand_in (codes "loads") ds) refl far.self_far stands.faults;
      schedule = schedule-other _ _ frame _ (codes "loads") (stand_in (codes "loads") ds) refl stands.schedule;
    }

pub returns-in-Loads-clause-schedule : goal.returns-in-Loads-clause-schedule
returns-in-Loads-clause-schedule c = λ named. absurd (no-such-list c.args.listed.found (Loads c.in-Loads.loads) c.in-Loads.is named refl)

pub returns-in-Priority-clause-top : goal.returns-in-Priority-clause-top
returns-in-Priority-clause-top c = λ top frame rows ds stands listed.
    let far = c.farthest-lists.ensures in
    let now = c.farthest-lists.result in
    let found = Priority c.in-Priority.priority in
    let here : Holds found ds = subst (λ (f : Found). Holds f ds) c.in-Priority.is listed.holds in
    let within : AllOf (Within (codes "priority") c.args.listed.last) ds = subst (λ (f : Found). AllOf (Within (name_of f) c.args.listed.last) ds) c.in-Priority.is listed.within in
    same-list _ c.args.listed.found found frame rows ds c.in-Priority.is
    record {
      cabinets = stand-other _ _ c.args.lists.now.last now frame _ (codes "priority") (stand_in (codes "priority") ds) refl far.self_far stands.cabinets;
      inputs = stand-other _ _ c.args.lists.now.last now frame _ (codes "priority") (stand_in (codes "priority") ds) refl far.self_far stands.inputs;
      loads = stand-other _ _ c.args.lists.now.last now frame _ (codes "priority") (stand_in (codes "priority") ds) refl far.self_far stands.loads;
      priority = stand-here found c.args.listed.text c.args.listed.last now frame ds here listed.text within far.other_far;
      frames = stand-other _ _ c.args.lists.now.last now frame _ (codes "priority") (stand_in (codes "priority") ds) refl far.self_far stands.frames;
      faults = stand-other _ _ c.args.lists.now.last now frame _ (codes "priority") (stand_in (codes "priority") ds) refl far.self_far stands.faults;
      schedule = schedule-other _ _ frame _ (codes "priority") (stand_in (codes "priority") ds) refl stands.schedule;
    }

pub returns-in-Priority-clause-schedule : goal.returns-in-Priority-clause-schedule
returns-in-Priority-clause-schedule c = λ named. absurd (no-such-list c.args.listed.found (Priority c.in-Priority.priority) c.in-Priority.is named refl)

pub returns-in-Frames-clause-top : goal.returns-in-Frames-clause-top
returns-in-Frames-clause-top c = λ top frame rows ds stands listed.
    let far = c.farthest-lists.ensures in
    let now = c.farthest-lists.result in
    let found = Frames c.in-Frames.frames in
    let here : Holds found ds = subst (λ (f : Found). Holds f ds) c.in-Frames.is listed.holds in
    let within : AllOf (Within (codes "frames") c.args.listed.last) ds = subst (λ (f : Found). AllOf (Within (name_of f) c.args.listed.last) ds) c.in-Frames.is listed.within in
    same-list _ c.args.listed.found found frame rows ds c.in-Frames.is
    record {
      cabinets = stand-other _ _ c.args.lists.now.last now frame _ (codes "frames") (stand_in (codes "frames") ds) refl far.self_far stands.cabinets;
      inputs = stand-other _ _ c.args.lists.now.last now frame _ (codes "frames") (stand_in (codes "frames") ds) refl far.self_far stands.inputs;
      loads = stand-other _ _ c.args.lists.now.last now frame _ (codes "frames") (stand_in (codes "frames") ds) refl far.self_far stands.loads;
      priority = stand-other _ _ c.args.lists.now.last now frame _ (codes "frames") (stand_in (codes "frames") ds) refl far.self_far stands.priority;
      frames = stand-here found c.args.listed.text c.args.listed.last now frame ds here listed.text within far.other_far;
      faults = stand-other _ _ c.args.lists.now.last now frame _ (codes "frames") (stand_in (codes "frames") ds) refl far.self_far stands.faults;
      schedule = schedule-other _ _ frame _ (codes "frames") (stand_in (codes "frames") ds) refl stands.schedule;
    }

pub returns-in-Frames-clause-schedule : goal.returns-in-Frames-clause-schedule
returns-in-Frames-clause-schedule c = λ named. absurd (no-such-list c.args.listed.found (Frames c.in-Frames.frames) c.in-Frames.is named refl)

pub returns-in-Faults-clause-top : goal.returns-in-Faults-clause-top
returns-in-Faults-clause-top c = λ top frame rows ds stands listed.
    let far = c.farthest-lists.ensures in
    let now = c.farthest-lists.result in
    let found = Faults c.in-Faults.faults in
    let here : Holds found ds = subst (λ (f : Found). Holds f ds) c.in-Faults.is listed.holds in
    let within : AllOf (Within (codes "faults") c.args.listed.last) ds = subst (λ (f : Found). AllOf (Within (name_of f) c.args.listed.last) ds) c.in-Faults.is listed.within in
    same-list _ c.args.listed.found found frame rows ds c.in-Faults.is
    record {
      cabinets = stand-other _ _ c.args.lists.now.last now frame _ (codes "faults") (stand_in (codes "faults") ds) refl far.self_far stands.cabinets;
      inputs = stand-other _ _ c.args.lists.now.last now frame _ (codes "faults") (stand_in (codes "faults") ds) refl far.self_far stands.inputs;
      loads = stand-other _ _ c.args.lists.now.last now frame _ (codes "faults") (stand_in (codes "faults") ds) refl far.self_far stands.loads;
      priority = stand-other _ _ c.args.lists.now.last now frame _ (codes "faults") (stand_in (codes "faults") ds) refl far.self_far stands.priority;
      frames = stand-other _ _ c.args.lists.now.last now frame _ (codes "faults") (stand_in (codes "faults") ds) refl far.self_far stands.frames;
      faults = stand-here found c.args.listed.text c.args.listed.last now frame ds here listed.text within far.other_far;
      schedule = schedule-other _ _ frame _ (codes "faults") (stand_in (codes "faults") ds) refl stands.schedule;
    }

pub returns-in-Faults-clause-schedule : goal.returns-in-Faults-clause-schedule
returns-in-Faults-clause-schedule c = λ named. absurd (no-such-list c.args.listed.found (Faults c.in-Faults.faults) c.in-Faults.is named refl)

pub returns-in-Schedule-clause-top : goal.returns-in-Schedule-clause-top
returns-in-Schedule-clause-top c = λ top. let none : is_list (name_of (Schedule c.in-Schedule.schedule)) ≡ true = subst (λ (f : Found). is_list (name_of f) ≡ true) c.in-Schedule.is top in absurd (cc)

pub returns-in-Schedule-clause-schedule : goal.returns-in-Schedule-clause-schedule
returns-in-Schedule-clause-schedule c = λ named frame rows ds master stands listed held.
    let far = c.farthest-lists.ensures in
    let now = c.farthest-lists.result in
    let found = Schedule c.in-Schedule.schedule in
    let here : Holds found ds = subst (λ (f : Found). Holds f ds) c.in-Schedule.is listed.holds in
    record {
      cabinets = stand-other _ _ c.args.lists.now.last now frame _ (codes "master") master refl far.self_far stands.cabinets;
      inputs = stand-other _ _ c.args.lists.now.last now frame _ (codes "master") master refl far.self_far stands.inputs;
      loads = stand-other _ _ c.args.lists.now.last now frame _ (codes "master") master refl far.self_far stands.loads;
      priority = stand-other _ _ c.args.lists.now.last now frame _ (codes "master") master refl far.self_far stands.priority;
      frames = stand-other _ _ c.args.lists.now.last now frame _ (codes "master") master refl far.self_far stands.frames;
      faults = stand-other _ _ c.args.lists.now.last now frame _ (codes "master") master refl far.self_far stands.faults;
      schedule = schedule-here found c.args.listed.text frame ds master here listed.text held;
    }
