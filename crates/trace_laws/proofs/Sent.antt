-- What the master sends is the octets of frames, and so are the scenario's own requests.
use Rattle.std.proofs.Common.{ℕ, zero, suc, ◌+◌, ◌-◌, ◌*◌, ◌≤◌, ◌==◌, ◌&&◌, ◌∷◌, [], Bool, true, false, if◌then◌else◌, List, length, map, take, drop, refl, arith}
use Rattle.std.specs.Prelude.{ℤ, pos}
use Rattle.std.specs.List.{AllByRecursion, slice_get}
use Rattle.sig_tables.specs.declared.cells.Cell.{Cell}
use Rattle.sig_tables.specs.Cells.{Content, Number, Octets as OctetsContent}
use Rattle.snmp_msg.specs.declared.message.Pdu.{Pdu}
use Rattle.snmp_msg.specs.declared.message.Pdu.TheVariants.{Get, Set}
use Rattle.snmp_msg.specs.declared.message.Bind.{Bind}
use Rattle.snmp_msg.specs.Shortest.{shortest, AreOctets}
use Rattle.oid_map.specs.declared.names.Name.{Name}
use Rattle.oid_map.specs.declared.names.Name.TheVariants.{Cell as CellName, Group, PatternStatus, PatternControl, Txn, Clock, Counter, Target, ModeCode, Request as RequestName, Cancel as CancelName}
use Rattle.oid_map.specs.Names.{IsName}
use Rattle.scenario_data.specs.declared.scenario.PriorityAct.{PriorityAct}
use Rattle.scenario_data.specs.declared.scenario.PriorityAct.TheVariants.{Request as AskRequest, Cancel}
use Rattle.scenario_data.specs.declared.scenario.PriorityItem.{PriorityItem}
use Rattle.scenario_data.specs.Content.{LoadContent, ScenarioContent}
use Rattle.requests.specs.Requests.{number_at, asked_for, request, set_text}
use Rattle.master_load.specs.declared.download.Step.{Step}
use Rattle.master_load.specs.declared.download.Step.TheVariants.{Begin, Part, Verify, Finish}
use Rattle.master_load.specs.declared.download.LoadFrame.{LoadFrame}
use Rattle.master_load.specs.Downloads.{ArePuts, AreLoads, cells_in, cells_of, cell_bind, part_cells, parts_for, loads_of, step_binds, frame_text}
use Rattle.master_load.proofs.Fits.{frame_fits}
use Rattle.master_poll.specs.declared.command.Task.{Task}
use Rattle.master_poll.specs.declared.command.Task.TheVariants.{Pattern as PatternTask, Clock as ClockTask, Poll as PollTask}
use Rattle.master_poll.specs.declared.command.Command.{Command}
use Rattle.master_poll.specs.Sends.{polled, task_text, command_text}
use Rattle.master_poll.proofs.Fits.{pattern_fits, clock_fits, poll_fits}
use Rattle.link_sim.specs.Priority.{act_bind, priority_from}
use Rattle.link_sim.specs.Reaching.{requested}
use Rattle.link_sim.proofs.Fits.{act_fits}
use Rattle.runnable.specs.Octets.{HoldsOctets, PutOctets, IsShortAct, OnlyOctets}
use Rattle.trace_laws.specs.Messages.{IsFrame, IsOctetBind}
use Rattle.trace_laws.specs.Items.{AllOctets, EachOctets}
use Rattle.trace_laws.proofs.OctetTexts.{shortest-frame}
use Rattle.trace_laws.proofs.Named.{name-short}

abbrev AreBinds : List Bind → Type 0
AreBinds binds = AllByRecursion IsOctetBind binds

request-frame : (pdu : Pdu) (community : List ℕ) (id : ℤ) (binds : List Bind) → AreOctets community → AreBinds binds
    → length (shortest (request pdu community id binds)) ≤ 1472 → IsFrame (shortest (request pdu community id binds))
request-frame pdu community id binds own all fits =
    shortest-frame (request pdu community id binds) (record { community = own; binds = all }) fits

number-bind : (name : Name) (n : ℕ) → IsName name → IsOctetBind (number_at name n)
number-bind name n is = record { name = name-short name is; value = tt }

asked-bind : (name : Name) → IsName name → IsOctetBind (asked_for name)
asked-bind name is = record { name = name-short name is; value = tt }

-- ---- commands

polled-binds : AreBinds (map asked_for polled)
polled-binds = (
  asked-bind PatternStatus tt,
  (
    asked-bind Counter tt,
    (
      asked-bind Target tt,
      (
        asked-bind ModeCode tt,
        (
          asked-bind (Txn 10) (omega arith, omega arith),
          (
            asked-bind (Group 4 1) ((omega arith, omega arith), (omega arith, omega arith)),
            (
              asked-bind (Group 4 2) ((omega arith, omega arith), (omega arith, omega arith)),
              (asked-bind PatternControl tt, tt),
            ),
          ),
        ),
      ),
    ),
  ),
)

task-frame : (community : List ℕ) (id : ℤ) (task : Task) → AreOctets community → length community ≤ 32 → IsFrame (task_text community id task)
task-frame community id (PatternTask n) own short =
    request-frame Set community id (number_at PatternControl n ∷ []) own (number-bind PatternControl n tt, tt)
    (pattern_fits community id n (number_at PatternControl n ∷ []) short refl)
task-frame community id (ClockTask time) own short =
    request-frame Set community id (number_at Clock time ∷ []) own (number-bind Clock time tt, tt)
    (clock_fits community id time (number_at Clock time ∷ []) short refl)
task-frame community id PollTask own short =
    request-frame Get community id (map asked_for polled) own polled-binds (poll_fits community id (map asked_for polled) short refl)

pub command-frame : (community : List ℕ) (c : Command) → AreOctets community → length community ≤ 32 → IsFrame (command_text community c)
command-frame community c own short = task-frame community c.id c.task own short

-- ---- downloads

abbrev CellsAre : List (Cell × Content) → Type 0
CellsAre cells = ArePuts cells × PutOctets cells

cell-is : (put : Cell × Content) → HoldsOctets put.1 → IsName (CellName put.0) → IsOctetBind (cell_bind put)
cell-is (cell, Number n) own is = record { name = name-short (CellName cell) is; value = tt }
cell-is (cell, OctetsContent octets) own is = record { name = name-short (CellName cell) is; value = own }

cells-are : (cells : List (Cell × Content)) → CellsAre cells → AreBinds (map cell_bind cells)
cells-are [] all = tt
cells-are (put ∷ cells) all = (cell-is put all.1.0 all.0.0.0, cells-are cells (all.0.1, all.1.1))

dropped : (n : ℕ) (cells : List (Cell × Content)) → CellsAre cells → CellsAre (drop n cells)
dropped zero cells all = all
dropped (suc n) [] all = (tt, tt)
dropped (suc n) (put ∷ cells) all = dropped n cells (all.0.1, all.1.1)

taken : (n : ℕ) (cells : List (Cell × Content)) → CellsAre cells → CellsAre (take n cells)
taken zero cells all = (tt, tt)
taken (suc n) [] all = (tt, tt)
taken (suc n) (put ∷ cells) all = let more = taken n cells (all.0.1, all.1.1) in ((all.0.0, more.0), (all.1.0, more.1))

step-are : (number : ℕ) (cells : List (Cell × Content)) (step : Step) → CellsAre cells → AreBinds (step_binds number cells step)
step-are number cells Begin all = (number-bind (Txn 2) number (omega arith, omega arith), tt)
step-are number cells (Part k) all =
    (number-bind (Txn 3) number (omega arith, omega arith), (number-bind (Txn 4) k (omega arith, omega arith), cells-are (part_cells cells k) (taken 24 _ (dropped (24 * (k - 1)) cells all))))
step-are number cells Verify all =
    (number-bind (Txn 3) number (omega arith, omega arith), (number-bind (Txn 5) (parts_for (length cells)) (omega arith, omega arith), tt))
step-are number cells Finish all =
    (number-bind (Txn 3) number (omega arith, omega arith), (number-bind (Txn 6) 1 (omega arith, omega arith), tt))

-- loads of cells that there are, with octets in their lists
abbrev LoadsAre : List LoadContent → Type 0
LoadsAre loads = AllByRecursion (λ l. CellsAre l.cells) loads

loads-are : (loads : List LoadContent) → AreLoads loads → AllByRecursion (λ l. PutOctets l.cells) loads → LoadsAre loads
loads-are [] all own = tt
loads-are (l ∷ loads) all own = ((all.0.1, own.0), loads-are loads all.1 own.1)

loads-kept : (cab : ℕ) (loads : List LoadContent) → LoadsAre loads → LoadsAre (loads_of cab loads)
loads-kept cab [] all = tt
loads-kept cab (l ∷ loads) all = split (loads-kept cab loads all.1) (l.cabinet == cab)
  where
    split : LoadsAre (loads_of cab loads) → (b : Bool) → LoadsAre (if b then l ∷ loads_of cab loads else loads_of cab loads)
    split ih true = (all.0, ih)
    split ih false = ih

load-cells : (loads : List LoadContent) (place : ℕ) → LoadsAre loads → CellsAre (cells_in (slice_get loads place))
load-cells [] place all = (tt, tt)
load-cells (l ∷ loads) zero all = all.0
load-cells (l ∷ loads) (suc place) all = load-cells loads place all.1

pub load-frame : (community : List ℕ) (loads : List LoadContent) (frame : LoadFrame) → AreOctets community → length community ≤ 32 → AreLoads loads
    → AllByRecursion (λ l. PutOctets l.cells) loads → IsFrame (frame_text community loads frame)
load-frame community loads frame own short all puts =
    let cells : List (Cell × Content) = cells_of (loads_of frame.cab loads) frame.load in
    request-frame Set community frame.id (step_binds frame.load cells frame.step) own
    (step-are frame.load cells frame.step
    (load-cells (loads_of frame.cab loads) (frame.load - 1) (loads-kept frame.cab loads (loads-are loads all puts))))
    (frame_fits community loads frame short all)

-- ---- priority

act-are : (act : PriorityAct) → IsShortAct act → IsOctetBind (act_bind act)
act-are (AskRequest r) is = record {
  name = name-short RequestName tt;
  value = (is.number, (is.class, (is.level, (is.phase, (omega (arith, is.arrival), (omega arith, (omega (arith, is.departure), (omega arith, tt))))))));
}
act-are (Cancel number) is = number-bind CancelName number tt

priority-octets : (community : List ℕ) (round cab id : ℕ) (items : List PriorityItem) → AreOctets community → length community ≤ 32
    → AllByRecursion (λ p. IsShortAct p.act) items → AllOctets (priority_from community round cab id items)
priority-octets community round cab id [] own short all = tt
priority-octets community round cab id (p ∷ items) own short all =
    split ((p.round == round) && (p.cabinet == cab)) (priority-octets community round cab (id + 1) items own short all.1)
  where
    first : AreOctets (set_text community (pos id) (act_bind p.act ∷ []))
    first =
        (request-frame Set community (pos id) (act_bind p.act ∷ []) own (act-are p.act all.0, tt)
        (act_fits community (pos id) p.act (act_bind p.act ∷ []) short refl)).octets

    others : List (List ℕ)
    others = priority_from community round cab (id + 1) items

    split : (b : Bool) → AllOctets others → AllOctets (if b then set_text community (pos id) (act_bind p.act ∷ []) ∷ others else others)
    split true more = (first, more)
    split false more = more

pub requested-octets : (s : ScenarioContent) (cab rounds : ℕ) → OnlyOctets s → EachOctets (requested s cab rounds)
requested-octets s cab zero only = tt
requested-octets s cab (suc rounds) only =
    (priority-octets s.community (rounds + 1) cab 2000000000 s.priority only.community only.short only.priority, requested-octets s cab rounds only)
