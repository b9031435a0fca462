-- The master and the scenario's requests ask only for parts of loads.
use Rattle.std.proofs.Common.{◌≡◌, ◌<◌, ◌≤◌, ◌+◌, ◌-◌, ◌*◌, ◌==◌, ◌&&◌, nat_lt, nat_le, if◌then◌else◌, ℕ, zero, suc, ℤ, pos, Bool, true, false, List, [], ◌∷◌, length, map, take, drop, Option, Some, None, IfSome, is_some, slice_get, refl, sym, ap, subst, arith, option_map}
use Rattle.std.specs.List.{AllByRecursion}
use Rattle.std.specs.Option.{option_to_list}
use Rattle.std.proofs.lemmas.Bool.{ltb-true, lt-ltb, ne_eqb, and_parts, and_from}
use Rattle.sig_tables.specs.declared.tables.Tables.{Tables}
use Rattle.sig_tables.specs.declared.cells.Cell.{Cell}
use Rattle.sig_tables.specs.Cells.{Content}
use Rattle.ber_code.specs.Lengths.{IsTagged}
use Rattle.snmp_msg.specs.declared.message.Pdu.TheVariants.{Get, Set}
use Rattle.snmp_msg.specs.declared.message.Value.TheVariants.{Int, Null}
use Rattle.snmp_msg.specs.declared.message.Message.{Message}
use Rattle.oid_map.specs.declared.names.Name.TheVariants.{Txn, PatternControl, PatternStatus, Clock as ClockName, Request as RequestName, Cancel as CancelName, Counter, Target, ModeCode, Group}
use Rattle.scenario_data.specs.declared.scenario.PriorityAct.{PriorityAct}
use Rattle.scenario_data.specs.declared.scenario.PriorityAct.TheVariants.{Request as AskRequest, Cancel}
use Rattle.scenario_data.specs.declared.scenario.PriorityItem.{PriorityItem}
use Rattle.scenario_data.specs.Content.{CabinetContent, LoadContent, ScenarioContent}
use Rattle.requests.specs.Requests.{is_good, asked_for, number_at, set_text}
use Rattle.master_load.specs.declared.download.Step.{Step}
use Rattle.master_load.specs.declared.download.Step.TheVariants as step
use Rattle.master_load.specs.declared.download.LoadFrame.{LoadFrame}
use Rattle.master_load.specs.Downloads.{ArePuts, AreLoads, cells_in, cells_of, load_at, loads_of, part_cells, parts_for, step_after, step_binds, frame_text}
use Rattle.master_load.specs.Loading.{LoadEvent, AnswerTold, last_frame, answer, begin_where, begin_next, begun_by, step_due, go_on, next_frame, with_frame, frame_of}
use Rattle.master_load.proofs.Fits.{frame_fits}
use Rattle.master_poll.specs.declared.command.Task.{Task}
use Rattle.master_poll.specs.declared.command.Task.TheVariants.{Pattern as PatternTask, Clock as ClockTask, Poll as PollTask}
use Rattle.master_poll.specs.declared.command.Command.{Command}
use Rattle.master_poll.specs.Commands.{Turn}
use Rattle.master_poll.specs.Turns.{told, load_events}
use Rattle.master_poll.specs.Sends.{Arrived, polled, task_text, command_text, turn_after, turns, last_sending}
use Rattle.master_poll.proofs.Fits.{pattern_fits, clock_fits, poll_fits}
use Rattle.link_sim.specs.Priority.{act_bind, priority_from}
use Rattle.link_sim.specs.Reaching.{requested}
use Rattle.link_sim.proofs.Fits.{act_fits}
use Rattle.agent.specs.Asks.{ask_of, Asks}
use Rattle.sig_types.specs.Items.{Came}
use Rattle.judge_session.specs.Told.{load_told}
use Rattle.judged_runs.specs.Messages.{IsPartOf, IsTotalOf, IsFinishOf, IsOwnItem}
use Rattle.judged_runs.proofs.Peeling.{IsClear, tagged-request}
use Rattle.judged_runs.proofs.Asking.{number-clear, cells-clear, load-asks, other-asks}

-- ---- the loads of a cabinet

kept-loads : (cab : ℕ) (loads : List LoadContent) → AreLoads loads → AreLoads (loads_of cab loads)
kept-loads cab [] all = tt
kept-loads cab (l ∷ loads) all = split (l.cabinet == cab) (kept-loads cab loads all.1)
  where
    split : (b : Bool) → AreLoads (loads_of cab loads) → AreLoads (if b then l ∷ loads_of cab loads else loads_of cab loads)
    split true rest = (all.0, rest)
    split false rest = rest

fewer-loads : (cab : ℕ) (loads : List LoadContent) → length (loads_of cab loads) ≤ length loads
fewer-loads cab [] = omega arith
fewer-loads cab (l ∷ loads) = split (l.cabinet == cab) (fewer-loads cab loads)
  where
    split : (b : Bool) → length (loads_of cab loads) ≤ length loads → length (if b then l ∷ loads_of cab loads else loads_of cab loads) ≤ length (l ∷ loads)
    split true rest = omega (arith, rest)
    split false rest = omega (arith, rest)

abbrev AreFew : List (Cell × Content) → Type 0
AreFew cells = (length cells ≤ 768) × ArePuts cells

at-load : (loads : List LoadContent) (i : ℕ) → AreLoads loads → AreFew (cells_in (slice_get loads i))
at-load [] i all = (omega arith, tt)
at-load (l ∷ loads) zero all = all.0
at-load (l ∷ loads) (suc i) all = at-load loads i all.1

found-within : (loads : List LoadContent) (i : ℕ) (l : LoadContent) → slice_get loads i ≡ Some l → i < length loads
found-within [] i l e = absurd (none l e)
  where
    none : (l : LoadContent) → None ≡ Some l → ⊥
    none l e = cc
found-within (x ∷ loads) zero l e = omega arith
found-within (x ∷ loads) (suc i) l e = let less : i < length loads = found-within loads i l e in omega (arith, less)

dropped : (n : ℕ) (cells : List (Cell × Content)) → ArePuts cells → ArePuts (drop n cells)
dropped zero cells all = all
dropped (suc n) [] all = tt
dropped (suc n) (put ∷ cells) all = dropped n cells all.1

taken : (n : ℕ) (cells : List (Cell × Content)) → ArePuts cells → ArePuts (take n cells)
taken zero cells all = tt
taken (suc n) [] all = tt
taken (suc n) (put ∷ cells) all = (all.0, taken n cells all.1)

-- ---- which frames the master sends

abbrev IsStep : Step → Type 0
IsStep (step.Part k) = k ≤ 100
IsStep _ = Unit {0}

record IsGood (loads : List LoadContent) (cab : ℕ) (frame : LoadFrame) : Type 0 where
  own : frame.cab ≡ cab
  few : frame.load ≤ length loads
  some : nat_lt 0 frame.load && is_some (load_at (loads_of cab loads) frame.load) ≡ true
  step : IsStep frame.step

module _ (loads : List LoadContent) (cab : ℕ) (are : AreLoads loads) where
  begin-good : (round : ℕ) (id : ℤ) (begun : ℕ) → IfSome (begin_next loads cab round id begun) (IsGood loads cab)
  begin-good round id begun = found (load_at (loads_of cab loads) (begun + 1)) refl
    where
      found : (o : Option LoadContent) → load_at (loads_of cab loads) (begun + 1) ≡ o → IfSome (begin_where cab round id begun o) (IsGood loads cab)
      found None e = tt
      found (Some l) e = split (nat_le l.round round)
        where
          within : begun + 1 - 1 < length (loads_of cab loads)
          within = found-within (loads_of cab loads) (begun + 1 - 1) l e

          split : (b : Bool) → IfSome (if b then Some (frame_of cab (begun + 1) id step.Begin) else None) (IsGood loads cab)
          split true = record { own = refl; few = (let l : length (loads_of cab loads) ≤ length loads = fewer-loads cab loads in omega (arith, within, l)); some = and_from (nat_lt 0 (begun + 1)) (is_some (load_at (loads_of cab loads) (begun + 1))) (lt-ltb 0 (begun + 1) (omega arith)) (ap is_some e); step = tt }
          split false = tt

  after-good : (round : ℕ) (id : ℤ) (n parts : ℕ) (at : Step) → n ≤ length loads → nat_lt 0 n && is_some (load_at (loads_of cab loads) n) ≡ true → parts ≤ 100 → IfSome (go_on loads cab round id n (step_after parts at)) (IsGood loads cab)
  after-good round id n parts step.Begin few some small = record { own = refl; few = few; some = some; step = omega arith }
  after-good round id n parts (step.Part k) few some small = split (nat_lt k parts) refl
    where
      split : (b : Bool) → nat_lt k parts ≡ b → IfSome (go_on loads cab round id n (if b then Some (step.Part (k + 1)) else Some step.Verify)) (IsGood loads cab)
      split true e = record { own = refl; few = few; some = some; step = (let l : k < parts = ltb-true k parts e in omega (arith, l, small)) }
      split false e = record { own = refl; few = few; some = some; step = tt }
  after-good round id n parts step.Verify few some small = record { own = refl; few = few; some = some; step = tt }
  after-good round id n parts step.Finish few some small = begin-good round id n

  parts-few : (n : ℕ) → parts_for (length (cells_of (loads_of cab loads) n)) ≤ 100
  parts-few n =
      let l : length (cells_of (loads_of cab loads) n) ≤ 768 = (at-load (loads_of cab loads) (n - 1) (kept-loads cab loads are)).0 in
      omega (arith, l)

  go-good : (round : ℕ) (id : ℤ) (last : Option LoadFrame) (m : Option Message) → IfSome last (IsGood loads cab)
      → IfSome (go_on loads cab round id (begun_by last) (step_due loads cab last m)) (IsGood loads cab)
  go-good round id None m good = begin-good round id 0
  go-good round id (Some frame) None good = record { own = refl; few = good.few; some = good.some; step = good.step }
  go-good round id (Some frame) (Some m) good = split (is_good m)
    where
      parts : ℕ
      parts = parts_for (length (cells_of (loads_of cab loads) frame.load))

      split : (b : Bool) → IfSome (go_on loads cab round id frame.load (if b then step_after parts frame.step else None)) (IsGood loads cab)
      split true = after-good round id frame.load parts frame.step good.few good.some (parts-few frame.load)
      split false = begin-good round id frame.load

  next-good : (round : ℕ) (id : ℤ) (past : List LoadEvent) → IfSome (last_frame past) (IsGood loads cab) → IfSome (next_frame loads cab round id past) (IsGood loads cab)
  next-good round id past good = go-good round id (last_frame past) (answer past) good

  last-told : (ms : List Message) (past : List LoadEvent) → last_frame (told ms past) ≡ last_frame past
  last-told [] past = refl
  last-told (m ∷ ms) past = last-told ms (AnswerTold m ∷ past)

  with-good : (o : Option LoadFrame) (past : List LoadEvent) → IfSome o (IsGood loads cab) → IfSome (last_frame past) (IsGood loads cab)
      → IfSome (last_frame (with_frame o past)) (IsGood loads cab)
  with-good None past good earlier = earlier
  with-good (Some frame) past good earlier = good

-- the frame of the newest turn
abbrev AreGood : List LoadContent → ℕ → List Turn → Type 0
AreGood loads cab [] = Unit {0}
AreGood loads cab (t ∷ past) = IfSome t.frame (IsGood loads cab)

turns-good : (s : ScenarioContent) (cab : ℕ) (c : CabinetContent) (arrived : List Arrived) → AreLoads s.loads
    → AreGood s.loads cab (turns s cab c arrived) × IfSome (last_frame (load_events (turns s cab c arrived))) (IsGood s.loads cab)
turns-good s cab c [] are = (tt, tt)
turns-good s cab c (a ∷ arrived) are =
    let past : List Turn = turns s cab c arrived in
    let turn : Turn = turn_after s cab c a past in
    let earlier = (turns-good s cab c arrived are).1 in
    let heard : IfSome (last_frame (told turn.loads (load_events past))) (IsGood s.loads cab)
    = subst (λ (o : Option LoadFrame). IfSome o (IsGood s.loads cab)) (sym (last-told s.loads cab are turn.loads (load_events past))) earlier in
    let now : IfSome turn.frame (IsGood s.loads cab) = next-good s.loads cab are (length past + 1) _ (told turn.loads (load_events past)) heard in
    (now, with-good s.loads cab are turn.frame (told turn.loads (load_events past)) now heard)

-- what is known of the scenario
pub record Sound (s : ScenarioContent) : Type 0 where
  pub found : (frame community : List ℕ) (t : Tables) → IfSome (ask_of frame community t) (Asks frame community t)
  pub loads : AreLoads s.loads
  pub few : length s.loads ≤ 6400
  pub short : length s.community ≤ 32

-- ---- what they ask

module _ (only : Bool) where
  -- a text is one of a message, and asks for nothing else under the number of a load
  pub record IsOwnText (s : ScenarioContent) (cab : ℕ) (text : List ℕ) : Type 0 where
    pub content : List ℕ
    pub tagged : IsTagged 48 text content
    pub own : IsOwnItem only (load_told s cab) s.community (Came text)

  abbrev Found : Type 0
  Found = (frame community : List ℕ) (t : Tables) → IfSome (ask_of frame community t) (Asks frame community t)

  own-part : (s : ScenarioContent) (cab n k : ℕ) → IsPartOf (load_told s cab n) k (part_cells (cells_of (loads_of cab s.loads) n) k)
  own-part s cab n k = split (n == 0) (slice_get (loads_of cab s.loads) (n - 1))
    where
      split : (b : Bool) (o : Option LoadContent) → IsPartOf (if b then None else option_map (λ l. l.cells) o) k (part_cells (cells_in o) k)
      split true o = tt
      split false None = tt
      split false (Some l) = refl

  own-total : (s : ScenarioContent) (cab n : ℕ) → IsTotalOf (load_told s cab n) (parts_for (length (cells_of (loads_of cab s.loads) n)))
  own-total s cab n = split (n == 0) (slice_get (loads_of cab s.loads) (n - 1))
    where
      split : (b : Bool) (o : Option LoadContent) → IsTotalOf (if b then None else option_map (λ l. l.cells) o) (parts_for (length (cells_in o)))
      split true o = tt
      split false None = tt
      split false (Some l) = refl

  own-finish : (s : ScenarioContent) (cab n : ℕ) → nat_lt 0 n && is_some (load_at (loads_of cab s.loads) n) ≡ true → IsFinishOf only (load_told s cab n)
  own-finish s cab n e = required only
    where
      both : (nat_lt 0 n ≡ true) × (is_some (load_at (loads_of cab s.loads) n) ≡ true)
      both = and_parts (nat_lt 0 n) (is_some (load_at (loads_of cab s.loads) n)) e

      some : is_some (load_told s cab n) ≡ true
      some =
          let zero : (n == 0) ≡ false = ne_eqb n 0 (λ z. absurd (let l : 0 < n = ltb-true 0 n both.0 in omega (arith, l, z))) in
          rw zero (has (load_at (loads_of cab s.loads) n) both.1)
        where
          has : (o : Option LoadContent) → is_some o ≡ true → is_some (option_map (λ l. l.cells) o) ≡ true
          has None e = e
          has (Some l) e = refl

      required : (b : Bool) → IsFinishOf b (load_told s cab n)
      required true = some
      required false = tt

  steps-clear : (n : ℕ) (cells : List (Cell × Content)) (at : Step) → n < 2147483648 → IsStep at → AreFew cells → AllByRecursion IsClear (step_binds n cells at)
  steps-clear n cells step.Begin small is few = (number-clear (Txn 2) n (omega arith, omega arith) small, tt)
  steps-clear n cells (step.Part k) small is few = (
    number-clear (Txn 3) n (omega arith, omega arith) small,
    (
      number-clear (Txn 4) k (omega arith, omega arith) (let l : k ≤ 100 = is in omega (arith, l)),
      cells-clear (part_cells cells k) (taken 24 (drop (24 * (k - 1)) cells) (dropped (24 * (k - 1)) cells few.1)),
    ),
  )
  steps-clear n cells step.Verify small is few =
      (number-clear (Txn 3) n (omega arith, omega arith) small, (number-clear (Txn 5) (parts_for (length cells)) (omega arith, omega arith) (let l : length cells ≤ 768 = few.0 in omega (arith, l)), tt))
  steps-clear n cells step.Finish small is few =
      (number-clear (Txn 3) n (omega arith, omega arith) small, (number-clear (Txn 6) 1 (omega arith, omega arith) (omega arith), tt))

  frame-own : (s : ScenarioContent) (cab : ℕ) (frame : LoadFrame) → Sound s → IsGood s.loads cab frame → IsOwnText s cab (frame_text s.community s.loads frame)
  frame-own s cab frame sound good =
      let cells : List (Cell × Content) = cells_of (loads_of frame.cab s.loads) frame.load in
      let few : AreFew cells = at-load (loads_of frame.cab s.loads) (frame.load - 1) (kept-loads frame.cab s.loads sound.loads) in
      let small : frame.load < 2147483648 = let a : frame.load ≤ length s.loads = good.few in let b : length s.loads ≤ 6400 = sound.few in omega (arith, a, b) in
      let tagged = tagged-request Set s.community frame.id (step_binds frame.load cells frame.step) (frame_fits s.community s.loads frame sound.short sound.loads) in
      record {
        content = tagged.0;
        tagged = tagged.1;
        own = load-asks only (load_told s cab) sound.found s.community frame.id frame.load cells frame.step
            (steps-clear frame.load cells frame.step small good.step few)
            (λ k. taken 24 (drop (24 * (k - 1)) cells) (dropped (24 * (k - 1)) cells few.1))
            (λ k. subst (λ (n : ℕ). IsPartOf (load_told s cab frame.load) k (part_cells (cells_of (loads_of n s.loads) frame.load) k)) (sym good.own) (own-part s cab frame.load k))
            (subst (λ (n : ℕ). IsTotalOf (load_told s cab frame.load) (parts_for (length (cells_of (loads_of n s.loads) frame.load)))) (sym good.own) (own-total s cab frame.load))
            (own-finish s cab frame.load good.some)
            s.community;
      }

  task-own : (s : ScenarioContent) (cab : ℕ) (id : ℤ) (task : Task) → Sound s → IsOwnText s cab (task_text s.community id task)
  task-own s cab id (PatternTask n) sound =
      let tagged = tagged-request Set s.community id (number_at PatternControl n ∷ []) (pattern_fits s.community id n (number_at PatternControl n ∷ []) sound.short refl) in
      record { content = tagged.0; tagged = tagged.1; own = other-asks only (load_told s cab) sound.found Set s.community id PatternControl (Int (pos n)) [] tt refl s.community }
  task-own s cab id (ClockTask time) sound =
      let tagged = tagged-request Set s.community id (number_at ClockName time ∷ []) (clock_fits s.community id time (number_at ClockName time ∷ []) sound.short refl) in
      record { content = tagged.0; tagged = tagged.1; own = other-asks only (load_told s cab) sound.found Set s.community id ClockName (Int (pos time)) [] tt refl s.community }
  task-own s cab id PollTask sound =
      let tagged = tagged-request Get s.community id (map asked_for polled) (poll_fits s.community id (map asked_for polled) sound.short refl) in
      record { content = tagged.0; tagged = tagged.1; own = other-asks only (load_told s cab) sound.found Get s.community id PatternStatus Null (map asked_for (Counter ∷ Target ∷ ModeCode ∷ Txn 10 ∷ Group 4 1 ∷ Group 4 2 ∷ PatternControl ∷ [])) tt refl s.community }

  act-own : (s : ScenarioContent) (cab id : ℕ) (act : PriorityAct) → Sound s → IsOwnText s cab (set_text s.community (pos id) (act_bind act ∷ []))
  act-own s cab id (AskRequest r) sound =
      let tagged = tagged-request Set s.community (pos id) (act_bind (AskRequest r) ∷ []) (act_fits s.community (pos id) (AskRequest r) (act_bind (AskRequest r) ∷ []) sound.short refl) in
      record { content = tagged.0; tagged = tagged.1; own = other-asks only (load_told s cab) sound.found Set s.community (pos id) RequestName (act_bind (AskRequest r)).value [] tt refl s.community }
  act-own s cab id (Cancel number) sound =
      let tagged = tagged-request Set s.community (pos id) (act_bind (Cancel number) ∷ []) (act_fits s.community (pos id) (Cancel number) (act_bind (Cancel number) ∷ []) sound.short refl) in
      record { content = tagged.0; tagged = tagged.1; own = other-asks only (load_told s cab) sound.found Set s.community (pos id) CancelName (act_bind (Cancel number)).value [] tt refl s.community }

  -- ---- all that is sent

  pub last-poll : (s : ScenarioContent) (cab : ℕ) (past : List Turn) → Sound s → AllByRecursion (IsOwnText s cab) (option_to_list (last_sending s past).poll)
  last-poll s cab [] sound = tt
  last-poll s cab (t ∷ past) sound = one t.command
    where
      one : (o : Option Command) → AllByRecursion (IsOwnText s cab) (option_to_list (option_map (command_text s.community) o))
      one None = tt
      one (Some c) = (task-own s cab c.id c.task sound, tt)

  pub last-load : (s : ScenarioContent) (cab : ℕ) (c : CabinetContent) (arrived : List Arrived) → Sound s
      → AllByRecursion (IsOwnText s cab) (option_to_list (last_sending s (turns s cab c arrived)).load)
  last-load s cab c [] sound = tt
  last-load s cab c (a ∷ arrived) sound =
      one (turn_after s cab c a (turns s cab c arrived)).frame (turns-good s cab c (a ∷ arrived) sound.loads).0
    where
      one : (o : Option LoadFrame) → IfSome o (IsGood s.loads cab) → AllByRecursion (IsOwnText s cab) (option_to_list (option_map (frame_text s.community s.loads) o))
      one None good = tt
      one (Some frame) good = (frame-own s cab frame sound good, tt)

  priority-own : (s : ScenarioContent) (cab round id : ℕ) (items : List PriorityItem) → Sound s → AllByRecursion (IsOwnText s cab) (priority_from s.community round cab id items)
  priority-own s cab round id [] sound = tt
  priority-own s cab round id (p ∷ items) sound = split ((p.round == round) && (p.cabinet == cab)) (priority-own s cab round (id + 1) items sound)
    where
      others : List (List ℕ)
      others = priority_from s.community round cab (id + 1) items

      split : (b : Bool) → AllByRecursion (IsOwnText s cab) others
          → AllByRecursion (IsOwnText s cab) (if b then set_text s.community (pos id) (act_bind p.act ∷ []) ∷ others else others)
      split true rest = (act-own s cab id p.act sound, rest)
      split false rest = rest

  pub requested-own : (s : ScenarioContent) (cab rounds : ℕ) → Sound s → AllByRecursion (AllByRecursion (IsOwnText s cab)) (requested s cab rounds)
  requested-own s cab zero sound = tt
  requested-own s cab (suc rounds) sound = (priority-own s cab (rounds + 1) 2000000000 s.priority sound, requested-own s cab rounds sound)
