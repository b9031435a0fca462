-- What an engine keeps in addition to its memory still holds after skipped ticks, one by one and at once.
use Rattle.std.proofs.Common.{◌≡◌, ◌<◌, ◌≤◌, ◌+◌, ℕ, zero, suc, Bool, true, false, List, refl, sym, ◌∙◌, ap, arith, subst, ◌-◌, ◌||◌, get_or}
use Rattle.sig_types.specs.declared.frame.Frame.{Frame}
use Rattle.sig_types.specs.declared.frame.Mode.{Mode}
use Rattle.sig_types.specs.declared.frame.Mode.TheVariants.{Start, Free, Seek, Coord, Ending, Flash, Entry, Track, Dwell, Exit}
use Rattle.sig_tables.specs.declared.plan.Plan.{Plan}
use Rattle.sig_tables.specs.Past.{Past, Moment}
use Rattle.sig_tables.specs.Clock.{clock_now, target_at, target_in}
use Rattle.sig_tables.specs.Command.{command_now}
use Rattle.sig_tables.specs.TickState.{tick_state_of}
use Rattle.sig_tables.specs.Preempts.{preempts_on}
use Rattle.sig_tables.specs.Decide.{with_moment, next_moment, colours_of}
use Rattle.sig_tables.specs.Seen.{frame_seen, moment_seen, moves_seen}
use Rattle.call_store.proofs.Again.{calls-on}
use Rattle.preempt_stages.proofs.OnPhases.{names-phases}
use Rattle.prio_queue.specs.Idle.{IsIdle}
use Rattle.prio_queue.proofs.Idle.{queue-on}
use Rattle.tick_context.specs.declared.unit_commands.UnitCommands.{UnitCommands}
use Rattle.tick_context.specs.Binds.{IsBound}
use Rattle.tick_context.specs.Modes.{is_coord}
use Rattle.tick_context.specs.UnitCommands.{UnitCommandsStand}
use Rattle.tick_context.specs.Even.{IsEven, UnitCommandsPassed}
use Rattle.tick_context.specs.Lasting.{Lasts}
use Rattle.tick_context.specs.Passed.{timed, planned_target, gone_on}
use Rattle.tick_context.proofs.EvenRuns.{unit_commands-next, next-passed, first-even, rest-even, rest-by, timed-none}
use Rattle.tick_context.proofs.TicksGoOn.{Goes, tick-goes, frame-goes, goes-alike}
use Rattle.tick_context.proofs.InStep.{counter-next}
use Rattle.tick_context.proofs.OneLess.{lasts-less}
use Rattle.tick_context.proofs.Passed.{unit_commands-on, after}
use Rattle.tick_context.proofs.Pickups.{few-next, one-more, same-most}
use Rattle.tick_context.proofs.Sought.{start-again}
use Rattle.tick_context.proofs.Again.{no-counter, no-target}
use Rattle.sig_types.specs.declared.frame.Ped.{Ped}
use Rattle.sig_types.specs.declared.frame.Ped.TheVariants.{Walk, Flash as Flashes}
use Rattle.sig_types.specs.declared.frame.Colour.{Colour}
use Rattle.sig_types.specs.Colour.{same_signal}
use Rattle.engine.specs.Shows.{ShowsColours}
use Rattle.engine.specs.declared.Engine.{Engine}
use Rattle.engine.specs.EngineStands.{EngineKeeps}

timed-twice : (b : Bool) (f : Frame) (target later k j : ℕ) → b ≡ is_coord f.mode
    → timed (is_coord (timed b (f.counter + k) target f).mode) ((timed b (f.counter + k) target f).counter + j) later (timed b (f.counter + k) target f)
    ≡ timed b (f.counter + (k + j)) later f
timed-twice true f target later k j e =
    let sum : f.counter + k + j ≡ f.counter + (k + j) = omega arith in
    ap (λ (x : Bool). timed x (f.counter + k + j) later (timed true (f.counter + k) target f)) (sym e)
    ∙ ap (λ (n : ℕ). timed true n later f) sum
timed-twice false f target later k j e = ap (λ (x : Bool). timed x (f.counter + j) later f) (sym e)

-- the engine with these unit commands and this frame
abbrev built : {M : Type 0} → Engine M → UnitCommands → Frame → Engine M
built e new f = record e { context = record e.context { frame = f; unit_commands = new } }

-- the engine after N ticks, except for its memory
abbrev pub passed : {M : Type 0} → ℕ → Engine M → UnitCommands → Engine M
passed k e new = record e { context = gone_on (e.context.frame.counter + k) e.context new }

-- what remembers nothing
abbrev pub nothing : {M : Type 0} → M → Past → Type 0
nothing m past = Unit {0}

-- passing over ticks in two parts comes to passing over all of them
passed-more : {M : Type 0} (k j : ℕ) (o : Engine M) (mid new : UnitCommands) → passed j (passed k o mid) new ≡ passed (k + j) o new
passed-more k j o mid new =
    ap (built o new)
    (timed-twice (is_coord o.context.frame.mode) o.context.frame (planned_target o.context.active_pattern.plan mid.clock)
    (planned_target o.context.active_pattern.plan new.clock) k j refl)

timed-same : (f g : Frame) (a b x y : ℕ) → f ≡ g → a ≡ b → x ≡ y → timed true a x f ≡ timed true b y g
timed-same f g a b x y e h i = rw (e, h, i) refl

-- the frame that is kept is that of the tick
frame-on : {M : Type 0} (mode : Mode) (j : ℕ) (o : Engine M) (new : UnitCommands) (past : Past) → o.context.frame ≡ frame_seen past → Lasts mode (suc j) past → Goes mode past
    → IsBound o.context.active_pattern past.tables mode → new.clock ≡ clock_now past
    → timed (is_coord o.context.frame.mode) (o.context.frame.counter + 1) (planned_target o.context.active_pattern.plan new.clock) o.context.frame ≡ (next_moment past).frame
frame-on Free j o new past frame l g bound clock =
    let was : o.context.frame.mode ≡ Free = ap (λ (f : Frame). f.mode) frame ∙ l.was in
    ap (λ (b : Bool). timed b (o.context.frame.counter + 1) (planned_target o.context.active_pattern.plan new.clock) o.context.frame) (ap is_coord was)
    ∙ frame
    ∙ sym (frame-goes Free j past l
    ∙ timed-none (frame_seen past) _ _ (no-counter past g.now ∙ sym l.goes.counter) (no-target past g.now ∙ sym l.goes.target))
frame-on (Coord n) j o new past frame l g bound clock =
    let was : o.context.frame.mode ≡ Coord n = ap (λ (f : Frame). f.mode) frame ∙ l.was in
    let next = counter-next n j past l.fresh l.goes l.was g.now in
    ap (λ (b : Bool). timed b (o.context.frame.counter + 1) (planned_target o.context.active_pattern.plan new.clock) o.context.frame) (ap is_coord was)
    ∙ timed-same o.context.frame (frame_seen past) (o.context.frame.counter + 1) (tick_state_of past).counter
    (planned_target o.context.active_pattern.plan new.clock) (tick_state_of past).target frame
    (ap (λ (f : Frame). f.counter + 1) frame ∙ sym next)
    (ap (λ (x : Plan). planned_target x new.clock) bound.plan ∙ ap (λ (x : ℕ). target_at past.tables n x) clock
    ∙ sym (ap (λ (m : Mode). target_in past.tables m (clock_now past)) g.now))
    ∙ sym (frame-goes (Coord n) j past l)
frame-on Start j o new past frame l g bound clock = absurd l.goes
frame-on (Seek n) j o new past frame l g bound clock = absurd l.goes
frame-on Ending j o new past frame l g bound clock = absurd l.goes
frame-on Flash j o new past frame l g bound clock = absurd l.goes
frame-on (Entry i) j o new past frame l g bound clock = absurd l.goes
frame-on (Track i) j o new past frame l g bound clock = absurd l.goes
frame-on (Dwell i) j o new past frame l g bound clock = absurd l.goes
frame-on (Exit i) j o new past frame l g bound clock = absurd l.goes

-- one tick
told-on : {M : Type 0} (mode : Mode) (j : ℕ) (o : Engine M) (new : UnitCommands) (past : Past) → UnitCommandsPassed 1 o.context.unit_commands new → EngineKeeps nothing o past
    → Lasts mode (suc j) past → IsIdle o.context.requests → IsBound o.context.active_pattern past.tables mode
    → IsEven o.context.unit_commands past.tables 1 → past.tables.unit.backup ≤ 65535
    → EngineKeeps nothing (passed 1 o new) (with_moment past (next_moment past))
told-on mode j o new past by k l idle bound even few =
    let m : Moment = next_moment past in
    let g = tick-goes mode j past l in
    let a = goes-alike mode j past l in
    let unit_commands : UnitCommandsStand new (with_moment past m) =
    unit_commands-on o.context.unit_commands new past m by k.context.unit_commands (record { number = refl; command = refl; is_commanded = refl; clock = refl }) l.fresh even few in
    record {
      context = record {
        tables = k.context.tables;
        layout = k.context.layout;
        ordered = k.context.ordered;
        version = k.context.version;
        frame = frame-on mode j o new past k.context.frame l g bound unit_commands.clock;
        calls = calls-on o.context.calls past m k.context.calls l.fresh.heard a.veh a.ped refl refl refl;
        requests = queue-on o.context.requests past m k.context.requests idle (one-more (moment_seen past).number) g.active;
        unit_commands = unit_commands;
        active_pattern = k.context.active_pattern;
        some = omega arith;
        names = names-phases m.frame past.tables (colours_of past (moves_seen past)) refl;
        few_start = few-next m past.moments
            (λ now last. start-again past.tables past.version (command_now past) (preempts_on past.heard (moment_seen past)) past.moments
            (colours_of past (moves_seen past)) last now);
        old_frame = same-most past.version;
      };
      memory = tt;
      shown = subst (λ (veh : List Colour). ShowsColours o.shown veh) (sym a.veh) k.shown;
      walking = λ p h. k.walking p h ∙ ap (λ (ped : List Ped). same_signal (get_or ped (p - 1) Walk) Walk) (sym a.ped);
      signalling = λ p h.
          k.signalling p h
          ∙ ap (λ (ped : List Ped). same_signal (get_or ped (p - 1) Walk) Walk || same_signal (get_or ped (p - 1) Walk) Flashes) (sym a.ped);
    }

-- and it follows all of them
pub told-after : {M : Type 0} (n : ℕ) (mode : Mode) (o : Engine M) (new : UnitCommands) (past : Past) → 0 < n → UnitCommandsPassed n o.context.unit_commands new
    → EngineKeeps nothing o past → Lasts mode n past → IsIdle o.context.requests → IsBound o.context.active_pattern past.tables mode
    → IsEven o.context.unit_commands past.tables n → past.tables.unit.backup ≤ 65535 → EngineKeeps nothing (passed n o new) (after n past)
told-after zero mode o new past some by k l idle bound even few = absurd (omega (arith, some))
told-after (suc zero) mode o new past some by k l idle bound even few = told-on mode zero o new past by k l idle bound even few
told-after {M} (suc (suc j)) mode o new past some by k l idle bound even few =
    let day : o.context.unit_commands.clock + 1 < 864000 = omega (arith, even.clock) in
    let mid : UnitCommands = unit_commands-next o.context.unit_commands day in
    let more : 0 < suc j = omega arith in
    let whole : 1 + suc j ≡ suc (suc j) = omega arith in
    let next : Past = with_moment past (next_moment past) in
    let first : EngineKeeps nothing (passed 1 o mid) next =
    told-on mode (suc j) o mid past (next-passed o.context.unit_commands day) k l idle bound (first-even (suc j) o.context.unit_commands past.tables even) few in
    subst (λ (x : Engine M). EngineKeeps nothing x (after (suc j) next)) (passed-more 1 (suc j) o mid new ∙ ap (λ (n : ℕ). passed n o new) whole)
    (told-after (suc j) mode (passed 1 o mid) new next more (rest-by (suc j) o.context.unit_commands new day by) first
    (lasts-less mode (suc j) past l) idle bound (rest-even (suc j) o.context.unit_commands past.tables day even) few)

-- with what is remembered it is all that the engine keeps
pub keeps-of : {M : Type 0} (remembers : M → Past → Type 0) (e : Engine M) (past : Past) → EngineKeeps nothing e past → remembers e.memory past
    → EngineKeeps remembers e past
keeps-of remembers e past k m = record { context = k.context; memory = m; shown = k.shown; walking = k.walking; signalling = k.signalling }

pub beside-of : {M : Type 0} (remembers : M → Past → Type 0) (e : Engine M) (past : Past) → EngineKeeps remembers e past → EngineKeeps nothing e past
beside-of remembers e past k = record { context = k.context; memory = tt; shown = k.shown; walking = k.walking; signalling = k.signalling }
