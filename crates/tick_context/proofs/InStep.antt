-- The next tick of a cabinet that stays coordinated in a pattern: the pattern stays in command, and the counter
-- advances by one.
use Rattle.std.proofs.Common.{◌≡◌, ◌≢◌, ◌<◌, ◌≤◌, ◌+◌, ◌-◌, ◌*◌, ◌%◌, ◌&&◌, ◌⊎◌, ◌==◌, not, min, nat_le, if◌then◌else◌, ℕ, suc, Bool, true, false}
use Rattle.std.proofs.Common.{List, [], ◌∷◌, Option, None, refl, sym, ◌∙◌, ap, arith, inl, inr}
use Rattle.std.proofs.lemmas.Bool.{ne_eqb, eq-eqb, lt-leb, le-leb, and_parts, leb-true}
use Rattle.std.proofs.lemmas.Bool.Decides.{Decides-eqb}
use Rattle.std.proofs.Math.Bool.{and-false, or-true}
use Rattle.std.proofs.Math.Nat.{mod_self, mod-add-mod, mod-eq_of_lt}
use Rattle.sig_types.specs.declared.frame.Colour.{Colour}
use Rattle.sig_types.specs.declared.frame.Colour.TheVariants.{Green, Yellow, Clear, Red}
use Rattle.sig_types.specs.declared.frame.Ped.{Ped}
use Rattle.sig_types.specs.declared.frame.Ped.TheVariants.{Walk, Flash, Dont}
use Rattle.sig_types.specs.declared.frame.Frame.{Frame}
use Rattle.sig_types.specs.declared.frame.Mode.{Mode}
use Rattle.sig_types.specs.declared.frame.Mode.TheVariants.{Start, Free, Seek, Coord, Ending, Flash as InFlash, Entry, Track, Dwell, Exit}
use Rattle.sig_tables.specs.declared.tables.Tables.{Tables}
use Rattle.sig_tables.specs.Cells.{pattern_of}
use Rattle.sig_tables.specs.Slots.{is_defined, cycle_time}
use Rattle.sig_tables.specs.Past.{Past, Moment}
use Rattle.sig_tables.specs.Looking.{last_frame, in_a_row}
use Rattle.sig_tables.specs.Clock.{clock_now, clock_told, rise_at, offset_time, shift_time, target_at, target_in}
use Rattle.sig_tables.specs.Command.{is_backed_up, is_commanded, command_now}
use Rattle.sig_tables.specs.Counting.{Correction, ahead, counter_after, next_counter}
use Rattle.sig_tables.specs.Counters.{correction_of, counter_in}
use Rattle.sig_tables.specs.TickState.{tick_state_of}
use Rattle.sig_tables.specs.Walking.{Crossing, walk_begins, is_local_zero}
use Rattle.sig_tables.specs.Preempts.{preempts_on, stage_after, stage_now}
use Rattle.sig_tables.specs.Choosing.{is_in_step, mode_after, mode_running, mode_staged, mode_sought}
use Rattle.sig_tables.specs.Seen.{frame_seen, moment_seen, mode_seen}
use Rattle.sig_tables.proofs.Lasting.{lasts_now-counted}
use Rattle.preempt_stages.specs.Inputs.{preempts_seen}
use Rattle.preempt_stages.proofs.Inputs.{seen-is}
use Rattle.tick_context.specs.declared.unit_commands.UnitCommands.{UnitCommands}
use Rattle.tick_context.specs.UnitCommands.{UnitCommandsStand, most}
use Rattle.tick_context.specs.Even.{IsEven}
use Rattle.tick_context.specs.Lasting.{IsFresh, StaysInStep}
use Rattle.tick_context.proofs.Counted.{counters-head}
use Rattle.tick_context.proofs.Free.{told-none, never-backed}

-- the backup time has not passed, where more of it is left than this tick
unbacked : (j : ℕ) (past : Past) → IsFresh past
    → (past.tables.unit.backup ≡ 0) ⊎ (in_a_row (λ m. not m.is_commanded) past.moments + 1 + suc j < 10 * past.tables.unit.backup)
    → is_backed_up past.tables (is_commanded past.commanded) past.moments ≡ false
unbacked j past fresh (inl never) = never-backed past.tables (is_commanded past.commanded) past.moments never
unbacked j past fresh (inr less) =
    ap (λ (x : Option ℕ). is_backed_up past.tables (is_commanded x) past.moments) fresh.commanded
    ∙ rest (nat_le 1 past.tables.unit.backup)
    (lasts_now-counted (10 * past.tables.unit.backup - 1) true (λ m. not m.is_commanded) past.moments
    ∙ lt-leb (10 * past.tables.unit.backup - 1) (in_a_row (λ m. not m.is_commanded) past.moments + 1) (omega (arith, less)))
  where
    rest : (a : Bool) {b : Bool} → b ≡ false → (a && b) ≡ false
    rest a e = rw e (and-false a)

pub command-in : (n j : ℕ) (past : Past) → IsFresh past → StaysInStep n (suc j) past → command_now past ≡ n
command-in n j past fresh s =
    told-none past fresh.commanded
    ∙ ap (λ (b : Bool). if b then 0 else (moment_seen past).command) (unbacked j past fresh s.backup)
    ∙ s.command

-- the clock advances by one
pub clock-in : (n j : ℕ) (past : Past) → IsFresh past → StaysInStep n (suc j) past → clock_now past ≡ (moment_seen past).clock + 1
clock-in n j past fresh s =
    let day : (moment_seen past).clock + suc j < 864000 = s.day in
    let small : ((moment_seen past).clock + 1) % 864000 ≡ (moment_seen past).clock + 1 = omega (arith, day) in
    ap (λ (x : Option ℕ). (clock_told x (moment_seen past) + rise_at past.gain past.lose ((moment_seen past).number + 1)) % 864000) fresh.clock_set
    ∙ ap (λ (g : ℕ). ((moment_seen past).clock + rise_at g past.lose ((moment_seen past).number + 1)) % 864000) s.gain
    ∙ ap (λ (l : ℕ). ((moment_seen past).clock + rise_at 0 l ((moment_seen past).number + 1)) % 864000) s.lose
    ∙ small

-- a pattern that is defined is not a command for flash
no-flash : (t : Tables) (n : ℕ) → is_defined t n ≡ true → n ≢ 255
no-flash t n d =
    let parts = and_parts (nat_le 1 n && nat_le n 48) (nat_le 1 (pattern_of t n).cycle) d in
    let most : n ≤ 48 = leb-true n 48 (and_parts (nat_le 1 n) (nat_le n 48) parts.0).1 in
    λ e. absurd (omega (arith, most, e))

-- the frame is coordinated in the pattern
pub step-in : (f : Frame) (version n : ℕ) → f.mode ≡ Coord n → f.version ≡ version → is_in_step f version n ≡ true
step-in f version n e v =
    let same : (n == n) ≡ true = (Decides-eqb n n).1 refl in
    let too : (f.version == version) ≡ true = (Decides-eqb f.version version).1 v in
    rw (e, same, too) refl

-- coordination continues where no preempt input is on and its pattern stays in command
mode-goes : (t : Tables) (version n : ℕ) (on : List ℕ) (past : List Moment) → (last_frame past).mode ≡ Coord n → on ≡ []
    → is_defined t n ≡ true → is_in_step (last_frame past) version n ≡ true → mode_sought t version n on past ≡ Coord n
mode-goes t version n on past was none defined step =
    let stage : stage_now t on past ≡ None =
    ap (λ (xs : List ℕ). stage_now t xs past) none ∙ ap (λ (m : Mode). stage_after t m [] past) was in
    let runs : mode_running t version n (last_frame past) ≡ Coord n = rw (ne_eqb n 255 (no-flash t n defined), defined, step) refl in
    ap (λ (m : Mode). mode_after m t version n on past) was
    ∙ ap (λ (s : Option Mode). mode_staged s t version n (last_frame past)) stage ∙ runs

pub mode-in : (n j : ℕ) (past : Past) → IsFresh past → StaysInStep n (suc j) past → (frame_seen past).mode ≡ Coord n
    → (frame_seen past).version ≡ past.version → preempts_seen past ≡ [] → mode_seen past ≡ Coord n
mode-in n j past fresh s was version beside =
    ap (λ (command : ℕ). mode_sought past.tables past.version command (preempts_on past.heard (moment_seen past)) past.moments) (command-in n j past fresh s)
    ∙ mode-goes past.tables past.version n (preempts_on past.heard (moment_seen past)) past.moments was (sym (seen-is past) ∙ beside) s.defined
    (step-in (frame_seen past) past.version n was version)

-- a tick after a moment of the cycle, where there is no error or none is corrected
plain-step : (k : Correction) (past : List ℕ) (c error : ℕ) → c + 1 < k.cycle → (k.window ≤ c) ⊎ (error ≡ 0) → counter_after k past c error ≡ c + 1
plain-step k past c error few (inr none) = rw (eq-eqb error 0 none) (mod-eq_of_lt few)
plain-step k past c error few (inl late) = rw (le-leb k.window c late, or-true (error == 0)) (mod-eq_of_lt few)

-- the target of the next tick, where this one's is that of the counter
pub target-next : (t : Tables) (n clock c : ℕ) → c + 1 < cycle_time t n → target_at t n clock ≡ c → target_at t n (clock + 1) ≡ c + 1
target-next t n clock c few e =
    later clock (shift_time t n) (cycle_time t n - offset_time t n % cycle_time t n) (cycle_time t n)
    ∙ ap (λ (y : ℕ). (y + 1) % cycle_time t n) e ∙ mod-eq_of_lt few
  where
    later : (clock shift rest cycle : ℕ) → (clock + 1 + shift + rest) % cycle ≡ ((clock + shift + rest) % cycle + 1) % cycle
    later clock shift rest cycle =
        let order : clock + 1 + shift + rest ≡ clock + shift + rest + 1 = omega arith in
        ap (λ (y : ℕ). y % cycle) order ∙ sym (mod-add-mod (clock + shift + rest) cycle 1)

no-error : (cycle target c : ℕ) → target ≡ c + 1 → ahead cycle target c ≡ 0
no-error cycle target c e =
    let whole : target + cycle - c - 1 ≡ cycle = omega (arith, e) in ap (λ (y : ℕ). y % cycle) whole ∙ mod_self cycle

pub counter-next : (n j : ℕ) (past : Past) → IsFresh past → StaysInStep n (suc j) past → (frame_seen past).mode ≡ Coord n
    → mode_seen past ≡ Coord n → (tick_state_of past).counter ≡ (frame_seen past).counter + 1
counter-next n j past fresh s was mode =
    let c : ℕ = (frame_seen past).counter in
    let k : Correction = correction_of past.tables n in
    let (before, head) = counters-head n (frame_seen past).version past.moments (step-in (frame_seen past) (frame_seen past).version n was refl) in
    let cycle : (frame_seen past).counter + suc j < cycle_time past.tables n = s.cycle in
    let few : (frame_seen past).counter + 1 < cycle_time past.tables n = omega (arith, cycle) in
    ap (λ (m : Mode). counter_in past.tables m (target_in past.tables m (clock_now past)) past.moments) mode
    ∙ ap (λ (xs : List ℕ). next_counter k xs (target_at past.tables n (clock_now past))) head
    ∙ plain-step k (c ∷ before) c (ahead (cycle_time past.tables n) (target_at past.tables n (clock_now past)) c) few
    (elim s.even [
      | inl late ↦ inl late
      | inr on ↦
          inr (no-error (cycle_time past.tables n) (target_at past.tables n (clock_now past)) c
          (ap (λ (x : ℕ). target_at past.tables n x) (clock-in n j past fresh s) ∙ target-next past.tables n (moment_seen past).clock c few on))
    ])

-- no walk begins where the frame is not a local zero and the colours stay
pub no-walk-in : (n : ℕ) (c : Crossing) (p : ℕ) (colour : Colour) (signal : Ped) → c.is_zero ≡ false → walk_begins c (Coord n) p colour colour signal ≡ false
no-walk-in n c p Green Dont e = rw e refl
no-walk-in n c p Green Walk e = refl
no-walk-in n c p Green Flash e = refl
no-walk-in n c p Yellow signal e = refl
no-walk-in n c p Clear signal e = refl
no-walk-in n c p Red signal e = refl

-- a counter that has advanced by one is at no local zero
pub no-zero : (m : Mode) (counter before : ℕ) (f : Frame) → counter ≡ before + 1 → is_local_zero m counter f ≡ false
no-zero m counter before f e =
    let some : counter ≢ 0 = λ z. absurd (omega (arith, e, z)) in by m (ne_eqb counter 0 some)
  where
    by : (m : Mode) → (counter == 0) ≡ false → is_local_zero m counter f ≡ false
    by Start z = refl
    by Free z = refl
    by (Seek n) z = refl
    by (Coord n) z = rw z refl
    by Ending z = refl
    by InFlash z = refl
    by (Entry i) z = refl
    by (Track i) z = refl
    by (Dwell i) z = refl
    by (Exit i) z = refl

-- that much of the backup time is left
pub backup-left : (o : UnitCommands) (t : Tables) (past : Past) (k n : ℕ) → UnitCommandsStand o past → t ≡ past.tables → IsFresh past → (moment_seen past).command ≡ n
    → is_defined t n ≡ true → IsEven o t k
    → (past.tables.unit.backup ≡ 0) ⊎ (in_a_row (λ m. not m.is_commanded) past.moments + 1 + k < 10 * past.tables.unit.backup)
backup-left o t past k n stands same fresh command defined even =
    let mine : o.command ≡ (moment_seen past).command = stands.command ∙ rw fresh.commanded refl in
    let since : o.since ≡ min (in_a_row (λ m. not m.is_commanded) past.moments + 1) most = stands.since ∙ rw fresh.commanded refl in
    let few : t.unit.backup ≤ 65535 = even.few in
    let mean : t.unit.backup ≡ past.tables.unit.backup = ap (λ (x : Tables). x.unit.backup) same in
    elim even.command [
      | inl none ↦ absurd (some t n defined (sym command ∙ sym mine ∙ none))
      | inr (inl never) ↦ inl (sym mean ∙ never)
      | inr (inr short) ↦ inr (omega (arith, since, few, mean, short))
    ]
  where
    some : (t : Tables) (n : ℕ) → is_defined t n ≡ true → n ≡ 0 → ⊥
    some t n d z =
        let parts = and_parts (nat_le 1 n && nat_le n 48) (nat_le 1 (pattern_of t n).cycle) d in
        let least : 1 ≤ n = leb-true 1 n (and_parts (nat_le 1 n) (nat_le n 48) parts.0).0 in
        absurd (omega (arith, least, z))
