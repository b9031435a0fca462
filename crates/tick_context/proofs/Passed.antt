-- What was reported follows ticks that are skipped, and what lasts longer lasts after them.
use Rattle.std.proofs.Common.{◌≡◌, ◌≢◌, ◌<◌, ◌≤◌, ◌+◌, ◌*◌, ◌-◌, ◌%◌, inl, inr, not, min, if◌then◌else◌, nat_le, ℕ, zero, suc, Bool, true, false}
use Rattle.std.proofs.Common.{refl, sym, ◌∙◌, ap, arith, subst}
use Rattle.std.proofs.lemmas.Bool.{cases_Bool, leb-true}
use Rattle.sig_types.specs.declared.frame.Mode.{Mode}
use Rattle.sig_tables.specs.Past.{Past, Moment}
use Rattle.sig_tables.specs.Looking.{in_a_row}
use Rattle.sig_tables.specs.Command.{is_backed_up, is_commanded, command_now}
use Rattle.sig_tables.specs.Clock.{rise_at}
use Rattle.sig_tables.specs.Decide.{with_moment, next_moment}
use Rattle.sig_tables.specs.Seen.{moment_seen}
use Rattle.tick_context.specs.declared.unit_commands.UnitCommands.{UnitCommands}
use Rattle.tick_context.specs.UnitCommands.{UnitCommandsStand, SawUnitCommands, ticks_since, most}
use Rattle.tick_context.specs.Even.{IsEven, UnitCommandsPassed}
use Rattle.tick_context.specs.Lasting.{IsFresh, Lasts}
use Rattle.tick_context.proofs.Backup.{backed-up}
use Rattle.tick_context.proofs.Free.{told-none, never-backed}
use Rattle.tick_context.proofs.OneLess.{lasts-less}

-- the pattern in command stays at an even tick
unbacked : (past : Past) (since : ℕ) → past.tables.unit.backup ≤ 65535 → since + 1 < 10 * past.tables.unit.backup
    → since ≡ min (ticks_since (is_commanded past.commanded) past.moments) 4294967295
    → is_backed_up past.tables (is_commanded past.commanded) past.moments ≡ false
unbacked past since few less is =
    let some : past.tables.unit.backup ≢ 0 = λ e. absurd (omega (arith, less, e)) in
    sym (backed-up past since some few is) ∙ short (10 * past.tables.unit.backup - 1) since (omega (arith, less))
  where
    short : (n k : ℕ) → k < n → nat_le n k ≡ false
    short n k h = elim (cases_Bool (nat_le n k)) [
      | inl e ↦ let g : n ≤ k = leb-true n k e in absurd (omega arith)
      | inr e ↦ e
    ]

command-stays : (o : UnitCommands) (past : Past) → UnitCommandsStand o past → IsFresh past → IsEven o past.tables 1 → past.tables.unit.backup ≤ 65535
    → command_now past ≡ o.command
command-stays o past stands fresh even few =
    told-none past fresh.commanded ∙ elim even.command [
      | inl none ↦ of-none (is_backed_up past.tables (is_commanded past.commanded) past.moments) (moment_seen past).command o.command none (sym mine)
      | inr (inl never) ↦
          ap (λ (b : Bool). if b then 0 else (moment_seen past).command) (never-backed past.tables (is_commanded past.commanded) past.moments never) ∙ sym mine
      | inr (inr less) ↦
          ap (λ (b : Bool). if b then 0 else (moment_seen past).command) (unbacked past o.since few less stands.since) ∙ sym mine
    ]
  where
    mine : o.command ≡ (moment_seen past).command
    mine = stands.command ∙ rw fresh.commanded refl

    of-none : (b : Bool) (n command : ℕ) → command ≡ 0 → n ≡ command → (if b then 0 else n) ≡ command
    of-none true n command e f = sym e
    of-none false n command e f = f

pub unit_commands-on : (o new : UnitCommands) (past : Past) (m : Moment) → UnitCommandsPassed 1 o new → UnitCommandsStand o past → SawUnitCommands past m → IsFresh past
    → IsEven o past.tables 1 → past.tables.unit.backup ≤ 65535 → UnitCommandsStand new (with_moment past m)
unit_commands-on o new past m by stands saw fresh even few =
    let told : m.is_commanded ≡ false = saw.is_commanded ∙ ap is_commanded fresh.commanded in
    let since : o.since ≡ min (in_a_row (λ m. not m.is_commanded) past.moments + 1) most = stands.since ∙ rw fresh.commanded refl in
    record {
      command = by.command ∙ sym (command-stays o past stands fresh even few) ∙ sym saw.command;
      since = by.since ∙ rw told (omega (arith, since));
      clock = by.clock ∙ clock-on o.clock (moment_seen past).clock m.clock past.gain past.lose ((moment_seen past).number + 1) even.clock
          (stands.clock ∙ rw fresh.clock_set refl) (sym stands.gain ∙ even.gain) (sym stands.lose ∙ even.lose)
          (saw.clock ∙ rw fresh.clock_set refl);
      ticks = by.ticks ∙ ap (λ (n : ℕ). n + 1) stands.ticks ∙ sym saw.number;
      gain = by.gain ∙ stands.gain;
      lose = by.lose ∙ stands.lose;
    }
  where
    clock-on : (clock last now gain lose number : ℕ) → clock + 1 < 864000 → clock ≡ last → gain ≡ 0 → lose ≡ 0
        → now ≡ (last + rise_at gain lose number) % 864000 → clock + 1 ≡ now
    clock-on clock last now gain lose number h e f g k =
        let rise : rise_at gain lose number ≡ 1 = rw (f, g) refl in
        let sum : last + rise_at gain lose number ≡ clock + 1 = rw rise (omega arith) in
        let small : (clock + 1) % 864000 ≡ clock + 1 = omega arith in
        sym small ∙ ap (λ (n : ℕ). n % 864000) (sym sum) ∙ sym k

-- what has come after N ticks more
abbrev pub after : ℕ → Past → Past
after zero past = past
after (suc k) past = after k (with_moment past (next_moment past))

-- what lasts longer lasts after some ticks
pub lasts-after : (k j : ℕ) (mode : Mode) (past : Past) → Lasts mode (k + suc j) past → Lasts mode (suc j) (after k past)
lasts-after zero j mode past l = let e : zero + suc j ≡ suc j = omega arith in subst (λ (n : ℕ). Lasts mode n past) e l
lasts-after (suc k) j mode past l =
    let e : suc k + suc j ≡ suc (k + suc j) = omega arith in
    lasts-after k j mode (with_moment past (next_moment past)) (lasts-less mode (k + suc j) past (subst (λ (n : ℕ). Lasts mode n past) e l))
