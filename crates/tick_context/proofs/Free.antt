-- A command that asks for nothing continues to do so.
use Rattle.std.proofs.Common.{◌≡◌, ◌≢◌, if◌then◌else◌, ℕ, Bool, true, false, List, None, refl, sym, arith, subst}
use Rattle.sig_tables.specs.declared.tables.Tables.{Tables}
use Rattle.sig_tables.specs.Slots.{is_defined}
use Rattle.sig_tables.specs.Past.{Past, Moment}
use Rattle.sig_tables.specs.Command.{is_backed_up, is_commanded, command_now}
use Rattle.sig_tables.specs.Seen.{moment_seen}
use Rattle.tick_context.specs.Lasting.{IsFresh}

pub never-backed : (t : Tables) (commanded : Bool) (past : List Moment) → t.unit.backup ≡ 0 → is_backed_up t commanded past ≡ false
never-backed t commanded past e = rw e refl

-- a command that asks for nothing does so once its backup time has passed
backed-none : (b : Bool) (t : Tables) (n : ℕ) → n ≢ 255 → is_defined t n ≡ false
    → ((if b then 0 else n) ≢ 255) × (is_defined t (if b then 0 else n) ≡ false)
backed-none false t n other undefined = (other, undefined)
backed-none true t n other undefined = (λ e. absurd (omega (arith, e)), refl)

pub told-none : (past : Past) → past.commanded ≡ None
    → command_now past ≡ (if is_backed_up past.tables (is_commanded past.commanded) past.moments then 0 else (moment_seen past).command)
told-none past e = rw e refl

pub command-none : (past : Past) → IsFresh past → (moment_seen past).command ≢ 255 → is_defined past.tables (moment_seen past).command ≡ false
    → (command_now past ≢ 255) × (is_defined past.tables (command_now past) ≡ false)
command-none past fresh other undefined =
    subst (λ (n : ℕ). (n ≢ 255) × (is_defined past.tables n ≡ false)) (sym (told-none past fresh.commanded))
    (backed-none (is_backed_up past.tables (is_commanded past.commanded) past.moments) past.tables (moment_seen past).command other undefined)
