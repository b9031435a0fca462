use Rattle.std.proofs.Common.{◌≡◌, ◌≤◌, ◌∙◌, ◌-◌, ◌*◌, ℕ, nat_le, ap, arith}
use Rattle.sig_tables.specs.declared.tables.Tables.{Tables}
use Rattle.sig_tables.specs.declared.tables.Corrections.{Corrections}
use Rattle.tick_context.proofs.Backup.{backed-up}
use Rattle.tick_context.proofs.unit_commands.UnitCommands.is_backed_up.Goals as goal

pub returns-then-backup-ne0 : goal.returns-then-backup-ne0
returns-then-backup-ne0 c = record {
  backed_up = λ past o t.
      let mine : c.from.result ≡ past.tables.unit.backup =
      c.from.ensures ∙ ap (λ (u : Corrections). u.backup) c.unit.ensures.unit ∙ ap (λ (u : Tables). u.unit.backup) t in
      let few : c.unit.result.now.backup ≤ 65535 = omega arith in
      ap (λ (n : ℕ). nat_le (10 * n - 1) c.args.self.now.since) mine
      ∙ backed-up past c.args.self.now.since (omega (arith, c.if-backup-ne0.true)) (omega arith) o.since;
}
