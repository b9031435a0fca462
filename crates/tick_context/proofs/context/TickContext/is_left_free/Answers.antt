use Rattle.std.proofs.Common.{◌≡◌, refl, sym, ◌∙◌, ap, arith}
use Rattle.std.proofs.lemmas.Bool.Decides.{Decides-eqb}
use Rattle.sig_types.specs.declared.frame.Frame.{Frame}
use Rattle.sig_tables.specs.declared.tables.Tables.{Tables}
use Rattle.sig_tables.specs.Slots.{is_defined}
use Rattle.sig_tables.specs.Seen.{moment_seen}
use Rattle.tick_context.proofs.context.TickContext.is_left_free.Goals as goal

pub returns-else-self-ne0-clause-free : goal.returns-else-self-ne0-clause-free
returns-else-self-ne0-clause-free c = λ past k fresh t none.
    let mine : c.command-command.result ≡ (moment_seen past).command = c.command-command.ensures.command past k.unit_commands ∙ rw fresh.commanded refl in
    let counter : c.args.self.now.frame.counter ≡ 0 = omega arith in
    let target : c.args.self.now.frame.target ≡ 0 = (Decides-eqb c.args.self.now.frame.target 0).0 t in
    record {
      other = λ x. c.if-command.false (mine ∙ x);
      undefined = ap (is_defined past.tables) (sym mine)
          ∙ (ap (λ (x : Tables). is_defined x c.command-command.result) (sym k.tables) ∙ (sym c.is_defined.ensures ∙ c.if-is_defined.false));
      counter = ap (λ (f : Frame). f.counter) (sym k.frame) ∙ counter;
      target = ap (λ (f : Frame). f.target) (sym k.frame) ∙ target;
      uncalled = none;
    }
