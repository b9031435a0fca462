use Rattle.std.proofs.Common.{◌≡◌, ◌≢◌, [], ℕ, Bool, not, true, false, refl, sym, ◌∙◌, ap}
use Rattle.std.proofs.lemmas.Bool.{false≢true}
use Rattle.sig_types.specs.declared.frame.Frame.{Frame}
use Rattle.sig_tables.specs.declared.tables.Tables.{Tables}
use Rattle.sig_tables.specs.Slots.{is_defined}
use Rattle.sig_tables.specs.Command.{command_now}
use Rattle.preempt_stages.specs.Inputs.{preempts_seen}
use Rattle.preempt_stages.proofs.Inputs.{seen-is}
use Rattle.tick_context.proofs.Again.{free-is, free-on}
use Rattle.engine.proofs.Engine.stays_free.Goals as goal

denied : (b : Bool) → not b ≡ true → b ≡ false
denied false e = refl
denied true e = absurd (false≢true e)

pub returns-else-command-eq-FLASH_COMMAND : goal.returns-else-command-eq-FLASH_COMMAND
returns-else-command-eq-FLASH_COMMAND g c = record {
  was = λ past k t. ap (λ (f : Frame). f.mode) (sym k.context.frame) ∙ free-is _ (sym c.is_free.ensures ∙ c.if-not-is_free.false);
  free = λ past k e t.
      let was = ap (λ (f : Frame). f.mode) (sym k.context.frame) ∙ free-is _ (sym c.is_free.ensures ∙ c.if-not-is_free.false) in
      let none : preempts_seen past ≡ [] = c.is_beside.ensures.beside past k.memory c.if-not-is_beside.false in
      let other : command_now past ≢ 255 = λ x. c.if-command-eq-FLASH_COMMAND.false (e ∙ x) in
      let undefined : is_defined past.tables (command_now past) ≡ false =
      ap (λ (n : ℕ). is_defined past.tables n) (sym e) ∙ (ap (λ (x : Tables). is_defined x c.args.command) (sym k.context.tables) ∙ (sym c.is_defined.ensures ∙ denied _ t)) in
      free-on past.tables past.version (command_now past) _ past.moments was (sym (seen-is past) ∙ none) other undefined;
  beside = λ past k t. c.is_beside.ensures.beside past k.memory c.if-not-is_beside.false;
}
