use Rattle.std.proofs.Common.{◌≡◌, ◌==◌, ◌∷◌, ℕ, sym, ◌∙◌, ap, subst}
use Rattle.sig_types.specs.declared.frame.Frame.{Frame}
use Rattle.sig_types.specs.Colour.{on_in, is_start}
use Rattle.sig_tables.specs.Modes.{stage_of}
use Rattle.look_back.specs.Rows.{RowStands}
use Rattle.look_back.proofs.Numbers.{inputs-step, on-steps, latest-steps}
use Rattle.look_back.proofs.long_counts.LongCounts.step.Goals as goal

pub returns : goal.returns
returns c = λ past m stands frame saw.
    let stage : c.stage_of-stage.result ≡ stage_of m.frame.mode = c.stage_of-stage.ensures ∙ ap (λ (f : Frame). stage_of f.mode) (sym frame) in
    let starts : c.is_start-starts.result ≡ is_start m.frame.mode = c.is_start-starts.ensures ∙ ap (λ (f : Frame). is_start f.mode) (sym frame) in
    let P : ℕ → Type 0 = λ i. RowStands c.stages_after-self.result (λ n. stage_of n.frame.mode == i) (m ∷ past) in
    record {
      stage = stage;
      stages = subst P (sym stage)
          (c.stages_after-self.ensures c.args.self.now.stage past m stands.stage (ap (λ (i : ℕ). i == c.args.self.now.stage) stage) stands.stages);
      inputs = inputs-step _ _ c.args.preempts past m c.step_inputs.ensures saw stands.inputs;
      first = c.on_after.ensures ∙ on-steps 1 m past _ _ _ starts (ap (λ (f : Frame). on_in f 1) (sym frame)) stands.first;
      second = c.on_after-2.ensures ∙ on-steps 2 m past _ _ _ starts (ap (λ (f : Frame). on_in f 2) (sym frame)) stands.second;
      latest = c.latest_after-self.ensures
          ∙ latest-steps m past _ _ _ _ starts (ap (λ (f : Frame). on_in f 1) (sym frame)) (ap (λ (f : Frame). on_in f 2) (sym frame)) stands.latest;
    }
