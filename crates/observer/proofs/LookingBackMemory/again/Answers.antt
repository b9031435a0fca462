use Rattle.std.proofs.Common.{◌&&◌, ◌∷◌, ℕ, List, Bool, sym, ◌∙◌, ap, arith}
use Rattle.std.proofs.lemmas.Bool.{false≢true}
use Rattle.sig_types.specs.declared.frame.Frame.{Frame}
use Rattle.sig_types.specs.Phases.{is_in}
use Rattle.sig_tables.specs.Past.{Moment}
use Rattle.sig_tables.specs.Calls.{is_green}
use Rattle.sig_tables.specs.Decide.{next_moment}
use Rattle.sig_tables.specs.Seen.{frame_seen}
use Rattle.preempt_stages.proofs.Inputs.{seen-is}
use Rattle.tick_context.proofs.Again.{free-apart}
use Rattle.tick_context.proofs.Seen.{opposed-green}
use Rattle.look_back.specs.FrameHistories.{LooksOver}
use Rattle.observer.specs.Inputs.{seen-on}
use Rattle.observer.proofs.LookingBackMemory.again.Goals as goal

pub returns-clause-remembers : goal.returns-clause-remembers
returns-clause-remembers c = λ past k x beside quiet opposed r.
    let m : Moment = next_moment past in
    let looks : LooksOver c.push.new.self (m ∷ past.moments) =
    c.push.ensures past.moments m k.frame_history
    (record {
      frame = r.again ∙ sym x.frame;
      quiet = quiet;
      opposed = λ p i. opposed-green past p i ∙ ap (λ (b : Bool). is_green (frame_seen past) p && b) (sym (opposed p i));
    })
    (sym x.tables) (λ i a b. k.inputs i a b ∙ ap (λ (xs : List ℕ). is_in xs i) (seen-is past)) in
    record {
      inputs = seen-on c.args.self.now.inputs past m (sym (seen-is past)) k.inputs;
      frame_history = looks;
      frames = omega (arith, k.frames);
      within = λ n st. absurd (false≢true (sym (free-apart m.frame past.version n (ap (λ (f : Frame). f.mode) r.again ∙ r.was)) ∙ st));
    }
