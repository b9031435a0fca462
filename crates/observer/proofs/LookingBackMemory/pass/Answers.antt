use Rattle.std.proofs.Common.{◌≡◌, ◌≤◌, ◌+◌, ◌++◌, ℕ, List, length, sym, ap, arith, subst}
use Rattle.std.proofs.lemmas.List.{length-append}
use Rattle.sig_types.specs.declared.frame.Frame.{Frame}
use Rattle.sig_types.specs.declared.frame.Mode.{Mode}
use Rattle.sig_tables.specs.Past.{Past, Moment}
use Rattle.sig_tables.specs.Decide.{past_at}
use Rattle.sig_tables.specs.Seen.{frame_seen}
use Rattle.tick_context.specs.Lasting.{Lasts}
use Rattle.tick_context.proofs.Passed.{after}
use Rattle.tick_context.proofs.Striding.{more-past}
use Rattle.look_back.specs.FrameHistories.{LooksOver}
use Rattle.observer.specs.LookingBack.{SeesBack}
use Rattle.observer.proofs.Passed.{more, moments-after, more-long, all-go-on, pushed, ToldBack, told-after}
use Rattle.observer.proofs.LookingBackMemory.pass.Goals as goal

pub returns-clause-remembers : goal.returns-clause-remembers
returns-clause-remembers c = λ h k x sees l.
    let past : Past = past_at h in
    let n : ℕ = c.args.ticks in
    let mode : Mode = c.args.context.now.frame.mode in
    let counter : c.args.context.now.frame.counter ≡ (frame_seen past).counter = ap (λ (f : Frame). f.counter) x.frame in
    let few : (frame_seen past).counter + n ≤ 4294967295 = omega (arith, counter, c.requires.room) in
    let whole : n ≡ n + 0 = omega arith in
    let looks : LooksOver c.push_again.new.self (more n past ++ past.moments) =
    pushed c.args.self.now.frame_history c.push_again.new.self c.args.tick_inputs.now.active c.args.tick_inputs.now.opposed n past.moments (more n past)
    c.push_again.ensures x.some k.frame_history (more-long n past) few
    (all-go-on n 0 mode c.args.tick_inputs.now past (subst (λ (x : ℕ). Lasts mode x past) whole l) sees) in
    let told : ToldBack c.args.self.now.inputs (after n past) = told-after n mode c.args.self.now.inputs past (record { inputs = k.inputs; within = k.within }) l in
    let over : LooksOver c.push_again.new.self (after n past).moments =
    subst (λ (ms : List Moment). LooksOver c.push_again.new.self ms) (sym (moments-after n past)) looks in
    let count : length (after n past).moments ≡ c.args.self.now.frames + n + 1 =
    omega (arith, ap (λ (ms : List Moment). length ms) (moments-after n past), length-append (more n past) past.moments, more-long n past, k.frames) in
    subst (λ (p : Past). SeesBack (record c.args.self.now { frame_history = c.push_again.new.self; frames = c.args.self.now.frames + n }) p) (sym (more-past n h))
    (record { inputs = told.inputs; frame_history = over; frames = count; within = told.within })
