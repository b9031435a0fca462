use Rattle.std.proofs.Common.{◌≡◌, ◌+◌, ◌-◌, ◌<◌, ℕ, None, get_or, length, ◌∙◌, ap, arith, Option, drop, rules}
use Rattle.std.proofs.lemmas.List.{get_or_default}
use Rattle.sig_tables.specs.Priority.{Place, leader, all_requests}
use Rattle.prio_queue.specs.declared.place.Place.{Place as Kept}
use Rattle.prio_queue.specs.Places.{leader_by}
use Rattle.prio_queue.proofs.Leading.{leader-more}
use Rattle.prio_queue.proofs.Queue.leader.Goals as goal

pub loop-step-preserved : goal.loop-step-preserved
loop-step-preserved c = λ past t n k s h e.
    let at : 9 - c.loop-step.step ≡ k = omega (arith, e) in
    let ten : 10 ≡ length c.args.self.now.places = search rules in
    let within : 9 - c.loop-step.step < length c.args.self.now.places = omega (arith, ten) in
    let mine : get_or c.args.self.now.places (9 - c.loop-step.step) c.index-self-step.result
    ≡ get_or c.args.self.now.places (9 - c.loop-step.step) None =
    get_or_default c.args.self.now.places (9 - c.loop-step.step) c.index-self-step.result None within in
    c.leader_by-leader.ensures t n h
    ∙ ap (λ (others : Option Place). leader_by t n c.args.tick
    (get_or c.args.self.now.places (9 - c.loop-step.step) c.index-self-step.result) others)
    (c.loop-step.invariant past t n (k + 1) s h (omega (arith, e)))
    ∙ ap (λ (x : Option Kept). leader_by t n c.args.tick x (leader t n c.args.tick past.asked (drop (k + 1) all_requests))) mine
    ∙ ap (λ (i : ℕ). leader_by t n c.args.tick (get_or c.args.self.now.places i None) (leader t n c.args.tick past.asked (drop (k + 1) all_requests))) at
    ∙ leader-more c.args.self.now past t n c.args.tick k s (omega (arith, e))

pub returns : goal.returns
returns c = λ past t n s h. c.loop-step.invariant past t n 0 s h (omega arith)
