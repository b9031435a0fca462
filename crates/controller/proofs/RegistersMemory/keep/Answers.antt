use Rattle.std.proofs.Common.{◌≡◌, ◌∷◌, [], ◌&&◌, ◌≤◌, Bool, true, sym, ◌∙◌, ap, arith, subst}
use Rattle.sig_types.specs.declared.frame.Frame.{Frame}
use Rattle.sig_types.specs.Colour.{is_start}
use Rattle.sig_tables.specs.Looking.{last_on, start_run}
use Rattle.sig_tables.specs.Past.{Moment}
use Rattle.sig_tables.specs.Calls.{is_green}
use Rattle.sig_tables.specs.Choosing.{is_in_step}
use Rattle.sig_tables.specs.Decide.{next_moment, colours_of}
use Rattle.sig_tables.specs.Seen.{frame_seen, moves_seen}
use Rattle.preempt_stages.proofs.Inputs.{seen-is}
use Rattle.preempt_stages.proofs.OnPhases.{names-phases}
use Rattle.tick_context.proofs.Rings.{each-ring, last-next, latest-next}
use Rattle.tick_context.proofs.Seen.{opposed-green}
use Rattle.tick_context.proofs.Pickups.{start-next}
use Rattle.controller.proofs.RegistersMemory.keep.Goals as goal

pub returns-clause-remembers : goal.returns-clause-remembers
returns-clause-remembers c = λ past k r s f colours signals.
    let m : Moment = next_moment past in
    let g : m.frame ≡ c.args.frame.now = sym f in
    let veh : m.frame.veh ≡ c.args.frame.now.veh = ap (λ (x : Frame). x.veh) g in
    let ped : m.frame.ped ≡ c.args.frame.now.ped = ap (λ (x : Frame). x.ped) g in
    let few : start_run past.moments ≤ 60 = r.context.few_start in
    let run : c.args.self.now.start_run ≡ start_run past.moments = k.start in
    record {
      clocks = c.step.ensures.stands past.moments m k.clocks g (sym r.context.tables) (λ t. veh ∙ colours t) s.quiet
          (λ p i. opposed-green past p i ∙ ap (λ (b : Bool). is_green (frame_seen past) p && b) (sym (s.opposed p i)));
      signals = c.step-2.ensures.stands past.moments m k.signals g (sym r.context.tables) (λ t. ped ∙ signals t);
      preempts = c.step-3.ensures.stands past m k.preempts g (sym (seen-is past))
          (names-phases c.args.frame.now past.tables (colours_of past (moves_seen past)) (ap (λ (x : Frame). x.on) f));
      last = each-ring (c.last_after.result ∷ c.last_after-2.result ∷ []) 0 (λ q. last_on q (m ∷ past.moments))
          (c.last_after.ensures ∙ last-next m past.moments c.args.frame.now 1 _ c.shows_start-in_start.result g c.shows_start-in_start.ensures
          (k.last 1 (omega arith) (omega arith)))
          (c.last_after-2.ensures ∙ last-next m past.moments c.args.frame.now 2 _ c.shows_start-in_start.result g c.shows_start-in_start.ensures
          (k.last 2 (omega arith) (omega arith)));
      latest = c.latest_after-self.ensures
          ∙ latest-next m past.moments c.args.frame.now _ c.shows_start-in_start.result g c.shows_start-in_start.ensures k.latest;
      start = c.start_run_after-self.ensures (omega arith)
          ∙ start-next m past.moments c.args.self.now.start_run c.shows_start-in_start.result
          (c.shows_start-in_start.ensures ∙ ap (λ (x : Frame). is_start x.mode) f) k.start;
      counts = λ n st. c.count_after-count.ensures.counts past k r f n (subst (λ (x : Frame). is_in_step x past.version n ≡ true) g st);
    }
