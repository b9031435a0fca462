use Rattle.std.proofs.Common.{◌≡◌, ◌&&◌, ◌∷◌, ℕ, List, length, Bool, false, sym, ◌∙◌, ap, arith, subst}
use Rattle.std.proofs.lemmas.Bool.{false≢true}
use Rattle.sig_types.specs.declared.frame.Frame.{Frame}
use Rattle.sig_types.specs.declared.frame.Mode.TheVariants.{Free}
use Rattle.sig_types.specs.Colour.{is_start}
use Rattle.sig_types.specs.Phases.{is_in}
use Rattle.sig_tables.specs.Looking.{last_on}
use Rattle.sig_tables.specs.Past.{Moment}
use Rattle.sig_tables.specs.Calls.{is_green}
use Rattle.sig_tables.specs.Decide.{next_moment}
use Rattle.sig_tables.specs.Seen.{frame_seen}
use Rattle.preempt_stages.specs.Dwelling.{NamesPhases, is_dwell}
use Rattle.preempt_stages.proofs.Inputs.{seen-is}
use Rattle.preempt_stages.proofs.OnPhases.{last-wide}
use Rattle.tick_context.proofs.Rings.{each-ring, last-again, latest-again}
use Rattle.tick_context.proofs.Seen.{opposed-green}
use Rattle.tick_context.proofs.Pickups.{start-zero, start-next}
use Rattle.tick_context.proofs.Again.{free-apart, free-started}
use Rattle.controller.proofs.RegistersMemory.again.Goals as goal

pub returns-clause-remembers : goal.returns-clause-remembers
returns-clause-remembers c = λ past k x beside quiet opposed r.
    let m : Moment = next_moment past in
    let old : Frame = c.args.context.now.frame in
    let a : m.frame ≡ frame_seen past = r.again in
    let f : frame_seen past ≡ m.frame = sym a in
    let g : m.frame ≡ old = a ∙ sym x.frame in
    let free : m.frame.mode ≡ Free = ap (λ (x : Frame). x.mode) a ∙ r.was in
    let names : NamesPhases m.frame = subst (λ (x : Frame). NamesPhases x) f x.names in
    let going : is_start (frame_seen past).mode ≡ false = sym (free-started (frame_seen past).mode r.was) in
    record {
      clocks = c.step.ensures.stands past.moments m k.clocks g (sym x.tables) (λ t. ap (λ (x : Frame). x.veh) a)
          quiet
          (λ p h. opposed-green past p h ∙ ap (λ (b : Bool). is_green (frame_seen past) p && b) (sym (opposed p h)));
      signals = c.step-2.ensures.stands past.moments m k.signals g (sym x.tables) (λ t. ap (λ (x : Frame). x.ped) a);
      preempts = c.stay.ensures.stands past m k.preempts (record {
        saw = sym (seen-is past);
        none = λ i above within. ap (λ (xs : List ℕ). is_in xs i) beside;
        mode = ap (λ (x : Frame). x.mode) a;
        beside = ap is_dwell free;
        wide = ap (λ (x : Frame). length x.veh) a ∙ last-wide past.moments k.preempts.fits;
        names = names;
      });
      last = each-ring c.args.self.now.last 0 (λ q. last_on q (m ∷ past.moments))
          (k.last 1 (omega arith) (omega arith) ∙ last-again m past.moments 1 (ap (λ (x : Frame). x.on) a) (ap (λ (x : Frame). x.mode) a) going)
          (k.last 2 (omega arith) (omega arith) ∙ last-again m past.moments 2 (ap (λ (x : Frame). x.on) a) (ap (λ (x : Frame). x.mode) a) going);
      latest = k.latest ∙ latest-again m past.moments (ap (λ (x : Frame). x.on) a) (ap (λ (x : Frame). x.mode) a) going;
      start = k.start ∙ start-zero past.moments going
          ∙ start-next m past.moments c.args.self.now.start_run false (free-started m.frame.mode free) k.start;
      counts = λ n st. absurd (false≢true (sym (free-apart m.frame past.version n free) ∙ st));
    }
