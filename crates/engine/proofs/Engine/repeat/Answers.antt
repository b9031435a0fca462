use Rattle.std.proofs.Common.{◌≡◌, ◌+◌, false, refl, sym, ◌∙◌, ap, arith, subst}
use Rattle.sig_types.specs.declared.frame.Frame.{Frame}
use Rattle.sig_types.specs.declared.frame.Mode.{Mode}
use Rattle.sig_types.specs.declared.frame.Mode.TheVariants.{Free}
use Rattle.sig_types.specs.Colour.{is_start}
use Rattle.sig_tables.specs.Past.{Moment}
use Rattle.sig_tables.specs.Layout.{Has}
use Rattle.sig_tables.specs.Command.{command_now}
use Rattle.sig_tables.specs.Preempts.{preempts_on}
use Rattle.sig_tables.specs.Decide.{next_moment, colours_of}
use Rattle.sig_tables.specs.Priority.{active_in}
use Rattle.sig_tables.specs.Seen.{frame_seen, moment_seen, moves_seen}
use Rattle.call_store.specs.CallsStand.{is_walking}
use Rattle.preempt_stages.specs.Dwelling.{NamesPhases}
use Rattle.prio_queue.specs.Places.{some_number}
use Rattle.engine.specs.Shows.{ShowsColours}
use Rattle.tick_context.specs.Shows.{is_signalling}
use Rattle.tick_context.proofs.Sought.{start-again}
use Rattle.tick_context.proofs.Pickups.{few-next, one-more, same-most}
use Rattle.tick_context.proofs.Again.{free-started}
use Rattle.engine.proofs.Engine.repeat.Goals as goal

pub returns-clause-keeps : goal.returns-clause-keeps
returns-clause-keeps g c = λ past k beside e at quiet opposed r.
    let m : Moment = next_moment past in
    let old : Frame = c.args.self.now.context.frame in
    let a : m.frame ≡ frame_seen past = r.again in
    let f : frame_seen past ≡ m.frame = sym a in
    let g : m.frame ≡ old = a ∙ sym k.context.frame in
    let free : m.frame.mode ≡ Free = ap (λ (x : Frame). x.mode) a ∙ r.was in
    let shown : ShowsColours c.args.self.now.shown m.frame.veh = subst (λ (x : Frame). ShowsColours c.args.self.now.shown x.veh) f k.shown in
    let walking : Has c.args.self.now.walking (is_walking m.frame) = subst (λ (x : Frame). Has c.args.self.now.walking (is_walking x)) f k.walking in
    let signalling : Has c.args.self.now.signalling (is_signalling m.frame) =
    subst (λ (x : Frame). Has c.args.self.now.signalling (is_signalling x)) f k.signalling in
    let names : NamesPhases m.frame = subst (λ (x : Frame). NamesPhases x) f k.context.names in
    let going : is_start (frame_seen past).mode ≡ false = sym (free-started (frame_seen past).mode r.was) in
    record {
      context = record {
        tables = k.context.tables;
        layout = k.context.layout;
        ordered = k.context.ordered;
        version = k.context.version;
        frame = sym g;
        calls = c.step.ensures.stands past m k.context.calls shown.green walking refl refl refl;
        requests = c.step-2.ensures.stands past m k.context.requests (one-more (moment_seen past).number)
            (sym (ap (λ (x : Mode). some_number (active_in past.tables x ((moment_seen past).number + 1) past.asked)) r.mode));
        unit_commands = c.step-3.ensures.stands past m k.context.unit_commands (record { number = refl; command = refl; is_commanded = refl; clock = refl })
            e at;
        active_pattern = k.context.active_pattern;
        some = omega arith;
        names = names;
        few_start = few-next m past.moments
            (λ now last. start-again past.tables past.version (command_now past) (preempts_on past.heard (moment_seen past)) past.moments
            (colours_of past (moves_seen past)) last now);
        old_frame = same-most past.version;
      };
      memory = c.again.ensures.remembers past k.memory k.context beside quiet opposed r;
      shown = shown;
      walking = walking;
      signalling = signalling;
    }
