use Rattle.std.proofs.Common.{◌≡◌, refl, sym, ap, arith, subst}
use Rattle.sig_types.specs.declared.frame.Frame.{Frame}
use Rattle.sig_tables.specs.Past.{Moment}
use Rattle.sig_tables.specs.Command.{command_now}
use Rattle.sig_tables.specs.Preempts.{preempts_on}
use Rattle.sig_tables.specs.Decide.{next_moment, colours_of}
use Rattle.sig_tables.specs.Seen.{moment_seen, moves_seen}
use Rattle.preempt_stages.proofs.OnPhases.{names-phases}
use Rattle.sig_tables.specs.Layout.{Has}
use Rattle.call_store.specs.CallsStand.{is_walking}
use Rattle.engine.proofs.Running.{runs-context}
use Rattle.engine.specs.Shows.{ShowsColours}
use Rattle.tick_context.specs.Shows.{is_signalling}
use Rattle.tick_context.proofs.Sought.{start-again}
use Rattle.tick_context.proofs.Pickups.{few-next, one-more, same-most}
use Rattle.engine.proofs.Engine.keep.Goals as goal

pub returns-clause-keeps : goal.returns-clause-keeps
returns-clause-keeps g c = λ past r s n.
    let m : Moment = next_moment past in
    let k = r.keeps in
    let f : c.args.next.now.frame ≡ m.frame = n.frame in
    let g : m.frame ≡ c.args.next.now.frame = sym f in
    let veh : m.frame.veh ≡ c.args.next.now.frame.veh = ap (λ (x : Frame). x.veh) g in
    let ped : m.frame.ped ≡ c.args.next.now.frame.ped = ap (λ (x : Frame). x.ped) g in
    let walking = c.walking_in-walking.ensures.walking past k n in
    let walking-in : Has c.walking_in-walking.result (is_walking m.frame) = subst (λ (x : Frame). Has c.walking_in-walking.result (is_walking x)) f walking in
    let shown : ShowsColours c.args.next.now.shown m.frame.veh = subst (λ (x : Frame). ShowsColours c.args.next.now.shown x.veh) f n.shown in
    record {
      context = record {
        tables = k.context.tables;
        layout = k.context.layout;
        ordered = k.context.ordered;
        version = k.context.version;
        frame = f;
        calls = c.step.ensures.stands past m k.context.calls shown.green walking-in refl refl refl;
        requests = c.step-2.ensures.stands past m k.context.requests (one-more (moment_seen past).number) r.tick_state.active;
        unit_commands = c.step-3.ensures.stands past m k.context.unit_commands (record { number = refl; command = refl; is_commanded = refl; clock = refl })
            r.tick_state.command r.tick_state.clock;
        active_pattern = k.context.active_pattern;
        some = omega arith;
        names = names-phases m.frame past.tables (colours_of past (moves_seen past)) refl;
        few_start = few-next m past.moments
            (λ now last. start-again past.tables past.version (command_now past) (preempts_on past.heard (moment_seen past)) past.moments
            (colours_of past (moves_seen past)) last now);
        old_frame = same-most past.version;
      };
      memory = c.keep.ensures.remembers past r.keeps.memory (runs-context _ _ past r) s f n.colours n.signals;
      shown = shown;
      walking = walking-in;
      signalling = subst (λ (x : Frame). Has c.signalling_in-signalling.result (is_signalling x)) f (c.signalling_in-signalling.ensures.signalling past k n walking);
    }
