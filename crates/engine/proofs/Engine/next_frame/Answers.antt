use Rattle.std.proofs.Common.{◌≡◌, ℕ, Bool, if◌then◌else◌, List, map, ◌∙◌, ap, sym, subst}
use Rattle.sig_types.specs.declared.frame.Colour.{Colour}
use Rattle.sig_types.specs.declared.frame.Frame.{Frame}
use Rattle.sig_types.specs.declared.frame.Mode.{Mode}
use Rattle.sig_types.specs.declared.frame.Ped.TheVariants.{Walk}
use Rattle.sig_types.specs.Phases.{all_phases}
use Rattle.sig_tables.specs.Choosing.{mode_reached}
use Rattle.sig_tables.specs.TickState.{tick_state_of}
use Rattle.sig_tables.specs.Ticking.{frame_of, frame_with}
use Rattle.sig_tables.specs.Decide.{colours_of, next_moment}
use Rattle.sig_tables.specs.Seen.{frame_seen, tick_inputs_seen, mode_seen, moves_seen}
use Rattle.engine.specs.Shows.{ShowsColours}
use Rattle.tick_context.specs.Walks.{walk_after, signal_seen}
use Rattle.engine.proofs.Running.{runs-context}
use Rattle.engine.proofs.Engine.next_frame.Goals as goal

pub returns : goal.returns
returns g c = record {
  given = λ past r s.
      let veh-kept : c.args.self.now.context.frame.veh ≡ (frame_seen past).veh = ap (λ (f : Frame). f.veh) r.keeps.context.frame in
      let ped-kept : c.args.self.now.context.frame.ped ≡ (frame_seen past).ped = ap (λ (f : Frame). f.ped) r.keeps.context.frame in
      let moves = c.moves-moves.ensures.moves past r s in
      let veh : c.colours-veh.result ≡ colours_of past (moves_seen past) = c.colours-veh.ensures.colours past (moves_seen past) r.keeps moves
      (c.is_still-keeps_colours.ensures.still past (moves_seen past) r.keeps moves veh-kept) in
      let mode : c.mode_reached-mode.result ≡ mode_reached (mode_seen past) past.tables c.colours-veh.result = c.mode_reached-mode.ensures.reached past (runs-context _ _ past r) in
      let walks = c.walks-walks.ensures.walks past (moves_seen past) _ r s moves mode in
      let begins : ℕ → Bool = walk_after past c.mode_reached-mode.result (colours_of past (moves_seen past)) in
      let ped : c.signals_after-ped.result ≡ map (λ (p : ℕ). if begins p then Walk else signal_seen past p) all_phases =
      c.signals_after-ped.ensures.signals past begins r walks
      (c.is_steady-keeps_signals.ensures.steady past begins r walks ped-kept) in
      let shown = c.shown_in-shown.ensures.shown past r.keeps c.colours-veh.ensures.kept in
      let frame : c.frame_after.result ≡ (next_moment past).frame =
      c.frame_after.ensures.frame past (runs-context _ _ past r) shown.red
      (ped ∙ ap (λ (x : List Colour). map (λ (p : ℕ). if walk_after past c.mode_reached-mode.result x p then Walk else signal_seen past p) all_phases)
      (sym veh))
      ∙ ap (λ (m : Mode). frame_of (tick_state_of past) past (tick_inputs_seen past) c.colours-veh.result m) mode
      ∙ ap (λ (x : List Colour). frame_with (tick_state_of past) past (tick_inputs_seen past) x) veh in
      record {
        frame = frame;
        shown = subst (λ (x : List Colour). ShowsColours c.shown_in-shown.result x) (sym c.frame_after.ensures.veh) shown;
        colours = λ k. c.frame_after.ensures.veh ∙ c.colours-veh.ensures.kept k ∙ veh-kept;
        signals = λ k. c.frame_after.ensures.ped ∙ c.signals_after-ped.ensures.kept k ∙ ped-kept;
      };
}
