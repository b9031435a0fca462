use Rattle.std.proofs.Common.{◌∙◌, ap}
use Rattle.sig_types.specs.declared.frame.Colour.TheVariants.{Green}
use Rattle.sig_types.specs.Colour.{colour_in, colour_of, signal_of}
use Rattle.sig_types.specs.PhaseSet.{has}
use Rattle.sig_tables.proofs.Below.{is-within}
use Rattle.sig_tables.specs.Decide.{colour_after, colours_of}
use Rattle.sig_tables.specs.Seen.{frame_seen}
use Rattle.call_store.specs.Walks.{greens_of}
use Rattle.tick_context.specs.Walks.{crossing_seen}
use Rattle.tick_context.proofs.Filling.{made-at}
use Rattle.tick_context.proofs.Signals.{begins-is, rests-is}
use Rattle.engine.proofs.Running.{runs-context}
use Rattle.engine.proofs.Engine.walks.Goals as goal

pub returns : goal.returns
returns g c = record {
  walks = λ past w veh r s m e.
      c.walks.ensures.walks (crossing_seen past c.args.mode) (frame_seen past) (colours_of past w) r.keeps.context.layout
      (c.options_reached.ensures.options past veh r.bound e)
      (record {
        begins = λ p h. begins-is w p past.tables past.moments (colour_of (frame_seen past) p) (colour_in (colours_of past w) p)
            (has c.meet.result p) (has c.args.self.now.shown.red p) (has c.args.moves.begins p) (c.meet.ensures.has p) (r.keeps.shown.red p h) (m.begins p h)
            (made-at Green (λ q. colour_after w q past.tables past.moments (colour_of (frame_seen past) q)) p h);
        rests = λ p h. rests-is w p past.tables past.moments (colour_of (frame_seen past) p) (colour_in (colours_of past w) p) (signal_of (frame_seen past) p)
            (has c.minus-2.result p) (has c.minus.result p) (has c.args.self.now.shown.green p) (has c.args.moves.ends p) (has c.args.self.now.signalling p)
            (c.minus-2.ensures.has p (is-within p h)) (c.minus.ensures.has p (is-within p h)) (r.keeps.shown.green p h) (m.ends p h) (r.keeps.signalling p h)
            (made-at Green (λ q. colour_after w q past.tables past.moments (colour_of (frame_seen past) q)) p h);
        called = c.pedestrian.ensures.has past r.keeps.context.calls;
        opposed = λ p h green. s.opposed p h;
        greens = c.greens.ensures ∙ ap greens_of r.tick_state.ring_turn;
        is_zero = c.is_zero.ensures.zero past (runs-context _ _ past r);
      });
}
