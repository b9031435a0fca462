use Rattle.std.proofs.Common.{◌≡◌, ◌≢◌, ℕ, length, true, [], None, sym, ◌∙◌, ap}
use Rattle.std.proofs.lemmas.Bool.{false≢true}
use Rattle.sig_types.specs.declared.frame.Frame.{Frame}
use Rattle.sig_types.specs.declared.frame.Mode.{Mode}
use Rattle.sig_types.specs.Colour.{on_in, colour_of}
use Rattle.sig_types.specs.Phases.{is_phase, is_in}
use Rattle.sig_tables.specs.Looking.{runs_on}
use Rattle.sig_tables.specs.Modes.{bound}
use Rattle.sig_tables.specs.Seen.{frame_seen, mode_seen, demand_with, opposed_seen}
use Rattle.tick_context.specs.Shows.{is_clearing}
use Rattle.tick_context.proofs.Again.{frame-again, rings-rest, shut, unopposed}
use Rattle.engine.proofs.Engine.is_at_rest.Goals as goal

pub returns-else-not-is_current : goal.returns-else-not-is_current
returns-else-not-is_current g c = record {
  repeats = λ past k was mode d t.
      let clear : (p : ℕ) → is_phase p ≡ true → is_clearing (frame_seen past).veh p ≡ true
      → runs_on p past.tables past.moments (colour_of (frame_seen past) p) ≡ colour_of (frame_seen past) p =
      λ p h e. absurd (false≢true (sym (c.is_settled.ensures.colours past p k c.if-not-is_settled.false h) ∙ e)) in
      let on : on_in (frame_seen past) 1 ≢ 0 = λ x. c.are_both_on.ensures.first t (ap (λ (f : Frame). on_in f 1) k.context.frame ∙ x) in
      let too : on_in (frame_seen past) 2 ≢ 0 = λ x. c.are_both_on.ensures.second t (ap (λ (f : Frame). on_in f 2) k.context.frame ∙ x) in
      let none : demand_with None past ≡ [] = sym d ∙ c.is_empty.ensures.empty.0 c.if-not-is_empty.false in
      let free : demand_with (bound (mode_seen past)) past ≡ [] = ap (λ (m : Mode). demand_with (bound m) past) mode ∙ none in
      record {
        was = was;
        mode = mode;
        first = on;
        second = too;
        again = frame-again past (c.is_current.ensures past k c.if-not-is_current.false) was mode
            (rings-rest past mode none (shut past (on_in (frame_seen past) 1) on clear) (shut past (on_in (frame_seen past) 2) too clear))
            (ap (λ (f : Frame). length f.veh) (sym k.context.frame) ∙ c.shows_sixteen.ensures.veh)
            (ap (λ (f : Frame). length f.ped) (sym k.context.frame) ∙ c.shows_sixteen.ensures.ped)
            clear
            (λ p h e. absurd (false≢true (sym (c.is_settled.ensures.signals past p k c.if-not-is_settled.false h) ∙ e)))
            (λ p h. c.is_uncalled.ensures.walks past (is_in (opposed_seen past)) p k (λ q g. c.empty.ensures.has q ∙ sym (unopposed past.tables (frame_seen past) _ q g free))
            c.if-not-is_uncalled.false h);
      };
  demand = λ t. c.is_empty.ensures.empty.0 c.if-not-is_empty.false;
}
