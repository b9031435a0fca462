use Rattle.std.proofs.Common.{◌≡◌, ◌==◌, ◌||◌, ℕ, true, false, [], ◌∷◌, sym, ◌∙◌, ap}
use Rattle.std.proofs.lemmas.Bool.{false≢true}
use Rattle.sig_types.specs.declared.frame.Frame.{Frame}
use Rattle.sig_types.specs.Phases.{is_phase, is_in}
use Rattle.sig_types.specs.Colour.{on_in, colour_of}
use Rattle.sig_tables.specs.Looking.{runs_on}
use Rattle.sig_tables.specs.View.{ended_of, is_open}
use Rattle.sig_tables.specs.Seen.{frame_seen, view_seen}
use Rattle.tick_context.specs.Shows.{is_clearing}
use Rattle.tick_context.proofs.Again.{open-empty}
use Rattle.tick_context.proofs.Rings.{each-ring}
use Rattle.sig_types.proofs.Sets.{empty-has}
use Rattle.engine.proofs.Engine.opening.Goals as goal

pub returns-then-is_empty : goal.returns-then-is_empty
returns-then-is_empty g c = record {
  opening = λ past k.
      let clear : (p : ℕ) → is_phase p ≡ true → is_clearing (frame_seen past).veh p ≡ true
      → runs_on p past.tables past.moments (colour_of (frame_seen past) p) ≡ colour_of (frame_seen past) p =
      λ p h e. absurd (false≢true (sym (empty-has c.args.self.now.shown.clearing p h (c.is_empty.ensures.empty.0 c.if-is_empty.true))
      ∙ (k.shown.clearing p h ∙ e))) in
      each-ring ((on_in c.args.self.now.context.frame 1 == 0) ∷ (on_in c.args.self.now.context.frame 2 == 0) ∷ []) false (is_open (view_seen past))
      (open-empty past (on_in c.args.self.now.context.frame 1) clear
      ∙ ap (λ (f : Frame). on_in f 1 == 0 || is_in (ended_of past.tables past.moments) (on_in f 1)) k.context.frame)
      (open-empty past (on_in c.args.self.now.context.frame 2) clear
      ∙ ap (λ (f : Frame). on_in f 2 == 0 || is_in (ended_of past.tables past.moments) (on_in f 2)) k.context.frame);
}

pub returns-else-is_empty : goal.returns-else-is_empty
returns-else-is_empty g c = record {
  opening = λ past k.
      each-ring (c.is_open.result ∷ c.is_open-else-is_empty.result ∷ []) false (is_open (view_seen past))
      (c.is_open.ensures.opening past k ∙ ap (λ (f : Frame). on_in f 1 == 0 || is_in (ended_of past.tables past.moments) (on_in f 1)) k.context.frame)
      (c.is_open-else-is_empty.ensures.opening past k ∙ ap (λ (f : Frame). on_in f 2 == 0 || is_in (ended_of past.tables past.moments) (on_in f 2)) k.context.frame);
}
