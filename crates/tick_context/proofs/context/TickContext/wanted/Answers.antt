use Rattle.std.proofs.Common.{◌≡◌, ◌≤◌, ℕ, max, sym, ◌∙◌, ap, subst}
use Rattle.sig_types.specs.declared.frame.Frame.{Frame}
use Rattle.sig_types.specs.Colour.{on_in}
use Rattle.sig_tables.specs.Layout.{Has}
use Rattle.sig_tables.specs.View.{is_wanted, on_phase, clearance_of, greatest_clearance}
use Rattle.sig_tables.specs.Seen.{frame_seen, view_seen}
use Rattle.tick_context.proofs.Wanting.{wanted-room, each-set}
use Rattle.tick_context.proofs.context.TickContext.wanted.Goals as goal

pub returns : goal.returns
returns c = record {
  wants = λ past r d.
      let on1 : on_in c.args.self.now.frame 1 ≡ on_in (frame_seen past) 1 = ap (λ (f : Frame). on_in f 1) r.context.frame in
      let on2 : on_in c.args.self.now.frame 2 ≡ on_in (frame_seen past) 2 = ap (λ (f : Frame). on_in f 2) r.context.frame in
      let few1 : on_in c.args.self.now.frame 1 ≤ 16 = subst (λ (n : ℕ). n ≤ 16) (sym on1) r.context.names.first in
      let few2 : on_in c.args.self.now.frame 2 ≤ 16 = subst (λ (n : ℕ). n ≤ 16) (sym on2) r.context.names.second in
      let one : c.clearance_of-first.result ≡ clearance_of past.tables (on_phase (view_seen past) 1) =
      c.clearance_of-first.ensures.clearance past r.context few1 ∙ ap (clearance_of past.tables) on1 in
      let two : c.clearance_of-second.result ≡ clearance_of past.tables (on_phase (view_seen past) 2) =
      c.clearance_of-second.ensures.clearance past r.context few2 ∙ ap (clearance_of past.tables) on2 in
      let both : c.max.result ≡ greatest_clearance (view_seen past) =
      c.max.ensures ∙ ap (λ (n : ℕ). max n c.clearance_of-second.result) one ∙ ap (λ (n : ℕ). max (clearance_of past.tables (on_phase
      (view_seen past) 1)) n) two in
      record {
        now = wanted-room c.args.demand c.with_room.result (view_seen past) 0 d (c.with_room.ensures.room past r);
        after = each-set c.with_room-2.result c.with_room-3.result (λ q. is_wanted (view_seen past) (clearance_of past.tables (on_phase (view_seen past) q)))
            (subst (λ (k : ℕ). Has c.with_room-2.result (is_wanted (view_seen past) k)) one
            (wanted-room c.args.demand c.with_room-2.result (view_seen past) _ d (c.with_room-2.ensures.room past r)))
            (subst (λ (k : ℕ). Has c.with_room-3.result (is_wanted (view_seen past) k)) two
            (wanted-room c.args.demand c.with_room-3.result (view_seen past) _ d (c.with_room-3.ensures.room past r)));
        across = subst (λ (k : ℕ). Has c.with_room-4.result (is_wanted (view_seen past) k)) both
            (wanted-room c.args.demand c.with_room-4.result (view_seen past) _ d (c.with_room-4.ensures.room past r));
      };
}
