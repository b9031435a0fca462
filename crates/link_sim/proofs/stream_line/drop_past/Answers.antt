use Rattle.std.proofs.Common.{◌≡◌, rules, sym, subst}
use Rattle.std.proofs.lemmas.Fn.{filter_same}
use Rattle.std.specs.List.{filter}
use Rattle.link_sim.specs.LateLists.{DropsPast}
use Rattle.link_sim.proofs.Dues.{is_kept, drops_kept}
use Rattle.link_sim.proofs.stream_line.drop_past.Goals as goal

pub returns : goal.returns
returns c =
    let kept : c.retain.new.self.items ≡ filter (is_kept c.args.round) c.args.late.now.items = filter_same _ _ _ (λ x b f' k. search rules) _ _ c.retain.ensures.filtered in
    record { drops = subst (λ copies. DropsPast c.args.round c.args.late.now.items copies) (sym kept) (drops_kept c.args.round c.args.late.now.items) }
