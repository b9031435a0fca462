use Rattle.std.proofs.Common.{◌≡◌, ◌+◌, ◌*◌, ◌∙◌, ℕ, List, subst, sym, ap, arith}
use Rattle.scenario_data.specs.Content.{scenario_content}
use Rattle.cab_book.specs.declared.book.Book.{Book}
use Rattle.run_definition.specs.CabinetState.{each_cabinet_state}
use Rattle.run_definition.specs.Orders.{serial_round}
use Rattle.round_run.specs.Joined.{HaveMerged, journals_in}
use Rattle.round_run.specs.ClosedLoop.{Between}
use Rattle.round_run.proofs.Following.{all-ended}
use Rattle.whole_run.proofs.Bringing.{own_journals, serial_merged}
use Rattle.whole_run.proofs.serial.run_round.Goals as goal

pub end_round-requires-clause-begun : goal.end_round-requires-clause-begun
end_round-requires-clause-begun c =
    let (ts, between) = c.requires.between in
    let run = (c.in_ok-notes.ensures {u = tt}).books ts between in
    (ts, (c.in_ok-notes.ensures {u = tt}).begun ts between, omega (arith, c.serial_round.ensures.many, run.many))

pub returns : goal.returns
returns c = λ ts between.
    let s = scenario_content c.args.s.now in
    let books : List Book = c.serial_round.new.books.items in
    let run = c.serial_round.ensures.run s ts ((c.in_ok-notes.ensures {u = tt}).books ts between) in
    let left : c.end_round.new.self.books.items ≡ books = ap (λ v. v.items) (c.in_ok-end_round.ensures {u = tt}).books in
    let own : journals_in c.end_round.new.self.books.items ≡ serial_round s 1 ts =
    ap (λ (bs : List Book). journals_in bs) left ∙ own_journals s ts (serial_round s 1 ts) books run in
    record {
      noted = (c.in_ok-notes.ensures {u = tt}).notes ts between;
      merged = subst (λ (bs : List Book). HaveMerged s ts bs) (sym left) (serial_merged s ts books run);
      serial = λ none. own;
      between = subst (λ (journals : List (List ℕ)). Between s (c.args.done + 1) (each_cabinet_state s 1 ts journals) c.end_round.new.self) (sym own)
          ((c.in_ok-end_round.ensures {u = tt}).between ts (each_cabinet_state s 1 ts (serial_round s 1 ts)) ((c.in_ok-notes.ensures {u = tt}).begun ts between)
          (all-ended s ts (serial_round s 1 ts) books run)
          (c.serial_round.ensures.ticks (c.args.done * 600 + 600) (c.in_ok-notes.ensures {u = tt}).ticks));
    }
