use Rattle.std.proofs.Common.{◌≡◌, List, length, sym, ap, refl, subst, arith}
use Rattle.scenario_data.specs.Content.{scenario_content}
use Rattle.sig_types.specs.declared.streams.Answers.{Answers}
use Rattle.master_rounds.specs.Answered.{AreAllReplies}
use Rattle.round_run.proofs.Streams.{many-of}
use Rattle.round_run.proofs.Ending.{all-replied, replied, between-next}
use Rattle.round_run.proofs.rounds.ClosedLoop.end_round.Goals as goal

pub end-requires : goal.end-requires
end-requires c =
    let s = scenario_content c.args.s.now in
    let (ts, so, many) = c.requires.begun in
    let as_many : length c.as_slice.result.now ≡ length c.in-Ok.replies.items = ap (λ (all : List Answers). length all) c.as_slice.ensures.value in
    record { each = omega (arith, as_many, c.in-Ok.ensures.many, many, many-of s ts so.cabinets, so.master_rounds.cabinets) }

pub returns-in-Ok-end-clause-between : goal.returns-in-Ok-end-clause-between
returns-in-Ok-end-clause-between c = λ ts next so ended within.
    let s = scenario_content c.args.s.now in
    let books = c.args.self.now.books.items in
    between-next ts next books ended s c.args.done _ so.answered refl so.cabinets within so.told
    (c.in-Ok-end.ensures.stands s so.answered (replied books) so.master_rounds
    (subst (λ (all : List Answers). AreAllReplies all (replied books)) (sym c.as_slice.ensures.value) (all-replied c.in-Ok.replies.items books c.in-Ok.ensures)))
