use Rattle.std.proofs.Common.{map, string_bytes}
use Rattle.command_words.proofs.OneJudge.{run_of, of_run}
use Rattle.command_words.proofs.telling.run_workers.Goals as goal

pub returns-in-Some : goal.returns-in-Some
returns-in-Some c = λ n.
    let so = c.optional_number.ensures n in (
      λ e. run_of (map string_bytes c.args.words.now) (map string_bytes c.in-Some.rest.now) n c.in-Some.ensures.some (so.0 e),
      λ is. so.1 (of_run (map string_bytes c.args.words.now) (map string_bytes c.in-Some.rest.now) n c.in-Some.ensures.some is),
    )
