use Rattle.std.proofs.Common.{ap, ◌∙◌}
use Rattle.serde_json.specs.Data.{put}
use Rattle.scenario_file.specs.Left.{is_left}
use Rattle.scenario_file.proofs.Leaving.{passed-over, read-last}
use Rattle.scenario_file.proofs.master.next_member.Goals as goal

pub returns-in_ok-put_next-clause-ok : goal.returns-in_ok-put_next-clause-ok
returns-in_ok-put_next-clause-ok c =
    let done = c.in_ok-put_next.ensures in
    let d = done.ok.0 in
    let k = c.args.name.now in
    let told = c.is_last.ensures in (
      d,
      done.ok.1,
      λ ms sorted was.
          let grown = done.ok.2 was.entries was.stands was.sorted in
          record {
            entries = grown.0;
            is = read-last (is_left c.args.reading.now.left) (is_left c.is_last.new.self) k d told.others (told.last c.if-is_last.true) ms sorted ∙ ap (put k d) was.is ∙ grown.1;
            stands = grown.2;
            sorted = grown.3;
          },
    )

pub returns-then-pass-clause-ok : goal.returns-then-pass-clause-ok
returns-then-pass-clause-ok c =
    let done = c.pass.ensures.passed c.if-pass.true in
    let told = c.is_last.ensures in
    let no = c.if-is_last.false in (
      done.0,
      done.1,
      λ ms sorted was. record {
        entries = was.entries;
        is = passed-over (is_left c.args.reading.now.left) (is_left c.is_last.new.self) c.args.name.now done.0 ms told.others (told.was no) (told.more no) ∙ was.is;
        stands = was.stands;
        sorted = was.sorted;
      },
    )
