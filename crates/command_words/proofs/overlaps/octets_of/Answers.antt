use Rattle.std.proofs.Common.{◌≡◌, ◌≤◌, ◌*◌, arith, length}
use Rattle.hex.proofs.HexLemmas.{decode_of-ok}
use Rattle.command_words.proofs.overlaps.octets_of.Goals.{then-count-lt1-via-then-count-lt1, then-count-lt1-via-else-count-lt1+then-count-gt16}
use Rattle.command_words.proofs.overlaps.octets_of.Goals as goal

pub returns-then-count-lt1 : goal.returns-then-count-lt1
returns-then-count-lt1 c = λ octets. (
  λ e. absurd (cc),
  λ all.
      let long : length c.args.word.now ≡ 2 * length octets.items = (decode_of-ok c.args.word.now octets.items all.0).2 in
      let some : 1 ≤ length octets.items = all.1 in
      let few : length octets.items ≤ 16 = all.2 in
      absurd (elim c.then-count-lt1.branch [
        | then-count-lt1-via-then-count-lt1 w ↦ omega arith
        | then-count-lt1-via-else-count-lt1+then-count-gt16 w ↦ omega arith
      ]),
)
