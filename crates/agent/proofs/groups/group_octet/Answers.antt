use Rattle.std.proofs.Common.{◌≡◌, ◌+◌, ◌-◌, ◌*◌, ap, sym, ◌∙◌, arith}
use Rattle.agent.specs.Groups.{counts_in, bits}
use Rattle.agent.proofs.Octets.{bits_more, room_more, bits_end}
use Rattle.agent.proofs.groups.group_octet.Goals as goal

pub loop-above-preserved : goal.loop-above-preserved
loop-above-preserved c =
    let k = c.loop-above.above in
    let group = c.args.group in
    let test = counts_in c.args.shown.now c.args.column in
    let first : 8 * group + 1 - (k + 1) ≡ 8 * group - k = omega arith in
    let next : 8 * group + 1 - k ≡ 8 * group - k + 1 = omega arith in
    record {
      octet = bits_more test k (8 * group - k) c.loop-above.octet c.from.result c.counts_in.result
          (c.loop-above.invariant.octet ∙ ap (bits test k) next) c.from.ensures c.counts_in.ensures ∙ ap (bits test (k + 1)) (sym first);
      small = room_more k c.loop-above.octet c.from.result c.counts_in.result c.loop-above.invariant.small c.from.ensures;
    }

pub returns-clause-octet : goal.returns-clause-octet
returns-clause-octet c = bits_end (counts_in c.args.shown.now c.args.column) c.loop-above.above c.args.group c.loop-above.octet (omega arith) c.loop-above.invariant.octet
