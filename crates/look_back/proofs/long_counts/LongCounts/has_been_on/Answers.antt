use Rattle.std.proofs.Common.{◌∙◌, refl}
use Rattle.sig_types.specs.Phases.{is_in}
use Rattle.look_back.proofs.long_counts.LongCounts.has_been_on.Goals as goal

pub returns : goal.returns
returns c = λ inputs past stands on.
    c.lasts_now.ensures (λ m. is_in m.preempts c.args.number) past (stands.inputs c.args.number c.requires.above c.requires.below) ∙ rw on refl
