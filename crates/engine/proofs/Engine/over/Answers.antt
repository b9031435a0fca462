use Rattle.std.proofs.Common.{sym, ◌∙◌, subst}
use Rattle.sig_types.specs.declared.frame.Frame.{Frame}
use Rattle.sig_tables.specs.Past.{first_frame}
use Rattle.engine.specs.Shows.{ShowsColours}
use Rattle.engine.proofs.Opens.{first-steady, first-no-walk}
use Rattle.engine.proofs.Engine.over.Goals as goal

pub returns-clause-stands : goal.returns-clause-stands
returns-clause-stands g c =
    let shown : ShowsColours c.of.result first_frame.veh = subst (λ (f : Frame). ShowsColours c.of.result f.veh) c.first_frame.ensures c.of.ensures in
    record {
      context = c.open.ensures.stands;
      memory = c.requires.memory;
      shown = shown;
      walking = λ p h. c.empty.ensures.has p ∙ sym (first-no-walk p h);
      signalling = λ p h. c.empty-2.ensures.has p ∙ sym (first-steady p h);
    }
