use Rattle.overlap_report.proofs.Says.{Laws, says}
use Rattle.overlap_report.proofs.telling.overlaps_are_told.Goals as goal

pub returns : goal.returns
returns c =
    let laws : Laws = record {
      one_run = c.traces_tell_journals.ensures;
      proper = c.lines_are_proper.ensures;
      can = c.unbroken_overlaps_are_covered.ensures.can;
      covered = c.unbroken_overlaps_are_covered.ensures.covered;
      apart = c.unbroken_overlaps_are_covered.ensures.apart;
      text = c.frames_give_the_text.ensures;
      rising = c.histories_give_frames.ensures.frames;
      tell = c.histories_give_frames.ensures.told;
      versions = c.histories_give_frames.ensures.versions;
    } in
    says laws
