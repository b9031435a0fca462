use Rattle.look_back.proofs.frame_history.FrameHistory.push.Goals as goal

pub returns : goal.returns
returns c = λ past m looks saw tables preempts. record {
  window = c.push.ensures.stands past m looks.window saw;
  latched = c.step.ensures past m looks.latched saw.frame tables;
  long_counts = c.step-2.ensures past m looks.long_counts saw.frame preempts;
  counting = c.step-self.ensures past m looks.counting saw.frame;
}
