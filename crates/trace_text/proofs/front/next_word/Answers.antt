use Rattle.std.proofs.Common.{ap, ◌∙◌, ◌==◌}
use Rattle.std.specs.List.{slice_split}
use Rattle.trace_text.specs.Fronts.{words_left}
use Rattle.trace_text.proofs.FrontParts.{last_word, word_before}
use Rattle.trace_text.proofs.front.next_word.Goals as goal

pub returns-in-Some-around : goal.returns-in-Some-around
returns-in-Some-around c = ap words_left c.in-Some.is ∙ ap (slice_split (λ b. b == 32)) c.in-Some-around.ensures.1 ∙ word_before _ _ c.in-Some-around.ensures.0

pub returns-in-None-around : goal.returns-in-None-around
returns-in-None-around c = ap words_left c.in-Some.is ∙ last_word _ c.in-None-around.ensures
