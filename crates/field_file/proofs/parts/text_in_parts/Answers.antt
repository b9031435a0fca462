use Rattle.field_file.proofs.parts.text_in_parts.Goals as goal

pub returns-in-Ok-line_of : goal.returns-in-Ok-line_of
returns-in-Ok-line_of c = λ s w. c.in-Ok-line_of.ensures _ (c.in-Ok-add_calls.ensures _ (c.in-Ok.ensures s w))
