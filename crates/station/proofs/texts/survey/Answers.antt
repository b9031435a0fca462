use Rattle.station.proofs.texts.survey.Goals as goal

pub survey_text-requires : goal.survey_text-requires
survey_text-requires g c = c.scenarios_run.ensures _ _ c.in-Ok.ensures.reads_back
