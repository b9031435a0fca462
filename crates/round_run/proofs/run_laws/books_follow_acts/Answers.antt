use Rattle.round_run.proofs.Coming.{come-run, come-at, come-replied, come-brought, come-ticks, come-others}
use Rattle.round_run.proofs.run_laws.books_follow_acts.Goals as goal

pub returns : goal.returns
returns c = record {
  run = come-run;
  at = come-at;
  replied = come-replied;
  brought = come-brought;
  ticks = λ cab t acts more old new was now. come-ticks t acts more old new was now cab;
  others = λ cab t acts more old new was now. come-others t acts more old new was now cab;
}
