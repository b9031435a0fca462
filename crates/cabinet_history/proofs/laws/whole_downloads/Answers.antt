use Rattle.cabinet_history.proofs.Whole.{whole}
use Rattle.cabinet_history.proofs.laws.whole_downloads.Goals as goal

pub returns : goal.returns
returns c = record {
  version = λ cabinet_history. (whole cabinet_history.community cabinet_history.opening cabinet_history.items).version;
  nothing_else = λ cabinet_history. (whole cabinet_history.community cabinet_history.opening cabinet_history.items).base;
  tables = λ cabinet_history. (whole cabinet_history.community cabinet_history.opening cabinet_history.items).tables;
}
