use Rattle.coordination_laws.proofs.SearchingInTime.{searching, search-short, search-grows, search-in-time, picked-up}
use Rattle.coordination_laws.proofs.sought_in_time.search_lasts.Goals as goal

pub returns-clause-stands : goal.returns-clause-stands
returns-clause-stands c = searching

pub returns-clause-short : goal.returns-clause-short
returns-clause-short c = search-short

pub returns-clause-grows : goal.returns-clause-grows
returns-clause-grows c = search-grows

pub returns-clause-in_time : goal.returns-clause-in_time
returns-clause-in_time c = search-in-time

pub returns-clause-picked_up : goal.returns-clause-picked_up
returns-clause-picked_up c = picked-up
