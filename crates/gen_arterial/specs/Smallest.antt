-- The text that is generated from seed 0 for one cabinet and one round.
use Rattle.std.specs.Prelude.{ℕ, List, [], ◌∷◌, ◌++◌, codes}

abbrev pub smallest_text : List ℕ
smallest_text =
    codes "{\"cabinets\":[{\"base\":\"std8\",\"cells\":[[\"pattern\",1,3,0],[\"unit\",1,2]],\"pattern\":1}],\"faults\":[],"
    ++ (codes "\"inputs\":[{\"cabinet\":1,\"on\":true,\"round\":1,\"veh\":3}],\"loads\":[{\"cabinet\":1,\"cells\":[[\"phase\",2,6,37]],\"round\":1}],"
    ++ (codes "\"master\":{\"pattern_every\":60,\"poll_every\":1,\"retries\":3,\"schedule\":[{\"pattern\":1,\"second\":0,\"section\":1}]},"
    ++ (codes "\"rounds\":1,\"ticks\":100,\"version\":1}" ++ 10 ∷ [])))
