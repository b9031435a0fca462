-- What is kept of the moment before any tick.
use Rattle.std.proofs.Common.{[], ◌∷◌, refl, arith}
use Rattle.sig_tables.specs.declared.tables.Tables.{Tables}
use Rattle.sig_tables.specs.Past.{first_moment}
use Rattle.preempt_stages.specs.Dwelling.{EachFits}

pub first-fits : (t : Tables) → EachFits (first_moment t ∷ [])
first-fits t = (refl, record { first = omega arith; second = omega arith }, tt)
