-- A count after skipped ticks.
use Rattle.std.specs.Prelude.{ℕ, true, ◌+◌}
use Rattle.coord_count.specs.declared.Count.{Count}

-- the count after k more ticks, at each of which the counter advances by one
abbrev pub passed : ℕ → Count → Count
passed k c = record c { counter = c.counter + k; changed = true }
