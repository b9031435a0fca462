-- The clocks of the pedestrian signals after skipped ticks.
use Rattle.std.specs.Prelude.{ℕ, ◌+◌}
use Rattle.ped_clock.specs.declared.PedClocks.{PedClocks}

-- the clocks after k more ticks at which nothing changes
abbrev pub passed : ℕ → PedClocks → PedClocks
passed k c = record c { steps = c.steps + k }
