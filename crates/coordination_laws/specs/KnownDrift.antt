-- Worked corrections, whose counters are known with a clock that drifts.
use Rattle.sig_tables.specs.Counting.{Correction}

-- a cycle of 90 seconds that dwells for up to 100 ticks
abbrev pub dwelling_90 : Correction
dwelling_90 = record { cycle = 900; window = 245; mode = 2; dwell = 100; add = 20; subtract = 20 }

-- a cycle of 90 seconds with shortway, for up to 20 ticks in each direction
abbrev pub shortway_90 : Correction
shortway_90 = record { cycle = 900; window = 245; mode = 3; dwell = 100; add = 20; subtract = 20 }

-- a cycle of one second that dwells for up to one tick
abbrev pub dwelling_1 : Correction
dwelling_1 = record { cycle = 10; window = 4; mode = 2; dwell = 1; add = 2; subtract = 2 }
