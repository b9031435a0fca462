-- Worked corrections, whose counters are known.
use Rattle.sig_tables.specs.Counting.{Correction}

-- a cycle of 90 seconds that dwells for up to 100 ticks
abbrev pub dwelling_90 : Correction
dwelling_90 = record { cycle = 900; window = 245; mode = 2; dwell = 100; add = 20; subtract = 20 }

-- a cycle of 90 seconds with shortway, for up to 30 ticks in each direction
abbrev pub shortway_90 : Correction
shortway_90 = record { cycle = 900; window = 245; mode = 3; dwell = 100; add = 30; subtract = 30 }

-- a cycle of 70 seconds that dwells for up to 100 ticks
abbrev pub dwelling_70 : Correction
dwelling_70 = record { cycle = 700; window = 200; mode = 2; dwell = 100; add = 20; subtract = 20 }

-- a cycle of one second that adds up to two ticks
abbrev pub adding_1 : Correction
adding_1 = record { cycle = 10; window = 4; mode = 4; dwell = 1; add = 2; subtract = 2 }

-- a cycle of one second that may add three ticks in a window of one
abbrev pub adding_past_window : Correction
adding_past_window = record { cycle = 10; window = 1; mode = 4; dwell = 1; add = 3; subtract = 1 }

-- a cycle of one second that may skip three times, each time advancing by two ticks, in a window of three
abbrev pub skipping_past_window : Correction
skipping_past_window = record { cycle = 10; window = 3; mode = 3; dwell = 1; add = 1; subtract = 3 }
