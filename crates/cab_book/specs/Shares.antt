-- Ticks shared among passes: pass 4 brings them, and passes 5 to 7 also do if there are more parts.
use Rattle.std.specs.Prelude.{ℕ, ◌+◌, ◌-◌, ◌/◌, ◌==◌, ◌&&◌, nat_le, if◌then◌else◌, List, [], ◌∷◌, map, get_or}
use Rattle.cabinet_history.specs.Journals.{times}

-- passes 5 to 7 count as pass 4: each of them brings the next tick
abbrev pub read_pass : ℕ → ℕ
read_pass pass = if nat_le 5 pass && nat_le pass 7 then 4 else pass

-- a journal in which passes 5 to 7 count as pass 4
abbrev pub read_journal : List ℕ → List ℕ
read_journal journal = map read_pass journal

-- the number of ticks that are left for passes 4 to 7
abbrev pub ticks_left : List ℕ → ℕ
ticks_left left = get_or left 4 0 + get_or left 5 0 + get_or left 6 0 + get_or left 7 0

-- the number of ticks that passes 4 to 7 have brought
abbrev pub ticks_brought : List ℕ → ℕ
ticks_brought journal = times 4 journal + times 5 journal + times 6 journal + times 7 journal

-- the larger half of these ticks
abbrev pub greater_half : ℕ → ℕ
greater_half ticks = ticks - ticks / 2

-- the smaller half of these ticks
abbrev pub lesser_half : ℕ → ℕ
lesser_half ticks = ticks / 2

-- the shares of passes 4 to 7 in one, two or four parts. Two parts are halves, and four parts are the halves of these
-- halves
abbrev pub shares : ℕ → ℕ → List ℕ
shares parts ticks =
    if parts == 1 then ticks ∷ 0 ∷ 0 ∷ 0 ∷ []
    else if parts == 2 then greater_half ticks ∷ lesser_half ticks ∷ 0 ∷ 0 ∷ []
    else greater_half (greater_half ticks) ∷ lesser_half (greater_half ticks) ∷ greater_half (lesser_half ticks) ∷ lesser_half (lesser_half ticks) ∷ []
