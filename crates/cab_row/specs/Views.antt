-- What each step makes of a view, and what views count.
use Rattle.std.specs.Prelude.{ℕ, ◌+◌, ◌*◌, ◌==◌, cond, nat_lt, List, [], ◌∷◌, ◌++◌, replicate, Option, Some, None}
use base.Stored.{Gv}
use Rattle.cab_row.specs.declared.view.View.{View}

-- the sum of `f` over the list
abbrev pub total : {A : Type 0} → (A → ℕ) → List A → ℕ
total f [] = 0
total f (x ∷ xs) = f x + total f xs

abbrev pub is_one : ℕ → ℕ → ℕ
is_one p x = cond (x == p) 1 0

-- how often `p` occurs in the list
abbrev pub times : ℕ → List ℕ → ℕ
times p xs = total (is_one p) xs

-- 1 for an item of the pass `p` at the cabinet `c`, otherwise 0
abbrev pub is_pair : ℕ → ℕ → (ℕ × ℕ) → ℕ
is_pair p c d = cond (d.0 == p) (cond (d.1 == c) 1 0) 0

-- 1 for an item of any pass at the cabinet `c`, otherwise 0
abbrev pub is_at : ℕ → (ℕ × ℕ) → ℕ
is_at c d = cond (d.1 == c) 1 0

-- 1 if the number `p` is below `g`, otherwise 0
abbrev pub is_given : ℕ → ℕ → ℕ
is_given p g = cond (nat_lt p g) 1 0

-- 1 if this is the cabinet, otherwise 0
abbrev pub is_cab : ℕ → Option ℕ → ℕ
is_cab c None = 0
is_cab c (Some d) = cond (d == c) 1 0

abbrev pub view : List Gv → ℕ → ℕ → ℕ → List ℕ → List (ℕ × ℕ) → Option ℕ → List ℕ → ℕ → (ℕ × ℕ) → (ℕ × ℕ) → View
view opening passes given number numbers done holds taken looks last before =
    record { opening = opening; passes = passes; given = given; number = number; numbers = numbers; done = done; holds = holds; taken = taken; looks = looks; last = last; before = before }

-- the number of items that the pass `p` has applied at the cabinet `c`, by this view
abbrev pub count : ℕ → ℕ → View → ℕ
count p c v = total (is_pair p c) v.done

-- how often the view has the counts of the pass `p`
abbrev pub owns : ℕ → View → ℕ
owns p v = times p v.numbers

-- 1 if the view holds the cabinet, otherwise 0
abbrev pub has : ℕ → View → ℕ
has c v = is_cab c v.holds

-- what the view has added to the cabinet's word: two for each item applied there, and one while it holds the cabinet
abbrev pub added : ℕ → View → ℕ
added c v = 2 * total (is_at c) v.done + has c v

-- the view of the first seat, which is pass 0 and gives the other numbers
abbrev pub dealing : List Gv → ℕ → ℕ → View
dealing opening passes given = view opening passes given 0 (0 ∷ []) [] None [] 0 (0, 0) (0, 0)

abbrev pub first_view : List Gv → ℕ → View
first_view opening passes = dealing opening passes 1

-- the view after one more look, which found the word `n` at the cabinet `c`
abbrev pub looked : View → ℕ → ℕ → View
looked v c n = view v.opening v.passes v.given v.number v.numbers v.done v.holds v.taken (v.looks + 1) (c, n) v.last

-- the view after it has taken the book of the cabinet, which has this journal
abbrev pub holding : View → ℕ → List ℕ → View
holding v c journal = view v.opening v.passes v.given v.number v.numbers v.done (Some c) journal v.looks v.last v.before

-- the view after it has given the book back, with one more item
abbrev pub finished : View → ℕ → View
finished v c = view v.opening v.passes v.given v.number v.numbers (v.done ++ (v.number, c) ∷ []) None [] v.looks v.last v.before

-- the view after it has given the book back, with `k` more items
abbrev pub finished_with : View → ℕ → ℕ → View
finished_with v c k = view v.opening v.passes v.given v.number v.numbers (v.done ++ replicate k (v.number, c)) None [] v.looks v.last v.before

-- the view after it has given one more pass number
abbrev pub giver : View → View
giver v = view v.opening v.passes (v.given + 1) v.number v.numbers v.done v.holds v.taken v.looks v.last v.before

-- the view of the pass with this new number
abbrev pub newcomer : View → View
newcomer v = view v.opening v.passes 0 v.given (v.given ∷ []) [] None [] 0 (0, 0) (0, 0)

-- the view after it has taken over the counts of another view
abbrev pub joined : View → View → View
joined v w = view v.opening v.passes (v.given + w.given) v.number (v.numbers ++ w.numbers) (v.done ++ w.done) v.holds v.taken v.looks v.last v.before

-- a view whose counts were taken over; it counts nothing
abbrev pub spent : View
spent = view [] 0 0 0 [] [] None [] 0 (0, 0) (0, 0)
