-- Lines in the order of a trace, part by part.
use Rattle.std.proofs.Common.{◌≡◌, ◌∙◌, ◌+◌, ℕ, zero, suc, true, false, List, [], ◌∷◌, ◌++◌, refl, sym, ap}
use Rattle.std.specs.List.{AllByRecursion}
use Rattle.trace_text.specs.declared.lines.Line.{Line}
use Rattle.trace_text.specs.declared.lines.Line.TheVariants.{Z}
use Rattle.run_definition.specs.SessionRecord.{begins_part, before_parts, parts_of, cabinets_in_order, part_in_order, parts_in_order, in_trace_order}
use Rattle.run_definition.proofs.SessionLists.{if-true, if-false}

-- no part begins with one of these lines
abbrev pub InOnePart : List Line → Type 0
InOnePart lines = AllByRecursion (λ (line : Line). begins_part line ≡ false) lines

-- lines before the first part of some
abbrev all_before : List Line → List (List Line) → List (List Line)
all_before [] parts = parts
all_before (line ∷ lines) parts = before_parts line (all_before lines parts)

parts-behind : (part rest : List Line) → InOnePart part → parts_of (part ++ rest) ≡ all_before part (parts_of rest)
parts-behind [] rest one = refl
parts-behind (line ∷ part) rest one =
    if-false (begins_part line) ([] ∷ before_parts line (parts_of (part ++ rest))) (before_parts line (parts_of (part ++ rest))) one.0
    ∙ ap (before_parts line) (parts-behind part rest one.1)

before-new : (part : List Line) (parts : List (List Line)) → all_before part ([] ∷ parts) ≡ part ∷ parts
before-new [] parts = refl
before-new (line ∷ part) parts = ap (before_parts line) (before-new part parts)

parts-from : (b : Line) (lines : List Line) → begins_part b ≡ true → parts_of (b ∷ lines) ≡ [] ∷ before_parts b (parts_of lines)
parts-from b lines begins = if-true (begins_part b) ([] ∷ before_parts b (parts_of lines)) (before_parts b (parts_of lines)) begins

parts-split : (part : List Line) (b : Line) (lines : List Line) → InOnePart part → begins_part b ≡ true
    → parts_of (part ++ (b ∷ lines)) ≡ part ∷ before_parts b (parts_of lines)
parts-split part b lines one begins =
    parts-behind part (b ∷ lines) one ∙ ap (all_before part) (parts-from b lines begins) ∙ before-new part (before_parts b (parts_of lines))

nothing-of : (first many : ℕ) → cabinets_in_order first many [] ≡ []
nothing-of first zero = refl
nothing-of first (suc many) = nothing-of (first + 1) many

end-of : (first many rounds : ℕ) → cabinets_in_order first many (Z rounds ∷ []) ≡ []
end-of first zero rounds = refl
end-of first (suc many) rounds = end-of (first + 1) many rounds

order-from : (many : ℕ) (b : Line) (lines : List Line) → begins_part b ≡ true
    → in_trace_order many (b ∷ lines) ≡ parts_in_order many (before_parts b (parts_of lines))
order-from many b lines begins =
    ap (parts_in_order many) (parts-from b lines begins)
    ∙ ap (λ (x : List Line). x ++ parts_in_order many (before_parts b (parts_of lines))) (nothing-of 1 many)

-- what is before the first part comes first
pub order-first : (many : ℕ) (part : List Line) (b : Line) (lines : List Line) → InOnePart part → begins_part b ≡ true
    → in_trace_order many (part ++ (b ∷ lines)) ≡ part_in_order many part ++ in_trace_order many (b ∷ lines)
order-first many part b lines one begins =
    ap (parts_in_order many) (parts-split part b lines one begins)
    ∙ ap (λ (x : List Line). part_in_order many part ++ x) (sym (order-from many b lines begins))

-- and so does a whole part
pub order-next : (many : ℕ) (a : Line) (part : List Line) (b : Line) (lines : List Line) → begins_part a ≡ true → InOnePart part → begins_part b ≡ true
    → in_trace_order many (a ∷ (part ++ (b ∷ lines))) ≡ part_in_order many (a ∷ part) ++ in_trace_order many (b ∷ lines)
order-next many a part b lines starts one begins =
    order-from many a (part ++ (b ∷ lines)) starts
    ∙ ap (λ (x : List (List Line)). parts_in_order many (before_parts a x)) (parts-split part b lines one begins)
    ∙ ap (λ (x : List Line). part_in_order many (a ∷ part) ++ x) (sym (order-from many b lines begins))

pub order-end : (many rounds : ℕ) → in_trace_order many (Z rounds ∷ []) ≡ Z rounds ∷ []
order-end many rounds =
    order-from many (Z rounds) [] refl
    ∙ ap (λ (x : List Line). (Z rounds ∷ x) ++ []) (end-of 1 many rounds)
