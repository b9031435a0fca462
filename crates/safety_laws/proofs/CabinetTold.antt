-- What the lines of a history show at a tick is what its frame at that tick shows.
use Rattle.std.proofs.Common.{◌≡◌, ℕ, suc, ◌≤◌, Bool, true, false, if◌then◌else◌, nat_le, List, [], ◌∷◌, ◌++◌, length, refl, sym, ◌∙◌, ap, arith}
use Rattle.std.proofs.lemmas.Bool.{le-leb, leb-true, leb-false}
use Rattle.sig_types.specs.declared.frame.Frame.{Frame}
use Rattle.sig_tables.specs.Past.{Moment}
use Rattle.sig_tables.specs.Looking.{last_frame}
use Rattle.sig_tables.specs.Decide.{frames_in}
use Rattle.safety_laws.specs.Safe.{Indications, dark, shown_at}
use Rattle.safety_laws.specs.Written.{shown_by, TellsChanges, written}
use Rattle.safety_laws.proofs.SoFar.{so_far, here, earlier, so_far-all}

-- lines one after another
shown-append : (tick : ℕ) (before : Indications) (lines more : List (ℕ × Indications))
    → shown_at tick before (lines ++ more) ≡ shown_at tick (shown_at tick before lines) more
shown-append tick before [] more = refl
shown-append tick before (line ∷ lines) more = shown-append tick (if nat_le line.0 tick then line.1 else before) lines more

length-frames : (moments : List Moment) → length (frames_in moments) ≡ length moments
length-frames [] = refl
length-frames (m ∷ past) = ap suc (length-frames past)

-- a line more, which has come by a tick or not
shown-line : (tick n : ℕ) (before : Indications) (f : Frame) (b : Bool) → nat_le n tick ≡ b
    → shown_at tick before ((n, shown_by f) ∷ []) ≡ (if b then shown_by f else before)
shown-line tick n before f b e = rw e refl

pub shown-by-frames : (has_line : Frame → Frame → Bool) → TellsChanges has_line → (tick : ℕ) (moments : List Moment)
    → shown_at tick dark (written has_line (frames_in moments)) ≡ shown_by (last_frame (so_far tick moments))
shown-by-frames has_line tells tick [] = refl
shown-by-frames has_line tells tick (m ∷ []) =
    let n : 0 ≤ tick = omega arith in
    shown-line tick 0 dark m.frame true (le-leb _ _ n) ∙ ap (λ (x : List Moment). shown_by (last_frame x)) (sym (here tick m [] n))
shown-by-frames has_line tells tick (m ∷ n ∷ past) = step (shown-by-frames has_line tells tick (n ∷ past))
  where
    lines : List (ℕ × Indications)
    lines = written has_line (frames_in (n ∷ past))

    same-length : length (frames_in (n ∷ past)) ≡ length (n ∷ past)
    same-length = length-frames (n ∷ past)

    step : shown_at tick dark lines ≡ shown_by (last_frame (so_far tick (n ∷ past)))
        → shown_at tick dark (written has_line (frames_in (m ∷ n ∷ past))) ≡ shown_by (last_frame (so_far tick (m ∷ n ∷ past)))
    step known = split (has_line n.frame m.frame) refl (nat_le (length (n ∷ past)) tick) refl
      where
        put : (b : Bool) → List (ℕ × Indications)
        put b = if b then (length (frames_in (n ∷ past)), shown_by m.frame) ∷ [] else []

        split : (b : Bool) → has_line n.frame m.frame ≡ b → (c : Bool) → nat_le (length (n ∷ past)) tick ≡ c
            → shown_at tick dark (lines ++ put b) ≡ shown_by (last_frame (so_far tick (m ∷ n ∷ past)))
        split true e true come =
            shown-append tick dark lines (put true)
            ∙ shown-line tick (length (frames_in (n ∷ past))) (shown_at tick dark lines) m.frame true (ap (λ (k : ℕ). nat_le k tick) same-length ∙ come)
            ∙ ap (λ (x : List Moment). shown_by (last_frame x)) (sym (here tick m (n ∷ past) (leb-true _ _ come)))
        split true e false come =
            shown-append tick dark lines (put true)
            ∙ shown-line tick (length (frames_in (n ∷ past))) (shown_at tick dark lines) m.frame false (ap (λ (k : ℕ). nat_le k tick) same-length ∙ come)
            ∙ known
            ∙ ap (λ (x : List Moment). shown_by (last_frame x)) (sym (earlier tick m (n ∷ past) (leb-false _ _ come)))
        split false e true come =
            shown-append tick dark lines (put false)
            ∙ known
            ∙ ap (λ (x : List Moment). shown_by (last_frame x))
            (so_far-all tick (n ∷ past) (let l : length (n ∷ past) ≤ tick = leb-true _ _ come in omega arith))
            ∙ sym (tells n.frame m.frame e)
            ∙ ap (λ (x : List Moment). shown_by (last_frame x)) (sym (here tick m (n ∷ past) (leb-true _ _ come)))
        split false e false come =
            shown-append tick dark lines (put false)
            ∙ known
            ∙ ap (λ (x : List Moment). shown_by (last_frame x)) (sym (earlier tick m (n ∷ past) (leb-false _ _ come)))
