-- The text of an overlap by frames, and by the lines that give them.
use Rattle.std.proofs.Common.{◌≡◌, ℕ, zero, suc, nat_le, Bool, true, false, if◌then◌else◌, List, [], ◌∷◌, ◌++◌, refl, sym, ◌∙◌, ap, arith}
use Rattle.sig_types.specs.declared.frame.Colour.{Colour}
use Rattle.sig_types.specs.declared.frame.Frame.{Frame}
use Rattle.sig_tables.specs.declared.tables.Tables.{Tables}
use Rattle.trace_text.specs.declared.lines.Line.{Line}
use Rattle.safety_laws.specs.Safe.{Indications, dark, told, shown_at, intersection_of}
use Rattle.safety_laws.specs.Written.{shown_by}
use Rattle.overlap_run.specs.declared.overlap.Timing.{Timing}
use Rattle.overlap_run.specs.Overlap.{greens_to, colours, last_colour, overlap_at}
use Rattle.overlap_run.specs.Text.{line_where, change_line, changes_to, end_line, overlap_text}
use Rattle.overlap_run.specs.Parents.{shows_green, green_by, green_at, AreFrames}
use Rattle.overlap_run.specs.Street.{parent_green}
use Rattle.overlap_run.specs.Trace.{frames_told, text_of}

either-green : (parents : List ℕ) (b : Bool) (f : Frame) (before : Indications)
    → (if b then shows_green parents f.veh else shows_green parents before.colours) ≡ shows_green parents (if b then shown_by f else before).colours
either-green parents true f before = refl
either-green parents false f before = refl

-- what is shown by the lines is what the frames show
same-by : (parents : List ℕ) (tick : ℕ) (frames : List (ℕ × Frame)) (before : Indications)
    → green_by parents tick (shows_green parents before.colours) frames ≡ shows_green parents (shown_at tick before (frames_told frames)).colours
same-by parents tick [] before = refl
same-by parents tick (f ∷ frames) before =
    ap (λ (b : Bool). green_by parents tick b frames) (either-green parents (nat_le f.0 tick) f.1 before)
    ∙ same-by parents tick frames (if nat_le f.0 tick then shown_by f.1 else before)

same-green : (parents : List ℕ) (tick ticks : ℕ) (frames : List (ℕ × Frame)) → AreFrames frames ticks
    → green_at parents frames tick ≡ shows_green parents (shown_at tick dark (frames_told frames)).colours
same-green parents tick ticks [] are = absurd are
same-green parents tick ticks (f ∷ frames) are =
    let first : f.0 ≡ 0 = are.0 in
    let here : nat_le f.0 tick ≡ true = grind (arith, first) in
    ap (λ (b : Bool). green_by parents tick (if b then shows_green parents f.1.veh else false) frames) here
    ∙ same-by parents tick frames (shown_by f.1)
    ∙ sym (ap (λ (b : Bool). shows_green parents (shown_at tick (if b then shown_by f.1 else dark) (frames_told frames)).colours) here)

greens-same : (f g : ℕ → Bool) → ((n : ℕ) → f n ≡ g n) → (n : ℕ) → greens_to f n ≡ greens_to g n
greens-same f g same zero = ap (λ (b : Bool). b ∷ []) (same 0)
greens-same f g same (suc n) = ap (λ (b : Bool). b ∷ greens_to f n) (same (suc n)) ∙ ap (λ (bs : List Bool). g (suc n) ∷ bs) (greens-same f g same n)

overlap-same : (t : Timing) (f g : ℕ → Bool) → ((n : ℕ) → f n ≡ g n) → (n : ℕ) → overlap_at t f n ≡ overlap_at t g n
overlap-same t f g same n = ap (λ (bs : List Bool). last_colour (colours t bs)) (greens-same f g same n)

changes-same : (a b : ℕ → Colour) → ((n : ℕ) → a n ≡ b n) → (n : ℕ) → changes_to a n ≡ changes_to b n
changes-same a b same zero = ap (change_line 0) (same 0)
changes-same a b same (suc n) =
    ap (λ (x : List ℕ). x ++ line_where (a n) (suc n) (a (suc n))) (changes-same a b same n)
    ∙ ap (λ (c : Colour). changes_to b n ++ line_where c (suc n) (a (suc n))) (same n)
    ∙ ap (λ (c : Colour). changes_to b n ++ line_where (b n) (suc n) c) (same (suc n))

pub same-text : (t : Timing) (parents : List ℕ) (cab ticks : ℕ) (tables : ℕ → Tables) (lines : List Line) (frames : List (ℕ × Frame))
    → told cab lines ≡ frames_told frames → AreFrames frames ticks
    → overlap_text t (green_at parents frames) ticks ≡ text_of t parents cab tables lines ticks
same-text t parents cab ticks tables lines frames are-told are =
    let same : (n : ℕ) → green_at parents frames n ≡ parent_green (intersection_of cab tables lines) parents n =
    λ n. same-green parents n ticks frames are ∙ ap (λ (l : List (ℕ × Indications)). shows_green parents (shown_at n dark l).colours) (sym are-told) in
    ap (λ (x : List ℕ). x ++ end_line ticks)
    (changes-same (overlap_at t (green_at parents frames)) (overlap_at t (parent_green (intersection_of cab tables lines) parents))
    (overlap-same t (green_at parents frames) (parent_green (intersection_of cab tables lines) parents) same) ticks)
