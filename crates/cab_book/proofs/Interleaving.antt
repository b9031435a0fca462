-- Frames and replies in the order in which they came, with one more of either at the end.
use Rattle.std.proofs.Common.{◌≡◌, ◌≤◌, ℕ, ◌+◌, ◌-◌, ◌∙◌, List, [], ◌∷◌, ◌++◌, length, map, take, drop, sym, ap, subst, append_assoc, length-drop, arith}
use Rattle.std.proofs.lemmas.List.{take-append-le, drop-append-le, take_all, drop_all, map-append}
use Rattle.sig_types.specs.declared.frame.Frame.{Frame}
use Rattle.cab_book.specs.declared.happened.Answered.{Answered}
use Rattle.cab_book.specs.Happenings.{Happening, Wrote, Replied, interleaved, AreInOrder}

-- replies in order follow no more than the last of the frames
pub in-order-most : (before : ℕ) (answered : List Answered) (most : ℕ) → AreInOrder before answered most → before ≤ most
in-order-most before [] most is = is
in-order-most before (a ∷ answered) most is = omega (arith, is.0, in-order-most a.behind answered most is.1)

-- more frames after them leave them in order
pub in-order-frames : (before : ℕ) (answered : List Answered) (most more : ℕ) → most ≤ more → AreInOrder before answered most → AreInOrder before answered more
in-order-frames before [] most more le is = omega (arith, is, le)
in-order-frames before (a ∷ answered) most more le is = (is.0, in-order-frames a.behind answered most more le is.1)

-- and so does one reply more, after all of them
pub in-order-reply : (before : ℕ) (answered : List Answered) (a : Answered) (most : ℕ) → a.behind ≡ most → AreInOrder before answered most
    → AreInOrder before (answered ++ a ∷ []) most
in-order-reply before [] a most e is = (omega (arith, e, is), omega (arith, e))
in-order-reply before (b ∷ answered) a most e is = (is.0, in-order-reply b.behind answered a most e is.1)

-- the frames that a reply follows, and the others
record Parted (before : ℕ) (frames : List (ℕ × Frame)) (a : Answered) (answered : List Answered) : Type 0 where
  here : a.behind - before ≤ length frames
  rest : AreInOrder a.behind answered (a.behind + length (drop (a.behind - before) frames))
  last : a.behind + length (drop (a.behind - before) frames) ≡ before + length frames

parted : (before : ℕ) (frames : List (ℕ × Frame)) (a : Answered) (answered : List Answered) → AreInOrder before (a ∷ answered) (before + length frames)
    → Parted before frames a answered
parted before frames a answered is =
    let most = in-order-most a.behind answered (before + length frames) is.1 in
    let here : a.behind - before ≤ length frames = omega (arith, most, is.0) in
    let last : a.behind + length (drop (a.behind - before) frames) ≡ before + length frames =
    omega (arith, length-drop (a.behind - before) frames, most, is.0) in
    record { here = here; rest = subst (λ (n : ℕ). AreInOrder a.behind answered n) (sym last) is.1; last = last }

-- frames that come after all
pub interleaved-frames : (before : ℕ) (frames : List (ℕ × Frame)) (answered : List Answered) (more : List (ℕ × Frame))
    → AreInOrder before answered (before + length frames) → interleaved before (frames ++ more) answered ≡ interleaved before frames answered ++ map Wrote more
interleaved-frames before frames [] more is = map-append Wrote frames more
interleaved-frames before frames (a ∷ answered) more is =
    let p = parted before frames a answered is in
    let k = a.behind - before in
    ap (λ (x : List (ℕ × Frame)). map Wrote (take k (frames ++ more)) ++ (Replied a.reply ∷ interleaved a.behind x answered)) (drop-append-le k frames more p.here)
    ∙ ap (λ (x : List (ℕ × Frame)). map Wrote x ++ (Replied a.reply ∷ interleaved a.behind (drop k frames ++ more) answered)) (take-append-le k frames more p.here)
    ∙ ap (λ (x : List Happening). map Wrote (take k frames) ++ (Replied a.reply ∷ x)) (interleaved-frames a.behind (drop k frames) answered more p.rest)
    ∙ sym (append_assoc (map Wrote (take k frames)) (Replied a.reply ∷ interleaved a.behind (drop k frames) answered) (map Wrote more))

-- a reply that comes after all
pub interleaved-reply : (before : ℕ) (frames : List (ℕ × Frame)) (answered : List Answered) (a : Answered)
    → AreInOrder before answered (before + length frames) → a.behind ≡ before + length frames
    → interleaved before frames (answered ++ a ∷ []) ≡ interleaved before frames answered ++ Replied a.reply ∷ []
interleaved-reply before frames [] a is e =
    let all : length frames ≤ a.behind - before = omega (arith, e) in
    ap (λ (x : List (ℕ × Frame)). map Wrote x ++ (Replied a.reply ∷ map Wrote (drop (a.behind - before) frames))) (take_all (a.behind - before) frames all)
    ∙ ap (λ (x : List (ℕ × Frame)). map Wrote frames ++ (Replied a.reply ∷ map Wrote x)) (drop_all (a.behind - before) frames all)
interleaved-reply before frames (b ∷ answered) a is e =
    let p = parted before frames b answered is in
    let k = b.behind - before in
    ap (λ (x : List Happening). map Wrote (take k frames) ++ (Replied b.reply ∷ x))
    (interleaved-reply b.behind (drop k frames) answered a p.rest (e ∙ sym p.last))
    ∙ sym (append_assoc (map Wrote (take k frames)) (Replied b.reply ∷ interleaved b.behind (drop k frames) answered) (Replied a.reply ∷ []))
