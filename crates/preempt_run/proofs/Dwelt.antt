-- Whether a goal has been reached in each of that many last frames of a dwell, phase by phase.
use Rattle.std.proofs.Common.{◌≡◌, ◌<◌, ℕ, zero, suc, Bool, true, false, ◌&&◌, ◌||◌, ◌==◌, if◌then◌else◌, List, [], ◌∷◌, refl, sym, ◌∙◌, ap}
use Rattle.std.proofs.lemmas.Bool.{false≢true}
use Rattle.sig_types.specs.declared.frame.Frame.{Frame}
use Rattle.sig_types.specs.declared.frame.Mode.{Mode}
use Rattle.sig_types.specs.declared.frame.Mode.TheVariants.{Start, Free, Seek, Coord, Ending, Flash, Entry, Track, Dwell, Exit}
use Rattle.sig_types.specs.Phases.{all_phases, is_in}
use Rattle.sig_types.specs.Colour.{on_in}
use Rattle.sig_tables.specs.Sums.{every}
use Rattle.sig_tables.specs.Calls.{is_green}
use Rattle.sig_tables.specs.Modes.{same_mode}
use Rattle.sig_tables.specs.Past.{Moment}
use Rattle.sig_tables.specs.Looking.{lasts}
use Rattle.sig_tables.specs.Preempts.{has_reached}
use Rattle.preempt_stages.specs.Dwelling.{is_dwell, is_off, dwells, dwells_green, dwells_off, each_green, each_off, NamesPhases, EachFits}
use Rattle.preempt_stages.proofs.Each.{every-true, every-same, every-both}
use Rattle.preempt_stages.proofs.Covered.{on-listed, past-green}

-- a dwell of a preempt is a dwell
dwell-is : (mode : Mode) (i : ℕ) → same_mode mode (Dwell i) ≡ true → is_dwell mode ≡ true
dwell-is Start i h = absurd (false≢true h)
dwell-is Free i h = absurd (false≢true h)
dwell-is (Seek n) i h = absurd (false≢true h)
dwell-is (Coord n) i h = absurd (false≢true h)
dwell-is Ending i h = absurd (false≢true h)
dwell-is Flash i h = absurd (false≢true h)
dwell-is (Entry j) i h = absurd (false≢true h)
dwell-is (Track j) i h = absurd (false≢true h)
dwell-is (Dwell j) i h = refl
dwell-is (Exit j) i h = absurd (false≢true h)

-- a test holds of each of the last frames of more where it holds of the last and of the rest
lasts-more : (n : ℕ) (test : Moment → Bool) (m : Moment) (past : List Moment) → lasts (suc n) test (m ∷ past) ≡ (test m && lasts n test past)
lasts-more n test m past = split (test m)
  where
    split : (b : Bool) → (if b then lasts n test past else false) ≡ (b && lasts n test past)
    split true = refl
    split false = refl

shuffle : (a b c d : Bool) → ((a && b) && (c && d)) ≡ ((a && c) && (b && d))
shuffle true true c d = refl
shuffle true false true d = refl
shuffle true false false d = refl
shuffle false b c d = refl

spread : (a b c : Bool) → (a || (b && c)) ≡ ((a || b) && (a || c))
spread true b c = refl
spread false b c = refl

-- a frame has reached a goal where each listed phase is Green and each other is on in no ring
reached-listed : (f : Frame) (xs : List ℕ) → NamesPhases f
    → has_reached f xs ≡ (every (is_green f) xs && every (λ p. is_in xs p || is_off f p) all_phases)
reached-listed f xs names =
    together (every (is_green f) xs) (on_in f 1 == 0 || is_in xs (on_in f 1)) (on_in f 2 == 0 || is_in xs (on_in f 2))
    ∙ ap (λ (b : Bool). every (is_green f) xs && b) (on-listed f xs names)
  where
    together : (a b c : Bool) → ((a && b) && c) ≡ (a && (b && c))
    together true b c = refl
    together false b c = refl

green-more : (n : ℕ) (xs : List ℕ) (m : Moment) (past : List Moment) → is_dwell m.frame.mode ≡ true
    → each_green (suc n) xs (m ∷ past) ≡ (every (is_green m.frame) xs && each_green n xs past)
green-more n xs m past dwell =
    every-same (λ q. lasts (suc n) (dwells_green q) (m ∷ past)) (λ q. is_green m.frame q && lasts n (dwells_green q) past) xs
    (λ q i. lasts-more n (dwells_green q) m past ∙ rw dwell refl)
    ∙ every-both (is_green m.frame) (λ q. lasts n (dwells_green q) past) xs

off-more : (n : ℕ) (xs : List ℕ) (m : Moment) (past : List Moment) → is_dwell m.frame.mode ≡ true
    → each_off (suc n) xs (m ∷ past) ≡ (every (λ p. is_in xs p || is_off m.frame p) all_phases && each_off n xs past)
off-more n xs m past dwell =
    every-same (λ p. is_in xs p || lasts (suc n) (dwells_off p) (m ∷ past))
    (λ p. (is_in xs p || is_off m.frame p) && (is_in xs p || lasts n (dwells_off p) past)) all_phases
    (λ p i. ap (λ (b : Bool). is_in xs p || b) (lasts-more n (dwells_off p) m past)
    ∙ rw dwell (spread (is_in xs p) (is_off m.frame p) (lasts n (dwells_off p) past)))
    ∙ every-both (λ p. is_in xs p || is_off m.frame p) (λ p. is_in xs p || lasts n (dwells_off p) past) all_phases

pub dwelt : (n i : ℕ) (xs : List ℕ) (past : List Moment) → EachFits past → lasts n (dwells i) past ≡ true
    → lasts n (λ m. dwells i m && has_reached m.frame xs) past ≡ (each_green n xs past && each_off n xs past)
dwelt zero i xs past fits d =
    let a : each_green zero xs past ≡ true = every-true xs in
    let b : each_off zero xs past ≡ true = every-same (λ p. is_in xs p || true) (λ _. true) all_phases (λ p i. always (is_in xs p)) ∙ every-true all_phases in
    rw (a, b) refl
  where
    always : (b : Bool) → (b || true) ≡ true
    always true = refl
    always false = refl
dwelt (suc n) i xs [] fits d = absurd (false≢true d)
dwelt (suc n) i xs (m ∷ past) fits d =
    let both : (dwells i m ≡ true) × (lasts n (dwells i) past ≡ true) = parts (dwells i m) refl d in
    let dwell : is_dwell m.frame.mode ≡ true = dwell-is m.frame.mode i both.0 in
    let rest = dwelt n i xs past fits.2 both.1 in
    lasts-more n (λ m. dwells i m && has_reached m.frame xs) m past
    ∙ rw (both.0, rest)
    (ap (λ (b : Bool). b && (each_green n xs past && each_off n xs past)) (reached-listed m.frame xs fits.1)
    ∙ shuffle (every (is_green m.frame) xs) (every (λ p. is_in xs p || is_off m.frame p) all_phases) (each_green n xs past) (each_off n xs past)
    ∙ sym (rw (green-more n xs m past dwell, off-more n xs m past dwell) refl))
  where
    parts : (b : Bool) → dwells i m ≡ b → (if b then lasts n (dwells i) past else false) ≡ true
        → (dwells i m ≡ true) × (lasts n (dwells i) past ≡ true)
    parts true e k = (e, k)
    parts false e k = absurd (false≢true k)

-- where some preempt has dwelt in each of the last frames, a number past 16 counts as Green
pub beyond-green : (n q : ℕ) (past : List Moment) → 16 < q → EachFits past → lasts n (λ m. is_dwell m.frame.mode) past ≡ true
    → lasts n (dwells_green q) past ≡ true
beyond-green zero q past many fits d = refl
beyond-green (suc n) q [] many fits d = absurd (false≢true d)
beyond-green (suc n) q (m ∷ past) many fits d =
    let both : (is_dwell m.frame.mode ≡ true) × (lasts n (λ m. is_dwell m.frame.mode) past ≡ true) = parts (is_dwell m.frame.mode) refl d in
    let green : is_green m.frame q ≡ true = past-green m.frame q many fits.0 in
    rw (both.0, green) (beyond-green n q past many fits.2 both.1)
  where
    parts : (b : Bool) → is_dwell m.frame.mode ≡ b → (if b then lasts n (λ m. is_dwell m.frame.mode) past else false) ≡ true
        → (is_dwell m.frame.mode ≡ true) × (lasts n (λ m. is_dwell m.frame.mode) past ≡ true)
    parts true e k = (e, k)
    parts false e k = absurd (false≢true k)

-- frames that are all of the dwell of one preempt are all of dwell
pub dwell-lasts : (n i : ℕ) (past : List Moment) → lasts n (dwells i) past ≡ true → lasts n (λ m. is_dwell m.frame.mode) past ≡ true
dwell-lasts zero i past d = refl
dwell-lasts (suc n) i [] d = absurd (false≢true d)
dwell-lasts (suc n) i (m ∷ past) d =
    let both : (dwells i m ≡ true) × (lasts n (dwells i) past ≡ true) = parts (dwells i m) refl d in
    let dwell : is_dwell m.frame.mode ≡ true = dwell-is m.frame.mode i both.0 in
    rw dwell (dwell-lasts n i past both.1)
  where
    parts : (b : Bool) → dwells i m ≡ b → (if b then lasts n (dwells i) past else false) ≡ true
        → (dwells i m ≡ true) × (lasts n (dwells i) past ≡ true)
    parts true e k = (e, k)
    parts false e k = absurd (false≢true k)

-- a goal has not been reached for longer than the dwell has lasted
pub dwelt-short : (n i : ℕ) (xs : List ℕ) (past : List Moment) → lasts n (dwells i) past ≡ false
    → lasts n (λ m. dwells i m && has_reached m.frame xs) past ≡ false
dwelt-short zero i xs past d = absurd (false≢true (sym d))
dwelt-short (suc n) i xs [] d = refl
dwelt-short (suc n) i xs (m ∷ past) d = split (dwelt-short n i xs past) (dwells i m) (has_reached m.frame xs) d
  where
    split : (lasts n (dwells i) past ≡ false → lasts n (λ m. dwells i m && has_reached m.frame xs) past ≡ false) → (b r : Bool)
        → (if b then lasts n (dwells i) past else false) ≡ false
        → (if b && r then lasts n (λ m. dwells i m && has_reached m.frame xs) past else false) ≡ false
    split ih true true k = ih k
    split ih true false k = refl
    split ih false r k = refl
