-- Marks of detectors, and the tests of the bank and of the pulses by them.
use Rattle.std.proofs.Common.{◌≡◌, ◌+◌, ◌*◌, ◌<◌, ◌≤◌, ◌||◌, ◌&&◌, ◌==◌, ℕ, Bool, true, false, if◌then◌else◌, List, [], ◌∷◌, ◌++◌, length, take, get_or, refl, sym, ap, ◌∙◌, subst}
use Rattle.std.proofs.lemmas.List.{take_more, get_or_default}
use Rattle.scenario_read.specs.Kinds.{Fits, Wrong}
use Rattle.detector_bank.specs.declared.bank.Detector.{Detector}
use Rattle.detector_bank.specs.declared.bank.Pulse.{Pulse}
use Rattle.field_read.specs.Checks.{has_detector, detector_at, pulse_at, bank_fit, pulse_fit}
use Rattle.field_read.specs.Places.{BankPlaced, PulsesPlaced, Marks}

or-assoc : (a b c : Bool) → ((a || b) || c) ≡ (a || (b || c))
or-assoc true b c = refl
or-assoc false b c = refl

or-none : (b : Bool) → (b || false) ≡ b
or-none true = refl
or-none false = refl

has-more : (ds : List Detector) (d : Detector) (c n : ℕ) → has_detector (ds ++ d ∷ []) c n ≡ (has_detector ds c n || ((d.cabinet == c) && (d.detector == n)))
has-more [] d c n = or-none ((d.cabinet == c) && (d.detector == n))
has-more (e ∷ ds) d c n =
    ap (λ (b : Bool). ((e.cabinet == c) && (e.detector == n)) || b) (has-more ds d c n)
    ∙ sym (or-assoc ((e.cabinet == c) && (e.detector == n)) (has_detector ds c n) ((d.cabinet == c) && (d.detector == n)))

-- one detector more is marked
pub marks-next : (old new : List Bool) (bank : List Detector) (i : ℕ) (d : Detector) → i < length bank → d ≡ get_or bank i d
    → ((c n : ℕ) → c ≤ 64 → n ≤ 64 → get_or new (c * 65 + n) false ≡ (get_or old (c * 65 + n) false || ((d.cabinet == c) && (d.detector == n))))
    → Marks old (take i bank) → Marks new (take (i + 1) bank)
marks-next old new bank i d within is more before = λ c n p q.
    let longer : take (i + 1) bank ≡ take i bank ++ d ∷ [] = take_more bank i d within ∙ ap (λ (e : Detector). take i bank ++ e ∷ []) (sym is) in
    more c n p q ∙ ap (λ (b : Bool). b || ((d.cabinet == c) && (d.detector == n))) (before c n p q) ∙ sym (has-more (take i bank) d c n)
    ∙ ap (λ (xs : List Detector). has_detector xs c n) (sym longer)

-- the mark of a detector says whether it is before
pub bank-test : (marks : List Bool) (bank : List Detector) (i : ℕ) (d : Detector) (b : Bool) → i < length bank → d ≡ get_or bank i d → d.cabinet ≤ 64 → d.detector ≤ 64
    → Marks marks (take i bank) → b ≡ get_or marks (d.cabinet * 65 + d.detector) false → bank_fit bank i ≡ (if b then Wrong else Fits)
bank-test marks bank i d b within is p q so test =
    let same : detector_at bank i ≡ d = sym (is ∙ get_or_default bank i d _ within) in
    let told : has_detector (take i bank) d.cabinet d.detector ≡ b = sym (test ∙ so d.cabinet d.detector p q) in
    ap (λ (e : Detector). if has_detector (take i bank) e.cabinet e.detector then Wrong else Fits) same ∙ ap (λ (x : Bool). if x then Wrong else Fits) told

-- the mark of a pulse's detector says whether it is in the bank
pub pulse-test : (marks : List Bool) (bank : List Detector) (pulses : List Pulse) (i : ℕ) (s : Pulse) (b : Bool) → i < length pulses → s ≡ get_or pulses i s → s.cabinet ≤ 64 → s.detector ≤ 64
    → Marks marks bank → b ≡ get_or marks (s.cabinet * 65 + s.detector) false → pulse_fit bank pulses i ≡ (if b then Fits else Wrong)
pulse-test marks bank pulses i s b within is p q so test =
    let same : pulse_at pulses i ≡ s = sym (is ∙ get_or_default pulses i s _ within) in
    let told : has_detector bank s.cabinet s.detector ≡ b = sym (test ∙ so s.cabinet s.detector p q) in
    ap (λ (t : Pulse). if has_detector bank t.cabinet t.detector then Fits else Wrong) same ∙ ap (λ (x : Bool). if x then Fits else Wrong) told

-- what is read of a list is where each of it does
pub detector-here : (bank : List Detector) (i : ℕ) (d : Detector) → i < length bank → d ≡ get_or bank i d → BankPlaced bank → (d.cabinet ≤ 64) × (d.detector ≤ 64)
detector-here bank i d within is placed = subst (λ (e : Detector). (e.cabinet ≤ 64) × (e.detector ≤ 64)) (sym is) (placed i d within)

pub pulse-here : (pulses : List Pulse) (i : ℕ) (s : Pulse) → i < length pulses → s ≡ get_or pulses i s → PulsesPlaced pulses → (s.cabinet ≤ 64) × (s.detector ≤ 64)
pulse-here pulses i s within is placed = subst (λ (t : Pulse). (t.cabinet ≤ 64) × (t.detector ≤ 64)) (sym is) (placed i s within)
