-- Bytes ask of bands, and are reported of in one way, or have a first fault, and never both.
use Rattle.std.proofs.Common.{◌≡◌, ◌≤◌, ◌<◌, ◌+◌, ◌-◌, ℕ, List, true, false, Option, Some, None, sym, ap, ◌∙◌, subst, refl, arith}
use Rattle.serde_json.specs.Data.{Data}
use Rattle.scenario_data.specs.declared.refusal.Refusal.{Refusal}
use Rattle.scenario_data.specs.declared.refusal.Refusal.TheVariants.{Syntax, Field, Limit, Broken}
use Rattle.scenario_read.specs.Answers.{SameFault}
use Rattle.scenario_read.proofs.OneAnswer.{one-value, IsFirstOf, none-beside, one-first}
use Rattle.band_report.specs.declared.band.Band.{Band}
use Rattle.band_report.specs.Street.{Passage}
use Rattle.band_report.specs.Bands.{is_open, first_closed, IsBand, IsGreatest, IsReport}
use Rattle.band_report.specs.Asked.{band_faults}
use Rattle.band_report.specs.BandAnswer.{two_lines, TellsOf, AsksOfBands, TellsBands, IsFirstBandFault}

same-band : (a b : Band) → a.start ≡ b.start → a.width ≡ b.width → a.before ≡ b.before → a.after ≡ b.after → a ≡ b
same-band a b start width before after =
    ap (λ (n : ℕ). record { start = n; width = a.width; before = a.before; after = a.after }) start
    ∙ (ap (λ (n : ℕ). record { start = b.start; width = n; before = a.before; after = a.after }) width
    ∙ (ap (λ (n : ℕ). record { start = b.start; width = b.width; before = n; after = a.after }) before
    ∙ ap (λ (n : ℕ). record { start = b.start; width = b.width; before = b.before; after = n }) after))

one-cabinet : (o p : Option ℕ) (a b : ℕ) → o ≡ p → o ≡ Some a → p ≡ Some b → a ≡ b
one-cabinet o p a b same e f = cc

-- a band has an open time
opens : (n r : ℕ) (street : List Passage) (cycle : ℕ) (band : Band) → IsGreatest n r street cycle band
    → ((time : ℕ) → time < cycle → is_open n r street time ≡ false) → ⊥
opens n r street cycle band greatest closed =
    let opened : is_open n r street (band.start + 0) ≡ true = greatest.is.all_open 0 greatest.is.some in
    let starts : band.start < cycle = greatest.is.starts in
    let shut : is_open n r street (band.start + 0) ≡ false = closed (band.start + 0) (omega (arith, starts)) in
    cc

-- there is one widest band
one-greatest : (n r : ℕ) (street : List Passage) (cycle : ℕ) (a b : Band) → IsGreatest n r street cycle a → IsGreatest n r street cycle b → a ≡ b
one-greatest n r street cycle a b x y =
    let wide : b.width ≤ a.width = x.widest b.start b.width y.is in
    let narrow : a.width ≤ b.width = y.widest a.start a.width x.is in
    let width : a.width ≡ b.width = omega (arith, wide, narrow) in
    let early : a.start ≤ b.start = x.first b.start (subst (λ (k : ℕ). IsBand n r street cycle b.start k) (sym width) y.is) in
    let late : b.start ≤ a.start = y.first a.start (subst (λ (k : ℕ). IsBand n r street cycle a.start k) width x.is) in
    let start : a.start ≡ b.start = omega (arith, early, late) in
    same-band a b start width
    (one-cabinet _ _ _ _ (ap (λ (k : ℕ). first_closed n r street (k + cycle - 1)) start) x.before y.before)
    (one-cabinet _ _ _ _ (ap (λ (k : ℕ). first_closed n r street (k + a.width)) start ∙ ap (λ (k : ℕ). first_closed n r street (b.start + k)) width) x.after y.after)

one-report : (n r : ℕ) (street : List Passage) (cycle : ℕ) (a b : Option Band) → IsReport n r street cycle a → IsReport n r street cycle b → a ≡ b
one-report n r street cycle None None x y = refl
one-report n r street cycle None (Some b) x y = absurd (opens n r street cycle b y x)
one-report n r street cycle (Some a) None x y = absurd (opens n r street cycle a x y)
one-report n r street cycle (Some a) (Some b) x y = ap Some (one-greatest n r street cycle a b x y)

one-telling : (d : Data) (a b : List ℕ) → TellsOf d a → TellsOf d b → a ≡ b
one-telling d a b x y =
    let outbound : x.outbound ≡ y.outbound = one-report _ _ _ _ x.outbound y.outbound x.is_outbound y.is_outbound in
    let inbound : x.inbound ≡ y.inbound = one-report _ _ _ _ x.inbound y.inbound x.is_inbound y.is_inbound in
    x.lines ∙ (ap (λ (o : Option Band). two_lines o x.inbound) outbound ∙ (ap (λ (o : Option Band). two_lines y.outbound o) inbound ∙ sym y.lines))

pub one-text : (bytes a b : List ℕ) → TellsBands bytes a → TellsBands bytes b → a ≡ b
one-text bytes a b (d, r, none, x) (e, s, clean, y) =
    one-telling e a b (subst (λ (v : Data). TellsOf v a) (one-value _ d e r.1 s.1) x) y

pub asks : (bytes text : List ℕ) → TellsBands bytes text → AsksOfBands bytes
asks bytes text (d, r, none, x) = (d, r, none)

first-of : (bytes : List ℕ) (refusal : Refusal) → IsFirstBandFault bytes refusal → IsFirstOf band_faults bytes refusal
first-of bytes Syntax h = h
first-of bytes (Field path) h = h
first-of bytes (Limit path) h = h
first-of bytes (Broken cabinet rule row) h = h

pub no-fault-beside : (bytes : List ℕ) (refusal : Refusal) → AsksOfBands bytes → IsFirstBandFault bytes refusal → ⊥
no-fault-beside bytes refusal s h = none-beside band_faults bytes s.0 refusal s.1 s.2 (first-of bytes refusal h)

pub one-fault : (bytes : List ℕ) (a b : Refusal) → IsFirstBandFault bytes a → IsFirstBandFault bytes b → SameFault a b
one-fault bytes a b h k = one-first band_faults bytes a b (first-of bytes a h) (first-of bytes b k)
