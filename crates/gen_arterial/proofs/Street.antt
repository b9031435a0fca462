-- The opening tables of each cabinet that is made break no rule.
use Rattle.std.proofs.Common.{◌≡◌, ℕ, ◌+◌, ◌*◌, ◌<◌, ◌≤◌, not, Bool, true, false, if◌then◌else◌, List, [], ◌∷◌, ◌++◌, refl, sym, ap, ap₂, ◌∙◌, subst, arith, lit<}
use Rattle.std.proofs.lemmas.Bool.{le-leb, lt-ltb}
use Rattle.sig_types.specs.declared.notes.Broken.{Broken}
use Rattle.sig_tables.specs.declared.tables.Tables.{Tables}
use Rattle.sig_tables.specs.declared.cells.Cell.TheVariants.{Pattern, Unit as UnitCell}
use Rattle.sig_tables.specs.Cells.{Number, with_content}
use Rattle.sig_tables.specs.Putting.{with_put, with_cells}
use Rattle.sig_tables.specs.Standard.{std8, standard}
use Rattle.rule_book.specs.declared.rules.Rule.TheVariants.{OnPattern, Correction}
use Rattle.rule_book.specs.declared.rules.PatternRule.TheVariants.{Offset}
use Rattle.rule_book.specs.Rules.{at_rows, broken, Consistent}
use Rattle.rule_book.specs.Patterns.{corrects, has_offset}
use Rattle.scenario_data.specs.Opening.{opening_tables}
use Rattle.scenario_data.specs.Content.{CabinetContent}
use Rattle.scenario_read.specs.Faults.{table_faults, all_table_faults, broken_causes}
use Rattle.gen_arterial.specs.Draws.{drawn}
use Rattle.gen_arterial.specs.Generated.{each_below, offset, correction, cabinet_with, cabinet_made}
use Rattle.gen_arterial.proofs.Lists.{EachIs, each-below}
use Rattle.gen_arterial.proofs.Happenings.{below}

-- the standard tables with an offset and a correction
abbrev pub tables_with : ℕ → ℕ → Tables
tables_with offset correction = with_content (with_content std8 (Pattern 1 3) (Number offset)) (UnitCell 1) (Number correction)

offset-put : (t : Tables) (offset : ℕ) → offset ≤ 255 → with_put t (Pattern 1 3, Number offset) ≡ with_content t (Pattern 1 3) (Number offset)
offset-put t offset h = rw (le-leb 0 offset (omega arith), le-leb offset 255 h) refl

correction-put : (t : Tables) (correction : ℕ) → 1 ≤ correction → correction ≤ 4 → with_put t (UnitCell 1, Number correction) ≡ with_content t (UnitCell 1) (Number correction)
correction-put t correction k l = rw (le-leb 1 correction k, le-leb correction 4 l) refl

tables-put : (offset correction : ℕ) → offset ≤ 255 → 1 ≤ correction → correction ≤ 4
    → with_cells std8 ((Pattern 1 3, Number offset) ∷ (UnitCell 1, Number correction) ∷ []) ≡ tables_with offset correction
tables-put offset correction h k l =
    ap (λ (t : Tables). with_put t (UnitCell 1, Number correction)) (offset-put std8 offset h)
    ∙ correction-put (with_content std8 (Pattern 1 3) (Number offset)) correction k l

-- of the rules, two look at what was put
tables-correct : (offset correction : ℕ) → 2 ≤ correction → correction ≤ 4 → corrects (tables_with offset correction) ≡ true
unfolding std8 standard
tables-correct offset correction k l = rw (le-leb 2 correction k, le-leb correction 4 l) refl

tables-offset : (offset correction : ℕ) → offset < 90 → has_offset (tables_with offset correction) 1 ≡ true
unfolding std8 standard
tables-offset offset correction h = rw (lt-ltb offset 90 h) refl

-- what is broken, by what these two say
broken-by : Bool → Bool → List Broken
broken-by corrected within = at_rows Correction (if not corrected then 0 ∷ [] else []) ++ (at_rows (OnPattern Offset) (if not within then 1 ∷ [] else []) ++ [])

broken-is : (offset correction : ℕ)
    → broken (tables_with offset correction) (tables_with offset correction) false ≡ broken-by (corrects (tables_with offset correction)) (has_offset (tables_with offset correction) 1)
unfolding std8 standard broken-by
broken-is offset correction = refl

tables-consistent : (offset correction : ℕ) → offset < 90 → 2 ≤ correction → correction ≤ 4 → Consistent (tables_with offset correction)
unfolding broken-by
tables-consistent offset correction h k l =
    broken-is offset correction ∙ ap₂ broken-by (tables-correct offset correction k l) (tables-offset offset correction h)

cabinet-consistent : (offset correction : ℕ) → offset < 90 → 2 ≤ correction → correction ≤ 4 → (number : ℕ) → table_faults number (cabinet_with offset correction) ≡ []
unfolding table_faults
cabinet-consistent offset correction h k l number =
    let put : opening_tables (cabinet_with offset correction) ≡ tables_with offset correction = tables-put offset correction (omega arith) (omega arith) l in
    let none : Consistent (tables_with offset correction) = tables-consistent offset correction h k l in
    let P : Tables → Type 0 = λ t. broken_causes number (broken t t false) ≡ [] in
    subst P (sym put) (ap (broken_causes number) none)

pub tables-none : (cabinets : List CabinetContent) (number : ℕ) → EachIs (λ c. (n : ℕ) → table_faults n c ≡ []) cabinets → all_table_faults number cabinets ≡ []
tables-none [] number h = refl
tables-none (c ∷ cabinets) number h = rw (h.0 number, tables-none cabinets (number + 1) h.1) refl

pub street-none : (seed cabinets : ℕ) → EachIs (λ c. (n : ℕ) → table_faults n c ≡ []) (each_below (cabinet_made seed) cabinets)
street-none seed cabinets =
    each-below (cabinet_made seed) (λ c. (n : ℕ) → table_faults n c ≡ []) cabinets
    (λ i _. cabinet-consistent (offset seed i) (correction seed i) (below seed (4 * i) 90 (lit< tt)) (omega arith)
    (let small : drawn seed (4 * i + 1) 3 < 3 = below seed (4 * i + 1) 3 (lit< tt) in omega arith))
