-- The first rule that is broken, as the first cause.
use Rattle.std.proofs.Common.{◌≡◌, ℕ, List, [], ◌∷◌, false, Some, Ok, Err, refl, ap, subst}
use Rattle.sig_types.specs.declared.notes.Broken.{Broken}
use Rattle.sig_tables.specs.declared.tables.Tables.{Tables}
use Rattle.rule_book.specs.Rules.{broken, first_of}
use Rattle.scenario_data.specs.Causes.{Broken as BrokenCause}
use Rattle.scenario_data.specs.Content.{CabinetContent}
use Rattle.scenario_data.specs.Opening.{opening_tables}
use Rattle.scenario_read.specs.Faults.{broken_causes, table_faults, first_cause}

none_of : (cab : ℕ) (found : List Broken) → first_of found ≡ Ok tt → broken_causes cab found ≡ []
none_of cab [] e = refl
none_of cab (b ∷ found) e = absurd (cc)

first_in : (cab : ℕ) (found : List Broken) (b : Broken) → first_of found ≡ Err b → first_cause (broken_causes cab found) ≡ Some (BrokenCause cab b.rule b.row)
first_in cab [] b e = absurd (cc)
first_in cab (x ∷ found) b e = named x b (cc)
  where
    named : (x b : Broken) → x ≡ b → Some (BrokenCause cab x.rule x.row) ≡ Some (BrokenCause cab b.rule b.row)
    named x b is = ap (λ y. Some (BrokenCause cab y.rule y.row)) is

pub keeps-rules : (cab : ℕ) (c : CabinetContent) (t : Tables) → t ≡ opening_tables c → first_of (broken t t false) ≡ Ok tt → table_faults cab c ≡ []
unfolding table_faults
keeps-rules cab c t is e = subst (λ (s : Tables). broken_causes cab (broken s s false) ≡ []) is (none_of cab (broken t t false) e)

pub breaks-rule : (cab : ℕ) (c : CabinetContent) (t : Tables) (b : Broken) → t ≡ opening_tables c → first_of (broken t t false) ≡ Err b
    → first_cause (table_faults cab c) ≡ Some (BrokenCause cab b.rule b.row)
unfolding table_faults
breaks-rule cab c t b is e = subst (λ (s : Tables). first_cause (broken_causes cab (broken s s false)) ≡ Some (BrokenCause cab b.rule b.row)) is (first_in cab (broken t t false) b e)
