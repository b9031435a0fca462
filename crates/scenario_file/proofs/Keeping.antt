-- What is kept of values that are read as trees.
use Rattle.std.proofs.Common.{◌≡◌, ◌||◌, ℕ, List, Bool, true, false, bytes_eq, if◌then◌else◌, is_some, Option, Some, None, IfSome, refl, sym, ap, ap₂, ◌∙◌, subst}
use Rattle.std.specs.Prelude.{⊤}
use Rattle.std.proofs.lemmas.Slice.Eq.{bytes_eq-Decides}
use Rattle.serde_json.specs.Data.{Data, null, boolean, number, string, array, object, Members, no_members, member}
use Rattle.serde_json.specs.Find.{as_null}
use Rattle.scenario_read.specs.Sorted.{Sorted}
use Rattle.scenario_cut.specs.Last.{filled, Enters}
use Rattle.scenario_file.specs.declared.trees.Kept.{Kept}
use Rattle.scenario_file.specs.declared.trees.Kept.TheVariants.{Whole, Passed}
use Rattle.scenario_file.specs.Trees.{KeptOf, standing, has_null, seen}

-- what was skipped is kept as nothing
pub some-passed : (P : Kept → Type 0) (b : Bool) (o : Option Kept) → IfSome o (λ kept. (b ≡ true) × (kept ≡ Passed)) → (b ≡ true → P Passed) → IfSome o P
some-passed P b None over holds = tt
some-passed P b (Some kept) over holds = subst P (sym over.1) (holds over.0)

-- ---- null for what was skipped

sees : (passed : List ℕ → Data) (name : List ℕ) (d : Data) → as_null d ≡ None → seen passed name d ≡ d
sees passed name null whole = absurd (cc)
sees passed name (boolean b) whole = refl
sees passed name (number n) whole = refl
sees passed name (string s) whole = refl
sees passed name (array ds) whole = refl
sees passed name (object ms) whole = refl

same-seen : (old now : List ℕ → Data) (name : List ℕ) (d : Data) → old name ≡ now name → seen old name d ≡ seen now name d
same-seen old now name null same = same
same-seen old now name (boolean b) same = refl
same-seen old now name (number n) same = refl
same-seen old now name (string s) same = refl
same-seen old now name (array ds) same = refl
same-seen old now name (object ms) same = refl

-- what is kept of a value enters at a name
pub entered : (passed : List ℕ → Data) (k : List ℕ) (d : Data) (kept : Kept) → KeptOf d kept → (now : List ℕ → Data) × Enters (seen passed) (seen now) k d (standing kept)
entered passed k d Passed is =
    let now : List ℕ → Data = λ name. if bytes_eq name k then d else passed name in
    let same : bytes_eq k k ≡ true = (bytes_eq-Decides k k).1 refl in (
      now,
      record {
        here = ap (λ b. if b then d else passed k) same;
        others = λ other apart e. same-seen passed now other e (ap (λ b. if b then d else passed other) (sym apart));
      },
    )
entered passed k d (Whole v) is = (passed, record { here = ap (seen passed k) is.0 ∙ sees passed k d is.1; others = λ other apart e. refl })

pub standing-sorted : (d : Data) (kept : Kept) → KeptOf d kept → Sorted d → Sorted (standing kept)
standing-sorted d Passed is sorted = tt
standing-sorted d (Whole v) is sorted = subst Sorted (sym is.0) sorted

-- where no null is, nothing was skipped
pub all-seen : (passed : List ℕ → Data) (ms : Members) → has_null ms ≡ false → filled (seen passed) ms ≡ ms
all-seen passed no_members none = refl
all-seen passed (member name d ms) none = at (as_null d) refl (all-seen passed ms) none
  where
    at : (o : Option ⊤) → as_null d ≡ o → (has_null ms ≡ false → filled (seen passed) ms ≡ ms) → (is_some o || has_null ms) ≡ false
        → member name (seen passed name d) (filled (seen passed) ms) ≡ member name d ms
    at None whole rest none = ap₂ (member name) (sees passed name d whole) (rest none)
    at (Some u) is rest none = absurd (cc)
