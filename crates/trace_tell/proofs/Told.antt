-- Lines that a teller takes one after another: its laws, as the loops over lines use them.
use Rattle.std.proofs.Common.{◌≡◌, List, [], ◌++◌, Result, Ok, Err, sym, subst}
use Rattle.trace_text.specs.declared.lines.Line.{Line}
use Rattle.trace_tell.specs.Telling.{TellsLines, TellerLaws}

-- what results from the rest of the lines from here on, comes of all of them from the start
abbrev pub Onward : {T F : Type 0} → (T → T → List Line → Type 0) → (T → T → F → List Line → Type 0) → T → T → List Line → List Line → Type 0
Onward {T} {F} told stopped old now all rest =
    (result : Result (Unit {0}) F) (new : T) → TellsLines told stopped result now new rest → TellsLines told stopped result old new all

module _ {T F : Type 0} {told : T → T → List Line → Type 0} {stopped : T → T → F → List Line → Type 0} {out_of_memory : F} (laws : TellerLaws told stopped out_of_memory) where
  -- some lines were taken, and this came of the next
  pub tells-then : (result : Result (Unit {0}) F) (old mid new : T) (xs ys : List Line) → told old mid xs → TellsLines told stopped result mid new ys
      → TellsLines told stopped result old new (xs ++ ys)
  tells-then (Ok done) old mid new xs ys one two = laws.more old mid new xs ys one two
  tells-then (Err fail) old mid new xs ys one two = laws.later old mid new fail xs ys one two

  -- the next lines of the rest were taken
  pub onward-next : (old mid now : T) (all rest xs ys : List Line) → rest ≡ xs ++ ys → Onward told stopped old mid all rest → told mid now xs
      → Onward told stopped old now all ys
  onward-next old mid now all rest xs ys is so one = λ result new two.
      so result new (subst (λ (lines : List Line). TellsLines told stopped result mid new lines) (sym is) (tells-then result mid now new xs ys one two))

  -- it stopped in the next lines
  pub onward-stops : (old mid new : T) (fail : F) (all rest xs ys : List Line) → rest ≡ xs ++ ys → Onward told stopped old mid all rest → stopped mid new fail xs
      → stopped old new fail all
  onward-stops old mid new fail all rest xs ys is so one =
      so (Err fail) new (subst (λ (lines : List Line). stopped mid new fail lines) (sym is) (laws.front mid new fail xs ys one))

  -- nothing is left
  pub onward-end : (old now : T) (all rest : List Line) → rest ≡ [] → Onward told stopped old now all rest → told old now all
  onward-end old now all rest is so = so (Ok tt) now (subst (λ (lines : List Line). told now now lines) (sym is) (laws.none now))
