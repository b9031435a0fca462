-- The line of a scenario, handed over in three pieces: its letter, its text, and the newline.
use Rattle.std.proofs.Common.{◌≡◌, ℕ, Bool, List, [], ◌∷◌, ◌++◌, Option, Result, Ok, Err, refl, subst}
use Rattle.trace_text.specs.Line.{line_text}
use Rattle.trace_text.specs.declared.lines.Line.TheVariants.{S}
use Rattle.trace_writer.specs.declared.writer.Stop.{Stop}
use Rattle.trace_writer.specs.declared.writer.Writer.{Writer}
use Rattle.trace_writer.specs.Handing.{HandsOver}
use Rattle.trace_writer.proofs.Handed.{hands-first, hands-then}

pub spelled : (compact : List ℕ) → (83 ∷ 32 ∷ []) ++ (compact ++ 10 ∷ []) ≡ line_text (S compact)
unfolding line_text
spelled compact = refl

module _ {K : Type 0} (written : K → Option (List ℕ)) (faults : K → ℕ) (exact : Bool) where
  -- the letter stopped short
  pub line-first : {e : Stop} (old new : Writer) (from to : K) (compact : List ℕ) → HandsOver written faults exact (Err e) old new from to (83 ∷ 32 ∷ [])
      → HandsOver written faults exact (Err e) old new from to (line_text (S compact))
  line-first {e = e} old new from to compact one = subst (λ (x : List ℕ). HandsOver written faults exact (Err e) old new from to x) (spelled compact)
      (hands-first written faults exact old new from to (83 ∷ 32 ∷ []) (compact ++ 10 ∷ []) one)

  -- the text did
  pub line-second : {u : Unit {0}} {e : Stop} (old mid new : Writer) (from at to : K) (compact : List ℕ)
      → HandsOver written faults exact (Ok u) old mid from at (83 ∷ 32 ∷ []) → HandsOver written faults exact (Err e) mid new at to compact
      → HandsOver written faults exact (Err e) old new from to (line_text (S compact))
  line-second {e = e} old mid new from at to compact one two = subst (λ (x : List ℕ). HandsOver written faults exact (Err e) old new from to x) (spelled compact)
      (hands-then written faults exact (Err e) old mid new from at to (83 ∷ 32 ∷ []) (compact ++ 10 ∷ []) one
      (hands-first written faults exact mid new at to compact (10 ∷ []) two))

  -- all three
  pub line-whole : {u v : Unit {0}} (result : Result (Unit {0}) Stop) (old mid late new : Writer) (from at by to : K) (compact : List ℕ)
      → HandsOver written faults exact (Ok u) old mid from at (83 ∷ 32 ∷ []) → HandsOver written faults exact (Ok v) mid late at by compact
      → HandsOver written faults exact result late new by to (10 ∷ []) → HandsOver written faults exact result old new from to (line_text (S compact))
  line-whole result old mid late new from at by to compact one two three =
      subst (λ (x : List ℕ). HandsOver written faults exact result old new from to x) (spelled compact)
      (hands-then written faults exact result old mid new from at to (83 ∷ 32 ∷ []) (compact ++ 10 ∷ []) one
      (hands-then written faults exact result mid late new at by to compact (10 ∷ []) two three))
