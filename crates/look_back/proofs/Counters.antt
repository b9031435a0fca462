-- What is kept of the counters, by the mode and the version of the last frame.
use Rattle.std.proofs.Common.{◌≡◌, ℕ, List, [], ◌∷◌, refl, subst, sym, ◌∙◌, arith}
use Rattle.sig_types.specs.declared.frame.Mode.{Mode}
use Rattle.sig_types.specs.declared.frame.Mode.TheVariants.{Coord}
use Rattle.sig_tables.specs.Past.{Moment}
use Rattle.sig_tables.specs.Looking.{last_frame}
use Rattle.sig_tables.specs.Counters.{counters_since}
use Rattle.coord_count.specs.declared.Count.{Count}
use Rattle.coord_count.specs.CountStands.{CountStands}
use Rattle.coord_count.specs.Passed.{passed}
use Rattle.look_back.specs.declared.counting.Counting.{Counting}
use Rattle.look_back.specs.Counts.{CountingStands, counters_in}

-- a pickup whose counter has advanced by this much is that of one counter
pub picked : (c d : Count) (k : ℕ) → CountStands c (0 ∷ []) → d ≡ passed k c → CountStands d (k ∷ [])
picked c d k none e =
    let P : Count → Type 0 = λ x. CountStands x (k ∷ []) in
    subst P (sym e) (record {
      counter = omega (arith, none.counter);
      stands = none.stands;
      skips = none.skips;
      changed = refl;
    })

-- while coordinated in a pattern, the counters are those of that pattern
pub of-pattern : (c : Counting) (past : List Moment) (n : ℕ) → CountingStands c past → (last_frame past).mode ≡ Coord n
    → CountStands c.count (counters_since n (last_frame past).version past)
of-pattern c past n stands coord =
    let P : Mode → Type 0 = λ mode. CountStands c.count (counters_in mode c.version past) in
    let Q : ℕ → Type 0 = λ version. CountStands c.count (counters_since n version past) in
    subst Q stands.version (subst P (stands.mode ∙ coord) stands.count)
