-- Why lines that are not whole, and moments that do not meet coordination, are refused.
use Rattle.std.proofs.Common.{◌≡◌, ℕ, true, false, [], ◌∷◌, replicate, refl, arith}
use Rattle.std.proofs.lemmas.Bool.{both_ways}
use Rattle.sig_types.specs.declared.frame.Colour.TheVariants.{Red}
use Rattle.sig_types.specs.declared.frame.Ped.TheVariants.{Dont}
use Rattle.sig_types.specs.declared.frame.Mode.TheVariants.{Free}
use Rattle.sig_tables.specs.Standard.{std8, standard}
use Rattle.trace_text.specs.declared.lines.Line.TheVariants.{L}
use Rattle.std.specs.Prelude.{Ok}
use Rattle.safety_laws.specs.Whole.{Whole}
use Rattle.plan_facts.specs.Disturbances.{no_drift}
use Rattle.plan_facts.specs.Meets.{MeetsEach, green_at_zero, zero_in_time, offset_in_time}
use Rattle.promise_cases.specs.Lines.{frame_line, early_version, old_version, skipped_version, version_of_another}
use Rattle.promise_cases.specs.Moments.{red_zero, without_zero, off_target}

pub early-refused : ¬ Whole 1 early_version
early-refused whole =
    let e : 1 ≡ 0 = whole.frames (frame_line 0 0 ∷ []) (L 1 1 (Ok 1) ∷ []) 9 (replicate 16 Red) (replicate 16 Dont) Free 0 0 1 refl in
    absurd (omega (arith, e))

pub old-refused : ¬ Whole 1 old_version
old-refused whole =
    let e : 0 ≡ 1 = whole.frames (frame_line 0 0 ∷ L 1 1 (Ok 1) ∷ []) [] 9 (replicate 16 Red) (replicate 16 Dont) Free 0 0 0 refl in
    absurd (omega (arith, e))

pub skipped-refused : ¬ Whole 1 skipped_version
skipped-refused whole =
    let e : 2 ≡ 1 = whole.loads (frame_line 0 0 ∷ []) [] 1 2 refl in
    absurd (omega (arith, e))

pub other-refused : ¬ Whole 1 version_of_another
other-refused whole =
    let e : 1 ≡ 0 = whole.frames (frame_line 0 0 ∷ L 2 1 (Ok 1) ∷ []) [] 9 (replicate 16 Red) (replicate 16 Dont) Free 0 0 1 refl in
    absurd (omega (arith, e))

pub green-refused : ¬ MeetsEach no_drift red_zero
unfolding std8 standard
green-refused meets = both_ways (green_at_zero red_zero) refl meets.0.green

pub zero-refused : ¬ MeetsEach no_drift (without_zero 1001)
unfolding std8 standard
zero-refused meets = both_ways (zero_in_time no_drift (without_zero 1001)) refl meets.0.zero

pub in-time : zero_in_time no_drift (without_zero 999) ≡ true
unfolding std8 standard
in-time = refl

pub offset-refused : ¬ MeetsEach no_drift (off_target 1000)
unfolding std8 standard
offset-refused meets = both_ways (offset_in_time no_drift (off_target 1000)) refl meets.0.offset
