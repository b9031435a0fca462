-- Totals to which lines are added.
use Rattle.std.specs.Prelude.{List, ◌++◌, [], ◌∷◌}
use Rattle.std.proofs.Common.{◌≡◌, ◌+◌, ℕ, arith}
use Rattle.trace_text.specs.declared.lines.Line.{Line}
use Rattle.trace_text.specs.declared.lines.Line.TheVariants.{F}
use Rattle.trace_tell.specs.Telling.{TellerLaws}
use Rattle.whole_run.specs.declared.counts.Counts.{Counts}
use Rattle.whole_run.specs.declared.counts.Uncounted.{Uncounted}
use Rattle.whole_run.specs.declared.counts.Uncounted.TheVariants.{NoMemory}
use Rattle.whole_run.specs.Counting.{total, is_first, is_round, ticks_in, is_frame, is_reply, is_accepted, is_refused}

-- the new totals are the old totals plus those of these lines
pub record Adds (old new : Counts) (lines : List Line) : Type 0 where
  pub cabinets : new.cabinets ≡ old.cabinets + total is_first lines
  pub rounds : new.rounds ≡ old.rounds + total is_round lines
  pub ticks : new.ticks ≡ old.ticks + total ticks_in lines
  pub frames : new.frames ≡ old.frames + total is_frame lines
  pub replies : new.replies ≡ old.replies + total is_reply lines
  pub accepted : new.accepted ≡ old.accepted + total is_accepted lines
  pub refused : new.refused ≡ old.refused + total is_refused lines

-- nothing is stated about totals whose counting stopped
abbrev pub StopsCounting : Counts → Counts → Uncounted → List Line → Type 0
StopsCounting old new fail lines = Unit {0}

abbrev pub counting_out_of_memory : Uncounted
counting_out_of_memory = NoMemory

pub total-append : {A : Type 0} (f : A → ℕ) (xs ys : List A) → total f (xs ++ ys) ≡ total f xs + total f ys
total-append f [] ys = omega arith
total-append f (x ∷ xs) ys = let more : total f (xs ++ ys) ≡ total f xs + total f ys = total-append f xs ys in omega (arith, more)

pub counting_laws : TellerLaws Adds StopsCounting counting_out_of_memory
counting_laws = record {
  none = λ a. record {
    cabinets = omega arith;
    rounds = omega arith;
    ticks = omega arith;
    frames = omega arith;
    replies = omega arith;
    accepted = omega arith;
    refused = omega arith;
  };
  more = λ a b c xs ys one two. record {
    cabinets = omega (arith, one.cabinets, two.cabinets, total-append is_first xs ys);
    rounds = omega (arith, one.rounds, two.rounds, total-append is_round xs ys);
    ticks = omega (arith, one.ticks, two.ticks, total-append ticks_in xs ys);
    frames = omega (arith, one.frames, two.frames, total-append is_frame xs ys);
    replies = omega (arith, one.replies, two.replies, total-append is_reply xs ys);
    accepted = omega (arith, one.accepted, two.accepted, total-append is_accepted xs ys);
    refused = omega (arith, one.refused, two.refused, total-append is_refused xs ys);
  };
  front = λ a b fail xs ys one. tt;
  later = λ a b c fail xs ys one two. tt;
  short = λ a line lines. tt;
}
