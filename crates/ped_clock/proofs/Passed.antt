-- What is kept represents one moment more at which nothing changes.
use Rattle.std.proofs.Common.{◌≡◌, ◌+◌, ℕ, List, ◌∷◌, arith, refl, sym, ◌∙◌, ap}
use Rattle.sig_tables.specs.Past.{Moment}
use Rattle.sig_tables.specs.Looking.{last_frame}
use Rattle.ped_clock.specs.declared.PedClocks.{PedClocks}
use Rattle.ped_clock.specs.SignalsStand.{SignalsStand}
use Rattle.ped_clock.specs.Passed.{passed}
use Rattle.ped_clock.proofs.Signals.{signal_goes_on}

pub signals-on : (c : PedClocks) (past : List Moment) (m : Moment) → SignalsStand c past → m.frame.ped ≡ (last_frame past).ped
    → SignalsStand (passed 1 c) (m ∷ past)
signals-on c past m stands now = record {
  steps = omega (arith, stands.steps);
  shown = stands.shown ∙ sym now;
  intervals = λ p above within. signal_goes_on _ p _ _ past m refl (rw now (stands.intervals p above within));
}

-- passing over ticks one by one comes to passing over them at once
pub passed-one : (k : ℕ) (c : PedClocks) → passed 1 (passed k c) ≡ passed (k + 1) c
passed-one k c = let e : c.steps + k + 1 ≡ c.steps + (k + 1) = omega arith in ap (λ (n : ℕ). record c { steps = n }) e
