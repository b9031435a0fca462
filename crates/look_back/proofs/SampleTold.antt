-- What is kept of a frame says what the moment shows and saw.
use Rattle.std.proofs.Common.{◌≡◌, inl, inr, ◌≤◌, ◌-◌, ℕ, zero, suc, nat_lt, Bool, List, [], ◌∷◌, length, refl, arith}
use Rattle.std.proofs.lemmas.Bool.{cases_Bool, ltb-true, ltb-false}
use Rattle.std.proofs.lemmas.List.{get_or_past}
use Rattle.sig_types.specs.declared.frame.Colour.TheVariants.{Green}
use Rattle.sig_types.specs.Phases.{every}
use Rattle.sig_types.specs.PhaseSet.{has}
use Rattle.sig_tables.specs.Past.{Moment}
use Rattle.sig_tables.specs.Tables.{listed}
use Rattle.sig_tables.specs.Calls.{is_green}
use Rattle.sig_tables.proofs.Below.{phase-is}
use Rattle.look_back.specs.declared.sample.Sample.{Sample}
use Rattle.look_back.specs.declared.sample.Look.{Look}
use Rattle.look_back.specs.declared.sample.Look.TheVariants.{Shows, Signals, Quiet, Opposed, IsIn, Serves, Dwells}
use Rattle.look_back.specs.Look.{is_so, is_told, is_due, LooksAtPhase, Tells}

-- what holds of each member alike holds of each, or not of each
pub every-same : (f g : ℕ → Bool) (xs : List ℕ) → ((q : ℕ) → f q ≡ g q) → every f xs ≡ every g xs
every-same f g [] e = refl
every-same f g (x ∷ xs) e = rw (e x, every-same f g xs e) refl

-- an octet counts if the moment shows it Green: 0 is read as phase 1, and past the last phase all is read as Green
due-green : (g : Sample) (m : Moment) → Tells g m → (q : ℕ) → is_due g.shown.green q ≡ is_green m.frame q
due-green g m tells q = elim (cases_Bool (nat_lt 16 q)) [
  | inl e ↦ let past : length m.frame.veh ≤ q - 1 = omega (arith, tells.wide, ltb-true 16 q e) in rw (e, get_or_past m.frame.veh (q - 1) Green past) refl
  | inr e ↦ rw e (within q (ltb-false 16 q e))
]
  where
    within : (p : ℕ) → p ≤ 16 → has g.shown.green p ≡ is_green m.frame p
    within zero le = tells.colours Green 1 refl
    within (suc p) le = tells.colours Green (suc p) (phase-is (suc p) (omega arith) le)

pub tells-so : (look : Look) (g : Sample) (m : Moment) → LooksAtPhase look → Tells g m → is_told look g ≡ is_so look m
tells-so (Shows p colour) g m is tells = tells.colours colour p (phase-is p is.0 is.1)
tells-so (Signals p signal) g m is tells = tells.signals signal p (phase-is p is.0 is.1)
tells-so (Quiet p) g m is tells = tells.quiet p (phase-is p is.0 is.1)
tells-so (Opposed p) g m is tells = tells.opposed p (phase-is p is.0 is.1)
tells-so (IsIn mode) g m is tells = rw tells.mode refl
tells-so (Serves i) g m is tells = rw tells.mode refl
tells-so (Dwells i goal) g m is tells =
    rw (tells.mode, tells.first, tells.second, every-same (is_due g.shown.green) (is_green m.frame) (listed goal) (due-green g m tells)) refl
