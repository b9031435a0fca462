-- The backup time, by the ticks since the pattern was commanded.
use Rattle.std.proofs.Common.{◌≡◌, ◌≢◌, ◌<◌, ◌≤◌, ◌+◌, ◌-◌, ◌*◌, min, ℕ, Bool, true, false, not, ◌&&◌, nat_le, if◌then◌else◌}
use Rattle.std.proofs.Common.{List, refl, sym, ◌∙◌, ap, arith, inl, inr}
use Rattle.std.proofs.lemmas.Bool.{cases_Bool, leb-true, leb-false, le-leb, lt-leb}
use Rattle.sig_tables.specs.Past.{Past, Moment}
use Rattle.sig_tables.specs.Looking.{in_a_row}
use Rattle.sig_tables.specs.Command.{is_commanded, is_backed_up}
use Rattle.sig_tables.proofs.Lasting.{lasts_now-counted}
use Rattle.tick_context.specs.UnitCommands.{ticks_since}

-- a bound within the numbers that are counted is reached where the count reaches it
reached : (n count : ℕ) → n < 4294967295 → nat_le n (min count 4294967295) ≡ nat_le n count
reached n count few = elim (cases_Bool (nat_le n count)) [
  | inl e ↦ let k : n ≤ count = leb-true n count e in le-leb n (min count 4294967295) (omega arith) ∙ sym e
  | inr e ↦ let k : count < n = leb-false n count e in lt-leb n (min count 4294967295) (omega arith) ∙ sym e
]

-- the ticks without a command, this one included
counted : (commanded : Bool) (past : List Moment) → ticks_since commanded past ≡ (if not commanded then in_a_row (λ m. not m.is_commanded) past + 1 else 0)
counted true past = refl
counted false past = refl

pub backed-up : (past : Past) (since : ℕ) → past.tables.unit.backup ≢ 0 → past.tables.unit.backup ≤ 65535
    → since ≡ min (ticks_since (is_commanded past.commanded) past.moments) 4294967295
    → nat_le (10 * past.tables.unit.backup - 1) since ≡ is_backed_up past.tables (is_commanded past.commanded) past.moments
backed-up past since some few is =
    ap (λ (n : ℕ). nat_le (10 * past.tables.unit.backup - 1) n) is
    ∙ reached (10 * past.tables.unit.backup - 1) _ (omega arith)
    ∙ ap (λ (n : ℕ). nat_le (10 * past.tables.unit.backup - 1) n) (counted (is_commanded past.commanded) past.moments)
    ∙ sym (lasts_now-counted (10 * past.tables.unit.backup - 1) (not (is_commanded past.commanded)) (λ m. not m.is_commanded) past.moments)
    ∙ asked (nat_le 1 past.tables.unit.backup) _ (le-leb 1 past.tables.unit.backup (omega arith))
  where
    asked : (a b : Bool) → a ≡ true → b ≡ (a && b)
    asked a b e = rw e refl
