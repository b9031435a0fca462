-- What was admitted by the rules is lawful.
use Rattle.std.proofs.Common.{◌≡◌, ◌⊎◌, inl, inr, Bool, true, false, List, [], refl}
use Rattle.std.proofs.lemmas.Bool.{false≢true}
use Rattle.sig_types.specs.declared.frame.Mode.{Mode}
use Rattle.sig_types.specs.declared.frame.Mode.TheVariants.{Flash}
use Rattle.sig_tables.specs.declared.tables.Tables.{Tables}
use Rattle.sig_tables.specs.Modes.{same_mode}
use Rattle.sig_tables.specs.Past.{Event, Install, Past, History}
use Rattle.sig_tables.specs.Looking.{last_frame}
use Rattle.sig_tables.specs.Decide.{past_of, since_opening}
use Rattle.sig_tables.proofs.Histories.{each-event}
use Rattle.rule_book.specs.Rules.{broken}
use Rattle.tick_laws.specs.Lawful.{Sound, SameLayout, IsLawfulAfter, Lawful, is_dark}
use Rattle.tick_laws.proofs.Apart.{holds}
use Rattle.tick_laws.proofs.Quiet.{each-quiet}
use Rattle.rule_facts.specs.Admitted.{is_flashing, IsAdmittedAfter, Admitted, KeepsApart}
use Rattle.rule_facts.proofs.Facts.{accepted-consistent, same-layout, sound}

-- where the cabinet flashes nothing is on
flash-dark : (mode : Mode) → same_mode mode Flash ≡ true → is_dark mode ≡ true
flash-dark Flash h = refl
flash-dark _ h = absurd (false≢true h)

-- tables that broke no rule are sound, and keep the layout, except where the cabinet flashes
lawful-tables : (t : Tables) (past : Past) (flashing : Bool) → is_flashing past ≡ flashing → broken t past.tables flashing ≡ []
    → Sound t × ((is_dark (last_frame past.moments).mode ≡ true) ⊎ SameLayout past.tables t)
lawful-tables t past true e h = (sound t (accepted-consistent t past.tables true h), inl (flash-dark (last_frame past.moments).mode e))
lawful-tables t past false e h = (sound t (accepted-consistent t past.tables false h), inr (same-layout t past.tables h))

pub lawful : (opening : Tables) (events : List Event) → Admitted opening events → Lawful opening events
lawful opening events a = (sound opening a.0, each-event (IsAdmittedAfter opening) (IsLawfulAfter opening) one events a.1)
  where
    one : (before : List Event) (e : Event) → IsAdmittedAfter opening before e → IsLawfulAfter opening before e
    one before (Install t) h = lawful-tables t (past_of opening before) (is_flashing (past_of opening before)) refl h
    one before _ h = tt

pub apart : (h : History) → Admitted h.tables (since_opening h) → KeepsApart h
apart h a =
    let l : Lawful h.tables (since_opening h) = lawful h.tables (since_opening h) a in
    let k = holds h.tables (since_opening h) l in
    record { apart = k.apart; one = k.one; enabled = k.enabled; quiet = each-quiet h.tables (since_opening h) l }
