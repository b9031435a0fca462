-- The tables of each moment are those of the version of its frame.
use Rattle.std.proofs.Common.{◌≡◌, ◌≢◌, ◌<◌, ◌≤◌, ◌+◌, ◌==◌, ℕ, false, if◌then◌else◌, List, [], ◌∷◌, length, refl, ◌∙◌, arith}
use Rattle.std.proofs.lemmas.Bool.{ne_eqb, eq-eqb}
use Rattle.sig_tables.specs.declared.tables.Tables.{Tables}
use Rattle.sig_tables.specs.Past.{Event, Tick, Install, Moment, Past}
use Rattle.sig_tables.specs.Decide.{past_of}
use Rattle.tick_laws.specs.Each.{EachMoment}
use Rattle.safety_laws.specs.Written.{version_tables}
use Rattle.safety_laws.proofs.Intervals.{HasTables}

-- each frame is of one of the versions so far
abbrev pub Within : ℕ → List Moment → Type 0
Within version moments = EachMoment (λ past m. m.frame.version ≤ version) moments

within-more : (version : ℕ) (moments : List Moment) → Within version moments → Within (version + 1) moments
within-more version [] h = tt
within-more version (m ∷ past) h = let l : m.frame.version ≤ version = h.0 in (omega arith, within-more version past h.1)

-- tables of a further version change nothing
install : (tables : ℕ → Tables) (t : Tables) (version : ℕ) (moments : List Moment) → Within version moments → HasTables tables moments
    → HasTables (λ v. if v == version + 1 then t else tables v) moments
install tables t version [] w h = tt
install tables t version (m ∷ past) w h =
    let l : m.frame.version ≤ version = w.0 in
    let other : (m.frame.version == version + 1) ≡ false = ne_eqb _ _ (let ne : m.frame.version ≢ version + 1 = omega arith in ne) in
    (rw other h.0, install tables t version past w.1 h.1)

-- the same tables at each version
pub same-tables : (one two : ℕ → Tables) → ((v : ℕ) → one v ≡ two v) → (moments : List Moment) → HasTables two moments → HasTables one moments
same-tables one two e [] h = tt
same-tables one two e (m ∷ past) h = (e m.frame.version ∙ h.0, same-tables one two e past h.1)

pub record Versions (tables : ℕ → Tables) (past : Past) : Type 0 where
  pub each : HasTables tables past.moments
  pub now : tables past.version ≡ past.tables
  pub within : Within past.version past.moments
  pub some : 0 < length past.moments

pub versions : (opening : Tables) (events : List Event) → Versions (version_tables opening events) (past_of opening events)
versions opening [] = record { each = (refl, tt); now = refl; within = (omega arith, tt); some = omega arith }
versions opening (Tick ∷ events) = ticked (versions opening events)
  where
    ticked : Versions (version_tables opening events) (past_of opening events)
        → Versions (version_tables opening (Tick ∷ events)) (past_of opening (Tick ∷ events))
    ticked v = record { each = (v.now, same-tables _ _ (λ n. refl) _ v.each); now = v.now; within = (omega arith, v.within); some = omega arith }
versions opening (Install t ∷ events) = installed (versions opening events)
  where
    installed : Versions (version_tables opening events) (past_of opening events)
        → Versions (version_tables opening (Install t ∷ events)) (past_of opening (Install t ∷ events))
    installed v = record {
      each = same-tables _ (λ n. if n == (past_of opening events).version + 1 then t else version_tables opening events n) (λ n. refl) _
          (install (version_tables opening events) t (past_of opening events).version (past_of opening events).moments v.within v.each);
      now = rw (eq-eqb ((past_of opening events).version + 1) ((past_of opening events).version + 1) refl) refl;
      within = within-more _ _ v.within;
      some = v.some;
    }
versions opening (_ ∷ events) =
    let v : Versions (version_tables opening events) (past_of opening events) = versions opening events in
    record { each = same-tables _ _ (λ n. refl) _ v.each; now = v.now; within = v.within; some = v.some }
