-- Of the tables of all versions a safe street asks for those of versions that are shown.
use Rattle.std.proofs.Common.{◌≡◌, ℕ, ◌+◌, ◌≤◌, true, false, sym, subst}
use Rattle.sig_tables.specs.declared.tables.Tables.{Tables}
use Rattle.sig_tables.specs.Tables.{is_enabled, least_green, yellow_time, red_clear_time, walk_time, pedestrian_clear_time}
use Rattle.sig_tables.specs.Sides.{are_incompatible}
use Rattle.safety_laws.specs.Safe.{Indications, Intersection, Safe, colour_at, signal_at, mode_at, makes_way_for, green_due, walk_due, clearance_due, next_colour, next_signal}

module _ (tables other : ℕ → Tables) (shown : ℕ → Indications) (e : (tick : ℕ) → tables (shown tick).version ≡ other (shown tick).version) where
  abbrev s : Intersection
  s = record { tables = tables; shown = shown }

  abbrev o : Intersection
  o = record { tables = other; shown = shown }

  -- a fact of the tables in force at a tick
  at : (P : Tables → Type 0) (tick : ℕ) → P (tables (shown tick).version) → P (other (shown tick).version)
  at P tick h = subst P (e tick) h

  back : (P : Tables → Type 0) (tick : ℕ) → P (other (shown tick).version) → P (tables (shown tick).version)
  back P tick h = subst P (sym (e tick)) h

  -- of those at two ticks
  both : (P : Tables → Tables → Type 0) (first end : ℕ) → P (tables (shown first).version) (tables (shown end).version) → P (other (shown first).version) (other (shown end).version)
  both P first end h = at (λ x. P x (other (shown end).version)) first (at (λ y. P (tables (shown first).version) y) end h)

  pub only-shown : Safe s → Safe o
  only-shown safe = record {
    apart = λ t. record {
      colours = λ p q h. (safe.apart t).colours p q (back (λ x. are_incompatible x p q ≡ true) t h);
      signals = λ p q h. (safe.apart t).signals p q (back (λ x. are_incompatible x p q ≡ true) t h);
      disabled = λ p ph h. (safe.apart t).disabled p ph (back (λ x. is_enabled x p ≡ false) t h);
    };
    follows = λ p t ph. record {
      colour = λ ne. at (λ x. colour_at s p (t + 1) ≡ next_colour x p (colour_at s p t)) (t + 1) ((safe.follows p t ph).colour ne);
      signal = λ ne. at (λ x. signal_at s p (t + 1) ≡ next_signal x (mode_at s (t + 1)) p (signal_at s p t)) (t + 1) ((safe.follows p t ph).signal ne);
    };
    lasts = λ p first end ph. record {
      yellow = λ i. at (λ x. end ≡ first + yellow_time x p) first ((safe.lasts p first end ph).yellow i);
      clear = λ i. at (λ x. end ≡ first + red_clear_time x p) first ((safe.lasts p first end ph).clear i);
      green = λ i. both (λ x y. first + green_due (makes_way_for y (mode_at s end) p) (least_green x p) ≤ end) first end ((safe.lasts p first end ph).green i);
      walk = λ i. both (λ x y. (first + walk_due (makes_way_for y (mode_at s end) p) (walk_time x p) ≤ end) × (end ≤ first + walk_time x p)) first end
          ((safe.lasts p first end ph).walk i);
      flash = λ i. both (λ x y. (first + clearance_due (makes_way_for y (mode_at s end) p) (pedestrian_clear_time x p) ≤ end) × (end ≤ first + pedestrian_clear_time x p)) first end
          ((safe.lasts p first end ph).flash i);
    };
    on_green = λ p t ph. safe.on_green p t ph;
  }
