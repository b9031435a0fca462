-- What holds for the pattern that binds, from the options that are handed in.
use Rattle.std.proofs.Common.{◌≡◌, ℕ, Option, Some, None, subst}
use Rattle.std.specs.Borrow.{Bor}
use Rattle.sig_tables.specs.declared.tables.Tables.{Tables}
use Rattle.pattern_plan.specs.declared.split_options.SplitOptions.{SplitOptions}
use Rattle.pattern_plan.specs.Options.{SplitSays, AreActivePattern}

-- without options what holds where no pattern binds
pub unbound : (P : Option ℕ → Type 0) (options : Option (Bor SplitOptions)) (pattern : Option ℕ) (t : Tables) → options ≡ None
    → AreActivePattern options pattern t → P None → P pattern
unbound P options None t e b x = x
unbound P options (Some n) t e b x = absurd (subst (λ (o : Option (Bor SplitOptions)). AreActivePattern o (Some n) t) e b)

-- with options what holds for a pattern whose split they say
pub bound-by : (P : Option ℕ → Type 0) (options : Option (Bor SplitOptions)) (pattern : Option ℕ) (t : Tables) (o : Bor SplitOptions)
    → options ≡ Some o → AreActivePattern options pattern t → ((n : ℕ) → SplitSays o.now t n → P (Some n)) → P pattern
bound-by P options None t o e b x = absurd (subst (λ (q : Option (Bor SplitOptions)). AreActivePattern q None t) e b)
bound-by P options (Some n) t o e b x = x n (subst (λ (q : Option (Bor SplitOptions)). AreActivePattern q (Some n) t) e b)
