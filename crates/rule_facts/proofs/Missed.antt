-- Where the promise of the offset is not kept at the last moment, the history does not meet what coordination promises.
use Rattle.std.proofs.Common.{◌≡◌, false, sym, ◌∙◌, ap, List, [], ◌∷◌}
use Rattle.std.proofs.lemmas.Bool.{false≢true}
use Rattle.sig_tables.specs.Past.{Moment, History}
use Rattle.sig_tables.specs.Decide.{past_at}
use Rattle.plan_facts.specs.Disturbances.{Drift, no_drift, drift_of}
use Rattle.plan_facts.specs.Meets.{offset_in_time, MeetsEach, Meets}
use Rattle.rule_facts.specs.Window.{Correcting, at_end}

pub late-each : (d : Drift) (past : List Moment) → offset_in_time d past ≡ false → ¬ MeetsEach d past
late-each d [] late each = false≢true (sym late)
late-each d (m ∷ past) late each = false≢true (sym late ∙ (each.0).offset)

-- of a history whose clock keeps time
pub late-misses : (h : History) (b : Correcting) → at_end h ≡ b → b.in_time ≡ false → drift_of (past_at h) ≡ no_drift → ¬ Meets h
late-misses h b e missed even each =
    let late : offset_in_time no_drift (past_at h).moments ≡ false = ap (λ (x : Correcting). x.in_time) e ∙ missed in
    late-each (drift_of (past_at h)) (past_at h).moments (rw even late) each
