-- The scenario in which a load is disguised can be run.
use Rattle.std.proofs.Common.{ℕ, pos, [], ◌∷◌, codes, refl, arith, inl}
use Rattle.std.specs.List.{AllByRecursion}
use Rattle.sig_tables.specs.Standard.{std8}
use Rattle.rule_book.specs.Rules.{Consistent}
use Rattle.snmp_msg.specs.Shortest.{AreOctets}
use Rattle.master_load.specs.declared.download.Step.{Step}
use Rattle.master_load.specs.declared.download.Step.TheVariants as step
use Rattle.master_load.specs.Downloads.{AreLoads}
use Rattle.runnable.specs.Octets.{PutOctets}
use Rattle.runnable.specs.Runnable.{Runnable}
use Rattle.run_definition.specs.Smallest.{smallest}
use Rattle.trace_laws.proofs.Sent.{load-frame}
use Rattle.judged_runs.specs.Rows.{yellow, load_with, yellow_frame, disguised}

public : AreOctets (codes "public")
public = (omega arith, (omega arith, (omega arith, (omega arith, (omega arith, (omega arith, tt))))))

yellow-loads : AreLoads (load_with yellow ∷ [])
yellow-loads = ((omega arith, (((omega arith, omega arith, omega arith, omega arith), omega arith), tt)), tt)

yellow-puts : AllByRecursion (λ l. PutOctets l.cells) (load_with yellow ∷ [])
yellow-puts = ((tt, tt), tt)

frame-octets : (id : ℕ) (at : Step) → AreOctets (yellow_frame id at).hex
frame-octets id at =
    (load-frame (codes "public") (load_with yellow ∷ []) (record { cab = 1; load = 1; step = at; id = pos id }) public (omega arith) yellow-loads yellow-puts).octets

pub disguised-runs : Consistent std8 → Runnable disguised
unfolding smallest disguised
disguised-runs consistent = record {
  some_rounds = omega arith;
  few_rounds = omega arith;
  some_ticks = omega arith;
  few_ticks = omega arith;
  some_cabinets = omega arith;
  few_cabinets = omega arith;
  few_inputs = omega arith;
  short = omega arith;
  can_open = (record { consistent = consistent; of_day = omega arith; slow = record { gain = inl refl; lose = inl refl; one = inl refl } }, tt);
  heard = tt;
  in_reach = tt;
  few_loads = omega arith;
  loads = ((omega arith, (((omega arith, omega arith, omega arith, omega arith), omega arith), tt)), tt);
  few_priority = omega arith;
  few_frames = omega arith;
  few_faults = omega arith;
  patterns = tt;
  octets = record {
    community = public;
    short = omega arith;
    cabinets = (tt, tt);
    loads = ((tt, tt), tt);
    priority = tt;
    frames = (frame-octets 1 step.Begin, (frame-octets 2 (step.Part 1), (frame-octets 3 step.Verify, (frame-octets 4 step.Finish, tt))));
    faults = tt;
  };
  one_line = λ k less. absurd (omega (arith, less));
}
