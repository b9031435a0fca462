-- From what an answer to `check` says to the answer expected for an input.
use Rattle.std.proofs.Common.{◌≡◌, ◌≤◌, ◌<◌, ◌⊎◌, ◌∙◌, inl, inr, ℕ, List, Option, Some, None, IfSome, drop, length, subst, refl, sym, ap, arith}
use Rattle.trace_check.specs.declared.faults.TraceFault.{TraceFault}
use Rattle.trace_laws.specs.Traces.{IsTrace, IsCheckable}
use Rattle.trace_laws.specs.Faults.{FirstFault, TooLong}
use Rattle.trace_laws.specs.Laws.{FaultsAreDetermined, TracesHaveNoFault, TellsOfRun}
use Rattle.trace_laws.specs.BandDriving.{BandIsGreen}
use Rattle.station.specs.declared.status.Status.{Status}
use Rattle.station.specs.declared.status.Status.TheVariants.{Done, Usage, Scenario, NotATrace, Overlap as BrokenOverlap, Unsafe, NotALog, ReadFault, WriteFault, NoMemory}
use Rattle.station.specs.Bytes.{AreInput, nothing_left}
use Rattle.station.specs.Checked.{IsTraceRead, IsNoTrace, Checked, IsCheckDue}

-- the input is too long for a trace
pub too_long_text : (left ends : Option (List ℕ)) → IfSome left (λ input. 67108864 < length input)
    → IfSome left (λ input. ends ≡ Some (drop 67108865 input)) → IsNoTrace (record { line = 0; rule = 1 }) left ends
too_long_text None ends long stopped = inl (refl, tt)
too_long_text (Some input) ends long stopped = inl (refl, (long, stopped))

-- all of the input was read, and it is a trace
pub trace_read : (left ends : Option (List ℕ)) (bytes slice : List ℕ) → AreInput left bytes → slice ≡ bytes → IsCheckable slice
    → (tells : TellsOfRun slice) → BandIsGreen slice tells → ends ≡ nothing_left left → IsTraceRead left ends
trace_read left ends bytes slice all same short tells bands ended = record {
  bytes = slice;
  all = subst (λ (x : List ℕ). AreInput left x) (sym same) all;
  short = short;
  tells = tells;
  bands = bands;
  ended = ended;
}

-- a text that describes a run is a trace
pub told_trace : (text : List ℕ) → TellsOfRun text → IsTrace text
told_trace text tells = (tells.scenario, tells.journals, tells.told, tells.are, tells.text_is)

module _ (faultless : TracesHaveNoFault) (one : FaultsAreDetermined) where
  due_trace : (input : List ℕ) (ends : Option (List ℕ)) → IsTraceRead (Some input) ends → IsCheckDue Done input
  due_trace input ends is =
      let short : IsCheckable input = subst IsCheckable is.all is.short in
      let trace : IsTrace input = subst IsTrace is.all (told_trace is.bytes is.tells) in
      record {
        trace = λ few text. refl;
        fault = λ fault first. absurd (faultless input fault.line fault.rule short trace first);
      }

  -- the first fault is one
  same_fault : (input : List ℕ) (fault other : TraceFault) → FirstFault input fault.line fault.rule → FirstFault input other.line other.rule → fault ≡ other
  same_fault input fault other first second =
      let same = one input fault.line fault.rule other.line other.rule first second in
      ap (λ (line : ℕ). record { line = line; rule = fault.rule }) same.0 ∙ ap (λ (rule : ℕ). record { line = other.line; rule = rule }) same.1

  due_fault : (fault : TraceFault) (input : List ℕ) → FirstFault input fault.line fault.rule → (IsCheckable input → IsTrace input → ⊥)
      → IsCheckDue (NotATrace fault) input
  due_fault fault input first none = record {
    trace = λ few trace. absurd (none few trace);
    fault = λ other second. ap NotATrace (same_fault input fault other first second);
  }

  pub due_none : (fault : TraceFault) (input : List ℕ) (ends : Option (List ℕ)) → IsNoTrace fault (Some input) ends → IsCheckDue (NotATrace fault) input
  due_none fault input ends (inl (length_fault, (long, stopped))) =
      due_fault fault input (subst (λ (f : TraceFault). FirstFault input f.line f.rule) (sym length_fault) (TooLong input long))
      (λ few trace. let short : length input ≤ 67108864 = few in omega (arith, short, long))
  due_none fault input ends (inr has) =
      let first : FirstFault input fault.line fault.rule = subst (λ (x : List ℕ). FirstFault x fault.line fault.rule) has.all has.first in
      due_fault fault input first (λ few trace. faultless input fault.line fault.rule few trace first)

  pub check-due : (status : Status) (left ends : Option (List ℕ)) (unread : Type 0) → Checked status left ends unread → ¬ unread
      → IfSome left (λ input. IsCheckDue status input ⊎ (status ≡ NoMemory))
  check-due status None ends unread is sound = tt
  check-due Done (Some input) ends unread is sound = inl (due_trace input ends is)
  check-due Usage (Some input) ends unread is sound = absurd is
  check-due (Scenario refusal) (Some input) ends unread is sound = absurd is
  check-due (NotATrace fault) (Some input) ends unread is sound = inl (due_none fault input ends is)
  check-due (BrokenOverlap fault) (Some input) ends unread is sound = absurd is
  check-due Unsafe (Some input) ends unread is sound = absurd is
  check-due (NotALog fault) (Some input) ends unread is sound = absurd is
  check-due ReadFault (Some input) ends unread is sound = absurd (sound is)
  check-due WriteFault (Some input) ends unread is sound = absurd is
  check-due NoMemory (Some input) ends unread is sound = inr refl
