-- From what an answer to `overlaps` says to the answer expected for an input.
use Rattle.std.proofs.Common.{◌≡◌, ◌⊎◌, inl, inr, ℕ, List, Option, Some, None, IfSome, subst, refl, sym, ap}
use Rattle.overlap_run.specs.declared.faults.OverlapFault.{OverlapFault}
use Rattle.command_words.specs.declared.command.Overlap.{Overlap}
use Rattle.overlap_report.specs.Overlaps.{TellsOverlap, BreaksRule}
use Rattle.trace_check.specs.declared.faults.TraceFault.{TraceFault}
use Rattle.trace_laws.specs.Traces.{IsTrace, IsCheckable}
use Rattle.trace_laws.specs.Laws.{FaultsAreDetermined, TracesHaveNoFault}
use Rattle.station.specs.declared.status.Status.{Status}
use Rattle.station.specs.declared.status.Status.TheVariants.{Done, Usage, Scenario, NotATrace, Overlap as BrokenOverlap, Unsafe, NotALog, ReadFault, WriteFault, NoMemory}
use Rattle.station.specs.Bytes.{AreInput, nothing_left}
use Rattle.station.specs.Io.{io}
use Rattle.station.specs.Answers.{WritesText}
use Rattle.station.specs.Checked.{IsNoTrace}
use Rattle.station.specs.Overlapped.{IsTextRead, Overlapped, IsOverlapDue}
use Rattle.station.proofs.CheckDue.{told_trace, due_none}

-- what is so of the text that was read
pub read_so : (P : List ℕ → Type 0) (left ends : Option (List ℕ)) (bytes slice : List ℕ) → AreInput left bytes → slice ≡ bytes → IsCheckable slice → P slice
    → ends ≡ nothing_left left → IsTextRead P left ends
read_so P left ends bytes slice all same short so ended = record {
  bytes = slice;
  all = subst (λ (x : List ℕ). AreInput left x) (sym same) all;
  short = short;
  so = so;
  ended = ended;
}

-- what is so of the bytes that were read is so of the input
pub of_input : (P : List ℕ → Type 0) (left : Option (List ℕ)) (bytes slice : List ℕ) → AreInput left bytes → slice ≡ bytes → P slice → IfSome left P
of_input P None bytes slice all same so = tt
of_input P (Some input) bytes slice all same so = subst P all (subst P same so)

-- the text of the overlap was written, or a prefix of it
pub told_overlap : (asked : Overlap) (status : Status) (left ends : Option (List ℕ)) (unread : Type 0) (old new : Option (List ℕ)) (unwritten : Type 0) (text : List ℕ)
    → IsTextRead (λ bytes. TellsOverlap bytes asked text) left ends → WritesText status text unwritten old new
    → Overlapped asked status (io left ends unread old new unwritten)
told_overlap asked Done left ends unread old new unwritten text is so = (text, is, so)
told_overlap asked WriteFault left ends unread old new unwritten text is so = (so.0, (text, is, so.1))
told_overlap asked Usage left ends unread old new unwritten text is so = absurd so
told_overlap asked (Scenario refusal) left ends unread old new unwritten text is so = absurd so
told_overlap asked (NotATrace fault) left ends unread old new unwritten text is so = absurd so
told_overlap asked (BrokenOverlap fault) left ends unread old new unwritten text is so = absurd so
told_overlap asked Unsafe left ends unread old new unwritten text is so = absurd so
told_overlap asked (NotALog fault) left ends unread old new unwritten text is so = absurd so
told_overlap asked ReadFault left ends unread old new unwritten text is so = absurd so
told_overlap asked NoMemory left ends unread old new unwritten text is so = absurd so

written_done : (status : Status) (old new : Option (List ℕ)) (unwritten : Type 0) (text : List ℕ) → WritesText status text unwritten old new → ¬ unwritten → status ≡ Done
written_done Done old new unwritten text so put = refl
written_done WriteFault old new unwritten text so put = absurd (put so.0)
written_done Usage old new unwritten text so put = absurd so
written_done (Scenario refusal) old new unwritten text so put = absurd so
written_done (NotATrace fault) old new unwritten text so put = absurd so
written_done (BrokenOverlap fault) old new unwritten text so put = absurd so
written_done Unsafe old new unwritten text so put = absurd so
written_done (NotALog fault) old new unwritten text so put = absurd so
written_done ReadFault old new unwritten text so put = absurd so
written_done NoMemory old new unwritten text so put = absurd so

-- the answer is the one expected for the input, or memory ran out
abbrev pub DueOrNone : Overlap → Status → Type 0 → List ℕ → Type 0
DueOrNone asked status unwritten input = IsOverlapDue asked status input unwritten ⊎ (status ≡ NoMemory)

module _ (faultless : TracesHaveNoFault) (one : FaultsAreDetermined) (asked : Overlap) (unwritten : Type 0) where
  pub due_told : (status : Status) (left ends old new : Option (List ℕ)) (text : List ℕ) → IsTextRead (λ bytes. TellsOverlap bytes asked text) left ends
      → WritesText status text unwritten old new → IfSome left (DueOrNone asked status unwritten)
  due_told status None ends old new text is so = tt
  due_told status (Some input) ends old new text is so =
      let short : IsCheckable input = subst IsCheckable is.all is.short in
      let tells : TellsOverlap input asked text = subst (λ (x : List ℕ). TellsOverlap x asked text) is.all is.so in
      inl (record {
        fault = λ fault first. absurd (faultless input fault.line fault.rule short (told_trace input tells.run) first);
        broken = λ fault few breaks. absurd (tells.unbroken fault breaks);
        done = λ few trace none put. written_done status old new unwritten text so put;
      })

  pub due_no_trace : (fault : TraceFault) (left ends : Option (List ℕ)) → IsNoTrace fault left ends → IfSome left (DueOrNone asked (NotATrace fault) unwritten)
  due_no_trace fault None ends is = tt
  due_no_trace fault (Some input) ends is =
      let due = due_none faultless one fault input ends is in
      let never : IsCheckable input → IsTrace input → ⊥ = λ few trace. let done : NotATrace fault ≡ Done = due.trace few trace in cc in
      inl (record {
        fault = λ other first. due.fault other first;
        broken = λ rule few breaks. absurd (never few (told_trace input breaks.run));
        done = λ few trace none put. absurd (never few trace);
      })

  pub due_broken : (fault : OverlapFault) (left ends : Option (List ℕ)) → IsTextRead (λ bytes. BreaksRule bytes asked fault) left ends
      → IfSome left (λ input. (other : OverlapFault) → BreaksRule input asked other → fault ≡ other) → IfSome left (DueOrNone asked (BrokenOverlap fault) unwritten)
  due_broken fault None ends is only = tt
  due_broken fault (Some input) ends is only =
      let short : IsCheckable input = subst IsCheckable is.all is.short in
      let breaks : BreaksRule input asked fault = subst (λ (x : List ℕ). BreaksRule x asked fault) is.all is.so in
      inl (record {
        fault = λ first at. absurd (faultless input first.line first.rule short (told_trace input breaks.run) at);
        broken = λ other few so. ap BrokenOverlap (only other so);
        done = λ few trace none put. absurd (none fault breaks);
      })

  -- lack of memory is always allowed as an answer
  pub due_none_left : (left : Option (List ℕ)) → IfSome left (DueOrNone asked NoMemory unwritten)
  due_none_left None = tt
  due_none_left (Some input) = inr refl
