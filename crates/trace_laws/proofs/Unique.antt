-- What follows a front is one line, except journals; a whole run ends; and rounds by any merges begin one.
use Rattle.std.proofs.Common.{◌∙◌, inl, inr, List, [], ◌∷◌, ◌++◌, length, sym, ap, subst, append_assoc}
use Rattle.std.proofs.Common.{◌+◌}
use Rattle.trace_text.specs.declared.lines.Line.{Line}
use Rattle.trace_text.specs.declared.lines.Line.TheVariants.{Z}
use Rattle.cabinet_history.specs.Journals.{runs_of}
use Rattle.run_definition.specs.CabinetState.{opened_cabinet_states, cabinet_states_after}
use Rattle.run_definition.specs.Lines.{front_lines, rounds_lines}
use Rattle.run_definition.proofs.More.{fronts-more, continued}
use Rattle.trace_laws.specs.Traces.{IsTraceOf}
use Rattle.trace_laws.specs.Laws.{SameButJournals, DueIsDetermined, NothingFollows, RoundsAreFronts}
use Rattle.trace_laws.specs.Script.{Script, Ends, Says, Hears, Goes}
use Rattle.trace_laws.proofs.Runs.{run-path}
use Rattle.trace_laws.proofs.Faults.{place-of, step-of}

one-step : (mid b c : Script) (x y : Line) → Goes mid (x ∷ []) b → Goes mid (y ∷ []) c → SameButJournals x y
one-step Ends b c x y go on = absurd go
one-step (Says due rest) b c x y go on = inl (go.0 ∙ sym on.0)
one-step (Hears cab streams next) b c x y go on =
    let (j, is, merge, more) = go in let (k, is2, merge2, more2) = on in inr (cab, runs_of j, runs_of k, is, is2)

pub due-determined : DueIsDetermined
due-determined s before a b may also =
    let (mid, go) = place-of s before (let (rest, trace) = may in (a ∷ rest, subst (λ (x : List Line). IsTraceOf s x) (append_assoc before (a ∷ []) rest) trace)) in
    let (x, step) = step-of s before mid a go may in
    let (y, other) = step-of s before mid b go also in
    one-step mid x y a b step other

pub nothing-follows : NothingFollows
nothing-follows s lines next trace may = let (after, step) = step-of s lines Ends next (run-path s lines trace) may in step

pub rounds-are-fronts : RoundsAreFronts
rounds-are-fronts s journals begin =
    let (later, are) = continued s journals begin in
    let more : List Line = rounds_lines s (length journals + 1) (cabinet_states_after s (opened_cabinet_states s s.cabinets) journals) later in
    let end : List Line = Z s.rounds ∷ [] in (
      more ++ end,
      (
        journals ++ later,
        are,
        sym (append_assoc (front_lines s journals) more end) ∙ ap (λ (x : List Line). x ++ end) (sym (fronts-more s journals later)),
      ),
    )
