-- A link that changes no octet carries what asks only for parts of loads.
use Rattle.std.proofs.Common.{◌≡◌, ◌+◌, ◌∙◌, ◌==◌, ◌&&◌, not, if◌then◌else◌, ℕ, Bool, true, false, List, [], ◌∷◌, ◌++◌, length, take, drop, Option, Some, None, IfSome, refl, sym, ap, subst, take-append-drop, append-nil}
use Rattle.std.specs.List.{find, AllByRecursion}
use Rattle.std.proofs.lemmas.Bool.{and_parts}
use Rattle.sig_types.specs.Items.{Came}
use Rattle.scenario_data.specs.declared.scenario.Direction.{Direction}
use Rattle.scenario_data.specs.declared.scenario.Direction.TheVariants.{Down, Up}
use Rattle.scenario_data.specs.declared.scenario.Fault.{Fault}
use Rattle.scenario_data.specs.declared.scenario.FaultKind.{FaultKind}
use Rattle.scenario_data.specs.declared.scenario.FaultKind.TheVariants.{Lose, Repeat, Late, Flip, Cut}
use Rattle.scenario_data.specs.Content.{ScenarioContent}
use Rattle.link_sim.specs.declared.Line.{Line}
use Rattle.link_sim.specs.Faults.{same_way, same_direction, meets, fault_of, at_once, copy_after, arriving, copied}
use Rattle.link_sim.specs.Carried.{arriving_from, copies_from, late_copies, carried}
use Rattle.agent.specs.declared.ask.Ask.{Ask}
use Rattle.agent.specs.Asks.{ask_of, Asks}
use Rattle.judge_session.specs.Told.{load_told}
use Rattle.judged_runs.specs.Messages.{IsOwnWish, IsOwnItem, leaves}
use Rattle.judged_runs.proofs.Peeling.{cut}
use Rattle.judged_runs.proofs.Sending.{Sound, IsOwnText}

module _ (only : Bool) (s : ScenarioContent) (cab : ℕ) (sound : Sound s) where
  abbrev Own : List ℕ → Type 0
  Own text = IsOwnItem only (load_told s cab) s.community (Came text)

  abbrev AllOwn : List (List ℕ) → Type 0
  AllOwn texts = AllByRecursion Own texts

  pub both : (xs ys : List (List ℕ)) → AllOwn xs → AllOwn ys → AllOwn (xs ++ ys)
  both [] ys a b = b
  both (x ∷ xs) ys a b = (a.0, both xs ys a.1 b)

  either : (b : Bool) (xs ys : List (List ℕ)) → AllOwn xs → AllOwn ys → AllOwn (if b then xs else ys)
  either true xs ys p q = p
  either false xs ys p q = q

  -- a text that is cut is the whole text, or asks nothing
  cut-own : (n : ℕ) (text : List ℕ) → IsOwnText only s cab text → Own (take n text)
  cut-own n text o t = found (ask_of (take n text) s.community t) (sound.found (take n text) s.community t) refl
    where
      found : (r : Option Ask) → IfSome r (Asks (take n text) s.community t) → ask_of (take n text) s.community t ≡ r → IfSome r (λ ask. IsOwnWish only (load_told s cab) ask.wish)
      found None is e = tt
      found (Some ask) is e =
          let f = is.message.framed in
          let same : take n text ≡ text
          = (cut 48 (take n text) text (drop n text) [] (f.version ++ (f.community ++ f.pdu)) o.content f.whole o.tagged (take-append-drop n text ∙ sym (append-nil text))).0 in
          subst (λ (x : Option Ask). IfSome x (λ a. IsOwnWish only (load_told s cab) a.wish)) (ap (λ (x : List ℕ). ask_of x s.community t) (sym same) ∙ e) (o.own t)

  once-own : (kind : FaultKind) (by octet : ℕ) (text : List ℕ) → leaves Down kind → IsOwnText only s cab text → AllOwn (at_once kind by octet text)
  once-own Lose by octet text is o = tt
  once-own Repeat by octet text is o = (o.own, (o.own, tt))
  once-own Late by octet text is o = either (by == 0) (text ∷ text ∷ []) (text ∷ []) (o.own, (o.own, tt)) (o.own, tt)
  once-own Flip by octet text is o = absurd is
  once-own Cut by octet text is o = (cut-own by text o, tt)

  copy-own : (kind : FaultKind) (by rounds : ℕ) (text : List ℕ) → IsOwnText only s cab text → AllOwn (copy_after kind by rounds text)
  copy-own Lose by rounds text o = tt
  copy-own Repeat by rounds text o = tt
  copy-own Late by rounds text o = either ((by == rounds) && not (by == 0)) (text ∷ []) [] (o.own, tt) tt
  copy-own Flip by rounds text o = tt
  copy-own Cut by rounds text o = tt

  -- the fault that a message on the way down meets
  is-down : (way : Direction) (kind : FaultKind) → same_direction way Down ≡ true → leaves way kind → leaves Down kind
  is-down Down kind e is = is
  is-down Up kind e is = cc

  way-down : (line : Line) (round place : ℕ) (f : Fault) → line.direction ≡ Down → meets line round place f ≡ true → same_direction f.way Down ≡ true
  way-down line round place f down e =
      let a = and_parts (f.round == round && f.cabinet == line.cab && same_way f.stream line.way && same_direction f.way line.direction) (f.index == place) e in
      let d = and_parts (f.round == round && f.cabinet == line.cab && same_way f.stream line.way) (same_direction f.way line.direction) a.0 in
      subst (λ (w : Direction). same_direction f.way w ≡ true) down d.1

  find-leaves : (line : Line) (round place : ℕ) (faults : List Fault) → line.direction ≡ Down → AllByRecursion (λ f. leaves f.way f.kind) faults
      → IfSome (find (meets line round place) faults) (λ f. leaves Down f.kind)
  find-leaves line round place [] down all = tt
  find-leaves line round place (f ∷ faults) down all = split (meets line round place f) refl (find-leaves line round place faults down all.1)
    where
      split : (b : Bool) → meets line round place f ≡ b → IfSome (find (meets line round place) faults) (λ g. leaves Down g.kind)
          → IfSome (if b then Some f else find (meets line round place) faults) (λ g. leaves Down g.kind)
      split true e rest = is-down f.way f.kind (way-down line round place f down e) all.0
      split false e rest = rest

  arriving-own : (found : Option Fault) (text : List ℕ) → IfSome found (λ f. leaves Down f.kind) → IsOwnText only s cab text → AllOwn (arriving found text)
  arriving-own None text is o = (o.own, tt)
  arriving-own (Some f) text is o = once-own f.kind f.by f.octet text is o

  copied-own : (found : Option Fault) (rounds : ℕ) (text : List ℕ) → IsOwnText only s cab text → AllOwn (copied found rounds text)
  copied-own None rounds text o = tt
  copied-own (Some f) rounds text o = copy-own f.kind f.by rounds text o

  module _ (line : Line) (down : line.direction ≡ Down) (faults : List Fault) (all : AllByRecursion (λ f. leaves f.way f.kind) faults) where
    arrivals-own : (round place : ℕ) (texts : List (List ℕ)) → AllByRecursion (IsOwnText only s cab) texts → AllOwn (arriving_from faults line round place texts)
    arrivals-own round place [] own = tt
    arrivals-own round place (text ∷ texts) own =
        both (arriving (fault_of faults line round place) text) (arriving_from faults line round (place + 1) texts)
        (arriving-own (fault_of faults line round place) text (find-leaves line round place faults down all) own.0)
        (arrivals-own round (place + 1) texts own.1)

    copies-own : (round rounds place : ℕ) (texts : List (List ℕ)) → AllByRecursion (IsOwnText only s cab) texts → AllOwn (copies_from faults line round rounds place texts)
    copies-own round rounds place [] own = tt
    copies-own round rounds place (text ∷ texts) own =
        both (copied (fault_of faults line round place) rounds text) (copies_from faults line round rounds (place + 1) texts)
        (copied-own (fault_of faults line round place) rounds text own.0)
        (copies-own round rounds (place + 1) texts own.1)

    late-own : (rounds : ℕ) (sent : List (List (List ℕ))) → AllByRecursion (AllByRecursion (IsOwnText only s cab)) sent → AllOwn (late_copies faults line rounds sent)
    late-own rounds [] own = tt
    late-own rounds (texts ∷ before) own =
        both (late_copies faults line (rounds + 1) before) (copies_from faults line (length before + 1) rounds 0 texts)
        (late-own (rounds + 1) before own.1) (copies-own (length before + 1) rounds 0 texts own.0)

    pub carried-own : (sent : List (List (List ℕ))) → AllByRecursion (AllByRecursion (IsOwnText only s cab)) sent → AllOwn (carried faults line sent)
    carried-own [] own = tt
    carried-own (texts ∷ before) own =
        both (arriving_from faults line (length before + 1) 0 texts) (late_copies faults line 1 before)
        (arrivals-own (length before + 1) 0 texts own.0) (late-own 1 before own.1)
