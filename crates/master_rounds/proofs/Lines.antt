-- How much a line carries: a fault meets one frame of the line, so there are no more late copies than faults.
use Rattle.std.proofs.Common.{◌≡◌, ◌≢◌, ℕ, ◌+◌, ◌*◌, ◌<◌, ◌≤◌, ◌==◌, ◌&&◌, not, Bool, true, false, cond, List, [], ◌∷◌, ◌++◌, length, Option, Some, None, refl, ap, ◌∙◌, arith}
use Rattle.std.proofs.lemmas.Grind.{common_steps}
use Rattle.std.proofs.lemmas.Bool.Decides.{nat_tests}
use Rattle.std.proofs.lemmas.List.{length-append}
use Rattle.scenario_data.specs.declared.scenario.Fault.{Fault}
use Rattle.scenario_data.specs.declared.scenario.FaultKind.{FaultKind}
use Rattle.scenario_data.specs.declared.scenario.FaultKind.TheVariants.{Lose, Repeat, Late, Flip, Cut}
use Rattle.link_sim.specs.declared.Line.{Line}
use Rattle.link_sim.specs.Faults.{meets, fault_of, at_once, copy_after, arriving, copied}
use Rattle.link_sim.specs.Carried.{arriving_from, copies_from, late_copies}
use Rattle.master_rounds.specs.Bounds.{CarriesFew}

either : {A : Type 0} (b : Bool) (xs ys : List A) (most : ℕ) → length xs ≤ most → length ys ≤ most → length (cond b xs ys) ≤ most
either true xs ys most p q = p
either false xs ys most p q = q

-- a frame arrives at most twice
kind_twice : (kind : FaultKind) (by octet : ℕ) (text : List ℕ) → length (at_once kind by octet text) ≤ 2
kind_twice Lose by octet text = omega arith
kind_twice Repeat by octet text = omega arith
kind_twice Late by octet text = either (by == 0) (text ∷ text ∷ []) (text ∷ []) 2 (omega arith) (omega arith)
kind_twice Flip by octet text = omega arith
kind_twice Cut by octet text = omega arith

twice : (f : Option Fault) (text : List ℕ) → length (arriving f text) ≤ 2
twice None text = omega arith
twice (Some f) text = kind_twice f.kind f.by f.octet text

few_arrive : (faults : List Fault) (line : Line) (round place : ℕ) (texts : List (List ℕ)) → length (arriving_from faults line round place texts) ≤ 2 * length texts
few_arrive faults line round place [] = omega arith
few_arrive faults line round place (text ∷ texts) =
    let now = arriving (fault_of faults line round place) text in
    let later = arriving_from faults line round (place + 1) texts in
    omega (arith, twice (fault_of faults line round place) text, few_arrive faults line round (place + 1) texts, length-append now later)

-- it has at most one late copy
kind_once : (kind : FaultKind) (by rounds : ℕ) (text : List ℕ) → length (copy_after kind by rounds text) ≤ 1
kind_once Lose by rounds text = omega arith
kind_once Repeat by rounds text = omega arith
kind_once Late by rounds text = either ((by == rounds) && not (by == 0)) (text ∷ []) [] 1 (omega arith) (omega arith)
kind_once Flip by rounds text = omega arith
kind_once Cut by rounds text = omega arith

once : (f : Option Fault) (rounds : ℕ) (text : List ℕ) → length (copied f rounds text) ≤ 1
once None rounds text = omega arith
once (Some f) rounds text = kind_once f.kind f.by rounds text

-- a fault meets only the frame at its place, in its round
at_its_place : (line : Line) (round place : ℕ) (f : Fault) → meets line round place f ≡ true → f.index ≡ place
at_its_place line round place f e = grind (arith, e, nat_tests, common_steps)

in_its_round : (line : Line) (round place : ℕ) (f : Fault) → f.round ≢ round → meets line round place f ≡ false
in_its_round line round place f other = grind (arith, other, nat_tests, common_steps)

elsewhere : (line : Line) (round place : ℕ) (f : Fault) → f.index ≢ place → meets line round place f ≡ false
elsewhere line round place f other = split (meets line round place f) refl
  where
    split : (b : Bool) → meets line round place f ≡ b → b ≡ false
    split true e = absurd (other (at_its_place line round place f e))
    split false e = refl

-- a fault that meets none of these frames changes nothing of their copies
same_copies : (f : Fault) (faults : List Fault) (line : Line) (round rounds place : ℕ) (texts : List (List ℕ)) → ((k : ℕ) → place ≤ k → meets line round k f ≡ false)
    → copies_from (f ∷ faults) line round rounds place texts ≡ copies_from faults line round rounds place texts
same_copies f faults line round rounds place [] none = refl
same_copies f faults line round rounds place (text ∷ texts) none =
    ap (λ b. copied (cond b (Some f) (fault_of faults line round place)) rounds text ++ copies_from (f ∷ faults) line round rounds (place + 1) texts) (none place (omega arith))
    ∙ ap (λ rest. copied (fault_of faults line round place) rounds text ++ rest) (same_copies f faults line round rounds (place + 1) texts (λ k above. none k (omega (arith, above))))

-- with a fault more there is at most one copy more of the frames of a round
copies_more : (f : Fault) (faults : List Fault) (line : Line) (round rounds place : ℕ) (texts : List (List ℕ))
    → length (copies_from (f ∷ faults) line round rounds place texts) ≤ length (copies_from faults line round rounds place texts) + 1
copies_more f faults line round rounds place [] = omega arith
copies_more f faults line round rounds place (text ∷ texts) =
    split (copies_more f faults line round rounds (place + 1) texts) (meets line round place f) refl
  where
    now : Bool → List (List ℕ)
    now b = copied (cond b (Some f) (fault_of faults line round place)) rounds text

    later : List Fault → List (List ℕ)
    later fs = copies_from fs line round rounds (place + 1) texts

    split : length (later (f ∷ faults)) ≤ length (later faults) + 1 → (b : Bool) → meets line round place f ≡ b
        → length (now b ++ later (f ∷ faults)) ≤ length (now false ++ later faults) + 1
    split more true e =
        let here = at_its_place line round place f e in
        let same : later (f ∷ faults) ≡ later faults = same_copies f faults line round rounds (place + 1) texts (λ k above. elsewhere line round k f (omega (arith, here, above))) in
        omega (arith, once (Some f) rounds text, ap length same, length-append (now true) (later (f ∷ faults)), length-append (now false) (later faults))
    split more false e =
        omega (arith, more, length-append (now false) (later (f ∷ faults)), length-append (now false) (later faults))

-- a fault of a later round changes nothing of what these rounds left
same_late : (f : Fault) (faults : List Fault) (line : Line) (rounds : ℕ) (past : List (List (List ℕ))) → length past < f.round
    → late_copies (f ∷ faults) line rounds past ≡ late_copies faults line rounds past
same_late f faults line rounds [] later = refl
same_late f faults line rounds (texts ∷ before) later =
    ap (λ older. older ++ copies_from (f ∷ faults) line (length before + 1) rounds 0 texts) (same_late f faults line (rounds + 1) before (omega (arith, later)))
    ∙ ap (λ newer. late_copies faults line (rounds + 1) before ++ newer)
    (same_copies f faults line (length before + 1) rounds 0 texts (λ k above. in_its_round line (length before + 1) k f (omega (arith, later))))

-- with a fault more there is at most one late copy more
late_more : (f : Fault) (faults : List Fault) (line : Line) (rounds : ℕ) (past : List (List (List ℕ)))
    → length (late_copies (f ∷ faults) line rounds past) ≤ length (late_copies faults line rounds past) + 1
late_more f faults line rounds [] = omega arith
late_more f faults line rounds (texts ∷ before) = split (late_more f faults line (rounds + 1) before) (f.round == length before + 1) refl
  where
    older : List Fault → List (List ℕ)
    older fs = late_copies fs line (rounds + 1) before

    newer : List Fault → List (List ℕ)
    newer fs = copies_from fs line (length before + 1) rounds 0 texts

    split : length (older (f ∷ faults)) ≤ length (older faults) + 1 → (b : Bool) → (f.round == length before + 1) ≡ b
        → length (older (f ∷ faults) ++ newer (f ∷ faults)) ≤ length (older faults ++ newer faults) + 1
    split more true e =
        let is : f.round ≡ length before + 1 = grind (arith, e, nat_tests) in
        omega (
          arith,
          ap length (same_late f faults line (rounds + 1) before (omega (arith, is))),
          copies_more f faults line (length before + 1) rounds 0 texts,
          length-append (older (f ∷ faults)) (newer (f ∷ faults)),
          length-append (older faults) (newer faults),
        )
    split more false e =
        let other : f.round ≢ length before + 1 = grind (arith, e, nat_tests) in
        omega (
          arith,
          more,
          ap length (same_copies f faults line (length before + 1) rounds 0 texts (λ k above. in_its_round line (length before + 1) k f other)),
          length-append (older (f ∷ faults)) (newer (f ∷ faults)),
          length-append (older faults) (newer faults),
        )

-- without faults there is none
none_late : (line : Line) (rounds : ℕ) (past : List (List (List ℕ))) → length (late_copies [] line rounds past) ≡ 0
none_late line rounds [] = refl
none_late line rounds (texts ∷ before) =
    omega (arith, none_late line (rounds + 1) before, none_copied (length before + 1) 0 texts, length-append (late_copies [] line (rounds + 1) before) (copies_from [] line (length before + 1) rounds 0 texts))
  where
    none_copied : (round place : ℕ) (texts : List (List ℕ)) → length (copies_from [] line round rounds place texts) ≡ 0
    none_copied round place [] = refl
    none_copied round place (text ∷ texts) = none_copied round (place + 1) texts

few_late : (faults : List Fault) (line : Line) (rounds : ℕ) (past : List (List (List ℕ))) → length (late_copies faults line rounds past) ≤ length faults
few_late [] line rounds past = omega (arith, none_late line rounds past)
few_late (f ∷ faults) line rounds past = omega (arith, late_more f faults line rounds past, few_late faults line rounds past)

pub carries_few : (faults : List Fault) (line : Line) (texts : List (List ℕ)) (before : List (List (List ℕ))) → CarriesFew faults line texts before
carries_few faults line texts before =
    omega (
      arith,
      few_arrive faults line (length before + 1) 0 texts,
      few_late faults line 1 before,
      length-append (arriving_from faults line (length before + 1) 0 texts) (late_copies faults line 1 before),
    )
