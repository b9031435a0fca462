-- What the line carries in the first rounds rests on the faults only of these rounds.
use Rattle.std.proofs.Common.{◌≡◌, ◌∙◌, ◌+◌, ◌<◌, ◌≤◌, ◌==◌, nat_le, ℕ, false, List, [], ◌∷◌, ◌++◌, length, Option, refl, ap, arith, leb-false, ne_eqb}
use Rattle.scenario_data.specs.declared.scenario.Fault.{Fault}
use Rattle.link_sim.specs.declared.Line.{Line}
use Rattle.link_sim.specs.Faults.{meets, fault_of, arriving, copied}
use Rattle.link_sim.specs.Carried.{arriving_from, copies_from, late_copies, carried}
use Rattle.run_definition.specs.SessionRecord.{of_rounds}
use Rattle.run_definition.proofs.SessionLists.{find-within}

-- the faults of that many first rounds
abbrev pub faults_to : ℕ → List Fault → List Fault
faults_to rounds faults = of_rounds (λ (f : Fault). f.round) rounds faults

later-misses : (rounds : ℕ) (line : Line) (round place : ℕ) → round ≤ rounds → (f : Fault) → nat_le f.round rounds ≡ false → meets line round place f ≡ false
later-misses rounds line round place within f late =
    let behind : rounds < f.round = leb-false f.round rounds late in
    let other : (f.round == round) ≡ false = ne_eqb f.round round (λ e. absurd (omega (arith, e, behind, within))) in
    rw other refl

pub fault-kept : (rounds : ℕ) (faults : List Fault) (line : Line) (round place : ℕ) → round ≤ rounds
    → fault_of (faults_to rounds faults) line round place ≡ fault_of faults line round place
fault-kept rounds faults line round place within =
    find-within (meets line round place) (λ (f : Fault). nat_le f.round rounds) (later-misses rounds line round place within) faults

arriving-kept : (rounds : ℕ) (faults : List Fault) (line : Line) (round place : ℕ) (texts : List (List ℕ)) → round ≤ rounds
    → arriving_from (faults_to rounds faults) line round place texts ≡ arriving_from faults line round place texts
arriving-kept rounds faults line round place [] within = refl
arriving-kept rounds faults line round place (text ∷ texts) within =
    ap (λ (o : Option Fault). arriving o text ++ arriving_from (faults_to rounds faults) line round (place + 1) texts) (fault-kept rounds faults line round place within)
    ∙ ap (λ (r : List (List ℕ)). arriving (fault_of faults line round place) text ++ r) (arriving-kept rounds faults line round (place + 1) texts within)

copies-kept : (rounds : ℕ) (faults : List Fault) (line : Line) (round later place : ℕ) (texts : List (List ℕ)) → round ≤ rounds
    → copies_from (faults_to rounds faults) line round later place texts ≡ copies_from faults line round later place texts
copies-kept rounds faults line round later place [] within = refl
copies-kept rounds faults line round later place (text ∷ texts) within =
    ap (λ (o : Option Fault). copied o later text ++ copies_from (faults_to rounds faults) line round later (place + 1) texts) (fault-kept rounds faults line round place within)
    ∙ ap (λ (r : List (List ℕ)). copied (fault_of faults line round place) later text ++ r) (copies-kept rounds faults line round later (place + 1) texts within)

late-kept : (rounds : ℕ) (faults : List Fault) (line : Line) (later : ℕ) (sent : List (List (List ℕ))) → length sent ≤ rounds
    → late_copies (faults_to rounds faults) line later sent ≡ late_copies faults line later sent
late-kept rounds faults line later [] within = refl
late-kept rounds faults line later (texts ∷ before) within =
    let few : length before + 1 ≤ rounds = omega (arith, within) in
    let fewer : length before ≤ rounds = omega (arith, within) in
    ap (λ (r : List (List ℕ)). r ++ copies_from (faults_to rounds faults) line (length before + 1) later 0 texts) (late-kept rounds faults line (later + 1) before fewer)
    ∙ ap (λ (r : List (List ℕ)). late_copies faults line (later + 1) before ++ r) (copies-kept rounds faults line (length before + 1) later 0 texts few)

pub carried-kept : (rounds : ℕ) (faults : List Fault) (line : Line) (sent : List (List (List ℕ))) → length sent ≤ rounds
    → carried (faults_to rounds faults) line sent ≡ carried faults line sent
carried-kept rounds faults line [] within = refl
carried-kept rounds faults line (texts ∷ before) within =
    let few : length before + 1 ≤ rounds = omega (arith, within) in
    let fewer : length before ≤ rounds = omega (arith, within) in
    ap (λ (r : List (List ℕ)). r ++ late_copies (faults_to rounds faults) line 1 before) (arriving-kept rounds faults line (length before + 1) 0 texts few)
    ∙ ap (λ (r : List (List ℕ)). arriving_from faults line (length before + 1) 0 texts ++ r) (late-kept rounds faults line 1 before fewer)
