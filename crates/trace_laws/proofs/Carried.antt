-- The link makes octets of octets, whatever its faults do, where each turns an octet by an octet.
use Rattle.std.proofs.Common.{ℕ, zero, suc, ◌+◌, ◌<◌, ◌==◌, ◌&&◌, not, nat_lt, Bool, true, false, if◌then◌else◌, List, [], ◌∷◌, ◌++◌, length, take, get_or, set, Option, Some, None, arith}
use Rattle.std.specs.List.{find, AllByRecursion}
use Rattle.std.specs.Int.Bits.{bit_xor}
use Rattle.std.proofs.lemmas.Nat.{xor_of_8}
use Rattle.std.specs.Prelude.{IfSome}
use Rattle.snmp_msg.specs.Shortest.{AreOctets}
use Rattle.scenario_data.specs.declared.scenario.Fault.{Fault}
use Rattle.scenario_data.specs.declared.scenario.FaultKind.{FaultKind}
use Rattle.scenario_data.specs.declared.scenario.FaultKind.TheVariants.{Lose, Repeat, Late, Flip, Cut}
use Rattle.link_sim.specs.declared.Line.{Line}
use Rattle.link_sim.specs.Faults.{meets, fault_of, flipped, at_once, copy_after, arriving, copied}
use Rattle.trace_laws.specs.Items.{AllOctets, EachOctets}
use Rattle.link_sim.specs.Carried.{arriving_from, copies_from, late_copies, carried}

-- each fault turns an octet by an octet
abbrev pub TurnOctets : List Fault → Type 0
TurnOctets faults = AllByRecursion (λ f. f.octet < 256) faults

pub all-both : (xs ys : List (List ℕ)) → AllOctets xs → AllOctets ys → AllOctets (xs ++ ys)
all-both [] ys a b = b
all-both (x ∷ xs) ys a b = (a.0, all-both xs ys a.1 b)

at-place : (xs : List ℕ) (place : ℕ) → AreOctets xs → get_or xs place 0 < 256
at-place [] place all = omega arith
at-place (x ∷ xs) zero all = all.0
at-place (x ∷ xs) (suc place) all = at-place xs place all.1

set-octets : (xs : List ℕ) (place x : ℕ) → x < 256 → AreOctets xs → AreOctets (set xs place x)
set-octets [] place x low all = tt
set-octets (y ∷ xs) zero x low all = (low, all.1)
set-octets (y ∷ xs) (suc place) x low all = (all.0, set-octets xs place x low all.1)

taken-octets : (n : ℕ) (xs : List ℕ) → AreOctets xs → AreOctets (take n xs)
taken-octets zero xs all = tt
taken-octets (suc n) [] all = tt
taken-octets (suc n) (x ∷ xs) all = (all.0, taken-octets n xs all.1)

flipped-octets : (octets : List ℕ) (place octet : ℕ) → octet < 256 → AreOctets octets → AreOctets (flipped octets place octet)
flipped-octets octets place octet low all = split (nat_lt place (length octets))
  where
    turned : bit_xor (get_or octets place 0) octet < 256
    turned = xor_of_8 (get_or octets place 0) octet (at-place octets place all) low

    split : (b : Bool) → AreOctets (if b then set octets place (bit_xor (get_or octets place 0) octet) else octets)
    split true = set-octets octets place (bit_xor (get_or octets place 0) octet) turned all
    split false = all

either-all : (b : Bool) (xs ys : List (List ℕ)) → AllOctets xs → AllOctets ys → AllOctets (if b then xs else ys)
either-all true xs ys p q = p
either-all false xs ys p q = q

once-octets : (kind : FaultKind) (by octet : ℕ) (text : List ℕ) → octet < 256 → AreOctets text → AllOctets (at_once kind by octet text)
once-octets Lose by octet text low all = tt
once-octets Repeat by octet text low all = (all, (all, tt))
once-octets Late by octet text low all = either-all (by == 0) (text ∷ text ∷ []) (text ∷ []) (all, (all, tt)) (all, tt)
once-octets Flip by octet text low all = (flipped-octets text by octet low all, tt)
once-octets Cut by octet text low all = (taken-octets by text all, tt)

copy-octets : (kind : FaultKind) (by rounds : ℕ) (text : List ℕ) → AreOctets text → AllOctets (copy_after kind by rounds text)
copy-octets Lose by rounds text all = tt
copy-octets Repeat by rounds text all = tt
copy-octets Late by rounds text all = either-all ((by == rounds) && not (by == 0)) (text ∷ []) [] (all, tt) tt
copy-octets Flip by rounds text all = tt
copy-octets Cut by rounds text all = tt

found-turns : (test : Fault → Bool) (faults : List Fault) → TurnOctets faults → IfSome (find test faults) (λ f. f.octet < 256)
found-turns test [] all = tt
found-turns test (f ∷ faults) all = split (found-turns test faults all.1) (test f)
  where
    split : IfSome (find test faults) (λ f. f.octet < 256) → (b : Bool) → IfSome (if b then Some f else find test faults) (λ f. f.octet < 256)
    split rest true = all.0
    split rest false = rest

arriving-octets : (found : Option Fault) (text : List ℕ) → IfSome found (λ f. f.octet < 256) → AreOctets text → AllOctets (arriving found text)
arriving-octets None text low all = (all, tt)
arriving-octets (Some f) text low all = once-octets f.kind f.by f.octet text low all

copied-octets : (found : Option Fault) (rounds : ℕ) (text : List ℕ) → AreOctets text → AllOctets (copied found rounds text)
copied-octets None rounds text all = tt
copied-octets (Some f) rounds text all = copy-octets f.kind f.by rounds text all

arrivals-octets : (faults : List Fault) (line : Line) (round place : ℕ) (texts : List (List ℕ)) → TurnOctets faults → AllOctets texts
    → AllOctets (arriving_from faults line round place texts)
arrivals-octets faults line round place [] turn all = tt
arrivals-octets faults line round place (text ∷ texts) turn all =
    all-both (arriving (fault_of faults line round place) text) (arriving_from faults line round (place + 1) texts)
    (arriving-octets (fault_of faults line round place) text (found-turns (meets line round place) faults turn) all.0)
    (arrivals-octets faults line round (place + 1) texts turn all.1)

copies-octets : (faults : List Fault) (line : Line) (round rounds place : ℕ) (texts : List (List ℕ)) → AllOctets texts
    → AllOctets (copies_from faults line round rounds place texts)
copies-octets faults line round rounds place [] all = tt
copies-octets faults line round rounds place (text ∷ texts) all =
    all-both (copied (fault_of faults line round place) rounds text) (copies_from faults line round rounds (place + 1) texts)
    (copied-octets (fault_of faults line round place) rounds text all.0)
    (copies-octets faults line round rounds (place + 1) texts all.1)

late-octets : (faults : List Fault) (line : Line) (rounds : ℕ) (sent : List (List (List ℕ))) → EachOctets sent
    → AllOctets (late_copies faults line rounds sent)
late-octets faults line rounds [] all = tt
late-octets faults line rounds (texts ∷ before) all =
    all-both (late_copies faults line (rounds + 1) before) (copies_from faults line (length before + 1) rounds 0 texts)
    (late-octets faults line (rounds + 1) before all.1)
    (copies-octets faults line (length before + 1) rounds 0 texts all.0)

pub carried-octets : (faults : List Fault) (line : Line) (sent : List (List (List ℕ))) → TurnOctets faults → EachOctets sent
    → AllOctets (carried faults line sent)
carried-octets faults line [] turn all = tt
carried-octets faults line (texts ∷ before) turn all =
    all-both (arriving_from faults line (length before + 1) 0 texts) (late_copies faults line 1 before)
    (arrivals-octets faults line (length before + 1) 0 texts turn all.0)
    (late-octets faults line 1 before all.1)
