-- The reading of a text from place to place.
use Rattle.std.proofs.Common.{◌≡◌, [], Result, Ok, Err, OnOk, sym, subst}
use Rattle.trace_laws.specs.Script.{Script, Ends}
use Rattle.trace_laws.proofs.Walking.{walks-none, walks-on}
use Rattle.trace_check.specs.declared.faults.CheckFail.{CheckFail}
use Rattle.trace_check.specs.declared.faults.CheckFail.TheVariants.{NoMemory}
use Rattle.trace_check.specs.declared.places.Place.{Place}
use Rattle.trace_check.specs.Reading.{Fails, Leads, ReadsWhole}
use Rattle.trace_check.specs.Expecting.{fails-on}

-- no line
pub leads-here : (a : Script) (at : Place) → Leads a at a at
leads-here a at = walks-none a at.left.now at.line

-- one way and then another
pub leads-on : (a b c : Script) (at mid next : Place) → Leads a at b mid → Leads b mid c next → Leads a at c next
leads-on a b c at mid next w v = walks-on a b c at.left.now mid.left.now next.left.now at.line mid.line next.line w v

pub whole-on : (a b : Script) (at mid : Place) (result : Result (Unit {0}) CheckFail) → Leads a at b mid → ReadsWhole b mid result → ReadsWhole a at result
whole-on a b at mid (Ok done) w reads = let (next, v) = reads in (next, walks-on a b Ends at.left.now mid.left.now [] at.line mid.line next w v)
whole-on a b at mid (Err fail) w reads = fails-on a b at mid fail w reads

-- of lack of memory nothing is said
pub fails-none : (due : Script) (at : Place) (fail : CheckFail) → fail ≡ NoMemory → Fails due at fail
fails-none due at fail is = subst (λ (x : CheckFail). Fails due at x) (sym is) tt

-- what holds however it ends
pub when-ok : {A : Type 0} {P : Type 0} (result : Result A CheckFail) → P → OnOk result P
when-ok (Ok given) holds = holds
when-ok (Err fail) holds = tt

pub so-ok : {A P Q : Type 0} (result : Result A CheckFail) → OnOk result P → (P → Q) → OnOk result Q
so-ok (Ok given) holds next = next holds
so-ok (Err fail) holds next = tt
