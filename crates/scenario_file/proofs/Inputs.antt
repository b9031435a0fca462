-- Plain inputs: a member that is put goes to its place, and the object of an input says it, without fault.
use Rattle.std.proofs.Common.{◌≡◌, ◌≤◌, ℕ, Bool, List, [], ◌++◌, codes, Option, Some, None, Less, Equal, Greater, nat_cmp, refl, sym, ap, ◌∙◌, le-leb, arith}
use Rattle.std.specs.Cmp.Lexicographic.{slice_cmp}
use Rattle.serde_json.specs.Data.{Data, number, boolean, unsigned, object, Members, no_members, member, put}
use Rattle.sig_types.specs.declared.frame.Field.{Field}
use Rattle.sig_types.specs.declared.frame.Field.TheVariants.{Veh, Ped, Preempt}
use Rattle.scenario_data.specs.declared.scenario.Input.{Input}
use Rattle.scenario_read.specs.Paths.{Step, then_named}
use Rattle.scenario_read.specs.Kinds.{Fit, Fits as Fitting, fault_at, within}
use Rattle.scenario_read.specs.Table.{round, cabinet_number, number_at}
use Rattle.scenario_read.specs.Content.{input_of}
use Rattle.scenario_read.specs.Sorted.{Below}
use Rattle.scenario_read.proofs.NameOrder.{put-below}
use Rattle.scenario_file.specs.declared.plain.NumberName.{NumberName}
use Rattle.scenario_file.specs.declared.plain.Plain.{Plain}
use Rattle.scenario_file.specs.Listing.{any_input, Within}
use Rattle.scenario_file.specs.Plain.{number_name, number_then, flag_then, plain_members, input_members, Fits, FieldFits, InputFits}

-- ---- a member goes to its place

below-number : (name other : List ℕ) (o : Option ℕ) (ms : Members) → slice_cmp nat_cmp name other ≡ Less → Below name ms → Below name (number_then other o ms)
below-number name other None ms less rest = rest
below-number name other (Some n) ms less rest = (less, rest)

below-flag : (name other : List ℕ) (o : Option Bool) (ms : Members) → slice_cmp nat_cmp name other ≡ Less → Below name ms → Below name (flag_then other o ms)
below-flag name other None ms less rest = rest
below-flag name other (Some b) ms less rest = (less, rest)

here-number : (name : List ℕ) (d : Data) (o : Option ℕ) (ms : Members) → slice_cmp nat_cmp name name ≡ Equal → Below name ms → put name d (number_then name o ms) ≡ member name d ms
here-number name d None ms same rest = put-below name d ms rest
here-number name d (Some n) ms same rest = rw same refl

here-flag : (name : List ℕ) (d : Data) (o : Option Bool) (ms : Members) → slice_cmp nat_cmp name name ≡ Equal → Below name ms → put name d (flag_then name o ms) ≡ member name d ms
here-flag name d None ms same rest = put-below name d ms rest
here-flag name d (Some b) ms same rest = rw same refl

past-number : (name other : List ℕ) (d : Data) (o : Option ℕ) (ms now : Members) → slice_cmp nat_cmp name other ≡ Greater → put name d ms ≡ now → put name d (number_then other o ms) ≡ number_then other o now
past-number name other d None ms now more rest = rest
past-number name other d (Some n) ms now more rest = rw more (ap (member other (number (unsigned n))) rest)

past-flag : (name other : List ℕ) (d : Data) (o : Option Bool) (ms now : Members) → slice_cmp nat_cmp name other ≡ Greater → put name d ms ≡ now → put name d (flag_then other o ms) ≡ flag_then other o now
past-flag name other d None ms now more rest = rest
past-flag name other d (Some b) ms now more rest = rw more (ap (member other (boolean b)) rest)

-- a member that goes to its place by the name of a number
pub at-name : (name known : NumberName) (d : Data) (ms now : Members) → name ≡ known → put (number_name known) d ms ≡ now → now ≡ put (number_name name) d ms
at-name name known d ms now is e = sym e ∙ ap (λ n. put (number_name n) d ms) (sym is)

-- the members from each name on
abbrev from_veh : Plain → Members
from_veh p = number_then (codes "veh") p.veh no_members

abbrev from_round : Plain → Members
from_round p = number_then (codes "round") p.round (from_veh p)

abbrev from_preempt : Plain → Members
from_preempt p = number_then (codes "preempt") p.preempt (from_round p)

abbrev from_ped : Plain → Members
from_ped p = number_then (codes "ped") p.ped (from_preempt p)

abbrev from_on : Plain → Members
from_on p = flag_then (codes "on") p.on (from_ped p)

behind-ped : (name : List ℕ) (d : Data) (p : Plain) (now : Members) → slice_cmp nat_cmp name (codes "cabinet") ≡ Greater → slice_cmp nat_cmp name (codes "on") ≡ Greater
    → put name d (from_ped p) ≡ now → put name d (plain_members p) ≡ number_then (codes "cabinet") p.cabinet (flag_then (codes "on") p.on now)
behind-ped name d p now cabinet on rest =
    past-number name (codes "cabinet") d p.cabinet (from_on p) (flag_then (codes "on") p.on now) cabinet (past-flag name (codes "on") d p.on (from_ped p) now on rest)

behind-round : (name : List ℕ) (d : Data) (p : Plain) (now : Members) → slice_cmp nat_cmp name (codes "ped") ≡ Greater → slice_cmp nat_cmp name (codes "preempt") ≡ Greater
    → put name d (from_round p) ≡ now → put name d (from_ped p) ≡ number_then (codes "ped") p.ped (number_then (codes "preempt") p.preempt now)
behind-round name d p now ped preempt rest =
    past-number name (codes "ped") d p.ped (from_preempt p) (number_then (codes "preempt") p.preempt now) ped (past-number name (codes "preempt") d p.preempt (from_round p) now preempt rest)

from-round-above : (name : List ℕ) (p : Plain) → slice_cmp nat_cmp name (codes "round") ≡ Less → slice_cmp nat_cmp name (codes "veh") ≡ Less → Below name (from_round p)
from-round-above name p round veh = below-number name (codes "round") p.round (from_veh p) round (below-number name (codes "veh") p.veh no_members veh tt)

from-preempt-above : (name : List ℕ) (p : Plain) → slice_cmp nat_cmp name (codes "preempt") ≡ Less → slice_cmp nat_cmp name (codes "round") ≡ Less → slice_cmp nat_cmp name (codes "veh") ≡ Less
    → Below name (from_preempt p)
from-preempt-above name p preempt round veh = below-number name (codes "preempt") p.preempt (from_round p) preempt (from-round-above name p round veh)

from-ped-above : (name : List ℕ) (p : Plain) → slice_cmp nat_cmp name (codes "ped") ≡ Less → slice_cmp nat_cmp name (codes "preempt") ≡ Less → slice_cmp nat_cmp name (codes "round") ≡ Less
    → slice_cmp nat_cmp name (codes "veh") ≡ Less → Below name (from_ped p)
from-ped-above name p ped preempt round veh = below-number name (codes "ped") p.ped (from_preempt p) ped (from-preempt-above name p preempt round veh)

pub put-cabinet : (p : Plain) (n : ℕ) → put (codes "cabinet") (number (unsigned n)) (plain_members p) ≡ number_then (codes "cabinet") (Some n) (from_on p)
put-cabinet p n =
    here-number (codes "cabinet") (number (unsigned n)) p.cabinet (from_on p) refl
    (below-flag (codes "cabinet") (codes "on") p.on (from_ped p) refl (from-ped-above (codes "cabinet") p refl refl refl refl))

pub put-on : (p : Plain) (b : Bool) → put (codes "on") (boolean b) (plain_members p) ≡ number_then (codes "cabinet") p.cabinet (flag_then (codes "on") (Some b) (from_ped p))
put-on p b =
    past-number (codes "on") (codes "cabinet") (boolean b) p.cabinet (from_on p) (flag_then (codes "on") (Some b) (from_ped p)) refl
    (here-flag (codes "on") (boolean b) p.on (from_ped p) refl (from-ped-above (codes "on") p refl refl refl refl))

pub put-ped : (p : Plain) (n : ℕ) → put (codes "ped") (number (unsigned n)) (plain_members p)
    ≡ number_then (codes "cabinet") p.cabinet (flag_then (codes "on") p.on (number_then (codes "ped") (Some n) (from_preempt p)))
put-ped p n =
    behind-ped (codes "ped") (number (unsigned n)) p _ refl refl
    (here-number (codes "ped") (number (unsigned n)) p.ped (from_preempt p) refl (from-preempt-above (codes "ped") p refl refl refl))

pub put-preempt : (p : Plain) (n : ℕ) → put (codes "preempt") (number (unsigned n)) (plain_members p)
    ≡ number_then (codes "cabinet") p.cabinet (flag_then (codes "on") p.on (number_then (codes "ped") p.ped (number_then (codes "preempt") (Some n) (from_round p))))
put-preempt p n =
    behind-ped (codes "preempt") (number (unsigned n)) p _ refl refl
    (past-number (codes "preempt") (codes "ped") (number (unsigned n)) p.ped (from_preempt p) (number_then (codes "preempt") (Some n) (from_round p)) refl
    (here-number (codes "preempt") (number (unsigned n)) p.preempt (from_round p) refl (from-round-above (codes "preempt") p refl refl)))

pub put-round : (p : Plain) (n : ℕ) → put (codes "round") (number (unsigned n)) (plain_members p)
    ≡ number_then (codes "cabinet") p.cabinet
    (flag_then (codes "on") p.on (number_then (codes "ped") p.ped (number_then (codes "preempt") p.preempt (number_then (codes "round") (Some n) (from_veh p)))))
put-round p n =
    let d = number (unsigned n) in
    behind-ped (codes "round") d p _ refl refl (behind-round (codes "round") d p _ refl refl
    (here-number (codes "round") d p.round (from_veh p) refl (below-number (codes "round") (codes "veh") p.veh no_members refl tt)))

pub put-veh : (p : Plain) (n : ℕ) → put (codes "veh") (number (unsigned n)) (plain_members p)
    ≡ number_then (codes "cabinet") p.cabinet
    (flag_then (codes "on") p.on (number_then (codes "ped") p.ped (number_then (codes "preempt") p.preempt (number_then (codes "round") p.round (number_then (codes "veh") (Some n) no_members)))))
put-veh p n =
    let d = number (unsigned n) in
    behind-ped (codes "veh") d p _ refl refl (behind-round (codes "veh") d p _ refl refl
    (past-number (codes "veh") (codes "round") d p.round (from_veh p) (number_then (codes "veh") (Some n) no_members) refl
    (here-number (codes "veh") d p.veh no_members refl tt)))

-- ---- the object of an input says it, without fault

pub says : (i : Input) → input_of 86400 64 (object (input_members i)) ≡ i
says i = at i.round i.cabinet i.field
  where
    at : (r k : ℕ) (field : Field) → input_of 86400 64 (object (input_members record { round = r; cabinet = k; field = field })) ≡ record { round = r; cabinet = k; field = field }
    at r k (Veh phase b) = refl
    at r k (Ped phase) = refl
    at r k (Preempt n b) = refl

fitting : (most n : ℕ) → Fits most n → within 1 most n ≡ Fitting
fitting most n fits = rw (le-leb 1 n fits.0, le-leb n most fits.1) refl

no-faults : (a b c : Fit) (of-a of-b of-c : List Step) → a ≡ Fitting → b ≡ Fitting → c ≡ Fitting → [] ++ ((fault_at of-a a ++ (fault_at of-b b ++ [])) ++ (fault_at of-c c ++ [])) ≡ []
no-faults a b c of-a of-b of-c first second third = rw (first, second, third) refl

pub faultless : (i : Input) (path : List Step) → InputFits i → any_input path (object (input_members i)) ≡ []
faultless i path fits = at i.round i.cabinet i.field (fitting 86400 i.round fits.round) (fitting 64 i.cabinet fits.cabinet) fits.field
  where
    at : (r k : ℕ) (field : Field) → within 1 86400 r ≡ Fitting → within 1 64 k ≡ Fitting → FieldFits field → any_input path (object (input_members record { round = r; cabinet = k; field = field })) ≡ []
    at r k (Veh phase b) e f fits =
        no-faults (within 1 86400 r) (within 1 64 k) (within 1 16 phase) (then_named path (codes "round")) (then_named path (codes "cabinet")) (then_named path (codes "veh")) e f (fitting 16 phase fits)
    at r k (Ped phase) e f fits =
        no-faults (within 1 86400 r) (within 1 64 k) (within 1 16 phase) (then_named path (codes "round")) (then_named path (codes "cabinet")) (then_named path (codes "ped")) e f (fitting 16 phase fits)
    at r k (Preempt n b) e f fits =
        no-faults (within 1 86400 r) (within 1 64 k) (within 1 8 n) (then_named path (codes "round")) (then_named path (codes "cabinet")) (then_named path (codes "preempt")) e f (fitting 8 n fits)

pub asks-within : (i : Input) (version : ℕ) → Within (codes "inputs") record { round = i.round; cabinet = i.cabinet; version = version } (object (input_members i))
asks-within i version =
    let d = object (input_members i) in
    let in-round : number_at (round 86400) d ≡ i.round = ap (λ (j : Input). j.round) (says i) in
    let at-cabinet : number_at (cabinet_number 64) d ≡ i.cabinet = ap (λ (j : Input). j.cabinet) (says i) in
    (same-below _ _ in-round, same-below _ _ at-cabinet)
  where
    same-below : (a b : ℕ) → a ≡ b → a ≤ b
    same-below a b e = omega (arith, e)
