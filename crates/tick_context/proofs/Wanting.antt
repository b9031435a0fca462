-- What the rings want, from sets with room.
use Rattle.std.proofs.Common.{◌≡◌, ◌≤◌, ℕ, zero, suc, Bool, true, false, not, ◌&&◌, if◌then◌else◌, List, [], ◌∷◌, refl, sym, ◌∙◌, ap, arith}
use Rattle.sig_types.specs.Phases.{all_phases, is_in}
use Rattle.sig_types.specs.declared.phase_set.PhaseSet.{PhaseSet}
use Rattle.sig_types.specs.PhaseSet.{has, phases_of}
use Rattle.sig_types.proofs.Lists.{in-those}
use Rattle.sig_types.proofs.Sets.{in-phases, listed-phase}
use Rattle.sig_tables.specs.Layout.{Has, set_of}
use Rattle.sig_tables.specs.Modes.{bound}
use Rattle.sig_tables.specs.Coordinating.{has_room}
use Rattle.sig_tables.specs.View.{View, is_wanted}
use Rattle.ring_barrier.specs.Shows.{ArePhases}

pub wanted-room : (demand s : PhaseSet) (v : View) (k : ℕ) → phases_of demand ≡ v.demand
    → Has s (λ p. has demand p && has_room (bound v.mode) v.tables v.counter k p) → Has s (is_wanted v k)
wanted-room demand s v k d h p i =
    h p i ∙ ap (λ (b : Bool). b && has_room (bound v.mode) v.tables v.counter k p) (sym (in-phases (has demand) p i) ∙ ap (λ (xs : List ℕ). is_in xs p) d)
    ∙ asked (is_in v.demand p) (has_room (bound v.mode) v.tables v.counter k p)
  where
    asked : (a b : Bool) → (a && b) ≡ (if a then b else false)
    asked true b = refl
    asked false b = refl

-- a set has only phases
pub are-phases : (demand : PhaseSet) (phases : List ℕ) → phases_of demand ≡ phases → ArePhases phases
are-phases demand phases d q i = listed-phase q (in-those (has demand) all_phases q (ap (λ (xs : List ℕ). is_in xs q) d ∙ i)).1

-- what may join, in another order
pub joins : (x room able omit dual start : Bool) → x ≡ (room && not omit) → (b : Bool) → room ≡ (able && b) → able ≡ (dual && start)
    → x ≡ (dual && not omit && b && start)
joins x room able omit dual start e b f g = rw (e, f, g) (order dual start b omit)
  where
    order : (d s b o : Bool) → (((d && s) && b) && not o) ≡ (d && not o && b && s)
    order false s b o = refl
    order true false false false = refl
    order true false false true = refl
    order true false true false = refl
    order true false true true = refl
    order true true false false = refl
    order true true false true = refl
    order true true true false = refl
    order true true true true = refl

-- what is forced off, in another order
pub three : (x able e g f : Bool) → x ≡ (able && f) → able ≡ (e && g) → x ≡ (e && g && f)
three x able e g f h k = rw (h, k) (order e g f)
  where
    order : (a b c : Bool) → ((a && b) && c) ≡ (a && b && c)
    order true b c = refl
    order false b c = refl

-- what holds of the sets of both rings holds of each
pub each-set : (one two : PhaseSet) (test : ℕ → ℕ → Bool) → Has one (test 1) → Has two (test 2)
    → (r : ℕ) → 1 ≤ r → r ≤ 2 → Has (set_of (one ∷ two ∷ []) r) (test r)
each-set one two test h k zero least most = absurd (omega arith)
each-set one two test h k (suc zero) least most = h
each-set one two test h k (suc (suc zero)) least most = k
each-set one two test h k (suc (suc (suc r))) least most = absurd (omega arith)
