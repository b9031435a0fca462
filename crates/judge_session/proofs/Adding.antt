-- Lines that are appended one after another, and counted.
use Rattle.std.proofs.Common.{◌≡◌, ◌∙◌, ℕ, ◌+◌, ◌-◌, ◌<◌, zero, suc, Bool, true, false, ◌&&◌, ◌==◌, eqb, nat_lt, List, [], ◌∷◌, ◌++◌, length, drop, append_assoc, append-nil, sym, ap, refl, arith, Result, Ok, Err, IfOk, OnOk}
use Rattle.std.proofs.lemmas.Bool.{eqb-true, false≢true}
use Rattle.std.proofs.Math.Bool.{beq}
use Rattle.std.proofs.lemmas.List.{length-append}
use Rattle.std.specs.Int.{bit_at}
use Rattle.sig_types.specs.Phases.{all_phases}
use Rattle.judge_laws.specs.declared.Breach.{Breach}
use Rattle.judge_laws.specs.declared.Overrun.{Overrun}
use Rattle.judge_laws.specs.Breaches.{each, found, breach_at}
use Rattle.judge_laws.specs.Overrun.{each_overruns}
use Rattle.sig_types.specs.PhaseSet.{has}
use Rattle.judge_laws.proofs.Tests.{none-found, none-append, none-each, both-of}
use Rattle.sig_types.specs.declared.phase_set.PhaseSet.{PhaseSet}
use Rattle.judge_laws.specs.declared.Clause.TheVariants.{Apart, Order, Clearance, ShortGreen, Pedestrian, OnGreen}
use Rattle.judge.specs.declared.phases.PhaseFound.{PhaseFound}
use Rattle.judge.specs.Cabinet.{listed_breaches}
use Rattle.judge_session.specs.Report.{breach_text, breaches_text, overrun_text, overruns_text}
use Rattle.judge_session.specs.Standing.{Adds}

pub breaches-append : (xs ys : List Breach) → breaches_text (xs ++ ys) ≡ breaches_text xs ++ breaches_text ys
breaches-append [] ys = refl
breaches-append (x ∷ xs) ys =
    ap (λ (t : List ℕ). breach_text x ++ t) (breaches-append xs ys) ∙ sym (append_assoc (breach_text x) (breaches_text xs) (breaches_text ys))

pub overruns-append : (xs ys : List Overrun) → overruns_text (xs ++ ys) ≡ overruns_text xs ++ overruns_text ys
overruns-append [] ys = refl
overruns-append (x ∷ xs) ys =
    ap (λ (t : List ℕ). overrun_text x ++ t) (overruns-append xs ys) ∙ sym (append_assoc (overrun_text x) (overruns_text xs) (overruns_text ys))

pub adds-none : (text : List ℕ) (count : ℕ) → Adds text text count count []
adds-none text count = record { appended = sym (append-nil text); counted = omega arith }

pub adds-one : (old new : List ℕ) (count now : ℕ) (x : Breach) → new ≡ old ++ breach_text x → now ≡ count + 1 → Adds old new count now (x ∷ [])
adds-one old new count now x e f = record {
  appended = e ∙ ap (λ (t : List ℕ). old ++ t) (sym (append-nil (breach_text x)));
  counted = f;
}

pub adds-then : (old mid new : List ℕ) (count some now : ℕ) (xs ys : List Breach) → Adds old mid count some xs → Adds mid new some now ys
    → Adds old new count now (xs ++ ys)
adds-then old mid new count some now xs ys one two = record {
  appended = two.appended ∙ ap (λ (t : List ℕ). t ++ breaches_text ys) one.appended ∙ append_assoc old (breaches_text xs) (breaches_text ys)
      ∙ ap (λ (t : List ℕ). old ++ t) (sym (breaches-append xs ys));
  counted = omega (arith, one.counted, two.counted, length-append xs ys);
}

-- of a result that is Ok
pub if-ok-then : {A E : Type 0} (P Q : A → Type 0) (r : Result A E) → ((x : A) → P x → Q x) → IfOk r P → IfOk r Q
if-ok-then P Q (Ok x) f p = f x p
if-ok-then P Q (Err e) f p = tt

pub on-ok-then : {A E : Type 0} (P Q : Type 0) (r : Result A E) → (P → Q) → OnOk r P → OnOk r Q
on-ok-then P Q (Ok x) f p = f p
on-ok-then P Q (Err e) f p = tt

-- of some breaches all but a rest were appended and counted
pub record Leaves (old new : List ℕ) (count now : ℕ) (all rest : List Breach) : Type 0 where
  pub text : old ++ breaches_text all ≡ new ++ breaches_text rest
  pub number : count + length all ≡ now + length rest

pub leaves-all : (old : List ℕ) (count : ℕ) (all : List Breach) → Leaves old old count count all all
leaves-all old count all = record { text = refl; number = refl }

pub leaves-next : (old mid new : List ℕ) (count some now : ℕ) (all left piece rest : List Breach) → left ≡ piece ++ rest
    → Leaves old mid count some all left → Adds mid new some now piece → Leaves old new count now all rest
leaves-next old mid new count some now all left piece rest split so more = record {
  text = so.text ∙ ap (λ (x : List Breach). mid ++ breaches_text x) split ∙ ap (λ (t : List ℕ). mid ++ t) (breaches-append piece rest)
      ∙ sym (append_assoc mid (breaches_text piece) (breaches_text rest)) ∙ ap (λ (t : List ℕ). t ++ breaches_text rest) (sym more.appended);
  number = omega (arith, so.number, ap (λ (x : List Breach). length x) split, length-append piece rest, more.counted);
}

pub leaves-none : (old new : List ℕ) (count now : ℕ) (all left : List Breach) → left ≡ [] → Leaves old new count now all left → Adds old new count now all
leaves-none old new count now all left none so = record {
  appended = sym (append-nil new) ∙ ap (λ (x : List Breach). new ++ breaches_text x) (sym none) ∙ sym so.text;
  counted = omega (arith, so.number, ap (λ (x : List Breach). length x) none);
}

-- of some intervals all but a rest were appended
abbrev pub LeavesOver : List ℕ → List ℕ → List Overrun → List Overrun → Type 0
LeavesOver old new all rest = old ++ overruns_text all ≡ new ++ overruns_text rest

pub over-next : (old mid new : List ℕ) (all left piece rest : List Overrun) → left ≡ piece ++ rest
    → LeavesOver old mid all left → new ≡ mid ++ overruns_text piece → LeavesOver old new all rest
over-next old mid new all left piece rest split so more =
    so ∙ ap (λ (x : List Overrun). mid ++ overruns_text x) split ∙ ap (λ (t : List ℕ). mid ++ t) (overruns-append piece rest)
    ∙ sym (append_assoc mid (overruns_text piece) (overruns_text rest)) ∙ ap (λ (t : List ℕ). t ++ overruns_text rest) (sym more)

pub over-none : (old new : List ℕ) (all left : List Overrun) → left ≡ [] → LeavesOver old new all left → new ≡ old ++ overruns_text all
over-none old new all left none so = sym (append-nil new) ∙ ap (λ (x : List Overrun). new ++ overruns_text x) (sym none) ∙ sym so

-- one after another
pub over-then : (old mid new : List ℕ) (xs ys : List Overrun) → mid ≡ old ++ overruns_text xs → new ≡ mid ++ overruns_text ys → new ≡ old ++ overruns_text (xs ++ ys)
over-then old mid new xs ys one two = two ∙ ap (λ (t : List ℕ). t ++ overruns_text ys) one ∙ append_assoc old (overruns_text xs) (overruns_text ys)
    ∙ ap (λ (t : List ℕ). old ++ t) (sym (overruns-append xs ys))

-- the phases from this place on: one, and those after it
pub phase-next : (k : ℕ) → k < 16 → drop k all_phases ≡ (k + 1) ∷ drop (k + 1) all_phases
phase-next zero h = refl
phase-next (suc zero) h = refl
phase-next (suc (suc zero)) h = refl
phase-next (suc (suc (suc zero))) h = refl
phase-next (suc (suc (suc (suc zero)))) h = refl
phase-next (suc (suc (suc (suc (suc zero))))) h = refl
phase-next (suc (suc (suc (suc (suc (suc zero)))))) h = refl
phase-next (suc (suc (suc (suc (suc (suc (suc zero))))))) h = refl
phase-next (suc (suc (suc (suc (suc (suc (suc (suc zero)))))))) h = refl
phase-next (suc (suc (suc (suc (suc (suc (suc (suc (suc zero))))))))) h = refl
phase-next (suc (suc (suc (suc (suc (suc (suc (suc (suc (suc zero)))))))))) h = refl
phase-next (suc (suc (suc (suc (suc (suc (suc (suc (suc (suc (suc zero))))))))))) h = refl
phase-next (suc (suc (suc (suc (suc (suc (suc (suc (suc (suc (suc (suc zero)))))))))))) h = refl
phase-next (suc (suc (suc (suc (suc (suc (suc (suc (suc (suc (suc (suc (suc zero))))))))))))) h = refl
phase-next (suc (suc (suc (suc (suc (suc (suc (suc (suc (suc (suc (suc (suc (suc zero)))))))))))))) h = refl
phase-next (suc (suc (suc (suc (suc (suc (suc (suc (suc (suc (suc (suc (suc (suc (suc zero))))))))))))))) h = refl
phase-next (suc (suc (suc (suc (suc (suc (suc (suc (suc (suc (suc (suc (suc (suc (suc (suc k)))))))))))))))) h = absurd (omega (arith, h))

pub each-next : (of : ℕ → List Breach) (k : ℕ) → k < 16 → each of (drop k all_phases) ≡ of (k + 1) ++ each of (drop (k + 1) all_phases)
each-next of k h = ap (λ (ps : List ℕ). each of ps) (phase-next k h)

pub over-each-next : (of : ℕ → List Overrun) (k : ℕ) → k < 16 → each_overruns of (drop k all_phases) ≡ of (k + 1) ++ each_overruns of (drop (k + 1) all_phases)
over-each-next of k h = ap (λ (ps : List ℕ). each_overruns of ps) (phase-next k h)

-- the same from a phase on
pub each-from : (of : ℕ → List Breach) (m : ℕ) → 0 < m → m < 17 → each of (drop (m - 1) all_phases) ≡ of m ++ each of (drop (m + 1 - 1) all_phases)
each-from of m some few =
    let e : m - 1 + 1 ≡ m = omega (arith, some) in
    let f : m ≡ m + 1 - 1 = omega arith in
    let h : m - 1 < 16 = omega (arith, some, few) in
    each-next of (m - 1) h ∙ ap (λ (n : ℕ). of n ++ each of (drop n all_phases)) e ∙ ap (λ (n : ℕ). of m ++ each of (drop n all_phases)) f

-- nothing is listed of a phase of which nothing is found
pub clean-list : (cab tick p : ℕ) (f : PhaseFound) → ((q : ℕ) → has f.together q ≡ false) → f.lit ≡ false → f.course.order ≡ false
    → f.course.clearance ≡ false → f.course.green ≡ false → f.course.pedestrian ≡ false → f.course.on_green ≡ false → listed_breaches cab tick p f ≡ []
clean-list cab tick p f none lit order clear green walk on =
    none-append (each (λ q. found (nat_lt p q && has f.together q) (breach_at cab tick Apart p q)) all_phases) _
    (none-each (λ q. found (nat_lt p q && has f.together q) (breach_at cab tick Apart p q)) all_phases
    (λ q i. none-found (nat_lt p q && has f.together q) (breach_at cab tick Apart p q) (either (nat_lt p q) (has f.together q) (none q))))
    (none-append _ _ (none-found f.lit (breach_at cab tick Apart p 0) lit)
    (none-append _ _ (none-found f.course.order (breach_at cab tick Order p 0) order)
    (none-append _ _ (none-found f.course.clearance (breach_at cab tick Clearance p 0) clear)
    (none-append _ _ (none-found f.course.green (breach_at cab tick ShortGreen p 0) green)
    (none-append _ _ (none-found f.course.pedestrian (breach_at cab tick Pedestrian p 0) walk) (none-found f.course.on_green (breach_at cab tick OnGreen p 0) on))))))
  where
    either : (a b : Bool) → b ≡ false → (a && b) ≡ false
    either true b e = e
    either false b e = refl

is-false : (b : Bool) → beq b false ≡ true → b ≡ false
is-false false e = refl
is-false true e = absurd (false≢true e)

-- so of one that is the same as one of which nothing is found
pub clean-by : (cab tick p : ℕ) (f : PhaseFound) (none : PhaseSet) → ((q : ℕ) → has none q ≡ false)
    → (eqb f.together.0 none.0 && (beq f.lit false && (beq f.course.order false && (beq f.course.clearance false && (beq f.course.green false
    && (beq f.course.pedestrian false && beq f.course.on_green false)))))) ≡ true → listed_breaches cab tick p f ≡ []
clean-by cab tick p f none h e =
    let e1 = both-of (eqb f.together.0 none.0) _ e in
    let e2 = both-of (beq f.lit false) _ e1.1 in
    let e3 = both-of (beq f.course.order false) _ e2.1 in
    let e4 = both-of (beq f.course.clearance false) _ e3.1 in
    let e5 = both-of (beq f.course.green false) _ e4.1 in
    let e6 = both-of (beq f.course.pedestrian false) _ e5.1 in
    let same : f.together.0 ≡ none.0 = eqb-true f.together.0 none.0 e1.0 in
    clean-list cab tick p f (λ q. ap (λ (n : ℕ). bit_at n (q - 1) == 1) same ∙ h q) (is-false f.lit e2.0) (is-false f.course.order e3.0) (is-false f.course.clearance e4.0)
    (is-false f.course.green e5.0) (is-false f.course.pedestrian e6.0) (is-false f.course.on_green e6.1)
