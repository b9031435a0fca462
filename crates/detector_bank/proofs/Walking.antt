-- A round of a walk: each detector is looked at in turn, those before a place were, and those from it on are as before the round.
use Rattle.std.proofs.Common.{◌≡◌, ◌≢◌, ℕ, zero, suc, ◌+◌, ◌<◌, ◌≤◌, ◌==◌, ◌||◌, Bool, true, false, if◌then◌else◌, nat_lt, List, [], ◌∷◌, ◌++◌, length, get_or, refl, sym, ap, ◌∙◌, subst, add-one, arith}
use Rattle.std.proofs.lemmas.Bool.{ltb-true, ltb-false}
use Rattle.detector_bank.specs.declared.bank.Detector.{Detector}
use Rattle.detector_bank.specs.declared.bank.Pulse.{Pulse}
use Rattle.detector_bank.specs.declared.detector_state.DetectorState.{DetectorState}
use Rattle.detector_bank.specs.declared.walk.Walk.{Walk}
use Rattle.detector_bank.specs.declared.bank.Edge.{Edge}
use Rattle.detector_bank.specs.Pulses.{flags, state, edges_in, edges_from}
use Rattle.detector_bank.specs.Bank.{failed}
use Rattle.detector_bank.specs.Lists.{edge_of}
use Rattle.detector_bank.specs.Watching.{Sorts, Posted, WalkFits, WalkStands, Looks}
use Rattle.detector_bank.proofs.Counting.{same-item}
use Rattle.detector_bank.proofs.Posting.{posted-quiet}

pub record Walked (old now : Walk) (ds : List Detector) (round k : ℕ) : Type 0 where
  pub fits : WalkFits now ds
  pub sorted : now.sorted.items ≡ old.sorted.items
  pub done : (ps : List Pulse) (j i : ℕ) (p : DetectorState) (d : Detector) → round ≡ j + 1 → WalkStands old ds ps j → i < k → i < length ds
      → Posted (get_or now.detector_states.items i p) (get_or now.dues.items i 0) old.sorted.items (get_or ds i d) ps (j + 1)
  pub detector_states : (i : ℕ) (p : DetectorState) → k ≤ i → get_or now.detector_states.items i p ≡ get_or old.detector_states.items i p
  pub dues : (i : ℕ) → k ≤ i → get_or now.dues.items i 0 ≡ get_or old.dues.items i 0

pub walked-start : (old : Walk) (ds : List Detector) (round : ℕ) → WalkFits old ds → Walked old old ds round 0
walked-start old ds round fits = record {
  fits = fits;
  sorted = refl;
  done = λ ps j i p d is h low inside. absurd (omega (arith, low));
  detector_states = λ i p low. refl;
  dues = λ i low. refl;
}

-- the detector at the place is as before the round
pub walked-before : (old now : Walk) (ds : List Detector) (round k : ℕ) (e : Detector) → k < length ds → e ≡ get_or ds k e → Walked old now ds round k
    → (ps : List Pulse) (j : ℕ) (p : DetectorState) → WalkStands old ds ps j → Posted (get_or now.detector_states.items k p) (get_or now.dues.items k 0) now.sorted.items e ps j
walked-before old now ds round k e inside own w ps j p h =
    subst (λ (xs : List Pulse). Posted (get_or now.detector_states.items k p) (get_or now.dues.items k 0) xs e ps j) (sym w.sorted)
    (subst (λ (f : Detector). Posted (get_or now.detector_states.items k p) (get_or now.dues.items k 0) old.sorted.items f ps j) (sym own)
    (subst (λ (q : DetectorState). Posted q (get_or now.dues.items k 0) old.sorted.items (get_or ds k e) ps j) (sym (w.detector_states k p (omega arith)))
    (subst (λ n. Posted (get_or old.detector_states.items k p) n old.sorted.items (get_or ds k e) ps j) (sym (w.dues k (omega arith))) (h.each k p e inside))))

pub walked-sorts : (old now : Walk) (ds : List Detector) (round k : ℕ) → Walked old now ds round k → (ps : List Pulse) (j : ℕ) → WalkStands old ds ps j → Sorts now.sorted.items ps
walked-sorts old now ds round k w ps j h = subst (λ (xs : List Pulse). Sorts xs ps) (sym w.sorted) h.sorts

pub walked-next : (old now new : Walk) (ds : List Detector) (round k : ℕ) (e : Detector) → k < length ds → e ≡ get_or ds k e → Walked old now ds round k → Looks now new e k round
    → Walked old new ds round (k + 1)
walked-next old now new ds round k e inside own w l = record {
  fits = record {
    few = rw l.sorted w.fits.few;
    detector_states = l.many ∙ w.fits.detector_states;
    dues = l.as_many ∙ w.fits.dues;
  };
  sorted = l.sorted ∙ w.sorted;
  done = λ ps j i p d is h low within. at ps j i p d is h low within (nat_lt i k) refl;
  detector_states = λ i p above. l.detector_states i p (λ e. omega (arith, e, above)) ∙ w.detector_states i p (omega (arith, above));
  dues = λ i above. l.dues i (λ e. omega (arith, e, above)) ∙ w.dues i (omega (arith, above));
}
  where
    here : (ps : List Pulse) (j : ℕ) (p : DetectorState) (d : Detector) → round ≡ j + 1 → WalkStands old ds ps j
        → Posted (get_or new.detector_states.items k p) (get_or new.dues.items k 0) old.sorted.items (get_or ds k d) ps (j + 1)
    here ps j p d is h =
        subst (λ (f : Detector). Posted (get_or new.detector_states.items k p) (get_or new.dues.items k 0) old.sorted.items f ps (j + 1)) (own ∙ same-item ds k e d inside)
        (subst (λ (xs : List Pulse). Posted (get_or new.detector_states.items k p) (get_or new.dues.items k 0) xs e ps (j + 1)) w.sorted
        (l.here ps j p is (walked-sorts old now ds round k w ps j h) (walked-before old now ds round k e inside own w ps j p h)))

    at : (ps : List Pulse) (j i : ℕ) (p : DetectorState) (d : Detector) → round ≡ j + 1 → WalkStands old ds ps j → i < k + 1 → i < length ds → (b : Bool) → nat_lt i k ≡ b
        → Posted (get_or new.detector_states.items i p) (get_or new.dues.items i 0) old.sorted.items (get_or ds i d) ps (j + 1)
    at ps j i p d is h low within true e =
        let less = ltb-true i k e in
        let ne : i ≢ k = λ e. omega (arith, e, less) in
        subst (λ (q : DetectorState). Posted q (get_or new.dues.items i 0) old.sorted.items (get_or ds i d) ps (j + 1)) (sym (l.detector_states i p ne))
        (subst (λ n. Posted (get_or now.detector_states.items i p) n old.sorted.items (get_or ds i d) ps (j + 1)) (sym (l.dues i ne)) (w.done ps j i p d is h less within))
    at ps j i p d is h low within false e =
        let more = ltb-false i k e in
        let same : i ≡ k = omega (arith, more, low) in
        subst (λ m. Posted (get_or new.detector_states.items m p) (get_or new.dues.items m 0) old.sorted.items (get_or ds m d) ps (j + 1)) (sym same) (here ps j p d is h)

pub walked-all : (old now : Walk) (ds : List Detector) (round k : ℕ) → length ds ≤ k → Walked old now ds round k
    → (ps : List Pulse) (j : ℕ) → round ≡ j + 1 → WalkStands old ds ps j → WalkStands now ds ps (j + 1)
walked-all old now ds round k past w ps j is h = record {
  sorts = subst (λ (xs : List Pulse). Sorts xs ps) (sym w.sorted) h.sorts;
  each = λ i p d low.
      subst (λ (xs : List Pulse). Posted (get_or now.detector_states.items i p) (get_or now.dues.items i 0) xs (get_or ds i d) ps (j + 1)) (sym w.sorted)
      (w.done ps j i p d is h (omega (arith, past, low)) low);
}

-- what represents a detector past the end
pub no-detector_state : DetectorState
no-detector_state = record { watch = record { on = false; last_pulse = 0; last_on = 0; last_inactive = 0; last_past_delay = 0; most = 0; rounds = []; edges = [] }; next = 0; calls = false }

-- a detector that need not be examined stays as it is
pub looks-quiet : (w : Walk) (d : Detector) (k round due : ℕ) → k < length w.dues.items → due ≡ get_or w.dues.items k due → round < due → Looks w w d k round
looks-quiet w d k round due inside is soon = record {
  sorted = refl;
  many = refl;
  as_many = refl;
  detector_states = λ i p ne. refl;
  dues = λ i ne. refl;
  here = λ ps j p now sorts h.
      let later = is ∙ same-item w.dues.items k due 0 inside in
      posted-quiet (get_or w.detector_states.items k p) (get_or w.dues.items k 0) w.sorted.items d ps j (omega (arith, later, now, soon)) h;
}

-- and has no edges
pub quiet-edge : (w : Walk) (d : Detector) (k round due : ℕ) → k < length w.dues.items → due ≡ get_or w.dues.items k due → round < due
    → (ps : List Pulse) (j : ℕ) (p : DetectorState) → round ≡ j + 1 → Posted (get_or w.detector_states.items k p) (get_or w.dues.items k 0) w.sorted.items d ps j → edge_of ps round d ≡ []
quiet-edge w d k round due inside is soon ps j p now h =
    let later = is ∙ same-item w.dues.items k due 0 inside in
    let none : flags d ps (suc j) ≡ [] = h.none (suc j) (omega arith) (omega (arith, later, now, soon)) in
    ap (λ n. edge_of ps n d) (now ∙ add-one j)
    ∙ no-edge (failed d ps (suc j)) (edges_in d ps (suc j)) (suc j) d (ap (λ fs. edges_from (state d ps j) fs) none)
  where
    told : Bool → ℕ → ℕ → Detector → List Edge
    told b n i d = if b || (n == 0) then [] else record { round = i; cabinet = d.cabinet; detector = d.detector; count = n } ∷ []

    no-edge : (b : Bool) (n i : ℕ) (d : Detector) → n ≡ 0 → told b n i d ≡ []
    no-edge true n i d e = refl
    no-edge false n i d e = ap (λ m. told false m i d) e

-- what holds of each item of a list at its place, and of one more
pub each-more : {A : Type 0} (P : ℕ → A → Type 0) (xs : List A) (x : A) → ((k : ℕ) (a : A) → k < length xs → P k (get_or xs k a)) → P (length xs) x
    → (k : ℕ) (a : A) → k < length xs + 1 → P k (get_or (xs ++ x ∷ []) k a)
each-more P [] x h p zero a l = p
each-more P [] x h p (suc k) a l = absurd (omega (arith, l))
each-more P (y ∷ xs) x h p zero a l = h 0 a (omega arith)
each-more P (y ∷ xs) x h p (suc k) a l = each-more (λ n. P (suc n)) xs x (λ m b low. h (suc m) b (omega (arith, low))) p k a (omega (arith, l))
