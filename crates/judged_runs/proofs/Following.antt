-- Each line of a run can follow those before it in a log.
use Rattle.std.proofs.Common.{◌≡◌, ◌≤◌, ◌<◌, ◌+◌, ◌==◌, ◌&&◌, not, if◌then◌else◌, ℕ, Bool, true, false, List, [], ◌∷◌, length, Some, None, Ok, Err, refl, ap, ap₂, subst, arith, inl, inr}
use Rattle.std.proofs.lemmas.Bool.{eq-eqb, lt-ltb, le-leb}
use Rattle.trace_text.specs.declared.lines.Line.{Line}
use Rattle.trace_text.specs.declared.lines.Line.TheVariants.{S, F, R, M, J, L, A, Z}
use Rattle.safety_laws.specs.Safe.{Indications, told}
use Rattle.safety_laws.specs.Whole.{downloads}
use Rattle.scenario_data.specs.Content.{CabinetContent, ScenarioContent}
use Rattle.runnable.specs.Cabinets.{IsNumbered, IsCabinet}
use Rattle.judge_laws.specs.Breaches.{Below, Falls}
use Rattle.judge_session.specs.declared.faults.LineFault.TheVariants.{NoCabinet}
use Rattle.judge_session.specs.Told.{has_cabinet}
use Rattle.judge_session.specs.Log.{is_later, frame_fault, load_fault, Follow}
use Rattle.judged_runs.proofs.Ids.{ids_told}
use Rattle.judged_runs.proofs.Shown.{WholeBack}

-- ---- the number of a cabinet

numbered-within : (cab first : ℕ) (c : CabinetContent) (cabinets : List CabinetContent) → IsNumbered cab c first cabinets → (first ≤ cab) × (cab < first + length cabinets)
numbered-within cab first c [] is = absurd is
numbered-within cab first c (d ∷ cabinets) (inl here) = let e : cab ≡ first = here.0 in (omega (arith, e), omega (arith, e))
numbered-within cab first c (d ∷ cabinets) (inr later) =
    let l : (first + 1 ≤ cab) × (cab < first + 1 + length cabinets) = numbered-within cab (first + 1) c cabinets later in
    (omega (arith, l.0), omega (arith, l.1))

pub cabinet-has : (s : ScenarioContent) (cab : ℕ) (c : CabinetContent) → IsCabinet s cab c → has_cabinet s cab ≡ true
cabinet-has s cab c is =
    let l : (1 ≤ cab) × (cab < 1 + length s.cabinets) = numbered-within cab 1 c s.cabinets is in
    ap₂ (λ (a : Bool) (b : Bool). a && b) (lt-ltb 0 cab (omega (arith, l.0))) (le-leb cab (length s.cabinets) (omega (arith, l.1)))

-- ---- the two faults

later-than : (tick : ℕ) (older : List (ℕ × Indications)) → Below tick older → is_later tick older ≡ true
later-than tick [] b = refl
later-than tick (x ∷ older) b = lt-ltb x.0 tick b

no-frame-fault : (s : ScenarioContent) (cab tick version : ℕ) (before : List Line) → has_cabinet s cab ≡ true → Below tick (told cab before) → version ≡ downloads cab before
    → (if not (has_cabinet s cab) then Some NoCabinet else frame_fault tick version cab before) ≡ None
no-frame-fault s cab tick version before has below same =
    rw (has, later-than tick (told cab before) below, eq-eqb version (downloads cab before) same) refl

no-load-fault : (s : ScenarioContent) (cab version : ℕ) (before : List Line) → has_cabinet s cab ≡ true → version ≡ downloads cab before + 1
    → (if not (has_cabinet s cab) then Some NoCabinet else load_fault version cab before) ≡ None
no-load-fault s cab version before has same = rw (has, eq-eqb version (downloads cab before + 1) same) refl

-- ---- each line

-- what is known of the lines of a log, with the newest first, at each cabinet: the ticks fall, the versions are whole, and a cabinet
-- that shows something or accepts a load is one of the scenario
pub record IsInOrder (s : ScenarioContent) (back : List Line) : Type 0 where
  pub falls : (cab : ℕ) → Falls (told cab back)
  pub whole : (cab : ℕ) → WholeBack cab back
  pub shown : (cab : ℕ) → (told cab back ≡ [] → ⊥) → has_cabinet s cab ≡ true
  pub loaded : (cab : ℕ) → (ids_told cab back ≡ [] → ⊥) → has_cabinet s cab ≡ true

some-shown : (x : ℕ × Indications) (xs : List (ℕ × Indications)) → x ∷ xs ≡ [] → ⊥
some-shown x xs e = let n : length (x ∷ xs) ≡ 0 = ap length e in omega (arith, n)

some-id : (x : ℕ) (xs : List ℕ) → x ∷ xs ≡ [] → ⊥
some-id x xs e = let n : length (x ∷ xs) ≡ 0 = ap length e in omega (arith, n)

-- a cabinet's own frame or load, before others
pub own-frame : (P : List (ℕ × Indications) → Type 0) (c : ℕ) (x : ℕ × Indications) (xs : List (ℕ × Indications)) → P (if c == c then x ∷ xs else xs) → P (x ∷ xs)
own-frame P c x xs h = let e : (c == c) ≡ true = eq-eqb c c refl in subst (λ (b : Bool). P (if b then x ∷ xs else xs)) e h

own-id : (P : List ℕ → Type 0) (c : ℕ) (x : ℕ) (xs : List ℕ) → P (if c == c then x ∷ xs else xs) → P (x ∷ xs)
own-id P c x xs h = let e : (c == c) ≡ true = eq-eqb c c refl in subst (λ (b : Bool). P (if b then x ∷ xs else xs)) e h

module _ (s : ScenarioContent) where
  less-shown : (b : Bool) (x : ℕ × Indications) (xs : List (ℕ × Indications)) → (xs ≡ [] → ⊥) → (if b then x ∷ xs else xs) ≡ [] → ⊥
  less-shown true x xs h e = some-shown x xs e
  less-shown false x xs h e = h e

  less-ids : (b : Bool) (x : ℕ) (xs : List ℕ) → (xs ≡ [] → ⊥) → (if b then x ∷ xs else xs) ≡ [] → ⊥
  less-ids true x xs h e = some-id x xs e
  less-ids false x xs h e = h e

  less-falls : (b : Bool) (x : ℕ × Indications) (xs : List (ℕ × Indications)) → Falls (if b then x ∷ xs else xs) → Falls xs
  less-falls true x xs h = h.1
  less-falls false x xs h = h

  pub follows : (back : List Line) → IsInOrder s back → Follow s back
  follows [] o = tt
  follows (F c tick veh ped mode counter target version ∷ back) o =
      let shown : ℕ × Indications = (tick, record { colours = veh; signals = ped; mode = mode; version = version }) in
      let own : Falls (shown ∷ told c back) = own-frame Falls c shown (told c back) (o.falls c) in
      let some : ((if c == c then shown ∷ told c back else told c back) ≡ [] → ⊥)
      = λ e. some-shown shown (told c back) (own-frame (λ x. x ≡ []) c shown (told c back) e) in (
        no-frame-fault s c tick version back (o.shown c some) own.0 ((o.whole c).0 refl),
        follows back (record {
          falls = λ cab. less-falls (c == cab) shown (told cab back) (o.falls cab);
          whole = λ cab. (o.whole cab).1;
          shown = λ cab h. o.shown cab (less-shown (c == cab) shown (told cab back) h);
          loaded = o.loaded;
        }),
      )
  follows (L c id (Ok version) ∷ back) o =
      let some : ((if c == c then id ∷ ids_told c back else ids_told c back) ≡ [] → ⊥)
      = λ e. some-id id (ids_told c back) (own-id (λ x. x ≡ []) c id (ids_told c back) e) in (
        no-load-fault s c version back (o.loaded c some) ((o.whole c).0 refl),
        follows back (record {
          falls = o.falls;
          whole = λ cab. (o.whole cab).1;
          shown = o.shown;
          loaded = λ cab h. o.loaded cab (less-ids (c == cab) id (ids_told cab back) h);
        }),
      )
  follows (L c id (Err broken) ∷ back) o = (refl, follows back (record { falls = o.falls; whole = o.whole; shown = o.shown; loaded = o.loaded }))
  follows (S json ∷ back) o = (refl, follows back (record { falls = o.falls; whole = o.whole; shown = o.shown; loaded = o.loaded }))
  follows (R round ∷ back) o = (refl, follows back (record { falls = o.falls; whole = o.whole; shown = o.shown; loaded = o.loaded }))
  follows (M note ∷ back) o = (refl, follows back (record { falls = o.falls; whole = o.whole; shown = o.shown; loaded = o.loaded }))
  follows (J c runs ∷ back) o = (refl, follows back (record { falls = o.falls; whole = o.whole; shown = o.shown; loaded = o.loaded }))
  follows (A c pass reply ∷ back) o = (refl, follows back (record { falls = o.falls; whole = o.whole; shown = o.shown; loaded = o.loaded }))
  follows (Z rounds ∷ back) o = (refl, follows back (record { falls = o.falls; whole = o.whole; shown = o.shown; loaded = o.loaded }))
