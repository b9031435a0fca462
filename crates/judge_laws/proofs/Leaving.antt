-- A greater tolerance, and a log that begins in the middle, find fewer breaches.
use Rattle.std.proofs.Common.{◌≡◌, ℕ, ◌+◌, ◌≤◌, nat_lt, Bool, true, false, not, ◌&&◌, ◌||◌, if◌then◌else◌, List, [], ◌∷◌, ◌++◌, refl, sym, ◌∙◌, ap, subst, arith, inl, inr, reverse}
use Rattle.std.proofs.lemmas.Bool.{le-leb, leb-true, false≢true}
use Rattle.std.proofs.lemmas.List.{reverse-append}
use Rattle.std.specs.List.{list_all}
use Rattle.sig_types.specs.declared.frame.Colour.TheVariants.{Green, Yellow, Clear}
use Rattle.sig_types.specs.declared.frame.Ped.TheVariants.{Walk, Flash, Dont}
use Rattle.sig_types.specs.Phases.{all_phases}
use Rattle.sig_tables.specs.declared.tables.Tables.{Tables}
use Rattle.trace_text.specs.declared.lines.Line.{Line}
use Rattle.trace_text.specs.declared.lines.Line.TheVariants.{S, F, R, M, J, L, A, Z}
use Rattle.safety_laws.specs.Safe.{Indications, dark, told}
use Rattle.judge_laws.specs.declared.Terms.{Terms}
use Rattle.judge_laws.specs.declared.Clause.TheVariants.{Apart}
use Rattle.judge_laws.specs.Joined.{saw_beginning}
use Rattle.judge_laws.specs.Breaches.{within, joined_within, are_together, is_lit_off, shows, gives, first_of, ends, ends_wrong, ends_clearance_wrong, ends_green_wrong, ends_walk_wrong, breaks_order, is_out_of_order, lasts_at_least, lasts_at_most, yellow_lasts, clear_lasts, green_lasts, walk_lasts, flash_lasts, found, breach_at, each, phase_breaches, frame_breaches, line_breaches, breaches_back, breaches}
use Rattle.judge_laws.specs.Sublist.{IsSublist}
use Rattle.judge_laws.proofs.Tests.{both-of, of-both, either, or-first, or-second, not-true}
use Rattle.judge_laws.proofs.Sublists.{sublist-none, sublist-same, sublist-append, sublist-each, listing-fewer}
use Rattle.judge_laws.proofs.Judged.{told-append}

-- what a test passes, a test that passes more passes too
least-more : (less more time : ℕ) → less ≤ more → (first end : ℕ × Indications) → lasts_at_least less time first end ≡ true → lasts_at_least more time first end ≡ true
least-more less more time l first end h =
    let a : first.0 + time ≤ end.0 + less = leb-true (first.0 + time) (end.0 + less) h in
    le-leb (first.0 + time) (end.0 + more) (omega (arith, a, l))

most-more : (less more time : ℕ) → less ≤ more → (first end : ℕ × Indications) → lasts_at_most less time first end ≡ true → lasts_at_most more time first end ≡ true
most-more less more time l first end h =
    let a : end.0 ≤ first.0 + time + less = leb-true end.0 (first.0 + time + less) h in
    le-leb end.0 (first.0 + time + more) (omega (arith, a, l))

-- a line ends fewer intervals wrong by a test that passes more
ends-fewer : (joined : Bool) (holds : Indications → Bool) (lasts other : ℕ × Indications → ℕ × Indications → Bool)
    → ((first end : ℕ × Indications) → lasts first end ≡ true → other first end ≡ true)
    → (older : List (ℕ × Indications)) (line : ℕ × Indications) → ends_wrong joined holds other older line ≡ true → ends_wrong joined holds lasts older line ≡ true
ends-fewer joined holds lasts other more older line h =
    let a = both-of (ends holds older line && saw_beginning joined holds older) (not (other (first_of holds older) line)) h in
    of-both (ends holds older line && saw_beginning joined holds older) _ a.0 (turn (lasts (first_of holds older) line) (more (first_of holds older) line) a.1)
  where
    turn : (c : Bool) → (c ≡ true → other (first_of holds older) line ≡ true) → not (other (first_of holds older) line) ≡ true → not c ≡ true
    turn false f e = refl
    turn true f e = absurd (false≢true (sym (not-true (other (first_of holds older) line) e) ∙ f refl))

either-fewer : (a b c d : Bool) → (a ≡ true → c ≡ true) → (b ≡ true → d ≡ true) → (a || b) ≡ true → (c || d) ≡ true
either-fewer a b c d f g h = elim (either a b h) [
  | inl e ↦ or-first c d (f e)
  | inr e ↦ or-second c d (g e)
]

both-more : (a b c d : Bool) → (a ≡ true → c ≡ true) → (b ≡ true → d ≡ true) → (a && b) ≡ true → (c && d) ≡ true
both-more a b c d f g h = let e = both-of a b h in of-both c d (f e.0) (g e.1)

module _ (tables : ℕ → ℕ → Tables) (less more : ℕ) (joined : Bool) (l : less ≤ more) where
  abbrev few : Terms
  few = within more joined

  abbrev many : Terms
  many = within less joined

  phase-fewer : (cab : ℕ) (older : List (ℕ × Indications)) (line : ℕ × Indications) (p : ℕ)
      → IsSublist (phase_breaches few cab (tables cab) older line p) (phase_breaches many cab (tables cab) older line p)
  phase-fewer cab older line p =
      listing-fewer cab line.0 p (each (λ q. found (nat_lt p q && are_together (tables cab line.1.version) line.1 p q) (breach_at cab line.0 Apart p q)) all_phases)
      (is_lit_off (tables cab line.1.version) line.1 p) (breaks_order joined (tables cab) p older line)
      (ends_clearance_wrong few (tables cab) p older line) (ends_green_wrong few (tables cab) p older line)
      (ends_walk_wrong few (tables cab) p older line) (not (gives Dont p line.1 || shows Green p line.1))
      (is_lit_off (tables cab line.1.version) line.1 p) (breaks_order joined (tables cab) p older line)
      (ends_clearance_wrong many (tables cab) p older line) (ends_green_wrong many (tables cab) p older line)
      (ends_walk_wrong many (tables cab) p older line) (not (gives Dont p line.1 || shows Green p line.1))
      (λ h. h) (λ h. h)
      (either-fewer _ _ _ _
      (ends-fewer joined (shows Yellow p) (yellow_lasts less (tables cab) p) (yellow_lasts more (tables cab) p)
      (λ first end. both-more _ _ _ _ (least-more less more _ l first end) (most-more less more _ l first end)) older line)
      (ends-fewer joined (shows Clear p) (clear_lasts less (tables cab) p) (clear_lasts more (tables cab) p)
      (λ first end. both-more _ _ _ _ (least-more less more _ l first end) (most-more less more _ l first end)) older line))
      (ends-fewer joined (shows Green p) (green_lasts less (tables cab) p) (green_lasts more (tables cab) p)
      (λ first end. least-more less more _ l first end) older line)
      (either-fewer _ _ _ _
      (ends-fewer joined (gives Walk p) (walk_lasts less (tables cab) p) (walk_lasts more (tables cab) p)
      (λ first end. both-more _ _ _ _ (least-more less more _ l first end) (most-more less more _ l first end)) older line)
      (ends-fewer joined (gives Flash p) (flash_lasts less (tables cab) p) (flash_lasts more (tables cab) p)
      (λ first end. both-more _ _ _ _ (least-more less more _ l first end) (most-more less more _ l first end)) older line))
      (λ h. h)

  line-fewer : (before : List Line) (line : Line) → IsSublist (line_breaches few tables before line) (line_breaches many tables before line)
  line-fewer before (F cab tick veh ped mode counter target version) =
      sublist-each _ _ all_phases (phase-fewer cab (told cab before) (tick, record { colours = veh; signals = ped; mode = mode; version = version }))
  line-fewer before (S json) = sublist-same []
  line-fewer before (R round) = sublist-same []
  line-fewer before (M note) = sublist-same []
  line-fewer before (J c runs) = sublist-same []
  line-fewer before (L c id result) = sublist-same []
  line-fewer before (A c pass reply) = sublist-same []
  line-fewer before (Z rounds) = sublist-same []

  back-fewer : (back : List Line) → IsSublist (breaches_back few tables back) (breaches_back many tables back)
  back-fewer [] = sublist-same []
  back-fewer (line ∷ back) = sublist-append _ _ _ _ (back-fewer back) (line-fewer back line)

pub tolerance-fewer : (tables : ℕ → ℕ → Tables) (lines : List Line) (less more : ℕ) (joined : Bool) → less ≤ more
    → IsSublist (breaches (within more joined) tables lines) (breaches (within less joined) tables lines)
tolerance-fewer tables lines less more joined l = back-fewer tables less more joined l (reverse lines)

-- an interval whose beginning a log shows has the same first line in any log that it is the end of
module _ (holds : Indications → Bool) (earlier : List (ℕ × Indications)) where
  same-first : (line : ℕ × Indications) (older : List (ℕ × Indications)) → holds line.1 ≡ true → list_all (λ (x : ℕ × Indications). holds x.1) (line ∷ older) ≡ false
      → first_of holds (line ∷ older ++ earlier) ≡ first_of holds (line ∷ older)
  same-first line [] h e = absurd (false≢true (sym e ∙ of-both (holds line.1) true h refl))
  same-first line (last ∷ older) h e =
      split (λ now. same-first last older now (rest (holds line.1) (list_all (λ (x : ℕ × Indications). holds x.1) (last ∷ older)) h e)) (holds last.1) refl
    where
      rest : (a b : Bool) → a ≡ true → (a && b) ≡ false → b ≡ false
      rest true b f g = g
      rest false b f g = absurd (false≢true f)

      split : (holds last.1 ≡ true → first_of holds (last ∷ older ++ earlier) ≡ first_of holds (last ∷ older)) → (b : Bool) → holds last.1 ≡ b
          → (if holds last.1 then first_of holds (last ∷ older ++ earlier) else line) ≡ (if holds last.1 then first_of holds (last ∷ older) else line)
      split known true now = ap (λ (x : ℕ × Indications). if holds last.1 then x else line) (known now)
      split known false now = rw now refl

  -- so a line ends such an interval wrong in both
  ends-both : (lasts : ℕ × Indications → ℕ × Indications → Bool) (older : List (ℕ × Indications)) (line : ℕ × Indications)
      → ends_wrong true holds lasts older line ≡ true → ends_wrong false holds lasts (older ++ earlier) line ≡ true
  ends-both lasts [] line h =
      absurd (false≢true (both-of (ends holds [] line) false (both-of (ends holds [] line && false) (not (lasts (first_of holds []) line)) h).0).1)
  ends-both lasts (last ∷ older) line h =
      let a = both-of (ends holds (last ∷ older) line && saw_beginning true holds (last ∷ older)) (not (lasts (first_of holds (last ∷ older)) line)) h in
      let b = both-of (ends holds (last ∷ older) line) (saw_beginning true holds (last ∷ older)) a.0 in
      let now = both-of (holds last.1) (not (holds line.1)) b.0 in
      of-both (ends holds (last ∷ older) line && true) _ (of-both (ends holds (last ∷ older) line) true b.0 refl)
      (subst (λ (x : ℕ × Indications). not (lasts x line) ≡ true) (sym (same-first last older now.0 (not-true _ b.1))) a.1)

module _ (tables : ℕ → ℕ → Tables) (tolerance : ℕ) where
  abbrev there : Terms
  there = joined_within tolerance

  abbrev whole : Terms
  whole = within tolerance false

  order-both : (cab : ℕ) (older earlier : List (ℕ × Indications)) (line : ℕ × Indications) (p : ℕ)
      → breaks_order true (tables cab) p older line ≡ true → breaks_order false (tables cab) p (older ++ earlier) line ≡ true
  order-both cab [] earlier line p h = absurd (false≢true (both-of (nat_lt 0 line.0) false
      (both-of (nat_lt 0 line.0 && false) (is_out_of_order (tables cab line.1.version) dark line.1 p) h).0).1)
  order-both cab (last ∷ older) earlier line p h = h

  phase-both : (cab : ℕ) (older earlier : List (ℕ × Indications)) (line : ℕ × Indications) (p : ℕ)
      → IsSublist (phase_breaches there cab (tables cab) older line p) (phase_breaches whole cab (tables cab) (older ++ earlier) line p)
  phase-both cab older earlier line p =
      listing-fewer cab line.0 p (each (λ q. found (nat_lt p q && are_together (tables cab line.1.version) line.1 p q) (breach_at cab line.0 Apart p q)) all_phases)
      (is_lit_off (tables cab line.1.version) line.1 p) (breaks_order true (tables cab) p older line)
      (ends_clearance_wrong there (tables cab) p older line) (ends_green_wrong there (tables cab) p older line)
      (ends_walk_wrong there (tables cab) p older line) (not (gives Dont p line.1 || shows Green p line.1))
      (is_lit_off (tables cab line.1.version) line.1 p) (breaks_order false (tables cab) p (older ++ earlier) line)
      (ends_clearance_wrong whole (tables cab) p (older ++ earlier) line) (ends_green_wrong whole (tables cab) p (older ++ earlier) line)
      (ends_walk_wrong whole (tables cab) p (older ++ earlier) line) (not (gives Dont p line.1 || shows Green p line.1))
      (λ h. h) (order-both cab older earlier line p)
      (either-fewer _ _ _ _
      (ends-both (shows Yellow p) earlier (yellow_lasts tolerance (tables cab) p) older line)
      (ends-both (shows Clear p) earlier (clear_lasts tolerance (tables cab) p) older line))
      (ends-both (shows Green p) earlier (green_lasts tolerance (tables cab) p) older line)
      (either-fewer _ _ _ _
      (ends-both (gives Walk p) earlier (walk_lasts tolerance (tables cab) p) older line)
      (ends-both (gives Flash p) earlier (flash_lasts tolerance (tables cab) p) older line))
      (λ h. h)

  line-both : (before earlier : List Line) (line : Line) → IsSublist (line_breaches there tables before line) (line_breaches whole tables (before ++ earlier) line)
  line-both before earlier (F cab tick veh ped mode counter target version) =
      let shown : ℕ × Indications = (tick, record { colours = veh; signals = ped; mode = mode; version = version }) in
      subst (λ (x : List (ℕ × Indications)). IsSublist (frame_breaches there cab (tables cab) (told cab before) shown) (frame_breaches whole cab (tables cab) x shown))
      (sym (told-append cab before earlier))
      (sublist-each _ _ all_phases (phase-both cab (told cab before) (told cab earlier) shown))
  line-both before earlier (S json) = sublist-same []
  line-both before earlier (R round) = sublist-same []
  line-both before earlier (M note) = sublist-same []
  line-both before earlier (J c runs) = sublist-same []
  line-both before earlier (L c id result) = sublist-same []
  line-both before earlier (A c pass reply) = sublist-same []
  line-both before earlier (Z rounds) = sublist-same []

  back-both : (back earlier : List Line) → IsSublist (breaches_back there tables back) (breaches_back whole tables (back ++ earlier))
  back-both [] earlier = sublist-none _
  back-both (line ∷ back) earlier = sublist-append _ _ _ _ (back-both back earlier) (line-both back earlier line)

pub joining-fewer : (tables : ℕ → ℕ → Tables) (before lines : List Line) (tolerance : ℕ)
    → IsSublist (breaches (joined_within tolerance) tables lines) (breaches (within tolerance false) tables (before ++ lines))
joining-fewer tables before lines tolerance =
    subst (λ (x : List Line). IsSublist (breaches (joined_within tolerance) tables lines) (breaches_back (within tolerance false) tables x))
    (sym (reverse-append before lines)) (back-both tables tolerance (reverse lines) (reverse before))
