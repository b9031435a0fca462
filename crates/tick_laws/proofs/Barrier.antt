-- In free operation a green ends exactly where it is through and it is its turn.
use Rattle.std.proofs.Common.{◌≡◌, ◌≢◌, ◌⊎◌, inl, inr, ℕ, Bool, true, false, not, ◌&&◌, ◌||◌, ◌==◌, if◌then◌else◌, List, [], ◌∷◌, None, refl, sym, ◌∙◌, ap, subst, arith}
use Rattle.std.proofs.lemmas.Bool.{cases_Bool, and_parts, and_from, both_ways, false≢true}
use Rattle.std.proofs.lemmas.Bool.Decides.{Decides-eqb, eqb_tells}
use Rattle.sig_types.specs.declared.frame.Colour.TheVariants.{Green, Yellow}
use Rattle.sig_types.specs.declared.frame.Mode.{Mode}
use Rattle.sig_types.specs.declared.frame.Mode.TheVariants.{Free}
use Rattle.sig_types.specs.Phases.{is_phase, is_in, some}
use Rattle.sig_types.specs.Colour.{colour_of}
use Rattle.sig_types.proofs.Lists.{in-head, eq-true, in-both}
use Rattle.sig_types.proofs.Sets.{some-same}
use Rattle.sig_tables.specs.declared.tables.Tables.{Tables}
use Rattle.sig_tables.specs.Tables.{ring_of, is_enabled, clearance, order_of}
use Rattle.sig_tables.specs.Sides.{are_concurrent, are_incompatible, are_of_one_side, ring_phases}
use Rattle.sig_tables.specs.Modes.{bound}
use Rattle.sig_tables.specs.Calls.{is_green}
use Rattle.sig_tables.specs.Past.{Event, Moment, Past}
use Rattle.sig_tables.specs.Looking.{last_frame}
use Rattle.sig_tables.specs.View.{View, is_served, has_reason, is_forced, is_done, other_ring, on_phase, is_open, present_side, later_in, earlier_in, later, earlier, is_wanted, elsewhere, greatest_clearance}
use Rattle.sig_tables.specs.Moves.{Moves, has_no_later, is_free_to_leave, is_to_end, is_ended, ending_in, ring_moves}
use Rattle.sig_tables.specs.Seen.{mode_seen, demand_seen, view_seen, moves_seen}
use Rattle.sig_tables.specs.Decide.{colour_after, colours_of, next_moment, past_of}
use Rattle.sig_tables.proofs.FreeTickState.{wanted-unbound, forced-unbound}
use Rattle.tick_laws.specs.Lawful.{Sound, IsLawfulAfter, Lawful}
use Rattle.tick_laws.specs.Barrier.{called_at, is_through, calls_later, calls_earlier, calls_across, can_leave, is_turn_to_end, EndsInTurn, EachEndsInTurn, EndsForOther, EachEndsForOther}
use Rattle.tick_laws.proofs.Choices.{same-is}
use Rattle.tick_laws.proofs.Each.{each-allowed}
use Rattle.tick_laws.proofs.Finding.{some-passes, in-those-of, later-or-earlier}
use Rattle.tick_laws.proofs.FreeGreen.{names, reached-free, FreeGreen, enabled, placed, moves-are, unbound, demand-is, some-wanted, through-is, same-side, on-some, side-is, later-is, earlier-is}
use Rattle.tick_laws.proofs.OneSide.{own}
use Rattle.tick_laws.proofs.Next.{next-colour}
use Rattle.tick_laws.proofs.Apart.{holds}

-- ---- whose turn it is

phase-some : (x : ℕ) → is_phase x ≡ true → x ≢ 0
phase-some x h z = false≢true (ap is_phase (sym z) ∙ h)

no-later-is : (past : Past) (p r x : ℕ) → FreeGreen past p → on_phase (view_seen past) r ≡ x → x ≢ 0
    → has_no_later (view_seen past) r x ≡ not (calls_later past.moments (next_moment past) p r x)
no-later-is past p r x g at ne =
    ap not (ap (some (is_wanted (view_seen past) (clearance past.tables x))) (later-is past p r x g at ne)
    ∙ some-wanted past (clearance past.tables x) (later_in (ring_phases past.tables 1 p r) x) (unbound past p g))

across-is : (past : Past) (p k : ℕ) → FreeGreen past p → elsewhere (view_seen past) k ≡ calls_across past.moments (next_moment past) p
across-is past p k g =
    some-same (λ q. not (are_of_one_side past.tables (present_side (view_seen past)) q) && is_wanted (view_seen past) k q)
    (λ q. not (are_of_one_side past.tables p q)) (demand_seen past) each
    ∙ ap (some (λ q. not (are_of_one_side past.tables p q))) (demand-is past (unbound past p g))
  where
    and-true : (b : Bool) → (b && true) ≡ b
    and-true true = refl
    and-true false = refl

    each : (q : ℕ) → is_in (demand_seen past) q ≡ true
        → (not (are_of_one_side past.tables (present_side (view_seen past)) q) && is_wanted (view_seen past) k q) ≡ not (are_of_one_side past.tables p q)
    each q h =
        ap (λ (b : Bool). not (are_of_one_side past.tables (present_side (view_seen past)) q) && b)
        (wanted-unbound (view_seen past) k q (unbound past p g) ∙ h)
        ∙ and-true (not (are_of_one_side past.tables (present_side (view_seen past)) q))
        ∙ ap not (same-side past.tables (present_side (view_seen past)) p q g.sound (side-is past p g))

turned : (b : Bool) (x : Bool) → (if not b then x else false) ≡ (if b then false else x)
turned true x = refl
turned false x = refl

turned-true : (b : Bool) (x : Bool) → (if not b then x else true) ≡ (if b then true else x)
turned-true true x = refl
turned-true false x = refl

leave-is : (past : Past) (p r : ℕ) → FreeGreen past p → is_free_to_leave (view_seen past) r ≡ can_leave past.moments (next_moment past) p r
leave-is past p r g = elim (cases_Bool (is_open v r)) [
  | inl opened ↦ rw opened refl
  | inr shuts ↦ rw shuts (shut-case shuts)
]
  where
    v : View
    v = view_seen past

    shut-case : is_open v r ≡ false
        → (if has_no_later v r (on_phase v r) then is_done v (on_phase v r) else false)
        ≡ (if calls_later past.moments (next_moment past) p r (on_phase v r) then false else is_through past.moments (next_moment past) (on_phase v r))
    shut-case shuts =
        ap (λ (b : Bool). if b then is_done v (on_phase v r) else false) (no-later-is past p r (on_phase v r) g refl (on-some v r shuts))
        ∙ turned (calls_later past.moments (next_moment past) p r (on_phase v r)) (is_done v (on_phase v r))
        ∙ ap (λ (b : Bool). if calls_later past.moments (next_moment past) p r (on_phase v r) then false else b)
        (through-is past (on_phase v r) (unbound past p g))

earlier-called : (past : Past) (p : ℕ) → FreeGreen past p → (k : ℕ)
    → some (λ q. not (q == p) && is_wanted (view_seen past) k q) (earlier (view_seen past) (ring_of past.tables p))
    ≡ calls_earlier past.moments (next_moment past) p
earlier-called past p g k =
    ap (some (λ q. not (q == p) && is_wanted (view_seen past) k q)) (earlier-is past p (ring_of past.tables p) p g (placed past p g) (phase-some p g.phase))
    ∙ some-same _ _ (earlier_in (ring_phases past.tables 1 p (ring_of past.tables p)) p)
    (λ q h. ap (λ (b : Bool). not (q == p) && b)
    (wanted-unbound (view_seen past) k q (unbound past p g) ∙ ap (λ (ys : List ℕ). is_in ys q) (demand-is past (unbound past p g))))

turn-is : (past : Past) (p : ℕ) → FreeGreen past p
    → is_to_end (view_seen past) (ring_of past.tables p) p ≡ is_turn_to_end past.moments (next_moment past) p
turn-is past p g =
    ap (λ (b : Bool). if b then rest else true) (no-later-is past p r p g (placed past p g) (phase-some p g.phase))
    ∙ turned-true (calls_later past.moments m p r p) rest
    ∙ ap (λ (b : Bool). if calls_later past.moments m p r p then true else b) (rest-is (across-is past p (greatest_clearance v) g))
  where
    v : View
    v = view_seen past

    m : Moment
    m = next_moment past

    r : ℕ
    r = ring_of past.tables p

    rest : Bool
    rest = if elsewhere v (greatest_clearance v) then is_free_to_leave v (other_ring r)
        else some (λ q. not (q == p) && is_wanted v (clearance past.tables p) q) (earlier v r)

    rest-is : elsewhere v (greatest_clearance v) ≡ calls_across past.moments m p
        → rest ≡ (if calls_across past.moments m p then can_leave past.moments m p (other_ring r) else calls_earlier past.moments m p)
    rest-is e = rw (e, leave-is past p (other_ring r) g, earlier-called past p g (clearance past.tables p)) refl

-- ---- the colour that the tick gives

swap : (a b c : Bool) → (a && b && c) ≡ (a && c && b)
swap true true true = refl
swap true true false = refl
swap true false true = refl
swap true false false = refl
swap false true true = refl
swap false true false = refl
swap false false true = refl
swap false false false = refl

ended-is : (past : Past) (p : ℕ) → FreeGreen past p
    → is_ended (view_seen past) (ring_of past.tables p) p ≡ (is_through past.moments (next_moment past) p && is_turn_to_end past.moments (next_moment past) p)
ended-is past p g =
    swap (has_reason (view_seen past) p) (is_to_end (view_seen past) (ring_of past.tables p) p) (is_served past.tables past.moments p)
    ∙ ap (λ (b : Bool). b && is_to_end (view_seen past) (ring_of past.tables p) p) (through-is past p (unbound past p g))
    ∙ ap (λ (b : Bool). is_through past.moments (next_moment past) p && b) (turn-is past p g)

-- a ring ends only its own phase
ending-own : (v : View) (r p : ℕ) → bound v.mode ≡ None → on_phase v r ≡ p → is_in (ending_in v r) p ≡ is_ended v r p
ending-own v r p e at = rw (at, forced-unbound v p e) (by (is_ended v r p))
  where
    by : (b : Bool) → is_in (if b then p ∷ [] else []) p ≡ b
    by true = in-head p []
    by false = refl

ending-other : (v : View) (s p : ℕ) → (on_phase v s ≡ p → ⊥) → is_in (ending_in v s) p ≡ false
ending-other v s p ne = by (is_forced v (on_phase v s) || is_ended v s (on_phase v s))
  where
    shuts : (p == on_phase v s) ≡ false
    shuts = elim (cases_Bool (p == on_phase v s)) [ inl e ↦ absurd (ne (sym (eq-true _ _ e))) | inr f ↦ f ]

    by : (b : Bool) → is_in (if b then on_phase v s ∷ [] else []) p ≡ false
    by true = rw shuts refl
    by false = refl

or-false : (b : Bool) → (b || false) ≡ b
or-false true = refl
or-false false = refl

ends-is : (past : Past) (p : ℕ) → FreeGreen past p → is_in (ring_moves (view_seen past)).ends p ≡ is_ended (view_seen past) (ring_of past.tables p) p
ends-is past p g = elim (g.sound.ring p (enabled past p g)) [
  | inl one ↦
      in-both (ending_in v 1) (ending_in v 2) p
      ∙ rw (ending-other v 2 p (other 2 (inr refl) (λ two. differ one two)), or-false (is_in (ending_in v 1) p), one)
      (ending-own v 1 p (unbound past p g) (subst (λ (r : ℕ). on_phase v r ≡ p) one (placed past p g)))
  | inr two ↦
      in-both (ending_in v 1) (ending_in v 2) p
      ∙ rw (ending-other v 1 p (other 1 (inl refl) (λ one. differ one two)), two)
      (ending-own v 2 p (unbound past p g) (subst (λ (r : ℕ). on_phase v r ≡ p) two (placed past p g)))
]
  where
    v : View
    v = view_seen past

    differ : ring_of past.tables p ≡ 1 → ring_of past.tables p ≡ 2 → ⊥
    differ a b = omega arith

    other : (s : ℕ) → (s ≡ 1) ⊎ (s ≡ 2) → (ring_of past.tables p ≡ s → ⊥) → on_phase v s ≡ p → ⊥
    other s which ne at = elim (g.named s which) [
      | inl none ↦ phase-some p g.phase (sym at ∙ none)
      | inr x ↦ ne (subst (λ (y : ℕ). ring_of past.tables y ≡ s) at x.2)
    ]

-- a Green phase ends in its turn
ends-in-turn : (past : Past) (p : ℕ) → FreeGreen past p
    → colour_of (next_moment past).frame p
    ≡ (if is_through past.moments (next_moment past) p && is_turn_to_end past.moments (next_moment past) p then Yellow else Green)
ends-in-turn past p g =
    next-colour past p g.phase
    ∙ ap (colour_after (moves_seen past) p past.tables past.moments) g.green
    ∙ ap (λ (b : Bool). if b then Yellow else Green)
    (ap (λ (moves : Moves). is_in moves.ends p) (moves-are past p g) ∙ ends-is past p g ∙ ended-is past p g)

free-green : (opening : Tables) (events : List Event) (p : ℕ) → Lawful opening events → is_phase p ≡ true
    → (next_moment (past_of opening events)).frame.mode ≡ Free → colour_of (last_frame (past_of opening events).moments) p ≡ Green
    → FreeGreen (past_of opening events) p
free-green opening events p l ph mode green = record {
  sound = (holds opening events l).sound;
  stands = (holds opening events l).stands;
  named = names opening events l;
  phase = ph;
  mode = reached-free (mode_seen (past_of opening events)) (past_of opening events).tables
      (colours_of (past_of opening events) (moves_seen (past_of opening events))) mode;
  green = green;
}

pub each-in-turn : (opening : Tables) (events : List Event) → Lawful opening events → EachEndsInTurn (past_of opening events).moments
each-in-turn opening events l =
    each-allowed opening (IsLawfulAfter opening) (λ past m. (p : ℕ) → is_phase p ≡ true → EndsInTurn past m p)
    (λ p ph mode green. absurd (false≢true (ap is-start mode)))
    (λ before a allowed h p ph mode green.
    ends-in-turn (past_of opening before) p (free-green opening before p (l.0, a) ph mode green))
    events l.1
  where
    is-start : Mode → Bool
    is-start Free = true
    is-start _ = false

-- ---- for whom it ends

-- a phase that is called and may not be on with p is across the barrier, or of its ring
its-turn : (past : List Moment) (m : Moment) (p q : ℕ) → Sound m.tables → is_in (called_at past m) q ≡ true → are_incompatible m.tables p q ≡ true
    → is_in (order_of m.tables 1 (ring_of m.tables q)) q ≡ true → can_leave past m p (other_ring (ring_of m.tables p)) ≡ true
    → is_turn_to_end past m p ≡ true
its-turn past m p q sound called apart listed leaves = elim (cases_Bool (are_of_one_side t p q)) [
  | inr across ↦
      rw (some-passes (λ x. not (are_of_one_side t p x)) (called_at past m) q called (ap not across), leaves)
      (either (calls_later past m p (ring_of t p) p))
  | inl one ↦ elim (eqb_tells (ring_of t p) (ring_of t q)) [
    | inr (b, other) ↦ absurd (both_ways (are_concurrent t p q) (none-true (are_concurrent t p q) parts.1) (sound.side p p q (own t p en.0) one other))
    | inl (b, same) ↦
        let there : is_in (ring_phases t 1 p (ring_of t p)) q ≡ true =
        in-those-of (λ x. ring_of t x == ring_of t p && are_of_one_side t p x) (order_of t 1 (ring_of t p)) q
        (subst (λ (r : ℕ). is_in (order_of t 1 r) q ≡ true) (sym same) listed)
        (and_from _ _ ((Decides-eqb (ring_of t q) (ring_of t p)).1 (sym same)) one) in
        elim (later-or-earlier (ring_phases t 1 p (ring_of t p)) p q there) [
          | inl later ↦ rw (some-passes (is_in (called_at past m)) (later_in (ring_phases t 1 p (ring_of t p)) p) q later called) refl
          | inr before ↦
              rw (
                leaves,
                some-passes (λ x. not (x == p) && is_in (called_at past m) x) (earlier_in (ring_phases t 1 p (ring_of t p)) p) q before
                    (and_from _ _ other-phase called),
              )
              (either-way (calls_later past m p (ring_of t p) p) (calls_across past m p))
        ]
  ]
]
  where
    t : Tables
    t = m.tables

    parts : (is_enabled t p && is_enabled t q && not (p == q) ≡ true) × (not (are_concurrent t p q) ≡ true)
    parts = and_parts (is_enabled t p && is_enabled t q && not (p == q)) (not (are_concurrent t p q)) apart

    differs-from : not (p == q) ≡ true
    differs-from = (and_parts (is_enabled t p && is_enabled t q) (not (p == q)) parts.0).1

    en : (is_enabled t p ≡ true) × (is_enabled t q ≡ true)
    en = and_parts (is_enabled t p) (is_enabled t q) (and_parts (is_enabled t p && is_enabled t q) (not (p == q)) parts.0).0

    none-true : (b : Bool) → not b ≡ true → b ≡ false
    none-true true h = absurd (false≢true h)
    none-true false h = refl

    other-phase : not (q == p) ≡ true
    other-phase = elim (cases_Bool (q == p)) [
      | inl e ↦ absurd (both_ways (p == q) (none-true (p == q) differs-from) ((Decides-eqb p q).1 (sym (eq-true q p e))))
      | inr f ↦ ap not f
    ]

    either : (b : Bool) → (if b then true else true) ≡ true
    either true = refl
    either false = refl

    either-way : (b c : Bool) → (if b then true else if c then true else true) ≡ true
    either-way true c = refl
    either-way false true = refl
    either-way false false = refl

pub each-for-other : (opening : Tables) (events : List Event) → Lawful opening events → EachEndsForOther (past_of opening events).moments
each-for-other opening events l =
    each-allowed opening (IsLawfulAfter opening) (λ past m. (p q : ℕ) → is_phase p ≡ true → EndsForOther past m p q)
    (λ p q ph mode through called apart listed leaves. absurd (false≢true (ap is-start mode)))
    (λ before a allowed h p q ph mode through called apart listed leaves.
    let past : Past = past_of opening before in
    let green : colour_of (last_frame past.moments) p ≡ Green =
    same-is _ Green (and_parts (is_enabled past.tables p) (is_green (last_frame past.moments) p)
    (and_parts (is_enabled past.tables p && is_green (last_frame past.moments) p) _
    (and_parts _ (is_served past.tables past.moments p) through).0).0).1 in
    ends-in-turn past p (free-green opening before p (l.0, a) ph mode green)
    ∙ ap (λ (b : Bool). if b then Yellow else Green)
    (and_from _ _ through (its-turn past.moments (next_moment past) p q (holds opening before (l.0, a)).sound called apart listed leaves)))
    events l.1
  where
    is-start : Mode → Bool
    is-start Free = true
    is-start _ = false
