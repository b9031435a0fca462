-- A tick that seeks a pattern moves to its coordinated phases, and no walk begins on another phase.
use Rattle.std.proofs.Common.{◌≡◌, ◌≢◌, ◌⊎◌, inl, inr, ℕ, Bool, true, false, not, if◌then◌else◌, List, [], ◌∷◌, refl, sym, ◌∙◌, ap, subst}
use Rattle.std.proofs.lemmas.Bool.{cases_Bool, and_parts, both_ways, false≢true}
use Rattle.sig_types.specs.declared.frame.Colour.{Colour}
use Rattle.sig_types.specs.declared.frame.Colour.TheVariants.{Green, Yellow, Clear, Red}
use Rattle.sig_types.specs.declared.frame.Ped.{Ped}
use Rattle.sig_types.specs.declared.frame.Ped.TheVariants.{Dont}
use Rattle.sig_types.specs.declared.frame.Frame.{Frame}
use Rattle.sig_types.specs.declared.frame.Mode.{Mode}
use Rattle.sig_types.specs.declared.frame.Mode.TheVariants.{Seek, Coord}
use Rattle.sig_types.specs.Phases.{is_in, is_phase}
use Rattle.sig_types.specs.Colour.{same_colour, is_start, colour_in, colour_of, signal_of}
use Rattle.sig_types.proofs.Lists.{in-append, in-head, in-tail}
use Rattle.sig_tables.specs.Tables.{ring_of, is_enabled}
use Rattle.sig_tables.specs.Slots.{is_defined, is_coordinated, coordinated_phase}
use Rattle.sig_tables.specs.Splits.{coordinated_phases}
use Rattle.sig_tables.specs.Modes.{stage_of}
use Rattle.sig_tables.specs.Lesser.{Lesser, signal_runs_within}
use Rattle.sig_tables.specs.Goals.{goal_in}
use Rattle.sig_tables.specs.Past.{Moment, Past}
use Rattle.sig_tables.specs.Looking.{last_frame}
use Rattle.sig_tables.specs.Choosing.{are_coordinated_green, mode_reached}
use Rattle.sig_tables.specs.TickState.{RingTurn, Goal, ring_turn_in, ring_turn_from_start, ring_turn_of}
use Rattle.sig_tables.specs.Walking.{Crossing, walk_begins}
use Rattle.sig_tables.specs.Moves.{Moves, goal_moves, goal_beginning_in}
use Rattle.sig_tables.specs.Seen.{mode_seen, view_seen, moves_seen}
use Rattle.sig_tables.specs.Decide.{moves_of, colour_after, colours_of, next_moment}
use Rattle.sig_tables.proofs.FreeTickState.{lesser-unstaged}
use Rattle.sig_tables.proofs.Below.{enabled-phase}
use Rattle.tick_laws.proofs.Others.{end-choice}
use Rattle.plan_facts.specs.Goals.{GoTogether}
use Rattle.tick_laws.specs.Lawful.{Sound}
use Rattle.tick_laws.specs.Safe.{is_on}
use Rattle.tick_laws.specs.InStep.{NamesOn}
use Rattle.tick_laws.proofs.Choices.{not-chosen, differs}
use Rattle.tick_laws.proofs.Next.{next-colour, next-signal, mode_given, crossing_seen, walk_seen}
use Rattle.tick_laws.proofs.Sought.{goal-goes}
use Rattle.tick_laws.proofs.FrameStands.{FrameStands}
use Rattle.coordination_laws.specs.Search.{Sought, Gives}
use Rattle.coordination_laws.proofs.Outside.{begins-goal}
use Rattle.coordination_laws.specs.Lasting.{SeekTick}
use Rattle.coordination_laws.proofs.SearchingInTime.{in-goal}

-- what is known of a tick that seeks pattern n after a frame that did
pub record SeeksOn (past : Past) (n : ℕ) : Type 0 where
  pub sound : Sound past.tables
  pub stands : FrameStands past.tables (last_frame past.moments)
  pub named : NamesOn past.tables (last_frame past.moments)
  pub defined : is_defined past.tables n ≡ true
  pub mode : mode_seen past ≡ Seek n
  pub before : (last_frame past.moments).mode ≡ Seek n

lit : (f : Frame) (p : ℕ) → colour_of f p ≢ Red → is_on f p ≡ true
lit f p ne = by (colour_of f p) ne
  where
    by : (c : Colour) → c ≢ Red → not (same_colour c Red) ≡ true
    by Green ne = refl
    by Yellow ne = refl
    by Clear ne = refl
    by Red ne = absurd (ne refl)

-- the turn is that of the goal
goal-ring_turn : (past : Past) (n : ℕ) → (last_frame past.moments).mode ≡ Seek n → ring_turn_of past.tables past.moments (Seek n) ≡ Goal (goal_in past.tables (Seek n))
goal-ring_turn past n last = ap (λ (m : Mode). if is_start m then ring_turn_from_start past.tables (Seek n) else ring_turn_in past.tables (Seek n)) last

moves-are : (past : Past) (n : ℕ) → SeeksOn past n → moves_seen past ≡ goal_moves (view_seen past) (goal_in past.tables (Seek n))
moves-are past n s =
    ap (λ (ring_turn : RingTurn). moves_of ring_turn (view_seen past)) (ap (λ (m : Mode). ring_turn_of past.tables past.moments m) s.mode ∙ goal-ring_turn past n s.before)

goes : (past : Past) (n : ℕ) → SeeksOn past n → GoTogether past.tables (goal_in past.tables (Seek n))
goes past n s = goal-goes (Seek n) past.tables past.moments s.sound s.defined (goal_in past.tables (Seek n)) (goal-ring_turn past n s.before)

sought : (past : Past) (n : ℕ) → SeeksOn past n → Sought (view_seen past) n (goal_in past.tables (Seek n))
sought past n s = record {
  mode = s.mode;
  frame = refl;
  placed = λ p e on. s.stands.placed p (enabled-phase past.tables p e) (lit (last_frame past.moments) p on);
  named = s.named;
  rings = s.sound.ring;
  enabled = (goes past n s).enabled;
  single = (goes past n s).single;
  side = (goes past n s).side;
}

found : (past : Past) (n p : ℕ) → SeeksOn past n → is_phase p ≡ true
    → colour_of (next_moment past).frame p
    ≡ colour_after (goal_moves (view_seen past) (goal_in past.tables (Seek n))) p past.tables past.moments (colour_of (last_frame past.moments) p)
found past n p s ph =
    subst
    (λ (moves : Moves). colour_of (next_moment past).frame p ≡ colour_after moves p past.tables past.moments (colour_of (last_frame past.moments) p))
    (moves-are past n s) (next-colour past p ph)

-- on a phase that is not coordinated Walk begins only with its Green, whether the pattern is picked up or not
begins-red : (b : Bool) (c : Crossing) (n p : ℕ) (before after : Colour) (signal : Ped) → is_coordinated c.tables n p ≡ false
    → walk_begins c (if b then Coord n else Seek n) p before after signal ≡ true → (before ≡ Red) × (after ≡ Green)
begins-red true c n p Red Green signal other h = (refl, refl)
begins-red true c n p Green Green Dont other h = absurd (both_ways _ other (and_parts _ _ (and_parts _ _ h).0).1)
begins-red true c n p before after signal other h = absurd (false≢true h)
begins-red false c n p Red Green signal other h = (refl, refl)
begins-red false c n p before after signal other h = absurd (false≢true h)

-- what is not of the goal is not coordinated
other : (past : Past) (n p : ℕ) → SeeksOn past n → is_enabled past.tables p ≡ true → is_in (goal_in past.tables (Seek n)) p ≡ false
    → is_coordinated past.tables n p ≡ false
other past n p s e out = elim (cases_Bool (is_coordinated past.tables n p)) [
  | inr f ↦ f
  | inl t ↦
      absurd (both_ways _ out (in-goal past.tables n p (enabled-phase past.tables p e)
      (subst (λ (x : ℕ). is_in (coordinated_phases past.tables n) x ≡ true) (sym ((s.sound.plans n s.defined).coordinates.alone p t))
      (listed (ring_of past.tables p) (s.sound.ring p e)))))
]
  where
    first : ℕ
    first = coordinated_phase past.tables n 1

    second : ℕ
    second = coordinated_phase past.tables n 2

    listed : (r : ℕ) → (r ≡ 1) ⊎ (r ≡ 2) → is_in (coordinated_phases past.tables n) (coordinated_phase past.tables n r) ≡ true
    listed r (inl one) =
        subst (λ (x : ℕ). is_in (coordinated_phases past.tables n) (coordinated_phase past.tables n x) ≡ true) (sym one) (in-head first (second ∷ []))
    listed r (inr two) =
        subst (λ (x : ℕ). is_in (coordinated_phases past.tables n) (coordinated_phase past.tables n x) ≡ true) (sym two)
        (in-tail first (second ∷ []) second (in-head second []))

no-walk : (past : Past) (n p : ℕ) → SeeksOn past n → is_enabled past.tables p ≡ true → is_in (goal_in past.tables (Seek n)) p ≡ false
    → walk_seen past p ≡ false
no-walk past n p s e out = elim (cases_Bool (walk_seen past p)) [
  | inr f ↦ f
  | inl w ↦
      let given : mode_given past ≡ (if are_coordinated_green past.tables n (colours_of past (moves_seen past)) then Coord n else Seek n)
      = ap (λ (m : Mode). mode_reached m past.tables (colours_of past (moves_seen past))) s.mode in
      let from : (colour_of (last_frame past.moments) p ≡ Red) × (colour_of (next_moment past).frame p ≡ Green)
      = begins-red (are_coordinated_green past.tables n (colours_of past (moves_seen past))) (crossing_seen past) n p _ _ _ (other past n p s e out)
      (subst
      (λ (m : Mode). walk_begins (crossing_seen past) m p (colour_of (last_frame past.moments) p) (colour_in (colours_of past (moves_seen past)) p)
      (signal_of (last_frame past.moments) p) ≡ true)
      given w) in
      let goal : List ℕ = goal_in past.tables (Seek n) in
      let after : colour_of (next_moment past).frame p ≡ (if is_in (goal_moves (view_seen past) goal).begins p then Green else Red)
      = found past n p s (enabled-phase past.tables p e)
      ∙ ap (λ (c : Colour). colour_after (goal_moves (view_seen past) goal) p past.tables past.moments c) from.0 in
      elim (end-choice (is_in (goal_moves (view_seen past) goal).begins p) Green Red) [
        | inl h ↦ absurd (both_ways _ out (elim (in-append (goal_beginning_in (view_seen past) goal 1) (goal_beginning_in (view_seen past) goal 2) p h.0) [
          | inl a ↦ begins-goal (view_seen past) goal 1 p a
          | inr b ↦ begins-goal (view_seen past) goal 2 p b
        ]))
        | inr h ↦ absurd (differs Red Green refl (sym (after ∙ h.1) ∙ from.1))
      ]
]

gives : (past : Past) (n : ℕ) → SeeksOn past n → Gives (view_seen past) (goal_in past.tables (Seek n)) (next_moment past)
gives past n s = record {
  each = λ p e. record { tables = refl; colour = found past n p s (enabled-phase past.tables p e) };
  signals = λ p e out.
      next-signal past p (enabled-phase past.tables p e) ∙ not-chosen (walk_seen past p) _ _ (no-walk past n p s e out)
      ∙ ap (λ (l : Lesser). signal_runs_within l p past.tables past.moments (signal_of (last_frame past.moments) p))
      (lesser-unstaged past.tables (mode_seen past) p (ap stage_of s.mode));
}

pub seek-tick : (past : Past) (n : ℕ) (l : Moment) (earlier : List Moment) → SeeksOn past n → past.moments ≡ l ∷ earlier
    → SeekTick past.tables n (next_moment past) l earlier
seek-tick past n l earlier s lasting = record {
  view = view_seen past;
  tables = refl;
  lasting = lasting;
  sought = sought past n s;
  gives = gives past n s;
}
