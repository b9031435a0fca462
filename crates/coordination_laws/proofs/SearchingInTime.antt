-- A search that continues: what follows N ticks, and that it ends within its bound.
use Rattle.std.proofs.Common.{◌≡◌, ◌⊎◌, inl, inr, ℕ, zero, suc, ◌+◌, ◌*◌, ◌≤◌, ◌<◌, Bool, true, false}
use Rattle.std.proofs.Common.{not, nat_lt, ◌==◌, ◌||◌, if◌then◌else◌, List, [], ◌∷◌, refl, sym, ◌∙◌, ap, subst, arith}
use Rattle.std.proofs.lemmas.Bool.{false≢true, and_parts, cases_order, lt-ltb}
use Rattle.sig_types.specs.declared.frame.Colour.{Colour}
use Rattle.sig_types.specs.declared.frame.Colour.TheVariants.{Green}
use Rattle.sig_types.specs.declared.frame.Mode.{Mode}
use Rattle.sig_types.specs.declared.frame.Mode.TheVariants.{Seek, Coord}
use Rattle.sig_types.specs.declared.frame.Frame.{Frame}
use Rattle.sig_types.specs.Phases.{is_in, is_phase, all_phases}
use Rattle.sig_types.specs.Colour.{same_colour, colour_of}
use Rattle.sig_types.proofs.Lists.{in-head, in-tail, in-those}
use Rattle.sig_types.proofs.Sets.{in-phases}
use Rattle.sig_tables.specs.declared.tables.Tables.{Tables}
use Rattle.sig_tables.specs.Tables.{is_enabled}
use Rattle.sig_tables.specs.Modes.{same_mode}
use Rattle.sig_tables.specs.Slots.{coordinated_phase}
use Rattle.sig_tables.specs.Goals.{goal_in}
use Rattle.sig_tables.specs.Splits.{coordinated_phases}
use Rattle.sig_tables.specs.Choosing.{are_coordinated_green, mode_reached}
use Rattle.sig_tables.specs.Walking.{is_local_zero}
use Rattle.sig_tables.specs.Past.{Moment}
use Rattle.sig_tables.specs.Looking.{last_frame}
use Rattle.coordination_laws.specs.Search.{KeepsEach, InSearch, AnyMoment}
use Rattle.coordination_laws.proofs.Searching.{search-begins, search-step, search-ends}
use Rattle.plan_facts.specs.Disturbances.{Drift, quiet_for}
use Rattle.plan_facts.specs.Greatest.{pickup_bound, greatest_clearance, greatest_service, greatest_revert}
use Rattle.plan_facts.specs.Meets.{is_zero, has_zero, zero_within}
use Rattle.coordination_laws.specs.Versions.{IsVersion, greatest_at, HasYellow}
use Rattle.coordination_laws.specs.Lasting.{SeekTick, Searches}
use Rattle.coordination_laws.proofs.Greatest.{keeps-each, is-late, pickup-grows}

-- the goal of the search is the coordinated phases, where they are enabled
pub in-goal : (t : Tables) (n q : ℕ) → is_phase q ≡ true → is_in (coordinated_phases t n) q ≡ true → is_in (goal_in t (Seek n)) q ≡ true
in-goal t n q phase h = in-phases (is_in (coordinated_phases t n)) q phase ∙ h

goal-enabled : (t : Tables) (n : ℕ) → ((q : ℕ) → is_in (coordinated_phases t n) q ≡ true → is_enabled t q ≡ true)
    → (q : ℕ) → is_in (goal_in t (Seek n)) q ≡ true → is_enabled t q ≡ true
goal-enabled t n enabled q h = enabled q (in-those (is_in (coordinated_phases t n)) all_phases q h).0

-- what follows N ticks of a search
pub searching : (t : Tables) (n : ℕ) (start : List Moment) → IsVersion t start → HasYellow t → AnyMoment (greatest_at start) t start
    → ((q : ℕ) → is_in (coordinated_phases t n) q ≡ true → is_enabled t q ≡ true) → (k : ℕ) (now : List Moment) → Searches t n start k now
    → InSearch (greatest_at start) t (goal_in t (Seek n)) k now
searching t n start version yellow any enabled zero now same =
    subst (λ (ms : List Moment). InSearch (greatest_at start) t (goal_in t (Seek n)) 0 ms) (sym same)
    (search-begins (greatest_at start) t (goal_in t (Seek n)) start (keeps-each start t version yellow) (goal-enabled t n enabled) any)
searching t n start version yellow any enabled (suc k) [] h = absurd h
searching t n start version yellow any enabled (suc k) (m ∷ []) h = absurd h
searching t n start version yellow any enabled (suc k) (m ∷ l ∷ past) h =
    let tick : SeekTick t n m l past = h.0 in
    let goal : List ℕ = goal_in t (Seek n) in
    let keeps : KeepsEach (greatest_at start) tick.view.tables
    = subst (λ (u : Tables). KeepsEach (greatest_at start) u) (sym tick.tables) (keeps-each start t version yellow) in
    let before : InSearch (greatest_at start) tick.view.tables goal k (l ∷ past)
    = subst (λ (u : Tables). InSearch (greatest_at start) u goal k (l ∷ past)) (sym tick.tables)
    (searching t n start version yellow any enabled k (l ∷ past) h.1) in
    let e : k + 1 ≡ suc k = omega arith in
    subst (λ (u : Tables). InSearch (greatest_at start) u goal (suc k) (m ∷ l ∷ past)) tick.tables
    (subst (λ (i : ℕ). InSearch (greatest_at start) tick.view.tables goal i (m ∷ l ∷ past)) e
    (search-step (greatest_at start) tick.view n k goal l past m keeps tick.sought tick.lasting tick.gives before))

-- two Green phases are both Green
both-green : (t : Tables) (n : ℕ) (f : Frame) → ((q : ℕ) → is_in (coordinated_phases t n) q ≡ true → colour_of f q ≡ Green)
    → are_coordinated_green t n f.veh ≡ true
both-green t n f h = two _ _ (h first (in-head first (second ∷ []))) (h second (in-tail first (second ∷ []) second (in-head second [])))
  where
    first : ℕ
    first = coordinated_phase t n 1

    second : ℕ
    second = coordinated_phase t n 2

    two : (a b : Colour) → a ≡ Green → b ≡ Green → (if same_colour a Green then (if same_colour b Green then true else false) else false) ≡ true
    two a b x y = rw (x, y) refl

pub least-bound : (past : List Moment) → 4 ≤ pickup_bound past
least-bound past = sums (greatest_clearance past) (greatest_service past) (greatest_revert past)
  where
    sums : (a b c : ℕ) → 4 ≤ 2 * a + b + c + 4
    sums a b c = omega arith

-- while the coordinated phases are not both Green, the search has not lasted its bound: two ticks are to spare
pub search-short : (t : Tables) (n : ℕ) (start : List Moment) → IsVersion t start → HasYellow t → AnyMoment (greatest_at start) t start
    → ((q : ℕ) → is_in (coordinated_phases t n) q ≡ true → is_enabled t q ≡ true) → (k : ℕ) (now : List Moment) → Searches t n start k now
    → are_coordinated_green t n (last_frame now).veh ≡ false → k + 2 ≤ pickup_bound start
search-short t n start version yellow any enabled zero now same waits = let least : 4 ≤ pickup_bound start = least-bound start in omega arith
search-short t n start version yellow any enabled (suc k) [] h waits = absurd h
search-short t n start version yellow any enabled (suc k) (m ∷ []) h waits = absurd h
search-short t n start version yellow any enabled (suc k) (m ∷ l ∷ past) h waits = decide (cases_order (pickup_bound start) (k + 2))
  where
    tick : SeekTick t n m l past
    tick = h.0

    before : InSearch (greatest_at start) tick.view.tables (goal_in t (Seek n)) k tick.view.past
    before = subst (λ (u : Tables). InSearch (greatest_at start) u (goal_in t (Seek n)) k tick.view.past) (sym tick.tables)
        (subst (λ (ms : List Moment). InSearch (greatest_at start) t (goal_in t (Seek n)) k ms) (sym tick.lasting)
        (searching t n start version yellow any enabled k (l ∷ past) h.1))

    over : pickup_bound start ≤ k + 2 → are_coordinated_green t n m.frame.veh ≡ true
    over late = both-green t n m.frame (λ q h.
        search-ends (greatest_at start) tick.view n k (goal_in t (Seek n)) m tick.sought tick.gives (is-late start k late) before q
        (in-goal t n q (and_parts (is_phase q) _ (enabled q h)).0 h))

    decide : (pickup_bound start ≡ k + 2) ⊎ ((pickup_bound start < k + 2) ⊎ (k + 2 < pickup_bound start)) → suc k + 2 ≤ pickup_bound start
    decide (inl e) = absurd (false≢true (sym waits ∙ over (omega arith)))
    decide (inr (inl below)) = absurd (false≢true (sym waits ∙ over (omega arith)))
    decide (inr (inr above)) = omega arith

-- the bound grows along the search
pub search-grows : (t : Tables) (n : ℕ) (start : List Moment) (k : ℕ) (now : List Moment) → Searches t n start k now
    → pickup_bound start ≤ pickup_bound now
search-grows t n start zero now same = let e : pickup_bound now ≡ pickup_bound start = ap pickup_bound same in omega arith
search-grows t n start (suc k) [] h = absurd h
search-grows t n start (suc k) (m ∷ []) h = absurd h
search-grows t n start (suc k) (m ∷ l ∷ past) h =
    let a : pickup_bound start ≤ pickup_bound (l ∷ past) = search-grows t n start k (l ∷ past) h.1 in
    let b : pickup_bound (l ∷ past) ≤ pickup_bound (m ∷ l ∷ past) = pickup-grows m (l ∷ past) in
    omega arith

-- while it continues, a local zero is not overdue, where the last disturbance came at most one tick before it began
pub search-in-time : (d : Drift) (t : Tables) (n : ℕ) (start : List Moment) (most : ℕ) → IsVersion t start → HasYellow t
    → AnyMoment (greatest_at start) t start
    → ((q : ℕ) → is_in (coordinated_phases t n) q ≡ true → is_enabled t q ≡ true) → (k : ℕ) (now : List Moment) → Searches t n start k now
    → are_coordinated_green t n (last_frame now).veh ≡ false → quiet_for d now ≤ k + 1 → pickup_bound start ≤ most
    → zero_within d most now ≡ true
search-in-time d t n start most version yellow any enabled k now h waits quiet bound = pick (has_zero d now)
  where
    short : k + 2 ≤ pickup_bound start
    short = search-short t n start version yellow any enabled k now h waits

    pick : (b : Bool) → (if b then true else nat_lt (quiet_for d now) most) ≡ true
    pick true = refl
    pick false = lt-ltb (quiet_for d now) most (omega (arith, short, quiet, bound))

-- the tick at which both are Green is a pickup, and a local zero
pub picked-up : (t : Tables) (n : ℕ) (m l : Moment) (past : List Moment) → m.frame.mode ≡ mode_reached (Seek n) t m.frame.veh
    → are_coordinated_green t n m.frame.veh ≡ true → m.frame.counter ≡ 0 → same_mode l.frame.mode (Coord n) ≡ false
    → is_zero (m ∷ l ∷ past) ≡ true
picked-up t n m l past reached green counter other =
    ap (λ (x : Mode). is_local_zero x m.frame.counter l.frame) (reached ∙ ap (λ (b : Bool). if b then Coord n else Seek n) green)
    ∙ rw (counter, other) (either (not (l.frame.counter == 0)))
  where
    either : (b : Bool) → (b || true) ≡ true
    either true = refl
    either false = refl
