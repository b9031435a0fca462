-- Each step keeps the rule.
use Rattle.std.proofs.Common.{◌≡◌, ℕ, zero, suc, ◌+◌, ◌-◌, ◌*◌, ◌%◌, ◌<◌, ◌≤◌, ◌≢◌, List, [], ◌∷◌, ◌++◌, length, map, replicate, get_or, set, sym, refl, ap, ◌∙◌, subst, ⊎_elim, arith, cond, eqb, eq-eqb, ne_eqb, length-set, get_or-set_other, get_or-set_same, le-ltb, lt-ltb, Some, None}
use Rattle.std.proofs.lemmas.List.{length-append, length-replicate}
use Rattle.std.proofs.lemmas.Option.{none-some, same_Some}
use mathlib.Core.Logic.{dite}
use native.Mathlib.Decide.{ℕ_discrete, dec_le}
use mathlib.Core.Option.{Option, none, some, some-injective}
use base.Stored.{Gv}
use lib.ListN.{get_elem?}
use lib.Seq.{set-get_or}
use prog.Atomic.{either}
use Rattle.atomic_table.specs.Table.{State, step, keeps, takes, gives, Valid, stepped, Allows}
use Rattle.atomic_table.proofs.Lists.{at_map, at_set, set_here, set_else, exchanged}
use Rattle.cab_row.specs.declared.view.View.{View}
use Rattle.cab_row.specs.Views.{total, is_one, times, is_given, is_pair, is_at, is_cab, count, owns, has, added, looked, holding, finished_with}
use Rattle.cab_row.specs.Rule.{Counted, Since, IsHome, Knows, RowKeeps}
use Rattle.cab_row.specs.Plays.{Sat, IsAlone, looks, finishes, takes_book}
use Rattle.cab_row.proofs.Sums.{total-append, total-set, total-same, total-zeros, total-ones, total-alike, term_le, terms_le, total-none, total-only, one_same, one_other, below, length_of, below_le}

pub given_yes : (p g : ℕ) → p < g → is_given p g ≡ 1
given_yes p g h = ap (λ b. cond b 1 0) (lt-ltb p g h)

pub given_no : (p g : ℕ) → g ≤ p → is_given p g ≡ 0
given_no p g h = ap (λ b. cond b 1 0) (le-ltb p g h)

pub given_one : (p g : ℕ) → is_given p g ≤ 1
given_one p g = dite (dec_le g p) (λ h. omega (arith, given_no p g h)) (λ h. omega (arith, given_yes p g (omega arith)))

-- a place that may hold a cabinet holds none, or one
pub not_both : {o : Rattle.std.specs.Prelude.Option ℕ} {c : ℕ} → o ≡ None → o ≡ Some c → ⊥
not_both {o} {c} e f = none-some c (sym e ∙ f)

pub one_cab : {o : Rattle.std.specs.Prelude.Option ℕ} {c d : ℕ} → o ≡ Some c → o ≡ Some d → c ≡ d
one_cab {o} {c} {d} e f = same_Some c d (sym e ∙ f)

cab_no : (c : ℕ) (o : Rattle.std.specs.Prelude.Option ℕ) → o ≢ Some c → is_cab c o ≡ 0
cab_no c None n = refl
cab_no c (Some d) n = ap (λ b. cond b 1 0) (ne_eqb d c (λ e. n (ap Some e)))

has_yes : (c : ℕ) (v : View) → v.holds ≡ Some c → has c v ≡ 1
has_yes c v e = ap (is_cab c) e ∙ ap (λ b. cond b 1 0) (eq-eqb c c refl)

pub has_no : (c : ℕ) (v : View) → v.holds ≢ Some c → has c v ≡ 0
has_no c v n = cab_no c v.holds n

pub has_free : (c : ℕ) (v : View) → v.holds ≡ None → has c v ≡ 0
has_free c v e = ap (is_cab c) e

-- taking a book adds one to its word, and giving it back with k items one less than twice as many
added_holding : (d c : ℕ) (journal : List ℕ) (v : View) → v.holds ≡ None → added d (holding v c journal) ≡ added d v + is_one d c
added_holding d c journal v e = omega (arith, has_free d v e)

added_here : (c k more : ℕ) (v : View) → v.holds ≡ Some c → more + 1 ≡ 2 * k → added c (finished_with v c k) ≡ added c v + more
added_here c k more v e m = let one : is_at c (v.number, c) ≡ 1 = one_same c c refl in
    omega (arith, total-append (is_at c) v.done (replicate k (v.number, c)), total-ones (is_at c) k (v.number, c) one, has_yes c v e, m)

added_else : (d c k : ℕ) (v : View) → v.holds ≡ Some c → d ≢ c → added d (finished_with v c k) ≡ added d v
added_else d c k v e ne = let zero_here : is_at d (v.number, c) ≡ 0 = one_other d c (λ z. ne (sym z)) in
    omega (arith, total-append (is_at d) v.done (replicate k (v.number, c)), total-zeros (is_at d) k (v.number, c) zero_here, has_no d v (λ z. ne (one_cab z e)))

-- an item done: one more of the pass in the journal, and in what its view counts
pub is_pair_own : (p c : ℕ) → is_pair p c (p, c) ≡ 1
is_pair_own p c = ap (λ b. cond b (cond (eqb c c) 1 0) 0) (eq-eqb p p refl) ∙ ap (λ b. cond b 1 0) (eq-eqb c c refl)

pub is_pair_cab : (p q c d : ℕ) → d ≢ c → is_pair p d (q, c) ≡ 0
is_pair_cab p q c d ne = dite (ℕ_discrete q p) (λ e. ap (λ b. cond b (cond (eqb c d) 1 0) 0) (eq-eqb q p e) ∙ ap (λ b. cond b 1 0) (ne_eqb c d (λ z. ne (sym z)))) (λ n. ap (λ b. cond b (cond (eqb c d) 1 0) 0) (ne_eqb q p n))

is_pair_one : (p q c : ℕ) → is_pair p c (q, c) ≡ is_one p q
is_pair_one p q c = dite (ℕ_discrete q p) (λ e. ap (λ b. cond b (cond (eqb c c) 1 0) 0) (eq-eqb q p e) ∙ (ap (λ b. cond b 1 0) (eq-eqb c c refl) ∙ sym (one_same p q e))) (λ n. ap (λ b. cond b (cond (eqb c c) 1 0) 0) (ne_eqb q p n) ∙ sym (one_other p q n))

pub is_pair_none : (p n c i : ℕ) → p ≢ n → is_pair p c (n, i) ≡ 0
is_pair_none p n c i ne = ap (λ b. cond b (cond (eqb i c) 1 0) 0) (ne_eqb n p (λ z. ne (sym z)))

pub count_done : (p d c k : ℕ) (v : View) → count p d (finished_with v c k) ≡ count p d v + total (is_pair p d) (replicate k (v.number, c))
count_done p d c k v = omega (arith, total-append (is_pair p d) v.done (replicate k (v.number, c)))

-- how often a number is among k times another, and among k times itself
times_none : (p n k : ℕ) → p ≢ n → times p (replicate k n) ≡ 0
times_none p n k ne = total-zeros (is_one p) k n (one_other p n (λ z. ne (sym z)))

pub there_is : {A : Type 0} (l : List A) (i : ℕ) → i < length l → (a : A) × (get_elem? l i ≡ some a)
there_is [] i h = absurd (omega arith)
there_is (x ∷ xs) zero h = (x, refl)
there_is (x ∷ xs) (suc i) h = there_is xs i (omega arith)

module _ {B : Type 0} (code : B → Gv) (journal : B → List ℕ) (left : B → ℕ → ℕ) (Replays : B → B → Type 0) where
  abbrev St : Type 0
  St = State B View

  abbrev board : List ℕ → List (Option B) → List View → St
  board ws hs vs = record { words = ws; homes = hs; views = vs }

  -- what is known of a view that this step does not change
  pub other_view : (books : List B) (passes given given' : ℕ) (s s' : St) (u : View) → Knows code journal left Replays books passes given s u
      → (0 < u.given → given' ≡ given)
      → ((c : ℕ) → u.holds ≡ Some c → (get_or s'.words c 0 ≡ get_or s.words c 0) × ((p : ℕ) → total (count p c) s'.views ≡ total (count p c) s.views))
      → Knows code journal left Replays books passes given' s' u
  other_view books passes given given' s s' u k gave same = record {
    opened = k.opened;
    giver = λ h. k.giver h ∙ sym (gave h);
    idle = k.idle;
    holder = k.holder;
    held = λ c h. let t = k.held c h in let e = same c h in (t.0, e.0 ∙ t.1, λ p. t.2 p ∙ sym (e.1 p));
  }

  -- a look changes nothing but what the view says of looks
  looked_on : (books : List B) (passes : ℕ) (s : St) → RowKeeps code journal left Replays books passes s → (id : ℕ) (v : View) (c n : ℕ) → get_elem? s.views id ≡ some v
      → RowKeeps code journal left Replays books passes (board s.words s.homes (set s.views id (looked v c n)))
  looked_on books passes s k id v c n at = let w : View = looked v c n in let vs : List View = set s.views id w in
      let counts : (p d : ℕ) → total (count p d) vs ≡ total (count p d) s.views = λ p d. total-same (count p d) s.views id v w at refl in
      let mine = k.knows id v at in
      record {
        given = k.given;
        few = k.few;
        eight = k.eight;
        small = k.small;
        words = k.words;
        homes = k.homes;
        locks = λ d h. total-same (has d) s.views id v w at refl ∙ k.locks d h;
        even = λ d h e. let t = k.even d h e in (t.0, t.1, t.2, t.3, λ p. t.4 p ∙ sym (counts p d));
        adds = λ d h. k.adds d h ∙ sym (total-same (added d) s.views id v w at refl);
        knows = λ j u e. ⊎_elim
            (λ (q : (j ≡ id) × (w ≡ u)). subst (Knows code journal left Replays books passes k.given (board s.words s.homes vs)) q.1 (record {
              opened = mine.opened;
              giver = mine.giver;
              idle = mine.idle;
              holder = mine.holder;
              held = λ d h. let t = mine.held d h in (t.0, t.1, λ p. t.2 p ∙ sym (counts p d));
            }))
            (λ (q : (j ≢ id) × (get_elem? s.views j ≡ some u)). other_view books passes k.given k.given s (board s.words s.homes vs) u (k.knows j u q.1) (λ _. refl) (λ d h. (refl, λ p. counts p d)))
            (at_set s.views id j w u e);
        owned = λ p. total-same (owns p) s.views id v w at refl ∙ k.owned p;
        gives = total-same (λ x. x.given) s.views id v w at refl ∙ k.gives;
      }

  -- what holds of numbers and their owners
  module _ (books : List B) (passes : ℕ) (s : St) (k : RowKeeps code journal left Replays books passes s) where
    pub number_below : (id p : ℕ) (v : View) → get_elem? s.views id ≡ some v → owns p v ≡ 1 → p < k.given
    number_below id p v at one = dite (dec_le k.given p) (λ h. absurd (omega (arith, term_le (owns p) s.views id v at, k.owned p, given_no p k.given h))) (λ h. omega arith)

    pub one_owner : (id j p : ℕ) (v u : View) → get_elem? s.views id ≡ some v → owns p v ≡ 1 → j ≢ id → get_elem? s.views j ≡ some u → owns p u ≡ 0
    one_owner id j p v u at one ne there = omega (arith, terms_le (owns p) s.views id j v u ne at there, k.owned p, given_one p k.given)

    -- what the views count of a pass is what its own view counts
    pub own_count : (id p c : ℕ) (v : View) → get_elem? s.views id ≡ some v → owns p v ≡ 1 → total (count p c) s.views ≡ count p c v
    own_count id p c v at one = total-only (count p c) s.views id v at (λ j u ne there. (k.knows j u there).idle p c (one_owner id j p v u at one ne there))

    -- a number that was not given is in no journal
    pub none_yet : (p c : ℕ) → k.given ≤ p → total (count p c) s.views ≡ 0
    none_yet p c h = total-none (count p c) s.views (λ j u there. (k.knows j u there).idle p c (omega (arith, term_le (owns p) s.views j u there, k.owned p, given_no p k.given h)))

    -- with one pass, which holds nothing, the word is twice what it has done
    alone : (id c : ℕ) (v : View) → get_elem? s.views id ≡ some v → v.holds ≡ None → owns v.number v ≡ 1 → c < length books → IsAlone v c (get_or s.words c 0)
    alone id c v at free one inside single =
        let few : k.given ≤ 1 = omega (arith, k.few, (k.knows id v at).opened (omega (arith, one))) in
        let mine : v.number ≡ 0 = omega (arith, number_below id v.number v at one) in
        let still : total (has c) s.views ≡ 0 = total-none (has c) s.views (λ j u there. has_no c u (λ holds.
        let theirs : owns u.number u ≡ 1 = (k.knows j u there).holder (λ e. not_both e holds) in
        let zero_too : u.number ≡ 0 = omega (arith, number_below j u.number u there theirs) in
        dite (ℕ_discrete j id)
        (λ same. let e : u ≡ v = some-injective u v (sym there ∙ (ap (get_elem? s.views) same ∙ at)) in not_both (ap (λ (x : View). x.holds) e ∙ free) holds)
        (λ ne. let lost : owns v.number u ≡ 0 = one_owner id j v.number v u at one ne there in omega (arith, theirs, lost, ap (λ n. owns n u) zero_too, ap (λ n. owns n u) mine)))) in
        let t = k.even c inside (omega (arith, k.locks c inside)) in
        let long : length (journal t.0) ≡ below (λ p. times p (journal t.0)) 1 = length_of (journal t.0) 1 (λ p h. t.4 p ∙ none_yet p c (omega arith)) in
        omega (arith, t.2, long, t.4 0, own_count id v.number c v at one, ap (λ n. total (count n c) s.views) mine)

  -- a load
  pub may_look : (books : List B) (passes slots id c : ℕ) (v : View) → v.holds ≡ None → owns v.number v ≡ 1 → c < length books
      → Allows (RowKeeps code journal left Replays books passes) slots id (v, []) c (λ n. n) (looks (step slots c 0 0 none) (v, []))
  may_look books passes slots id c v free one inside s k wide at _ = (
    looked v c (get_or s.words c 0),
    keeps,
    tt,
    subst (λ ws. RowKeeps code journal left Replays books passes (board ws s.homes (set s.views id (looked v c (get_or s.words c 0))))) (sym (set-get_or s.words c 0)) (looked_on books passes s k id v c (get_or s.words c 0) at),
    (free, refl, alone books passes s k id c v at free one inside),
  )

  -- the word rises by what the view adds
  adds_on : (books : List B) (passes : ℕ) (s : St) (k : RowKeeps code journal left Replays books passes s) (id c new more : ℕ) (v w : View) → get_elem? s.views id ≡ some v → c < length books
      → new ≡ get_or s.words c 0 + more → added c w ≡ added c v + more → ((d : ℕ) → d ≢ c → added d w ≡ added d v) → (d : ℕ) → d < length books → get_or (set s.words c new) d 0 ≡ total (added d) (set s.views id w)
  adds_on books passes s k id c new more v w at inside next up same d h =
      dite (ℕ_discrete d c)
      (λ e. omega (arith, ap (λ x. get_or (set s.words c new) x 0) e, get_or-set_same s.words c new 0 (omega (arith, k.words)), ap (λ x. get_or s.words x 0) e, k.adds d h, total-set (added d) s.views id v w at, ap (λ x. added x w) e, ap (λ x. added x v) e, up, next))
      (λ ne. omega (arith, get_or-set_other s.words c d new 0 ne, k.adds d h, total-set (added d) s.views id v w at, same d ne))

  -- the compare and exchange that finds the word takes the book
  taken_on : (books : List B) (passes : ℕ) (s : St) (k : RowKeeps code journal left Replays books passes s) (id c new : ℕ) (v : View) (b : B) → get_elem? s.views id ≡ some v → v.holds ≡ None → owns v.number v ≡ 1 → c < length books
      → get_or s.words c 0 % 2 ≡ 0 → new ≡ get_or s.words c 0 + 1 → new ≡ 2 * length (journal b) + 1 → Counted c (journal b) s.views
      → RowKeeps code journal left Replays books passes (board (set s.words c new) (set s.homes c none) (set s.views id (holding v c (journal b))))
  taken_on books passes s k id c new v b at free one inside even next long counted =
      let w : View = holding v c (journal b) in let vs : List View = set s.views id w in let ws : List ℕ = set s.words c new in let hs : List (Option B) = set s.homes c none in
      let counts : (p d : ℕ) → total (count p d) vs ≡ total (count p d) s.views = λ p d. total-same (count p d) s.views id v w at refl in
      let here : get_or ws c 0 ≡ new = get_or-set_same s.words c new 0 (omega (arith, k.words)) in
      let there : (d : ℕ) → d ≢ c → get_or ws d 0 ≡ get_or s.words d 0 = λ d ne. get_or-set_other s.words c d new 0 ne in
      let none_held : total (has c) s.views ≡ 0 = k.locks c inside ∙ even in
      let odd : new % 2 ≡ 1 = omega arith in
      let mine = k.knows id v at in
      record {
        given = k.given;
        few = k.few;
        eight = k.eight;
        small = k.small;
        words = length-set s.words c new ∙ k.words;
        homes = length-set s.homes c none ∙ k.homes;
        locks = λ d h. dite (ℕ_discrete d c)
            (λ e. subst (λ x. total (has x) vs ≡ get_or ws x 0 % 2) (sym e) (omega (arith, total-set (has c) s.views id v w at, none_held, has_yes c w refl, has_free c v free, ap (λ n. n % 2) here, odd)))
            (λ ne. omega (arith, total-set (has d) s.views id v w at, has_no d w (λ z. ne (one_cab z refl)), has_free d v free, k.locks d h, ap (λ n. n % 2) (there d ne)));
        even = λ d h e. dite (ℕ_discrete d c)
            (λ z. absurd (omega (arith, e, odd, ap (λ x. get_or ws x 0 % 2) z, ap (λ n. n % 2) here)))
            (λ ne. let t = k.even d h (ap (λ n. n % 2) (sym (there d ne)) ∙ e) in (t.0, set_else s.homes c d none ne ∙ t.1, there d ne ∙ t.2, t.3, λ p. t.4 p ∙ sym (counts p d)));
        adds = adds_on books passes s k id c new 1 v w at inside next (added_holding c c (journal b) v free ∙ ap (λ n. added c v + n) (one_same c c refl))
            (λ d ne. omega (arith, added_holding d c (journal b) v free, one_other d c (λ z. ne (sym z))));
        knows = λ j u e. ⊎_elim
            (λ (q : (j ≡ id) × (w ≡ u)). subst (Knows code journal left Replays books passes k.given (board ws hs vs)) q.1 (record {
              opened = mine.opened;
              giver = mine.giver;
              idle = mine.idle;
              holder = λ _. one;
              held = λ d h. let z : c ≡ d = one_cab refl h in subst (λ x. (x < length books) × (get_or ws x 0 ≡ 2 * length (journal b) + 1) × Counted x (journal b) vs) z (inside, here ∙ long, λ p. counted p ∙ sym (counts p c));
            }))
            (λ (q : (j ≢ id) × (get_elem? s.views j ≡ some u)). other_view books passes k.given k.given s (board ws hs vs) u (k.knows j u q.1) (λ _. refl)
            (λ d h. let ne : d ≢ c = λ z. let yes : has c u ≡ 1 = has_yes c u (h ∙ ap Some z) in absurd (omega (arith, yes, none_held, term_le (has c) s.views j u q.1)) in (there d ne, λ p. counts p d)))
            (at_set s.views id j w u e);
        owned = λ p. total-same (owns p) s.views id v w at refl ∙ k.owned p;
        gives = total-same (λ x. x.given) s.views id v w at refl ∙ k.gives;
      }

  pub may_take : (books : List B) (passes slots id c old new : ℕ) (v : View) → v.holds ≡ None → owns v.number v ≡ 1 → c < length books → old % 2 ≡ 0 → new ≡ old + 1
      → Allows (RowKeeps code journal left Replays books passes) slots id (v, []) c (λ n. either (eqb n old) new n) (takes_book code journal left Replays (step slots c old new none) (v, []))
  may_take books passes slots id c old new v free one inside even next s k wide at _ =
      let single : IsAlone v c (get_or s.words c 0) = alone books passes s k id c v at free one inside in
      exchanged (get_or s.words c 0) old new
      (λ n. (w : View) × (a : Rattle.atomic_table.specs.Table.Act B) × Valid s.homes [] a × RowKeeps code journal left Replays books passes (stepped s c n id [] w a) × takes_book code journal left Replays (step slots c old new none) (v, []) (get_or s.words c 0) (w, Rattle.atomic_table.specs.Table.carried_after [] a))
      (λ hit. let free_word : get_or s.words c 0 % 2 ≡ 0 = ap (λ n. n % 2) hit ∙ even in let t = k.even c inside free_word in let b : B = t.0 in (
        holding v c (journal b),
        takes c b,
        t.1,
        taken_on books passes s k id c new v b at free one inside free_word (omega (arith, next, hit)) (omega (arith, t.2, next, hit)) t.4,
        (
          free,
          (λ _. (b, refl, subst (λ l. Since code journal left Replays l c b) (sym ((k.knows id v at).opened (omega (arith, one))).0) t.3, t.4 v.number ∙ own_count books passes s k id v.number c v at one)),
          (λ miss. absurd (miss hit)),
          single,
        ),
      ))
      (λ miss. (
        looked v c (get_or s.words c 0),
        keeps,
        tt,
        subst (λ ws. RowKeeps code journal left Replays books passes (board ws s.homes (set s.views id (looked v c (get_or s.words c 0))))) (sym (set-get_or s.words c 0)) (looked_on books passes s k id v c (get_or s.words c 0) at),
        (free, (λ hit. absurd (miss hit)), (λ _. refl), single),
      ))

  -- the journal, with these items, is short
  short_journal : (books : List B) (passes : ℕ) (s : St) (k : RowKeeps code journal left Replays books passes s) (id c many : ℕ) (v : View) (b : B) → get_elem? s.views id ≡ some v → v.holds ≡ Some c
      → journal b ≡ v.taken ++ replicate many v.number → Since code journal left Replays (map code books) c b → length (journal b) ≤ 17179869184
  short_journal books passes s k id c many v b at holds grown since = let mine = k.knows id v at in let t = mine.held c holds in
      let f = there_is books c t.0 in
      let below_given : v.number < k.given = number_below books passes s k id v.number v at (mine.holder (λ e. not_both e holds)) in
      let is : (p : ℕ) → times p (journal b) ≡ times p v.taken + times p (replicate many v.number) = λ p. omega (arith, ap (times p) grown, total-append (is_one p) v.taken (replicate many v.number)) in
      let long : length (journal b) ≡ below (λ p. times p (journal b)) k.given = length_of (journal b) k.given (λ p h. omega (arith, is p, t.2 p, none_yet books passes s k p c h, times_none p v.number many (λ e. omega arith))) in
      let most : below (λ p. times p (journal b)) k.given ≤ k.given * 2147483648 = below_le (λ p. times p (journal b)) k.given 2147483648 (λ p. omega (arith, (since f.0 (at_map code books c f.0 f.1)).1 p, k.small c p f.0 f.1)) in
      omega (arith, long, most, k.few, k.eight)

  given_on : (books : List B) (passes : ℕ) (s : St) (k : RowKeeps code journal left Replays books passes s) (id c new many : ℕ) (v : View) (b : B) → get_elem? s.views id ≡ some v → v.holds ≡ Some c → 1 ≤ many
      → journal b ≡ v.taken ++ replicate many v.number → Since code journal left Replays (map code books) c b → new ≡ 2 * length (journal b)
      → RowKeeps code journal left Replays books passes (board (set s.words c new) (set s.homes c (some b)) (set s.views id (finished_with v c many)))
  given_on books passes s k id c new many v b at holds some_more grown since long =
      let w : View = finished_with v c many in let more : List (ℕ × ℕ) = replicate many (v.number, c) in let vs : List View = set s.views id w in let ws : List ℕ = set s.words c new in let hs : List (Option B) = set s.homes c (some b) in
      let mine = k.knows id v at in let t = mine.held c holds in let inside : c < length books = t.0 in
      let own : owns v.number v ≡ 1 = mine.holder (λ e. not_both e holds) in
      let here : get_or ws c 0 ≡ new = get_or-set_same s.words c new 0 (omega (arith, k.words)) in
      let there : (d : ℕ) → d ≢ c → get_or ws d 0 ≡ get_or s.words d 0 = λ d ne. get_or-set_other s.words c d new 0 ne in
      let counts : (p d : ℕ) → total (count p d) vs ≡ total (count p d) s.views + total (is_pair p d) more = λ p d. omega (arith, total-set (count p d) s.views id v w at, count_done p d c many v) in
      let others : (p d : ℕ) → d ≢ c → total (count p d) vs ≡ total (count p d) s.views = λ p d ne. omega (arith, counts p d, total-zeros (is_pair p d) many (v.number, c) (is_pair_cab p v.number c d ne)) in
      let counted : Counted c (journal b) vs = λ p. omega (arith, ap (times p) grown, total-append (is_one p) v.taken (replicate many v.number), t.2 p, counts p c, total-alike (is_pair p c) (is_one p) many (v.number, c) v.number (is_pair_one p v.number c)) in
      let one_holds : total (has c) s.views ≡ 1 = omega (arith, k.locks c inside, t.1) in
      let even : new % 2 ≡ 0 = omega arith in
      let longer : length (journal b) ≡ length v.taken + many = omega (arith, ap length grown, length-append v.taken (replicate many v.number), length-replicate many v.number) in
      record {
        given = k.given;
        few = k.few;
        eight = k.eight;
        small = k.small;
        words = length-set s.words c new ∙ k.words;
        homes = length-set s.homes c (some b) ∙ k.homes;
        locks = λ d h. dite (ℕ_discrete d c)
            (λ e. subst (λ x. total (has x) vs ≡ get_or ws x 0 % 2) (sym e) (omega (arith, total-set (has c) s.views id v w at, one_holds, has_free c w refl, has_yes c v holds, ap (λ n. n % 2) here, even)))
            (λ ne. omega (arith, total-set (has d) s.views id v w at, has_free d w refl, has_no d v (λ z. ne (one_cab z holds)), k.locks d h, ap (λ n. n % 2) (there d ne)));
        even = λ d h e. dite (ℕ_discrete d c)
            (λ z. subst (IsHome code journal left Replays books (board ws hs vs)) (sym z) (b, set_here s.homes c (some b) (omega (arith, k.homes)), here ∙ long, since, counted))
            (λ ne. let u = k.even d h (ap (λ n. n % 2) (sym (there d ne)) ∙ e) in (u.0, set_else s.homes c d (some b) ne ∙ u.1, there d ne ∙ u.2, u.3, λ p. u.4 p ∙ sym (others p d ne)));
        adds = adds_on books passes s k id c new (2 * many - 1) v w at inside (omega (arith, t.1, long, longer, some_more)) (added_here c many (2 * many - 1) v holds (omega (arith, some_more))) (λ d ne. added_else d c many v holds ne);
        knows = λ j u e. ⊎_elim
            (λ (q : (j ≡ id) × (w ≡ u)). subst (Knows code journal left Replays books passes k.given (board ws hs vs)) q.1 (record {
              opened = mine.opened;
              giver = mine.giver;
              idle = λ p d none. dite (ℕ_discrete p v.number) (λ z. absurd (omega (arith, none, own, ap (λ n. owns n v) z))) (λ ne. omega (arith, count_done p d c many v, mine.idle p d none, total-zeros (is_pair p d) many (v.number, c) (is_pair_none p v.number d c ne)));
              holder = λ h. absurd (h refl);
              held = λ d h. absurd (not_both refl h);
            }))
            (λ (q : (j ≢ id) × (get_elem? s.views j ≡ some u)). other_view books passes k.given k.given s (board ws hs vs) u (k.knows j u q.1) (λ _. refl)
            (λ d h. let ne : d ≢ c = λ z. absurd (omega (arith, has_yes c u (h ∙ ap Some z), has_yes c v holds, one_holds, terms_le (has c) s.views id j v u q.0 at q.1)) in (there d ne, λ p. others p d ne)))
            (at_set s.views id j w u e);
        owned = λ p. total-same (owns p) s.views id v w at refl ∙ k.owned p;
        gives = total-same (λ x. x.given) s.views id v w at refl ∙ k.gives;
      }

  -- the `fetch_add` gives the book back, with that many items more
  pub may_finish : (books : List B) (passes slots id c many more : ℕ) (v : View) (b : B) → v.holds ≡ Some c → 1 ≤ many → more + 1 ≡ 2 * many → journal b ≡ v.taken ++ replicate many v.number → Since code journal left Replays v.opening c b
      → Allows (RowKeeps code journal left Replays books passes) slots id (v, (c, b) ∷ []) c (λ n. (n + more) % 18446744073709551616) (finishes (step slots c more 0 none) (v, (c, b) ∷ []))
  may_finish books passes slots id c many more v b holds some_more rise grown since s k wide at _ = let mine = k.knows id v at in let t = mine.held c holds in
      let opening : v.opening ≡ map code books = (mine.opened (omega (arith, mine.holder (λ e. not_both e holds)))).0 in
      let since' : Since code journal left Replays (map code books) c b = subst (λ l. Since code journal left Replays l c b) opening since in
      let short = short_journal books passes s k id c many v b at holds grown since' in
      let longer : length (journal b) ≡ length v.taken + many = omega (arith, ap length grown, length-append v.taken (replicate many v.number), length-replicate many v.number) in
      let new : (get_or s.words c 0 + more) % 18446744073709551616 ≡ 2 * length (journal b) = omega (arith, t.1, short, longer, rise) in
      (finished_with v c many, gives, tt, given_on books passes s k id c _ many v b at holds some_more grown since' new, λ j e. ap (λ (n : ℕ). (finished_with v c n, [])) (omega (arith, e, rise)))

  pub may_look_at : (books : List B) (passes slots id c : ℕ) (m : Sat B) → m.1 ≡ [] → m.0.holds ≡ None → owns m.0.number m.0 ≡ 1 → c < length books
      → Allows (RowKeeps code journal left Replays books passes) slots id m c (λ n. n) (looks (step slots c 0 0 none) m)
  may_look_at books passes slots id c m empty free one inside =
      subst (λ l. Allows (RowKeeps code journal left Replays books passes) slots id (m.0, l) c (λ n. n) (looks (step slots c 0 0 none) (m.0, l))) (sym empty) (may_look books passes slots id c m.0 free one inside)
