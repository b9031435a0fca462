-- Seats are split and joined, and how a row begins and ends.
use Rattle.std.proofs.Common.{◌≡◌, ℕ, zero, suc, ◌+◌, ◌*◌, ◌%◌, ◌<◌, ◌≤◌, ◌≢◌, List, [], ◌∷◌, ◌++◌, map, length, get_or, set, sym, refl, ap, ◌∙◌, subst, ⊎_elim, arith, None}
use Rattle.std.proofs.lemmas.List.{length-map}
use mathlib.Core.Logic.{dite}
use native.Mathlib.Decide.{ℕ_discrete, dec_le}
use mathlib.Core.Option.{Option, some, some-injective, some-ne-none}
use base.Stored.{Gv}
use lib.ListN.{get_elem?}
use Rattle.atomic_table.specs.Table.{State, opening, Splits, Joins, Final, Seen}
use Rattle.atomic_table.proofs.Lists.{at_map, at_set, set_else, at_snoc}
use Rattle.cab_row.specs.declared.view.View.{View}
use Rattle.cab_row.specs.Views.{total, is_one, times, is_given, is_at, count, owns, has, added, first_view, giver, newcomer, joined, spent}
use Rattle.cab_row.specs.Rule.{StandsFrom, Since, Knows, IsSmall, RowKeeps}
use Rattle.cab_row.proofs.Sums.{total-append, total-set, term_le, terms_le, total-none, one_same, one_other, below, length_of, below_le}
use Rattle.cab_row.proofs.Steps.{given_yes, given_no, given_one, has_no, has_free, not_both, other_view, number_below, one_owner, own_count, none_yet}

module _ {B : Type 0} (code : B → Gv) (journal : B → List ℕ) (left : B → ℕ → ℕ) (Replays : B → B → Type 0) where
  abbrev St : Type 0
  St = State B View

  abbrev board : List ℕ → List (Option B) → List View → St
  board ws hs vs = record { words = ws; homes = hs; views = vs }

  given_more : (p g : ℕ) → is_given p (g + 1) ≡ is_given p g + is_one p g
  given_more p g = dite (ℕ_discrete g p)
      (λ e. omega (arith, given_yes p (g + 1) (omega arith), given_no p g (omega arith), one_same p g e))
      (λ ne. dite (dec_le g p) (λ h. omega (arith, given_no p (g + 1) (omega arith), given_no p g (omega arith), one_other p g ne)) (λ h. omega (arith, given_yes p (g + 1) (omega arith), given_yes p g (omega arith), one_other p g ne)))

  -- one number more is given
  pub may_split : (books : List B) (passes id : ℕ) (v : View) → 0 < v.given → v.given < v.passes → owns v.number v ≡ 1
      → Splits (RowKeeps code journal left Replays books passes) id v (giver v) (newcomer v)
  may_split books passes id v gives more own s k at =
      let w : View = giver v in let n : View = newcomer v in let vs : List View = set s.views id w ++ n ∷ [] in
      let sums : (g : View → ℕ) → total g vs + g v ≡ total g s.views + g w + g n = λ g. omega (arith, total-append g (set s.views id w) (n ∷ []), total-set g s.views id v w at) in
      let mine = k.knows id v at in let now : v.given ≡ k.given = mine.giver gives in
      let counts : (p d : ℕ) → total (count p d) vs ≡ total (count p d) s.views = λ p d. omega (arith, sums (count p d)) in
      let room : k.given + 1 ≤ passes = omega (arith, (mine.opened (omega (arith, own))).1) in
      let s' : St = board s.words s.homes vs in
      record {
        given = k.given + 1;
        few = room;
        eight = k.eight;
        small = k.small;
        words = k.words;
        homes = k.homes;
        locks = λ d h. omega (arith, sums (has d), has_free d n refl, k.locks d h);
        even = λ d h e. let t = k.even d h e in (t.0, t.1, t.2, t.3, λ p. t.4 p ∙ sym (counts p d));
        adds = λ d h. omega (arith, sums (added d), k.adds d h);
        knows = λ j u e. ⊎_elim
            (λ (x : get_elem? (set s.views id w) j ≡ some u). ⊎_elim
            (λ (q : (j ≡ id) × (w ≡ u)). subst (Knows code journal left Replays books passes (k.given + 1) s') q.1 (record {
              opened = mine.opened;
              giver = λ h. ap (λ m. m + 1) now;
              idle = mine.idle;
              holder = mine.holder;
              held = λ d h. let t = mine.held d h in (t.0, t.1, λ p. t.2 p ∙ sym (counts p d));
            }))
            (λ (q : (j ≢ id) × (get_elem? s.views j ≡ some u)). let theirs = k.knows j u q.1 in other_view code journal left Replays books passes k.given (k.given + 1) s s' u theirs
            (λ h. absurd (omega (arith, theirs.giver h, now, gives, k.gives, terms_le (λ x. x.given) s.views id j v u q.0 at q.1))) (λ d h. (refl, λ p. counts p d)))
            (at_set s.views id j w u x))
            (λ (x : n ≡ u). subst (Knows code journal left Replays books passes (k.given + 1) s') x (record {
              opened = λ _. mine.opened (omega (arith, own));
              giver = λ h. absurd (omega arith);
              idle = λ p d h. refl;
              holder = λ h. absurd (h refl);
              held = λ d h. absurd (not_both refl h);
            }))
            (at_snoc (set s.views id w) n u j e);
        owned = λ p. omega (arith, sums (owns p), k.owned p, given_more p k.given, ap (is_one p) now);
        gives = omega (arith, sums (λ x. x.given), k.gives);
      }

  spent_knows : (books : List B) (passes given : ℕ) (s : St) → Knows code journal left Replays books passes given s spent
  spent_knows books passes given s = record {
    opened = λ h. absurd (omega arith);
    giver = λ h. absurd (omega arith);
    idle = λ p d h. refl;
    holder = λ h. absurd (h refl);
    held = λ d h. absurd (not_both refl h);
  }

  -- a seat takes over what another counts
  pub may_join : (books : List B) (passes id other : ℕ) (v w : View) → 0 < owns v.number v → v.holds ≡ None → w.holds ≡ None
      → Joins (RowKeeps code journal left Replays books passes) id v other w (joined v w) spent
  may_join books passes id other v w own free free' s k at apart there =
      let u' : View = joined v w in let vs : List View = set (set s.views id u') other spent in let s' : St = board s.words s.homes vs in
      let there' : get_elem? s.views other ≡ some w = sym (set_else s.views id other u' apart) ∙ there in
      let sums : (g : View → ℕ) → total g vs + g w + g v ≡ total g s.views + g u' + g spent = λ g. omega (arith, total-set g s.views id v u' at, total-set g (set s.views id u') other w spent there) in
      let mine = k.knows id v at in let theirs = k.knows other w there' in
      let both : (p d : ℕ) → count p d u' ≡ count p d v + count p d w = λ p d. total-append (Rattle.cab_row.specs.Views.is_pair p d) v.done w.done in
      let both_own : (p : ℕ) → owns p u' ≡ owns p v + owns p w = λ p. total-append (is_one p) v.numbers w.numbers in
      let counts : (p d : ℕ) → total (count p d) vs ≡ total (count p d) s.views = λ p d. omega (arith, sums (count p d), both p d) in
      record {
        given = k.given;
        few = k.few;
        eight = k.eight;
        small = k.small;
        words = k.words;
        homes = k.homes;
        locks = λ d h. omega (arith, sums (has d), has_free d u' free, has_free d v free, has_free d w free', has_free d spent refl, k.locks d h);
        even = λ d h e. let t = k.even d h e in (t.0, t.1, t.2, t.3, λ p. t.4 p ∙ sym (counts p d));
        adds = λ d h. omega (arith, sums (added d), total-append (is_at d) v.done w.done, has_free d w free', k.adds d h);
        knows = λ j u e. ⊎_elim
            (λ (q : (j ≡ other) × (spent ≡ u)). subst (Knows code journal left Replays books passes k.given s') q.1 (spent_knows books passes k.given s'))
            (λ (q : (j ≢ other) × (get_elem? (set s.views id u') j ≡ some u)). ⊎_elim
            (λ (r : (j ≡ id) × (u' ≡ u)). subst (Knows code journal left Replays books passes k.given s') r.1 (record {
              opened = λ _. mine.opened own;
              giver = λ h. dite (dec_le v.given 0)
                  (λ z. omega (arith, theirs.giver (omega arith)))
                  (λ z. let bound = terms_le (λ x. x.given) s.views id other v w apart at there' in omega (arith, mine.giver (omega arith), k.gives, bound));
              idle = λ p d h. omega (arith, both p d, both_own p, mine.idle p d (omega (arith, both_own p)), theirs.idle p d (omega (arith, both_own p)));
              holder = λ h. absurd (h free);
              held = λ d h. absurd (not_both free h);
            }))
            (λ (r : (j ≢ id) × (get_elem? s.views j ≡ some u)). other_view code journal left Replays books passes k.given k.given s s' u (k.knows j u r.1) (λ _. refl) (λ d h. (refl, λ p. counts p d)))
            (at_set s.views id j u' u q.1))
            (at_set (set s.views id u') other j spent u e);
        owned = λ p. omega (arith, sums (owns p), both_own p, k.owned p);
        gives = omega (arith, sums (λ x. x.given), k.gives);
      }

  some_at : {A : Type 0} (l : List A) (i : ℕ) → i < length l → (a : A) × (get_elem? l i ≡ some a) × (get_elem? (map some l) i ≡ some (some a))
  some_at [] i h = absurd (omega arith)
  some_at (x ∷ xs) zero h = (x, refl, refl)
  some_at (x ∷ xs) (suc i) h = some_at xs i (omega arith)

  -- a row begins
  pub may_open : ((x y : B) → code x ≡ code y → x ≡ y) → (books : List B) (passes : ℕ) (ws : List ℕ) → 0 < passes → passes ≤ 8 → IsSmall code journal left Replays books → length ws ≡ length books → ((c : ℕ) → get_or ws c 0 ≡ 0)
      → ((c : ℕ) (first : B) → get_elem? books c ≡ some first → (journal first ≡ []) × Replays first first)
      → RowKeeps code journal left Replays books passes (opening ws books (first_view (map code books) passes))
  may_open inj books passes ws some_pass eight small wide quiet fresh = let v : View = first_view (map code books) passes in let s : St = opening ws books v in
      record {
        given = 1;
        few = some_pass;
        eight = eight;
        small = small;
        words = wide;
        homes = length-map books some;
        locks = λ c h. omega (arith, has_free c v refl, ap (λ n. n % 2) (quiet c));
        even = λ c h e. let t = some_at books c h in let f = fresh c t.0 t.1 in (
          t.0,
          t.2,
          omega (arith, quiet c, ap length f.0),
          (λ first there. let same : t.0 ≡ first = inj t.0 first (some-injective (code t.0) (code first) (sym (at_map code books c t.0 t.1) ∙ there)) in subst (λ x. StandsFrom code journal left Replays x t.0) same (f.1, λ p. omega (arith, ap (times p) f.0))),
          (λ p. ap (times p) f.0),
        );
        adds = λ c h. omega (arith, quiet c);
        knows = λ j u e. ⊎_elim (λ (x : get_elem? [] j ≡ some u). absurd (some-ne-none u (sym x)))
            (λ (x : v ≡ u). subst (Knows code journal left Replays books passes 1 s) x (record {
              opened = λ _. (refl, refl);
              giver = λ _. refl;
              idle = λ p c h. refl;
              holder = λ h. absurd (h refl);
              held = λ c h. absurd (not_both refl h);
            }))
            (at_snoc [] v u j e);
        owned = λ p. omega (arith, given_more p 0, given_no p 0 (omega arith));
        gives = refl;
      }

  -- below n, where no number weighs more than 1 and all weigh n, each weighs 1
  all_ones : (f : ℕ → ℕ) (n : ℕ) → ((p : ℕ) → f p ≤ 1) → n ≤ below f n → (p : ℕ) → p < n → f p ≡ 1
  all_ones f zero h full p less = absurd (omega arith)
  all_ones f (suc n) h full p less = let up : below f n ≤ n * 1 = below_le f n 1 h in
      dite (ℕ_discrete p n) (λ e. omega (arith, h n, up, ap f e)) (λ ne. all_ones f n h (omega (arith, h n)) p (omega arith))

  -- a row ends: the seat that has as many numbers as were given counts what the journals have
  pub closes : (books : List B) (passes id : ℕ) (v : View) (ws : List ℕ) (xs : List B) → Final (Seen (RowKeeps code journal left Replays books passes) id v) ws xs → v.holds ≡ None → length v.numbers ≡ passes
      → (length xs ≡ length books)
      × ((p : ℕ) → owns p v ≤ 1)
      × ((c : ℕ) → c < length books → (b : B) × (get_elem? xs c ≡ some b) × Since code journal left Replays (map code books) c b × ((p : ℕ) → times p (journal b) ≡ count p c v))
  closes books passes id v ws xs final free full = let s : St = final.0 in let k = final.1.0 in let at = final.1.1 in
      let once : (p : ℕ) → owns p v ≤ 1 = λ p. omega (arith, term_le (owns p) s.views id v at, k.owned p, given_one p k.given) in
      let long : length v.numbers ≡ below (λ p. times p v.numbers) k.given = length_of v.numbers k.given (λ p h. omega (arith, term_le (owns p) s.views id v at, k.owned p, given_no p k.given h)) in
      let all : (p : ℕ) → p < k.given → owns p v ≡ 1 = all_ones (λ p. times p v.numbers) k.given once (omega (arith, long, full, k.few)) in (
        sym final.3 ∙ k.homes,
        once,
        λ c inside.
            let still : total (has c) s.views ≡ 0 = total-none (has c) s.views (λ j u there. has_no c u (λ holds.
            let theirs : owns u.number u ≡ 1 = (k.knows j u there).holder (λ e. not_both e holds) in
            let ours : owns u.number v ≡ 1 = all u.number (number_below code journal left Replays books passes s k j u.number u there theirs) in
            dite (ℕ_discrete j id)
            (λ same. let e : u ≡ v = some-injective u v (sym there ∙ (ap (get_elem? s.views) same ∙ at)) in not_both (ap (λ (x : View). x.holds) e ∙ free) holds)
            (λ ne. omega (arith, one_owner code journal left Replays books passes s k id j u.number v u at ours ne there)))) in
            let t = k.even c inside (omega (arith, k.locks c inside)) in (
              t.0,
              final.4 c t.0 t.1,
              t.3,
              λ p. dite (dec_le k.given p)
                  (λ h. omega (arith, t.4 p, none_yet code journal left Replays books passes s k p c h, term_le (count p c) s.views id v at))
                  (λ h. t.4 p ∙ own_count code journal left Replays books passes s k id p c v at (all p (omega arith))),
            ),
      )
