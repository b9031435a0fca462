-- The grammar's loops, begun again in their midst: any number of turns that is enough gives the same.
use Rattle.std.proofs.Common.{◌≡◌, ℕ, zero, suc, ◌≤◌, List, [], ◌∷◌, length, Option, Some, None, option_map, option_and_then, refl, sym, ap, ◌∙◌, arith}
use Rattle.json.specs.Token.{Token}
use Rattle.json.specs.Json as json
use Rattle.json.specs.Json.{Json, Parse, parse_map, after_end_array, read_key, items, items_step, members, members_step}
use Rattle.json.proofs.Grammar.{Takes, left, items_fail, members_no_key, read_key-shorter}
use Rattle.serde_json.specs.Data.{Data, Items, Members, no_members, put}
use Rattle.serde_json.specs.Read.{of_json, of_items, of_members, converted}
use Rattle.scenario_cut.proofs.Turns.{converted_some}

module _ (p : Parse Json) (takes : Takes p) where
  nothing : (o : Option (Json × List Token)) → p [] ≡ o → p [] ≡ None
  nothing None e = e
  nothing (Some q) e = let less = takes [] q.1 (ap left e) in absurd (omega (arith, less))

  no-items : (n : ℕ) (ts : List Token) → length ts ≤ 0 → items p n ts ≡ None
  no-items n [] none = items_fail p n [] refl (nothing (p []) refl)
  no-items n (t ∷ ts) none = absurd (omega (arith, none))

  item-turn : (n m : ℕ) (ts : List Token) → length ts ≤ suc n → length ts ≤ suc m
      → ((r : List Token) → length r ≤ n → length r ≤ m → items p n r ≡ items p m r)
      → (o : Option (List Token)) (q : Option (Json × List Token)) → p ts ≡ q → items_step p (items p n) ts o ≡ items_step p (items p m) ts o
  item-turn n m ts a b same (Some r) q e = refl
  item-turn n m ts a b same None None e = rw e refl
  item-turn n m ts a b same None (Some q) e =
      let less = takes ts q.1 (ap left e) in
      rw e (ap (parse_map (json.item q.0)) (same q.1 (omega (arith, less, a)) (omega (arith, less, b))))

  items-enough : (n m : ℕ) (ts : List Token) → length ts ≤ n → length ts ≤ m → items p n ts ≡ items p m ts
  unfolding items
  items-enough zero m ts a b = no-items zero ts a ∙ sym (no-items m ts a)
  items-enough (suc n) zero ts a b = no-items (suc n) ts b ∙ sym (no-items zero ts b)
  items-enough (suc n) (suc m) ts a b = item-turn n m ts a b (items-enough n m) (after_end_array ts) (p ts) refl

  -- the items to come, read on their own
  pub rest-items : (n : ℕ) (ts r : List Token) (ds : Items) → length ts ≤ n → converted of_items (items p (length ts) ts) ≡ Some (ds, r) → converted of_items (items p n ts) ≡ Some (ds, r)
  rest-items n ts r ds enough e = ap (converted of_items) (items-enough n (length ts) ts enough (omega arith)) ∙ e

  no-members : (n : ℕ) (ts : List Token) → length ts ≤ 0 → members p n ts ≡ None
  no-members n [] none = members_no_key p n [] refl
  no-members n (t ∷ ts) none = absurd (omega (arith, none))

  member-turn : (n m : ℕ) (k : List ℕ) (s : List Token) → length s ≤ n → length s ≤ m
      → ((r : List Token) → length r ≤ n → length r ≤ m → members p n r ≡ members p m r)
      → (q : Option (Json × List Token)) → p s ≡ q → members_step p (members p n) (Some k) s ≡ members_step p (members p m) (Some k) s
  member-turn n m k s a b same None e = rw e refl
  member-turn n m k s a b same (Some q) e =
      let less = takes s q.1 (ap left e) in
      rw e (ap (parse_map (json.member k q.0)) (same q.1 (omega (arith, less, a)) (omega (arith, less, b))))

  key-turn : (n m : ℕ) (ts : List Token) → length ts ≤ suc n → length ts ≤ suc m
      → ((r : List Token) → length r ≤ n → length r ≤ m → members p n r ≡ members p m r)
      → (o : Option (Option (List ℕ) × List Token)) → read_key ts ≡ o
      → option_and_then (λ q. members_step p (members p n) q.0 q.1) o ≡ option_and_then (λ q. members_step p (members p m) q.0 q.1) o
  key-turn n m ts a b same None e = refl
  key-turn n m ts a b same (Some (None, s)) e = refl
  key-turn n m ts a b same (Some (Some k, s)) e =
      let less = read_key-shorter ts (Some k) s e in
      member-turn n m k s (omega (arith, less, a)) (omega (arith, less, b)) same (p s) refl

  members-enough : (n m : ℕ) (ts : List Token) → length ts ≤ n → length ts ≤ m → members p n ts ≡ members p m ts
  unfolding members
  members-enough zero m ts a b = no-members zero ts a ∙ sym (no-members m ts a)
  members-enough (suc n) zero ts a b = no-members (suc n) ts b ∙ sym (no-members zero ts b)
  members-enough (suc n) (suc m) ts a b = key-turn n m ts a b (members-enough n m) (read_key ts) refl

-- members that have a reading have one after any others
behind-others : (js : json.Members) (old ms others : Members) → of_members js old ≡ Some ms → (all : Members) × (of_members js others ≡ Some all)
behind-others json.no_members old ms others e = (others, refl)
behind-others (json.member k j js) old ms others e = at (of_json j) (λ d. behind-others js (put k d old) ms (put k d others)) e
  where
    at : (o : Option Data) → ((d : Data) → of_members js (put k d old) ≡ Some ms → (all : Members) × (of_members js (put k d others) ≡ Some all))
        → option_and_then (λ d. of_members js (put k d old)) o ≡ Some ms → (all : Members) × (option_and_then (λ d. of_members js (put k d others)) o ≡ Some all)
    at None more none = absurd (cc)
    at (Some d) more some = more d some

module _ (p : Parse Json) (takes : Takes p) where
  -- the members to come, read on their own
  pub rest-members : (n : ℕ) (ts r : List Token) (others ms : Members) → length ts ≤ n → converted (λ js. of_members js no_members) (members p (length ts) ts) ≡ Some (ms, r)
      → (all : Members) × (converted (λ js. of_members js others) (members p n ts) ≡ Some (all, r))
  rest-members n ts r others ms enough e =
      let j = converted_some (λ js. of_members js no_members) (members p (length ts) ts) ms r e in
      let all = behind-others j.0 no_members ms others j.2 in
      (all.0, ap (converted (λ js. of_members js others)) (members-enough p takes n (length ts) ts enough (omega arith) ∙ j.1) ∙ ap (option_map (λ b. (b, r))) all.1)
