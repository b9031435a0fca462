-- Levels by kept volumes are those by whole ones; and the levels of rules that are taken one after another.
use Rattle.std.proofs.Common.{◌≡◌, ◌≤◌, ◌<◌, ◌+◌, ◌-◌, ◌*◌, ℕ, zero, suc, Bool, true, false, nat_le, nat_lt, List, [], ◌∷◌, ◌++◌, length, map, drop, get_or, replicate, get_or-set_same, get_or-set_other, ◌⊎◌, inl, inr, refl, sym, ap, ◌∙◌, subst, arith, append_assoc, add-one}
use Rattle.std.specs.Prelude.{slice_set}
use Rattle.std.proofs.Math.ListN.{length-set}
use Rattle.std.proofs.lemmas.Bool.{leb-true, leb-false, ltb-true, ltb-false, cases_eq, cases_order}
use Rattle.std.proofs.lemmas.List.{length-replicate, length-map, get_or_default}
use Rattle.scenario_data.specs.declared.scenario.Entry.{Entry}
use Rattle.responsive.specs.declared.Step.{Step}
use Rattle.responsive.specs.Level.{up_met, down_met, step_to, greatest, level}
use Rattle.scenario_data.specs.Content.{ScenarioContent}
use Rattle.detector_bank.specs.declared.bank.Edge.{Edge}
use Rattle.responsive.specs.declared.Rule.{Rule}
use Rattle.field_read.specs.Content.{RuleContent, rule_content}
use Rattle.field_file.specs.Schedule.{Counted, volume, level_after, changes, change_of}
use Rattle.field_file.specs.Counting.{kept, HasVolumes, RuleStands, RulesStand, LevelsFit, AreLevels, change_between}

le-kept : (a v : ℕ) → a ≤ 4294967295 → nat_le a (kept v) ≡ nat_le a v
le-kept a v low = from (nat_le a (kept v)) (nat_le a v) refl refl
  where
    from : (x y : Bool) → nat_le a (kept v) ≡ x → nat_le a v ≡ y → nat_le a (kept v) ≡ nat_le a v
    from true true p q = p ∙ sym q
    from false false p q = p ∙ sym q
    from true false p q = let up = leb-true a (kept v) p in let under = leb-false a v q in absurd (omega (arith, low, up, under))
    from false true p q = let under = leb-false a (kept v) p in let up = leb-true a v q in absurd (omega (arith, low, up, under))

lt-kept : (a v : ℕ) → a ≤ 4294967295 → nat_lt (kept v) a ≡ nat_lt v a
lt-kept a v low = from (nat_lt (kept v) a) (nat_lt v a) refl refl
  where
    from : (x y : Bool) → nat_lt (kept v) a ≡ x → nat_lt v a ≡ y → nat_lt (kept v) a ≡ nat_lt v a
    from true true p q = p ∙ sym q
    from false false p q = p ∙ sym q
    from true false p q = let under = ltb-true (kept v) a p in let up = ltb-false v a q in absurd (omega (arith, low, up, under))
    from false true p q = let up = ltb-false (kept v) a p in let under = ltb-true v a q in absurd (omega (arith, low, up, under))

greatest-same : (met other : Step → Bool) (steps : List Step) → ((i : ℕ) → met (step_to steps i) ≡ other (step_to steps i)) → (n : ℕ) → greatest met steps n ≡ greatest other steps n
greatest-same met other steps same zero = refl
greatest-same met other steps same (suc n) = rw (same n, greatest-same met other steps same n) refl

pub level-kept : (steps : List Step) → ((i : ℕ) → ((step_to steps i).up ≤ 4294967295) × ((step_to steps i).down ≤ 4294967295)) → (now v : ℕ) → level steps now (kept v) ≡ level steps now v
level-kept steps told now v =
    rw (
      greatest-same (up_met (kept v)) (up_met v) steps (λ i. le-kept (step_to steps i).up v (told i).0) (length steps),
      greatest-same (down_met (kept v)) (down_met v) steps (λ i. le-kept (step_to steps i).down v (told i).1) (now - 1),
      lt-kept (step_to steps (now - 1)).down v (told (now - 1)).1,
    ) refl

-- an entry after period n is that between two levels
pub change-is : (c : Counted) (second n : ℕ) (rule : RuleContent) (before now : ℕ) → before ≡ level_after c rule n → now ≡ level_after c rule (suc n)
    → change_between second rule before now ≡ change_of c second n rule
change-is c second n rule before now p q = rw (p, q) refl

-- the rules after a place have entries still to come
pub changes-next : (c : Counted) (second n : ℕ) (rules : List RuleContent) (k : ℕ) (r : RuleContent) (old found more : List Entry) → k < length rules → more ≡ change_of c second n (get_or rules k r)
    → found ++ changes c second n (drop k rules) ≡ old → (found ++ more) ++ changes c second n (drop (k + 1) rules) ≡ old
changes-next c second n rules k r old found more within is before =
    append_assoc found more (changes c second n (drop (k + 1) rules))
    ∙ ap (λ (es : List Entry). found ++ (es ++ changes c second n (drop (k + 1) rules))) is
    ∙ ap (λ (rs : List RuleContent). found ++ changes c second n rs) (ap (λ (m : ℕ). get_or rules k r ∷ drop m rules) (add-one k) ∙ sym (drop-here rules k r within)) ∙ before
  where
    drop-here : (rules : List RuleContent) (k : ℕ) (r : RuleContent) → k < length rules → drop k rules ≡ get_or rules k r ∷ drop (suc k) rules
    drop-here [] k r low = absurd (omega (arith, low))
    drop-here (x ∷ rules) zero r low = refl
    drop-here (x ∷ rules) (suc k) r low = drop-here rules k r (omega (arith, low))

pub changes-done : (c : Counted) (second n : ℕ) (rules : List RuleContent) (k : ℕ) (old found : List Entry) → length rules ≤ k → found ++ changes c second n (drop k rules) ≡ old → found ≡ old
changes-done c second n rules k old found all h = ended found ∙ ap (λ (rs : List RuleContent). found ++ changes c second n rs) (sym (none-left rules k all)) ∙ h
  where
    ended : (es : List Entry) → es ≡ es ++ []
    ended [] = refl
    ended (e ∷ es) = ap (λ (xs : List Entry). e ∷ xs) (ended es)

    none-left : (rules : List RuleContent) (k : ℕ) → length rules ≤ k → drop k rules ≡ []
    none-left [] zero low = refl
    none-left [] (suc k) low = refl
    none-left (x ∷ rules) zero low = absurd (omega (arith, low))
    none-left (x ∷ rules) (suc k) low = none-left rules k (omega (arith, low))

-- what is counted of a scenario's cabinets
abbrev pub counted_from : ScenarioContent → ℕ → List Edge → Counted
counted_from s period edges = record { sections = map (λ c. c.section) s.cabinets; period = period; edges = edges }

-- one period more of a rule
pub level-next : (c : Counted) (rule : RuleContent) (n before v now : ℕ) → RuleStands rule → before ≡ level_after c rule n → v ≡ kept (volume c rule.section n) → now ≡ level rule.steps before v
    → now ≡ level_after c rule (suc n)
level-next c rule n before v now stands b k e =
    e ∙ ap (λ (x : ℕ). level rule.steps x v) b ∙ ap (level rule.steps (level_after c rule n)) k ∙ level-kept rule.steps stands.told (level_after c rule n) (volume c rule.section n)

-- one level that fits in place of another
pub fit-set : (levels : List ℕ) (rules : List RuleContent) (k x : ℕ) → k < length rules → ((r : RuleContent) → x ≤ length (get_or rules k r).steps) → LevelsFit levels rules → LevelsFit (slice_set levels k x) rules
fit-set levels rules k x within low h = record { count = length-set levels k x ∙ h.count; each = λ i l r inside. at i l r inside (cases_eq i k) }
  where
    at : (i l : ℕ) (r : RuleContent) → i < length rules → (i ≡ k) ⊎ (i ≡ k → ⊥) → get_or (slice_set levels k x) i l ≤ length (get_or rules i r).steps
    at i l r inside (inl same) =
        let there : k < length levels = omega (arith, within, h.count) in
        subst (λ (j : ℕ). get_or (slice_set levels k x) j l ≤ length (get_or rules j r).steps) (sym same) (subst (λ (v : ℕ). v ≤ length (get_or rules k r).steps) (sym (get_or-set_same levels k x l there)) (low r))
    at i l r inside (inr differs) =
        subst (λ (v : ℕ). v ≤ length (get_or rules i r).steps) (sym (get_or-set_other levels k i x l differs)) (h.each i l r inside)

-- the rule at a place, as its content
pub rule-at : (rules : List Rule) (k : ℕ) (d : Rule) (r : RuleContent) → k < length rules → get_or (map rule_content rules) k r ≡ rule_content (get_or rules k d)
rule-at [] k d r low = absurd (omega (arith, low))
rule-at (x ∷ rules) zero d r low = refl
rule-at (x ∷ rules) (suc k) d r low = rule-at rules k d r (omega (arith, low))

-- at first each level is 0
zero-at : (n k l : ℕ) → k < n → get_or (replicate n 0) k l ≡ 0
zero-at zero k l low = absurd (omega (arith, low))
zero-at (suc n) zero l low = refl
zero-at (suc n) (suc k) l low = zero-at n k l (omega (arith, low))

pub fit-start : (rules : List RuleContent) (n : ℕ) → n ≡ length rules → LevelsFit (replicate n 0) rules
fit-start rules n e = record { count = length-replicate n 0 ∙ e; each = λ k l r low. subst (λ (v : ℕ). v ≤ length (get_or rules k r).steps) (sym (zero-at n k l (omega (arith, low, e)))) (omega arith) }

pub levels-start : (c : Counted) (rules : List RuleContent) (n : ℕ) → n ≡ length rules → AreLevels (replicate n 0) c rules 0
levels-start c rules n e = λ k l r low. zero-at n k l (omega (arith, low, e))

-- the rule at a place, read out of the list
pub rule-here : (rules : List Rule) (k : ℕ) (x : Rule) (r : RuleContent) → k < length rules → x ≡ get_or rules k x → get_or (map rule_content rules) k r ≡ rule_content x
rule-here rules k x r low is = rule-at rules k x r low ∙ ap rule_content (sym is)

pub rule-stands : (rules : List Rule) (k : ℕ) (x : Rule) → k < length rules → x ≡ get_or rules k x → RulesStand (map rule_content rules) → RuleStands (rule_content x)
rule-stands rules k x low is stand =
    let len : length (map rule_content rules) ≡ length rules = length-map rules rule_content in
    subst RuleStands (rule-here rules k x (rule_content x) low is) (stand k (rule_content x) (omega (arith, low, len)))

-- what a rule's level was before a period and is after it
pub level-before : (c : Counted) (rules : List Rule) (k n : ℕ) (rule : Rule) (levels old : List ℕ) (before : ℕ) → k < length rules → rule ≡ get_or rules k rule
    → AreLevels old c (map rule_content rules) n → before ≡ get_or levels k before → get_or levels k before ≡ get_or old k before → before ≡ level_after c (rule_content rule) n
level-before c rules k n rule levels old before low is are here kept_so =
    let len : length (map rule_content rules) ≡ length rules = length-map rules rule_content in
    here ∙ kept_so ∙ are k before (rule_content rule) (omega (arith, low, len)) ∙ ap (λ (x : RuleContent). level_after c x n) (rule-here rules k rule (rule_content rule) low is)

pub level-behind : (c : Counted) (n periods : ℕ) (rule : Rule) (table : List ℕ) (before v now : ℕ) → RuleStands (rule_content rule) → n < periods → HasVolumes table c periods c.edges
    → before ≡ level_after c (rule_content rule) n → v ≡ get_or table (n * 8 + (rule.section - 1)) v → n * 8 + 8 ≤ length table → now ≡ level rule.steps.items before v
    → now ≡ level_after c (rule_content rule) (suc n)
level-behind c n periods rule table before v now stands low has b here room e =
    let some : 1 ≤ rule.section = stands.some in
    let few : rule.section ≤ 8 = stands.few in
    let within : n * 8 + (rule.section - 1) < length table = omega (arith, some, few, room) in
    level-next c (rule_content rule) n before v now stands b
    (here ∙ get_or_default table (n * 8 + (rule.section - 1)) v 0 within ∙ has n rule.section low some few) e

-- a level at a place, where those before it are there already
pub level-at : (c : Counted) (rules : List RuleContent) (n : ℕ) (levels : List ℕ) (i now k d : ℕ) (r : RuleContent) → i < length levels → k < i + 1 → now ≡ level_after c (get_or rules i r) n
    → (k < i → get_or levels k d ≡ level_after c (get_or rules k r) n) → get_or (slice_set levels i now) k d ≡ level_after c (get_or rules k r) n
level-at c rules n levels i now k d r within below here earlier = from (cases_eq k i)
  where
    from : (k ≡ i) ⊎ (k ≡ i → ⊥) → get_or (slice_set levels i now) k d ≡ level_after c (get_or rules k r) n
    from (inl same) =
        subst (λ (j : ℕ). get_or (slice_set levels i now) j d ≡ level_after c (get_or rules j r) n) (sym same) (get_or-set_same levels i now d within ∙ here)
    from (inr differs) =
        let under : k < i = from_two (cases_order k i) in
        get_or-set_other levels i k now d differs ∙ earlier under
      where
        from_two : (k ≡ i) ⊎ ((k < i) ⊎ (i < k)) → k < i
        from_two (inl same) = absurd (differs same)
        from_two (inr (inl less)) = less
        from_two (inr (inr more)) = absurd (omega (arith, below, more))
