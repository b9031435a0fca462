-- The lines of a run give its journals.
use Rattle.std.proofs.Common.{◌≡◌, ◌+◌, ◌∙◌, ℕ, List, [], ◌∷◌, ◌++◌, length, refl, sym, ap, subst, arith, append_assoc}
use Rattle.trace_text.specs.declared.lines.Line.{Line}
use Rattle.trace_text.specs.declared.lines.Line.TheVariants.{S, J, Z}
use Rattle.scenario_data.specs.Content.{ScenarioContent}
use Rattle.cabinet_history.specs.Journals.{runs_of}
use Rattle.run_definition.specs.CabinetState.{CabinetState, opened_cabinet_states, round_acts, each_cabinet_state}
use Rattle.run_definition.specs.Lines.{acts_lines, each_lines, head_lines, rounds_lines, opening_lines, run_lines}
use Rattle.run_definition.specs.Orders.{EachMerges, AreMerges, AreJournals}
use Rattle.run_definition.proofs.Runs.{same-journal}

head_or : Line → List Line → Line
head_or d [] = d
head_or d (x ∷ xs) = x

tail_of : List Line → List Line
tail_of [] = []
tail_of (x ∷ xs) = xs

same-first : (x y : Line) (xs ys : List Line) → x ∷ xs ≡ y ∷ ys → x ≡ y
unfolding head_or
same-first x y xs ys e = ap (head_or x) e

same-tail : (x y : Line) (xs ys : List Line) → x ∷ xs ≡ y ∷ ys → xs ≡ ys
unfolding tail_of
same-tail x y xs ys e = ap tail_of e

cancel : (xs ys zs : List Line) → xs ++ ys ≡ xs ++ zs → ys ≡ zs
cancel [] ys zs e = e
cancel (x ∷ xs) ys zs e = cancel xs ys zs (same-tail x x (xs ++ ys) (xs ++ zs) e)

-- a cabinet's journal, and what follows its round
each-told : (s : ScenarioContent) (first : ℕ) (ts : List CabinetState) (js ks : List (List ℕ)) (xs ys : List Line) → EachMerges s first ts js → EachMerges s first ts ks
    → each_lines s first ts js ++ xs ≡ each_lines s first ts ks ++ ys → (js ≡ ks) × (xs ≡ ys)
each-told s first [] [] [] xs ys are also e = (refl, e)
each-told s first [] (j ∷ js) ks xs ys are also e = absurd are
each-told s first [] [] (k ∷ ks) xs ys are also e = absurd also
each-told s first (t ∷ ts) [] ks xs ys are also e = absurd are
each-told s first (t ∷ ts) (j ∷ js) [] xs ys are also e = absurd also
each-told s first (t ∷ ts) (j ∷ js) (k ∷ ks) xs ys are also e =
    let mine : List Line = acts_lines first t.cabinet_history (round_acts s first t j) in
    let same : j ≡ k = same-journal first j k (same-first (J first (runs_of j)) (J first (runs_of k)) _ _ e) in
    let others : List Line = each_lines s (first + 1) ts ks ++ ys in
    let more : (mine ++ each_lines s (first + 1) ts js) ++ xs ≡ (mine ++ each_lines s (first + 1) ts ks) ++ ys =
    subst (λ (m : List ℕ). (mine ++ each_lines s (first + 1) ts js) ++ xs ≡ (acts_lines first t.cabinet_history (round_acts s first t m) ++ each_lines s (first + 1) ts ks) ++ ys) (sym same)
    (same-tail (J first (runs_of j)) (J first (runs_of k)) _ _ e) in
    let later = cancel mine (each_lines s (first + 1) ts js ++ xs) others
    (sym (append_assoc mine (each_lines s (first + 1) ts js) xs) ∙ more ∙ append_assoc mine (each_lines s (first + 1) ts ks) ys) in
    let (js_same, rest_same) = each-told s (first + 1) ts js ks xs ys are.1 also.1 later in
    (ap (λ (m : List ℕ). m ∷ js) same ∙ ap (λ (m : List (List ℕ)). k ∷ m) js_same, rest_same)

rounds-told : (s : ScenarioContent) (round : ℕ) (ts : List CabinetState) (js ks : List (List (List ℕ))) (xs ys : List Line) → length js ≡ length ks → AreMerges s ts js → AreMerges s ts ks
    → rounds_lines s round ts js ++ xs ≡ rounds_lines s round ts ks ++ ys → js ≡ ks
rounds-told s round ts [] [] xs ys many are also e = refl
rounds-told s round ts [] (k ∷ ks) xs ys many are also e = absurd (omega (arith, many))
rounds-told s round ts (j ∷ js) [] xs ys many are also e = absurd (omega (arith, many))
rounds-told s round ts (j ∷ js) (k ∷ ks) xs ys many are also e =
    let head : List Line = head_lines s round ts in
    let left : List (List ℕ) → List (List (List ℕ)) → List Line → List Line = λ a b c. each_lines s 1 ts a ++ (rounds_lines s (round + 1) (each_cabinet_state s 1 ts a) b ++ c) in
    let spelled : (a : List (List ℕ)) (b : List (List (List ℕ))) (c : List Line) → ((head ++ each_lines s 1 ts a) ++ rounds_lines s (round + 1) (each_cabinet_state s 1 ts a) b) ++ c ≡ head ++ left a b c =
    λ a b c. append_assoc (head ++ each_lines s 1 ts a) (rounds_lines s (round + 1) (each_cabinet_state s 1 ts a) b) c ∙ append_assoc head (each_lines s 1 ts a) (rounds_lines s (round + 1) (each_cabinet_state s 1 ts a) b ++ c) in
    let (first, more) = each-told s 1 ts j k _ _ are.0 also.0 (cancel head (left j js xs) (left k ks ys) (sym (spelled j js xs) ∙ e ∙ spelled k ks ys)) in
    let aligned : rounds_lines s (round + 1) (each_cabinet_state s 1 ts j) js ++ xs ≡ rounds_lines s (round + 1) (each_cabinet_state s 1 ts j) ks ++ ys =
    subst (λ (m : List (List ℕ)). rounds_lines s (round + 1) (each_cabinet_state s 1 ts j) js ++ xs ≡ rounds_lines s (round + 1) (each_cabinet_state s 1 ts m) ks ++ ys) (sym first) more in
    let others : js ≡ ks = rounds-told s (round + 1) (each_cabinet_state s 1 ts j) js ks xs ys (omega (arith, many)) are.1 (subst (λ (m : List (List ℕ)). AreMerges s (each_cabinet_state s 1 ts m) ks) (sym first) also.1) aligned in
    ap (λ (m : List (List ℕ)). m ∷ js) first ∙ ap (λ (m : List (List (List ℕ))). k ∷ m) others

pub journals-told : (s : ScenarioContent) (journals others : List (List (List ℕ))) → AreJournals s journals → AreJournals s others
    → run_lines s journals ≡ run_lines s others → journals ≡ others
journals-told s js ks are also e =
    let ts : List CabinetState = opened_cabinet_states s s.cabinets in
    let start : List Line = opening_lines 1 ts in
    let end : List Line = Z s.rounds ∷ [] in
    let behind : (start ++ rounds_lines s 1 ts js) ++ end ≡ (start ++ rounds_lines s 1 ts ks) ++ end = same-tail (S s.compact) (S s.compact) _ _ e in
    rounds-told s 1 ts js ks end end (are.all ∙ sym also.all) are.merges also.merges
    (cancel start _ _ (sym (append_assoc start (rounds_lines s 1 ts js) end) ∙ behind ∙ append_assoc start (rounds_lines s 1 ts ks) end))
