-- The rounds of the cabinets one after another, and a round.
use Rattle.std.proofs.Common.{◌≡◌, ◌≢◌, ◌⊎◌, ◌<◌, ◌≤◌, ◌+◌, ◌∙◌, ℕ, suc, List, [], ◌∷◌, ◌++◌, length, map, take, drop, get_or, slice_set, inl, inr, refl, sym, ap, subst, arith, append-nil, get_or-set_same, get_or-set_other}
use Rattle.std.proofs.lemmas.Bool.{cases_lt, cases_eq}
use Rattle.std.proofs.lemmas.List.{at_drop_more, take_more, take_all, drop_all, length-set, length-take-le, length-append, get_or_default, get_or_push, get_or_append_left, get_or-map}
use Rattle.sig_types.specs.declared.notes.MasterNote.{MasterNote}
use Rattle.trace_text.specs.declared.lines.Line.{Line}
use Rattle.trace_text.specs.declared.lines.Line.TheVariants.{R, M}
use Rattle.scenario_data.specs.Content.{ScenarioContent}
use Rattle.cabinet_history.specs.Journals.{IsMerge}
use Rattle.cab_book.specs.declared.book.Book.{Book}
use Rattle.cab_book.specs.Books.{ticks_by_end}
use Rattle.run_definition.specs.CabinetState.{CabinetState, coming_streams, next_cabinet_state, each_cabinet_state}
use Rattle.run_definition.specs.Lines.{notes_lines, cabinet_lines, each_lines, round_lines}
use Rattle.safety_laws.specs.TraceText.{lines_text}
use Rattle.run_definition.specs.Orders.{EachMerges}
use Rattle.round_run.specs.CabinetStates.{HasRun, HaveRun, no_journals, TicksWithin}
use Rattle.trace_laws.specs.Script.{Script, Ends, Says, say, cabinet_script, cabinets_script, round_script}
use Rattle.trace_check.specs.declared.faults.CheckFail.{CheckFail}
use Rattle.trace_check.specs.declared.places.Place.{Place}
use Rattle.trace_check.specs.Reading.{Fails, Leads}
use Rattle.trace_check.specs.Cabinets.{CabinetRead}
use Rattle.trace_check.specs.Rounds.{CabinetsRead}
use Rattle.trace_check.specs.Expecting.{fails-on}
use Rattle.trace_check.proofs.Walking.{leads-here, leads-on}
use Rattle.trace_check.proofs.Taking.{said-text, texts-on, each-lines-append}

-- a state in a list that has one at this place
pub cabinet_state-at : (ts : List CabinetState) (k : ℕ) → k < length ts → CabinetState
cabinet_state-at [] k below = absurd (omega (arith, below))
cabinet_state-at (t ∷ ts) k below = t

-- one cabinet more has run its round
pub each-append : (s : ScenarioContent) (first : ℕ) (ts us : List CabinetState) (js ks : List (List ℕ)) → length js ≡ length ts
    → each_cabinet_state s first (ts ++ us) (js ++ ks) ≡ each_cabinet_state s first ts js ++ each_cabinet_state s (first + length ts) us ks
each-append s first [] us [] ks many =
    let here : first ≡ first + 0 = omega arith in
    ap (λ (n : ℕ). each_cabinet_state s n us ks) here
each-append s first [] us (j ∷ js) ks many = absurd (omega (arith, many))
each-append s first (t ∷ ts) us [] ks many = absurd (omega (arith, many))
each-append s first (t ∷ ts) us (j ∷ js) ks many =
    let there : first + 1 + length ts ≡ first + suc (length ts) = omega arith in
    ap (λ (more : List CabinetState). next_cabinet_state s first t j ∷ more)
    (each-append s (first + 1) ts us js ks (omega (arith, many)) ∙ ap (λ (n : ℕ). each_cabinet_state s (first + 1) ts js ++ each_cabinet_state s n us ks) there)

pub merges-append : (s : ScenarioContent) (first : ℕ) (ts us : List CabinetState) (js ks : List (List ℕ)) → EachMerges s first ts js
    → EachMerges s (first + length ts) us ks → EachMerges s first (ts ++ us) (js ++ ks)
merges-append s first [] us [] ks so more =
    let here : first + 0 ≡ first = omega arith in
    subst (λ (n : ℕ). EachMerges s n us ks) here more
merges-append s first [] us (j ∷ js) ks so more = absurd so
merges-append s first (t ∷ ts) us [] ks so more = absurd so
merges-append s first (t ∷ ts) us (j ∷ js) ks so more =
    let there : first + suc (length ts) ≡ first + 1 + length ts = omega arith in
    (so.0, merges-append s (first + 1) ts us js ks so.1 (subst (λ (n : ℕ). EachMerges s n us ks) there more))

-- the rounds of the cabinets before a place were read
pub record CabinetsSoFar (s : ScenarioContent) (ts : List CabinetState) (old now : List Book) (start at : Place) (k : ℕ) : Type 0 where
  pub journals : List (List ℕ)
  pub as_many : length journals ≡ k
  pub merges : EachMerges s 1 (take k ts) journals
  pub run : (j : ℕ) (b : Book) (t : CabinetState) (journal : List ℕ) → j < k → HasRun s (j + 1) (get_or ts j t) (get_or journals j journal) (get_or now j b)
  pub same : (j : ℕ) (b : Book) → k ≤ j → get_or now j b ≡ get_or old j b
  pub text_is : start.left.now ≡ lines_text (each_lines s 1 (take k ts) journals) ++ at.left.now
  pub leads : (rest : List CabinetState → Script)
      → Leads (cabinets_script s 1 [] ts rest) start (cabinets_script s (k + 1) (each_cabinet_state s 1 (take k ts) journals) (drop k ts) rest) at

pub cabinets-none : (s : ScenarioContent) (ts : List CabinetState) (old : List Book) (start : Place) → CabinetsSoFar s ts old old start start 0
cabinets-none s ts old start = record {
  journals = [];
  as_many = refl;
  merges = tt;
  run = λ j b t journal below. absurd (omega (arith, below));
  same = λ j b above. refl;
  text_is = refl;
  leads = λ rest. leads-here (cabinets_script s 1 [] ts rest) start;
}

-- the book that is next has begun its round
pub next-begun : (s : ScenarioContent) (ts : List CabinetState) (old now : List Book) (start at : Place) (k : ℕ) (was : Book) (t : CabinetState) → k < length ts → k < length now
    → was ≡ get_or now k was → HaveRun s ts (no_journals ts) old → CabinetsSoFar s ts old now start at k → HasRun s (k + 1) (get_or ts k t) [] was
next-begun s ts old now start at k was t below within is have so =
    subst (λ (b : Book). HasRun s (k + 1) (get_or ts k t) [] b) (sym (is ∙ so.same k was (omega arith)))
    (subst (λ (passes : List ℕ). HasRun s (k + 1) (get_or ts k t) passes (get_or old k was)) (get_or-map (λ (u : CabinetState). []) ts k t [] below)
    (have.each k was t [] below))

module _ (s : ScenarioContent) (ts : List CabinetState) (old now : List Book) (start at : Place) (k : ℕ) (t : CabinetState) (below : k < length ts)
    (so : CabinetsSoFar s ts old now start at k) where
  before : List CabinetState
  before = each_cabinet_state s 1 (take k ts) so.journals

  -- the way to the next cabinet
  due-next : (rest : List CabinetState → Script) → Leads (cabinets_script s 1 [] ts rest) start
      (cabinet_script s (k + 1) (get_or ts k t) (λ journal. cabinets_script s (k + 1 + 1) (before ++ next_cabinet_state s (k + 1) (get_or ts k t) journal ∷ []) (drop (k + 1) ts) rest)) at
  unfolding before
  due-next rest =
      subst (λ (due : Script). Leads (cabinets_script s 1 [] ts rest) start due at)
      (at_drop_more (λ (us : List CabinetState). cabinets_script s (k + 1) (each_cabinet_state s 1 (take k ts) so.journals) us rest) ts k t below)
      (so.leads rest)

  gone-more : (journal : List ℕ) → before ++ next_cabinet_state s (k + 1) (get_or ts k t) journal ∷ [] ≡ each_cabinet_state s 1 (take (k + 1) ts) (so.journals ++ journal ∷ [])
  unfolding before
  gone-more journal =
      let within : k ≤ length ts = omega (arith, below) in
      let many : length (take k ts) ≡ k = length-take-le k ts within in
      let as_many : length so.journals ≡ length (take k ts) = so.as_many ∙ sym many in
      let number : 1 + length (take k ts) ≡ k + 1 = omega (arith, many) in
      sym (ap (λ (us : List CabinetState). each_cabinet_state s 1 us (so.journals ++ journal ∷ [])) (take_more ts k t below)
      ∙ each-append s 1 (take k ts) (get_or ts k t ∷ []) so.journals (journal ∷ []) as_many
      ∙ ap (λ (n : ℕ). each_cabinet_state s 1 (take k ts) so.journals ++ next_cabinet_state s n (get_or ts k t) journal ∷ []) number)

  merges-more : (journal : List ℕ) → IsMerge (coming_streams s (k + 1) (get_or ts k t)) journal → EachMerges s 1 (take (k + 1) ts) (so.journals ++ journal ∷ [])
  merges-more journal merge =
      let within : k ≤ length ts = omega (arith, below) in
      let many : length (take k ts) ≡ k = length-take-le k ts within in
      let number : k + 1 ≡ 1 + length (take k ts) = omega (arith, many) in
      subst (λ (us : List CabinetState). EachMerges s 1 us (so.journals ++ journal ∷ [])) (sym (take_more ts k t below))
      (merges-append s 1 (take k ts) (get_or ts k t ∷ []) so.journals (journal ∷ []) so.merges
      (subst (λ (n : ℕ). EachMerges s n (get_or ts k t ∷ []) (journal ∷ [])) number (merge, tt)))

  lines-more : (journal : List ℕ) → each_lines s 1 (take k ts) so.journals ++ cabinet_lines s (k + 1) (get_or ts k t) journal
      ≡ each_lines s 1 (take (k + 1) ts) (so.journals ++ journal ∷ [])
  lines-more journal =
      let within : k ≤ length ts = omega (arith, below) in
      let many : length (take k ts) ≡ k = length-take-le k ts within in
      let as_many : length so.journals ≡ length (take k ts) = so.as_many ∙ sym many in
      let number : 1 + length (take k ts) ≡ k + 1 = omega (arith, many) in
      sym (ap (λ (us : List CabinetState). each_lines s 1 us (so.journals ++ journal ∷ [])) (take_more ts k t below)
      ∙ each-lines-append s 1 (take k ts) (get_or ts k t ∷ []) so.journals (journal ∷ []) as_many
      ∙ ap (λ (n : ℕ). each_lines s 1 (take k ts) so.journals ++ (cabinet_lines s n (get_or ts k t) journal ++ [])) number
      ∙ ap (λ (x : List Line). each_lines s 1 (take k ts) so.journals ++ x) (append-nil (cabinet_lines s (k + 1) (get_or ts k t) journal)))

  run-here : (new : Book) (j : ℕ) (journal : List ℕ) (other : List ℕ) (b : Book) (u : CabinetState) → j ≡ k → k < length now → HasRun s (k + 1) (get_or ts k t) journal new
      → HasRun s (j + 1) (get_or ts j u) (get_or (so.journals ++ journal ∷ []) j other) (get_or (slice_set now k new) j b)
  run-here new j journal other b u same within run =
      subst (λ (n : ℕ). HasRun s (n + 1) (get_or ts n u) (get_or (so.journals ++ journal ∷ []) n other) (get_or (slice_set now k new) n b)) (sym same)
      (subst (λ (x : Book). HasRun s (k + 1) (get_or ts k u) (get_or (so.journals ++ journal ∷ []) k other) x) (sym (get_or-set_same now k new b within))
      (subst (λ (x : List ℕ). HasRun s (k + 1) (get_or ts k u) x new) (sym (get_or_push so.journals journal other k so.as_many))
      (subst (λ (x : CabinetState). HasRun s (k + 1) x journal new) (get_or_default ts k t u below) run)))

  run-before : (new : Book) (j : ℕ) (journal other : List ℕ) (b : Book) (u : CabinetState) → j < k
      → HasRun s (j + 1) (get_or ts j u) (get_or (so.journals ++ journal ∷ []) j other) (get_or (slice_set now k new) j b)
  run-before new j journal other b u less =
      let apart : j ≢ k = omega (arith, less) in
      subst (λ (x : Book). HasRun s (j + 1) (get_or ts j u) (get_or (so.journals ++ journal ∷ []) j other) x) (sym (get_or-set_other now k j new b apart))
      (subst (λ (x : List ℕ). HasRun s (j + 1) (get_or ts j u) x (get_or now j b)) (sym (get_or_append_left so.journals (journal ∷ []) other j (omega (arith, less, so.as_many))))
      (so.run j b u other less))

  run-more : (new : Book) (j : ℕ) (journal other : List ℕ) (b : Book) (u : CabinetState) → j < k + 1 → k < length now → HasRun s (k + 1) (get_or ts k t) journal new
      → HasRun s (j + 1) (get_or ts j u) (get_or (so.journals ++ journal ∷ []) j other) (get_or (slice_set now k new) j b)
  run-more new j journal other b u less within run = from (cases_lt j k)
    where
      from : (j < k) ⊎ (k ≤ j) → HasRun s (j + 1) (get_or ts j u) (get_or (so.journals ++ journal ∷ []) j other) (get_or (slice_set now k new) j b)
      from (inl below_k) = run-before new j journal other b u below_k
      from (inr above) = run-here new j journal other b u (omega (arith, less, above)) within run

  pub cabinets-more : (new : Book) (next : Place) → k < length now → CabinetRead s (k + 1) (get_or ts k t) at new next
      → CabinetsSoFar s ts old (slice_set now k new) start next (k + 1)
  cabinets-more new next within read = record {
    journals = so.journals ++ read.journal ∷ [];
    as_many = omega (arith, length-append so.journals (read.journal ∷ []), so.as_many);
    merges = merges-more read.journal read.merge;
    run = λ j b u other less. run-more new j read.journal other b u less within read.run;
    same = λ j b above.
        let apart : j ≢ k = omega (arith, above) in
        get_or-set_other now k j new b apart ∙ so.same j b (omega (arith, above));
    text_is = texts-on (each_lines s 1 (take k ts) so.journals) (cabinet_lines s (k + 1) (get_or ts k t) read.journal) start.left.now at.left.now next.left.now so.text_is read.text_is
        ∙ ap (λ (x : List Line). lines_text x ++ next.left.now) (lines-more read.journal);
    leads = λ rest.
        subst (λ (gone : List CabinetState). Leads (cabinets_script s 1 [] ts rest) start (cabinets_script s (k + 1 + 1) gone (drop (k + 1) ts) rest) next) (gone-more read.journal)
        (leads-on _ _ _ start at next (due-next rest)
        (read.leads (λ journal. cabinets_script s (k + 1 + 1) (before ++ next_cabinet_state s (k + 1) (get_or ts k t) journal ∷ []) (drop (k + 1) ts) rest)));
  }

  pub cabinets-fail : (fail : CheckFail) → ((rest : List ℕ → Script) → Fails (cabinet_script s (k + 1) (get_or ts k t) rest) at fail)
      → (rest : List CabinetState → Script) → Fails (cabinets_script s 1 [] ts rest) start fail
  cabinets-fail fail fails rest =
      fails-on _ _ start at fail (due-next rest)
      (fails (λ journal. cabinets_script s (k + 1 + 1) (before ++ next_cabinet_state s (k + 1) (get_or ts k t) journal ∷ []) (drop (k + 1) ts) rest))

-- all of them were read
pub cabinets-all : (s : ScenarioContent) (ts : List CabinetState) (old now : List Book) (start at : Place) (k : ℕ) → length now ≡ length ts → k ≡ length ts
    → CabinetsSoFar s ts old now start at k → CabinetsRead s ts start now at
cabinets-all s ts old now start at k many all so =
    let taken : take k ts ≡ ts = take_all k ts (omega (arith, all)) in
    record {
      journals = so.journals;
      merges = subst (λ (us : List CabinetState). EachMerges s 1 us so.journals) taken so.merges;
      run = record {
        many = many;
        as_many = so.as_many ∙ all;
        each = λ j b t journal below. so.run j b t journal (omega (arith, below, all));
      };
      text_is = subst (λ (us : List CabinetState). start.left.now ≡ lines_text (each_lines s 1 us so.journals) ++ at.left.now) taken so.text_is;
      leads = λ rest.
          subst (λ (us : List CabinetState). Leads (cabinets_script s 1 [] ts rest) start (rest (each_cabinet_state s 1 us so.journals)) at) taken
          (subst (λ (us : List CabinetState). Leads (cabinets_script s 1 [] ts rest) start (cabinets_script s (k + 1) (each_cabinet_state s 1 (take k ts) so.journals) us rest) at)
          (drop_all k ts (omega (arith, all))) (so.leads rest));
    }

-- the ticks of the books stay as they are
pub ticks-more : (most : ℕ) (now : List Book) (k : ℕ) (was new : Book) → k < length now → was ≡ get_or now k was → ticks_by_end new ≡ ticks_by_end was
    → TicksWithin most now → TicksWithin most (slice_set now k new)
ticks-more most now k was new within is same few = λ j b below. from j b below (cases_eq j k)
  where
    from : (j : ℕ) (b : Book) → j < length (slice_set now k new) → (j ≡ k) ⊎ (j ≢ k) → ticks_by_end (get_or (slice_set now k new) j b) ≤ most
    from j b below (inl e) =
        let here : get_or (slice_set now k new) j b ≡ new = ap (λ (n : ℕ). get_or (slice_set now k new) n b) e ∙ get_or-set_same now k new b within in
        let own : ticks_by_end was ≤ most = subst (λ (x : Book). ticks_by_end x ≤ most) (sym is) (few k was within) in
        subst (λ (x : Book). ticks_by_end x ≤ most) (sym here) (omega (arith, own, same))
    from j b below (inr apart) =
        subst (λ (x : Book). ticks_by_end x ≤ most) (sym (get_or-set_other now k j new b apart)) (few j b (omega (arith, below, length-set now k new)))

-- the notes of a round are those that are expected at its head
pub head-due : (s : ScenarioContent) (round : ℕ) (ts : List CabinetState) (notes : List MasterNote) (rest : List CabinetState → Script) → map M notes ≡ notes_lines s 1 ts
    → round_script s round ts rest ≡ Says (R round) (say (map M notes) (cabinets_script s 1 [] ts rest))
head-due s round ts notes rest same = ap (λ (lines : List Line). Says (R round) (say lines (cabinets_script s 1 [] ts rest))) (sym same)

-- the text of a round: its head, and then its cabinets
pub round-text : (s : ScenarioContent) (round : ℕ) (ts : List CabinetState) (journals : List (List ℕ)) (notes : List MasterNote) (at first next : Place) → map M notes ≡ notes_lines s 1 ts
    → ((rest : Script) → Leads (Says (R round) (say (map M notes) rest)) at rest first) → first.left.now ≡ lines_text (each_lines s 1 ts journals) ++ next.left.now
    → at.left.now ≡ lines_text (round_lines s round ts journals) ++ next.left.now
round-text s round ts journals notes at first next same leads behind =
    let head : at.left.now ≡ lines_text (R round ∷ map M notes) ++ first.left.now = said-text (R round ∷ map M notes) at first (leads Ends) in
    texts-on (R round ∷ map M notes) (each_lines s 1 ts journals) at.left.now first.left.now next.left.now head behind
    ∙ ap (λ (x : List Line). lines_text ((R round ∷ x) ++ each_lines s 1 ts journals) ++ next.left.now) same
