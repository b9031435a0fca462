-- The priority requests of the first rounds are the same where later ones are left out: they are ordered by rounds, so
-- none changes its number.
use Rattle.std.proofs.Common.{◌≡◌, ◌∙◌, ◌+◌, ◌<◌, ◌≤◌, ◌==◌, ◌&&◌, cond, nat_le, if◌then◌else◌, pos, ℕ, zero, suc, Bool, true, false, List, [], ◌∷◌, length, None, refl, sym, ap, arith, leb-false, ne_eqb}
use Rattle.scenario_data.specs.declared.scenario.PriorityItem.{PriorityItem}
use Rattle.scenario_data.specs.Content.{ScenarioContent}
use Rattle.requests.specs.Requests.{set_text}
use Rattle.link_sim.specs.Priority.{act_bind, priority_from, priority_texts}
use Rattle.link_sim.specs.Reaching.{requested}
use Rattle.run_definition.specs.Session.{Step}
use Rattle.run_definition.specs.SessionRecord.{of_rounds, resulting}
use Rattle.run_definition.specs.SessionDialogue.{first_early, early_priority}
use Rattle.run_definition.proofs.SessionLists.{early-parts, rounds-late}

abbrev round_of : PriorityItem → ℕ
round_of p = p.round

priority-late : (rounds round cab : ℕ) (community : List ℕ) (items : List PriorityItem) (id place last : ℕ)
    → first_early round_of place last items ≡ None → rounds < last → round ≤ rounds → priority_from community round cab id items ≡ []
priority-late rounds round cab community [] id place last e late within = refl
priority-late rounds round cab community (p ∷ items) id place last e late within =
    let parts = early-parts round_of place last p items e in
    let behind : rounds < p.round = omega (arith, parts.first, late) in
    let other : (p.round == round) ≡ false = ne_eqb p.round round (λ f. absurd (omega (arith, f, behind, within))) in
    rw other (priority-late rounds round cab community items (id + 1) (place + 1) p.round parts.others behind within)

one-kept : (b : Bool) (rounds round cab : ℕ) (community : List ℕ) (p : PriorityItem) (items : List PriorityItem) (id place : ℕ)
    → nat_le p.round rounds ≡ b → first_early round_of (place + 1) p.round items ≡ None → round ≤ rounds
    → priority_from community round cab (id + 1) (of_rounds round_of rounds items) ≡ priority_from community round cab (id + 1) items
    → priority_from community round cab id (cond b (p ∷ of_rounds round_of rounds items) (of_rounds round_of rounds items)) ≡ priority_from community round cab id (p ∷ items)
one-kept true rounds round cab community p items id place is others within ih =
    ap (λ (r : List (List ℕ)). if (p.round == round) && (p.cabinet == cab) then set_text community (pos id) (act_bind p.act ∷ []) ∷ r else r) ih
one-kept false rounds round cab community p items id place is others within ih =
    let behind : rounds < p.round = leb-false p.round rounds is in
    let other : (p.round == round) ≡ false = ne_eqb p.round round (λ f. absurd (omega (arith, f, behind, within))) in
    let none : priority_from community round cab (id + 1) items ≡ [] = priority-late rounds round cab community items (id + 1) (place + 1) p.round others behind within in
    ap (λ (xs : List PriorityItem). priority_from community round cab id xs) (rounds-late round_of rounds (place + 1) p.round items others behind)
    ∙ sym (rw other none)

priority-kept : (rounds round cab : ℕ) (community : List ℕ) (items : List PriorityItem) (id place last : ℕ)
    → first_early round_of place last items ≡ None → round ≤ rounds
    → priority_from community round cab id (of_rounds round_of rounds items) ≡ priority_from community round cab id items
priority-kept rounds round cab community [] id place last e within = refl
priority-kept rounds round cab community (p ∷ items) id place last e within =
    let parts = early-parts round_of place last p items e in
    one-kept (nat_le p.round rounds) rounds round cab community p items id place refl parts.others within
    (priority-kept rounds round cab community items (id + 1) (place + 1) p.round parts.others within)

pub requested-kept : (s : ScenarioContent) (all : List (List Step)) (compact : List ℕ) (cab n : ℕ) → early_priority s ≡ None → n ≤ length all
    → requested (resulting s all compact) cab n ≡ requested s cab n
requested-kept s all compact cab zero e within = refl
requested-kept s all compact cab (suc n) e within =
    let few : n + 1 ≤ length all = omega (arith, within) in
    let fewer : n ≤ length all = omega (arith, within) in
    ap (λ (r : List (List ℕ)). r ∷ requested (resulting s all compact) cab n) (priority-kept (length all) (n + 1) cab s.community s.priority 2000000000 0 0 e few)
    ∙ ap (λ (r : List (List (List ℕ))). priority_texts s.community s.priority (n + 1) cab ∷ r) (requested-kept s all compact cab n e fewer)
