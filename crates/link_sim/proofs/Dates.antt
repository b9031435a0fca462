-- The order of the items of an agenda.
use Rattle.std.proofs.Common.{◌≡◌, ◌==◌, ◌&&◌, ℕ, Bool, List, filter, nat_cmp, sym, ◌∙◌}
use Rattle.std.specs.Cmp.{IsTotalOrder, unsigned_tied}
use Rattle.std.specs.Ordering.{is_lt, is_eq}
use Rattle.std.specs.List.Sorted.{IsStable, ties}
use Rattle.std.proofs.lemmas.Cmp.{nat_cmp_total, on_total, then_total}
use Rattle.std.proofs.lemmas.List.Elements.{filter_agree}
use Rattle.link_sim.proofs.Sorting.{tied, then_eq}
use Rattle.link_sim.specs.declared.agenda.Due.{Due}
use Rattle.link_sim.specs.Agenda.{is_of, by_round}

pub dues_total : IsTotalOrder by_round
dues_total = then_total (on_total (λ (d : Due). d.round) nat_cmp_total) (on_total (λ (d : Due). d.cabinet) nat_cmp_total)

-- an item is of a round and a cabinet where it ties with one that is
pub due_is : (round cab : ℕ) (d : Due) → is_eq (by_round d (record { round = round; cabinet = cab; place = 0 })) ≡ is_of round cab d
due_is round cab d = then_eq (nat_cmp d.round round) (nat_cmp d.cabinet cab)
    ∙ both (is_eq (nat_cmp d.round round)) (is_eq (nat_cmp d.cabinet cab)) (d.round == round) (d.cabinet == cab) (unsigned_tied d.round round) (unsigned_tied d.cabinet cab)
  where
    both : (a b c e : Bool) → a ≡ c → b ≡ e → (a && b) ≡ (c && e)
    both a b c e p q = cc

-- a stable sort keeps the items of each round and cabinet in their order
pub sorted_dues : (dues sorted : List Due) → IsStable by_round dues sorted → (round cab : ℕ) → filter (is_of round cab) sorted ≡ filter (is_of round cab) dues
sorted_dues dues sorted stable round cab =
    let t : Due = record { round = round; cabinet = cab; place = 0 } in
    let p : (d : Due) → ties (λ a b. is_lt (by_round a b)) t d ≡ is_of round cab d = λ d. tied dues_total t d ∙ due_is round cab d in
    sym (filter_agree _ _ p sorted) ∙ stable t ∙ filter_agree _ _ p dues
