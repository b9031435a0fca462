use Rattle.std.proofs.Common.{length, sym, ap, ◌∙◌, subst, arith, ℕ, ◌≤◌, ◌≡◌, [], replicate, map, take, slice_index, slice_index_or}
use lib.ListN.{get_elem?}
use Rattle.cab_row.specs.Moves.{items_row}
use Rattle.atomic_table.specs.Table.{opening}
use Rattle.cab_row.specs.Rule.{RowKeeps}
use Rattle.cab_row.specs.Views.{first_view}
use Rattle.cab_row.proofs.Ends.{may_open}
use Rattle.cab_row.proofs.Opens.{some_zeros, all_zeros, items_there, all_new, new_at}
use Rattle.cab_row.proofs.Closes.{one_of_all}
use Rattle.cab_row.proofs.row.Row.open.Goals as goal

abbrev IsSmallBook : {B : Type 0} → (B → ℕ → ℕ) → B → Type 0
IsSmallBook left_of b = (p : ℕ) → left_of b p ≤ 2147483648

pub new-requires : goal.new-requires
new-requires g c = let L = g.B.Logged in let same = ap (λ v. v.items) c.of.ensures in
    subst (λ l. RowKeeps g.row.B.coded.code L.journal L.left_of L.replays l c.args.passes (opening (take c.len-count.result (replicate 64 0)) c.args.books.items (first_view (map g.row.B.coded.code l) c.args.passes))) (sym same)
    (may_open g.row.B.coded.code L.journal L.left_of L.replays g.row.B.coded.inj _ _ _ (omega (arith, c.requires.passes.0)) c.requires.passes.1
    (λ k p first there. one_of_all (IsSmallBook L.left_of) c.args.books.items k first c.requires.small there p)
    (some_zeros c.len-count.result 64 (omega (arith, c.len-count.ensures, c.requires.books.1)) ∙ (c.len-count.ensures ∙ c.args.books.ok.0))
    (λ k. all_zeros c.len-count.result 64 k)
    (λ k first there. let e = one_of_all (λ b. L.journal b ≡ []) c.args.books.items k first c.requires.empty there in (e, g.met.B.Logged.fresh first e)))

pub deal-requires-clause-row : goal.deal-requires-clause-row
deal-requires-clause-row g c = let L = g.B.Logged in let same = ap (λ k. k.books.value.items) c.in-Ok-new.ensures.ok.5 ∙ ap (λ v. v.items) c.of.ensures in (
  c.requires.passes.0,
  c.requires.passes.1,
  omega (arith, c.requires.books.0, c.args.books.ok.0, ap length same),
  λ k first there p h. let e = ap (λ l. get_elem? l k) (sym same) ∙ there in (
    ap (λ l. slice_index (slice_index_or l k (replicate 8 0)) p) (c.in-Ok.ensures ∙ ap (λ l. map (items_row L.left_of) l) c.as_slice.ensures.value) ∙ items_there L.left_of c.args.books.items k first (replicate 8 0) p e h,
    one_of_all (IsSmallBook L.left_of) c.args.books.items k first c.requires.small e p,
  ),
)

pub returns-in-Ok-new-clause-passes : goal.returns-in-Ok-new-clause-passes
returns-in-Ok-new-clause-passes g c = (all_new g.row.B.coded.code g.B.Logged.left_of _ 0 _ c.deal.ensures.0, c.deal.ensures.1)

pub returns-in-Ok-new-clause-numbers : goal.returns-in-Ok-new-clause-numbers
returns-in-Ok-new-clause-numbers g c = λ p pass e. let t = new_at g.row.B.coded.code g.B.Logged.left_of _ 0 _ c.deal.ensures.0 p pass e in (omega (arith, t.0), t.1)
