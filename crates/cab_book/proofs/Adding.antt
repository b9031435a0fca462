-- What has been brought in a round, with the next item of a pass, or with that many ticks.
use Rattle.std.proofs.Common.{◌≡◌, ◌≤◌, ◌∙◌, ℕ, zero, suc, List, [], ◌∷◌, ◌++◌, replicate, refl, ap}
use Rattle.sig_types.specs.declared.streams.Streams.{Streams}
use Rattle.sig_types.specs.Items.{items_of}
use Rattle.cabinet_history.specs.Journals.{Act, times, acts_of}
use Rattle.cabinet_history.proofs.Growing.{act_at, acts-more}
use Rattle.cab_book.specs.declared.happened.Happened.{Happened}
use Rattle.cab_book.specs.Happened.{journal_in}
use Rattle.cab_book.specs.Rounds.{acts_so_far}
use Rattle.cab_book.specs.Books.{tick_acts}
use Rattle.cab_book.proofs.Bringing.{acts-ticks}
use Rattle.cab_book.proofs.Coming.{tick_item}
use Rattle.cab_book.proofs.Keeping.{tick_act, tick_acts as ticks_so_far}

pub act-next : (streams : Streams) (old new : Happened) (pass : ℕ) → journal_in new ≡ journal_in old ++ pass ∷ []
    → acts_so_far streams new ≡ acts_so_far streams old ++ act_at (items_of streams) pass (times pass (journal_in old)) ∷ []
act-next streams old new pass journal =
    ap (acts_of (items_of streams)) journal ∙ acts-more (items_of streams) (journal_in old) pass (times pass (journal_in old)) refl

last-act : (many : ℕ) (act : Act) → replicate many act ++ act ∷ [] ≡ replicate (suc many) act
last-act zero act = refl
last-act (suc many) act = ap (λ (acts : List Act). act ∷ acts) (last-act many act)

same-ticks : (pass many : ℕ) → ticks_so_far pass many ≡ tick_acts pass many
same-ticks pass zero = refl
same-ticks pass (suc many) = ap (λ (acts : List Act). acts ++ tick_act pass ∷ []) (same-ticks pass many) ∙ last-act many (tick_act pass)

pub ticks-next : (streams : Streams) (old new : Happened) (pass many : ℕ) → 4 ≤ pass → journal_in new ≡ journal_in old ++ replicate many pass
    → acts_so_far streams new ≡ acts_so_far streams old ++ tick_acts pass many
ticks-next streams old new pass many above journal =
    ap (acts_of (items_of streams)) journal
    ∙ acts-ticks (items_of streams) (journal_in old) pass many (λ place. tick_item streams pass place above)
    ∙ ap (λ (acts : List Act). acts_so_far streams old ++ acts) (same-ticks pass many)
