-- The tables in force are whole downloads, since each call that a cabinet history brings has an id; and a download that is under way has them
-- with its own content.
use Rattle.std.proofs.Common.{◌≡◌, ◌∙◌, ℕ, List, [], ◌∷◌, ◌++◌, true, refl, sym, ap}
use Rattle.sig_tables.specs.declared.tables.Tables.{Tables}
use Rattle.sig_tables.specs.declared.cells.Cell.{Cell}
use Rattle.sig_tables.specs.Cells.{Content}
use Rattle.sig_tables.specs.Putting.{with_put, with_cells}
use Rattle.sig_tables.specs.Past.{History}
use Rattle.sig_tables.specs.Decide.{past_at}
use Rattle.stage_txn.specs.Calls.{Call, Begin, Part, Verify, Finish, Deed, Began, Took, Closed, Installed, Reopened, Idle, staged_by}
use Rattle.stage_txn.specs.Answers.{answered, staged}
use Rattle.sig_types.specs.Items.{Item}
use Rattle.cabinet_history.specs.CabinetHistory.{CabinetHistory}
use Rattle.cabinet_history.specs.Coming.{Coming, in_force, coming, coming_from}
use Rattle.cabinet_history.specs.Downloads.{content_by, accepted_by, is_under_way, base_by, with_downloads, deeds_of, HaveIds}
use Rattle.cabinet_history.proofs.Whole.{whole}
use Rattle.cabinet_laws.proofs.Steps.{IsMadeAt, Any, any, cabinet_history-keeps}

call-ids : (c : Coming) (call : Call) → IsMadeAt c call → HaveIds c.calls → HaveIds (call ∷ c.calls)
call-ids c (Begin id now) is h = (is.0.0, h)
call-ids c (Part id number cells) is h = (is.0, h)
call-ids c (Verify id total now flashing) is h = (is.0, h)
call-ids c (Finish id now flashing) is h = (is.0.0, h)

have-ids : (opening : History) (community : List ℕ) (items : List Item) → HaveIds (coming_from community opening items).calls
have-ids opening community items =
    cabinet_history-keeps Any (λ c. HaveIds c.calls)
    (record { event = λ c e is h. h; call = λ c call is before after h. call-ids c call is h })
    community opening (λ items. any (coming_from community opening items)) tt items

pub items-whole : (opening : History) (community : List ℕ) (items : List Item)
    → in_force (coming_from community opening items)
    ≡ with_downloads (past_at opening).tables (accepted_by (deeds_of (coming_from community opening items)))
items-whole opening community items = (whole community opening items).tables (have-ids opening community items)

cells-append : (t : Tables) (xs ys : List (Cell × Content)) → with_cells t (xs ++ ys) ≡ with_cells (with_cells t xs) ys
cells-append t [] ys = refl
cells-append t (put ∷ xs) ys = cells-append (with_put t put) xs ys

staged-is : (past : List Deed) → staged_by past ≡ with_cells (base_by past) (content_by past)
staged-is [] = refl
staged-is (Began id t ∷ past) = refl
staged-is (Took cells ∷ past) =
    ap (λ (t : Tables). with_cells t cells) (staged-is past) ∙ sym (cells-append (base_by past) (content_by past) cells)
staged-is (Closed ∷ past) = staged-is past
staged-is (Installed ∷ past) = staged-is past
staged-is (Reopened ∷ past) = staged-is past
staged-is (Idle ∷ past) = staged-is past

pub staged-over : (cabinet_history : CabinetHistory) → is_under_way (deeds_of (coming cabinet_history)) ≡ true
    → staged (answered (coming cabinet_history).calls) ≡ with_cells (in_force (coming cabinet_history)) (content_by (deeds_of (coming cabinet_history)))
staged-over cabinet_history way =
    staged-is (deeds_of (coming cabinet_history))
    ∙ ap (λ (t : Tables). with_cells t (content_by (deeds_of (coming cabinet_history)))) ((whole cabinet_history.community cabinet_history.opening cabinet_history.items).base way)
