-- An input, a tick and a frame, brought as the next item of a round.
use Rattle.std.proofs.Common.{◌≡◌, ◌≤◌, ◌<◌, ℕ, zero, suc, ◌+◌, ◌-◌, ◌∙◌, List, [], ◌∷◌, length, map, get_or, replicate, refl, sym, ap, subst, Option, arith}
use Rattle.std.specs.Coded.{le_prop, ×_prop, Coded-set, coded_bool}
use Rattle.std.proofs.lemmas.List.{get_or-map, length-map}
use Rattle.arrayvec.specs.ArrayVec.{ArrayVec}
use Rattle.sig_types.specs.declared.frame.Field.{Field}
use Rattle.sig_types.specs.declared.frame.Field.TheVariants.{Veh, Ped as Button, Preempt as PreemptInput}
use Rattle.sig_types.specs.declared.frame.Frame.{Frame}
use Rattle.tick_context.specs.CanRun.{NamesPlace}
use Rattle.sig_types.specs.declared.streams.Streams.{Streams}
use Rattle.sig_types.specs.Items.{Item, InputTold, Came, Ticked, items_of, texts_of}
use Rattle.cabinet_history.specs.declared.Load.{Load}
use Rattle.cabinet_history.specs.declared.Reply.{Reply}
use Rattle.cabinet_history.specs.CabinetHistory.{CabinetHistory, with_item}
use Rattle.cabinet_history.specs.Journals.{times}
use Rattle.cabinet_history.specs.CabinetAnswers.{item_replies, in_frame, reply_to, load_end}
use Rattle.cab_book.specs.declared.cabinet.Cabinet.{Cabinet}
use Rattle.cab_book.specs.declared.happened.Happened.{Happened}
use Rattle.cab_book.specs.CabinetStands.{CabinetStands}
use Rattle.cab_book.specs.Happened.{HappenedGoesOn, TicksOn, journal_in}
use Rattle.cab_book.specs.Ticks.{ticks_on, ticks_written}
use Rattle.cab_book.specs.Rounds.{AreTallied, RoundStands, cabinet_history_after}
use Rattle.cab_book.proofs.Bringing.{round-more, round-ticks}

pub NamesPlace-prop : (field : Field) → IsProp (NamesPlace field)
NamesPlace-prop (Veh p on) = Coded-set coded_bool _ _
NamesPlace-prop (Button p) = Coded-set coded_bool _ _
NamesPlace-prop (PreemptInput i on) = ×_prop le_prop le_prop

-- no more inputs are left than there are
pub left-of-fields : (streams : Streams) (left : List ℕ) (h : Happened) → AreTallied streams left h → get_or left 0 0 ≤ length streams.fields.items
left-of-fields streams left h tallied =
    let many : length (map InputTold streams.fields.items) ≡ length streams.fields.items = length-map streams.fields.items InputTold in
    omega (arith, tallied.each 0 (omega arith), many)

-- an input was heard
pub heard : (c next : Cabinet) (streams : Streams) (left : List ℕ) (old new : Happened) (field : Field) (place : ℕ) → AreTallied streams left old
    → place + get_or left 0 0 ≡ length streams.fields.items → 0 < get_or left 0 0 → field ≡ get_or streams.fields.items place field
    → ((cabinet_history : CabinetHistory) → CabinetStands c cabinet_history → CabinetStands next (with_item cabinet_history (InputTold field))) → HappenedGoesOn old new 0 [] [] → (cabinet_history : CabinetHistory)
    → RoundStands c streams old cabinet_history → RoundStands next streams new cabinet_history
heard c next streams left old new field place tallied e some is stands goes cabinet_history so =
    let many : length (map InputTold streams.fields.items) ≡ length streams.fields.items = length-map streams.fields.items InputTold in
    let at : place ≡ times 0 (journal_in old) = omega (arith, tallied.each 0 (omega arith), e, many) in
    let less : place < length streams.fields.items = omega (arith, e, some) in
    let item : InputTold field ≡ get_or (map InputTold streams.fields.items) (times 0 (journal_in old)) Ticked =
    ap InputTold is ∙ sym (get_or-map InputTold streams.fields.items place field Ticked less)
    ∙ ap (λ (n : ℕ). get_or (map InputTold streams.fields.items) n Ticked) at in
    round-more c next streams old new cabinet_history 0 (InputTold field) item so (stands (cabinet_history_after streams old cabinet_history) so.cabinet) goes

ticked_at : (many k : ℕ) → get_or (replicate many Ticked) k Ticked ≡ Ticked
ticked_at zero k = refl
ticked_at (suc many) zero = refl
ticked_at (suc many) (suc k) = ticked_at many k

-- each pass from the fourth on brings ticks
pub tick_item : (streams : Streams) (pass place : ℕ) → 4 ≤ pass → get_or (get_or (items_of streams) pass []) place Ticked ≡ Ticked
tick_item streams zero place above = absurd (omega (arith, above))
tick_item streams (suc zero) place above = absurd (omega (arith, above))
tick_item streams (suc (suc zero)) place above = absurd (omega (arith, above))
tick_item streams (suc (suc (suc zero))) place above = absurd (omega (arith, above))
tick_item streams (suc (suc (suc (suc zero)))) place above = ticked_at streams.ticks place
tick_item streams (suc (suc (suc (suc (suc pass))))) place above = refl

-- that many ticks came, and what they gave is kept
pub strode : (c next : Cabinet) (streams : Streams) (old new : Happened) (pass many : ℕ) (frames : List (ℕ × Frame)) → 4 ≤ pass
    → ((cabinet_history : CabinetHistory) → CabinetStands c cabinet_history → frames ≡ ticks_written many cabinet_history)
    → ((cabinet_history : CabinetHistory) → CabinetStands c cabinet_history → CabinetStands next (ticks_on many cabinet_history)) → TicksOn old new pass many frames → (cabinet_history : CabinetHistory)
    → RoundStands c streams old cabinet_history → RoundStands next streams new cabinet_history
strode c next streams old new pass many frames above gives stands goes cabinet_history so =
    let now = cabinet_history_after streams old cabinet_history in
    round-ticks c next streams old new cabinet_history pass many (λ place. tick_item streams pass place above) so (stands now so.cabinet)
    (subst (λ (x : List (ℕ × Frame)). TicksOn old new pass many x) (gives now so.cabinet) goes)

pub frames-many : (frames : List (ArrayVec ℕ)) → length (map Came (texts_of frames)) ≡ length frames
frames-many frames = length-map (texts_of frames) Came ∙ length-map frames (λ (x : ArrayVec ℕ). x.items)

-- no more frames of a pass are left than its stream has
pub left-of-frames : (streams : Streams) (left : List ℕ) (h : Happened) (pass : ℕ) (frames : List (ArrayVec ℕ)) → pass < 4 → AreTallied streams left h
    → map Came (texts_of frames) ≡ get_or (items_of streams) pass [] → (length frames - get_or left pass 0) + get_or left pass 0 ≡ length frames
left-of-frames streams left h pass frames low tallied own =
    omega (arith, tallied.each pass low, ap (λ (x : List Item). length x) own, frames-many frames)

-- the frame that a pass brings next
pub frame-next : (streams : Streams) (left : List ℕ) (h : Happened) (pass place : ℕ) (frames : List (ArrayVec ℕ)) (octets : List ℕ) → pass < 4 → AreTallied streams left h
    → map Came (texts_of frames) ≡ get_or (items_of streams) pass [] → place + get_or left pass 0 ≡ length frames → 0 < get_or left pass 0
    → octets ≡ get_or (texts_of frames) place [] → Came octets ≡ get_or (get_or (items_of streams) pass []) (times pass (journal_in h)) Ticked
frame-next streams left h pass place frames octets low tallied own e some is =
    let items : length (get_or (items_of streams) pass []) ≡ length frames = ap (λ (x : List Item). length x) (sym own) ∙ frames-many frames in
    let at : place ≡ times pass (journal_in h) = omega (arith, tallied.each pass low, e, items) in
    let less : place < length frames = omega (arith, e, some) in
    let within : place < length (texts_of frames) = omega (arith, less, length-map frames (λ (x : ArrayVec ℕ). x.items)) in
    ap Came is
    ∙ sym (get_or-map Came (texts_of frames) place [] Ticked within)
    ∙ ap (λ (x : List Item). get_or x place Ticked) own
    ∙ ap (λ (n : ℕ). get_or (get_or (items_of streams) pass []) n Ticked) at

-- what is reported of a frame
abbrev pub reply_of : ℕ → Option (ArrayVec ℕ) → Option Load → Reply
reply_of pass text load = record { pass = pass; text = text; load = load }

-- a frame came, and what is reported of it is kept
pub replied : (c next : Cabinet) (streams : Streams) (left : List ℕ) (old new : Happened) (pass place : ℕ) (frames : List (ArrayVec ℕ)) (octets : List ℕ)
    (text : Option (ArrayVec ℕ)) (load : Option Load) → pass < 4 → AreTallied streams left old
    → map Came (texts_of frames) ≡ get_or (items_of streams) pass [] → place + get_or left pass 0 ≡ length frames → 0 < get_or left pass 0
    → octets ≡ get_or (texts_of frames) place []
    → ((cabinet_history : CabinetHistory) → CabinetStands c cabinet_history → text ≡ in_frame (reply_to cabinet_history octets))
    → ((cabinet_history : CabinetHistory) → CabinetStands c cabinet_history → load ≡ load_end cabinet_history octets)
    → ((cabinet_history : CabinetHistory) → CabinetStands c cabinet_history → CabinetStands next (with_item cabinet_history (Came octets)))
    → HappenedGoesOn old new pass [] (reply_of pass text load ∷ []) → (cabinet_history : CabinetHistory) → RoundStands c streams old cabinet_history → RoundStands next streams new cabinet_history
replied c next streams left old new pass place frames octets text load low tallied own e some is texts loads stands goes cabinet_history so =
    let now = cabinet_history_after streams old cabinet_history in
    let item = frame-next streams left old pass place frames octets low tallied own e some is in
    let told : (reply_of pass text load ∷ []) ≡ item_replies now pass (Came octets) =
    ap (λ (x : Option (ArrayVec ℕ)). reply_of pass x load ∷ []) (texts now so.cabinet)
    ∙ ap (λ (x : Option Load). reply_of pass (in_frame (reply_to now octets)) x ∷ []) (loads now so.cabinet) in
    round-more c next streams old new cabinet_history pass (Came octets) item so (stands now so.cabinet) (subst (λ (x : List Reply). HappenedGoesOn old new pass [] x) told goes)
