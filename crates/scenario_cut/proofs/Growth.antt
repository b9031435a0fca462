-- What is kept of a list that grows at its end, and of an object to which a member is put.
use Rattle.std.proofs.Common.{◌≡◌, ℕ, suc, ◌&&◌, true, false, if◌then◌else◌, List, Ordering, Less, Equal, Greater, nat_cmp, codes, refl, sym, ap, ap₂, ◌∙◌}
use Rattle.std.specs.Cmp.Lexicographic.{slice_cmp}
use Rattle.std.specs.Ordering.{match_ordering}
use Rattle.serde_json.specs.Data.{Data, null, array, object, Items, no_items, item, Members, no_members, member, put}
use Rattle.scenario_cut.specs.Cutting.{Form, Street, Field, Outer, Whole, Setup, Cabinets, Cabinet, Events, Event, Pulses, Pulse, Master, Entries, Entry, Respond, Sections, Section, Steps, Step, Rows, Row, Part, Times, Bare, opens_array, opens_object, item_form, member_form, names_at, few, room, room_behind, drops, cut, cut_items, cut_members}
use Rattle.scenario_cut.specs.Growing.{both}
use Rattle.scenario_cut.proofs.Members.{IsObject, some-cut, equal-names}
use Rattle.scenario_cut.proofs.Turns.{both-more}

-- what is kept of an item leaves as much room after it
pub room-same : (f : Form) (n : ℕ) (d : Data) → room_behind f n (cut f d) ≡ room_behind f n d
room-same Street n d = refl
room-same Field n d = refl
room-same Outer n d = refl
room-same Whole n d = refl
room-same Setup n d = refl
room-same Cabinets n d = refl
room-same Cabinet n d = refl
room-same Events n d = refl
room-same Event n d =
    let is : IsObject Event = record { opens = refl; closed = refl } in
    ap₂ (λ a b. if a && b then suc n else 0) (some-cut Event is (codes "round") refl d) (some-cut Event is (codes "cabinet") refl d)
room-same Pulses n d = refl
room-same Pulse n d =
    let is : IsObject Pulse = record { opens = refl; closed = refl } in
    rw (some-cut Pulse is (codes "round") refl d, some-cut Pulse is (codes "cabinet") refl d, some-cut Pulse is (codes "detector") refl d, some-cut Pulse is (codes "on") refl d) refl
room-same Master n d = refl
room-same Entries n d = refl
room-same Entry n d = refl
room-same Respond n d = refl
room-same Sections n d = refl
room-same Section n d = refl
room-same Steps n d = refl
room-same Step n d = refl
room-same Rows n d = refl
room-same Row n d = refl
room-same Part n d = refl
room-same Times n d = refl
room-same Bare n d = refl

-- an item where there is room for it
pub item-first : (f : Form) (left n : ℕ) (d v : Data) (behind : ℕ) (rest : Items) → left ≡ suc n → v ≡ cut f d → behind ≡ room_behind f n v → cut_items f left (item d rest) ≡ item v (cut_items f behind rest)
item-first f left n d v behind rest is kept room =
    ap (λ m. cut_items f m (item d rest)) is
    ∙ ap₂ (λ w m. item w (cut_items f m rest)) (sym kept) (sym (room ∙ ap (room_behind f n) kept ∙ room-same f n d))

-- one item more
pub kept-more : (f : Form) (start left behind : ℕ) (ds old new : Items) (d : Data) → ((rest : Items) → cut_items f start (both ds rest) ≡ both old (cut_items f left rest))
    → ((rest : Items) → both old (cut_items f left (item d rest)) ≡ both new (cut_items f behind rest)) → (rest : Items) → cut_items f start (both (both ds (item d no_items)) rest) ≡ both new (cut_items f behind rest)
kept-more f start left behind ds old new d so-far next rest = ap (cut_items f start) (sym (both-more ds d rest)) ∙ so-far (item d rest) ∙ next rest

-- where there is no room for an item, it is dropped, or null represents it
pub none-more : (f : Form) → drops f ≡ true → (ds : Items) → cut_items f 0 ds ≡ no_items
none-more f gone no_items = refl
none-more f gone (item d ds) = ap (λ b. if b then no_items else item null (cut_items f 0 ds)) gone

pub null-more : (f : Form) → drops f ≡ false → (d : Data) (ds : Items) → cut_items f 0 (item d ds) ≡ item null (cut_items f 0 ds)
null-more f stays d ds = ap (λ b. if b then no_items else item null (cut_items f 0 ds)) stays

-- a member that is put
pub put-kept : (f : Form) (k : List ℕ) (d : Data) (ms : Members) → cut_members f (put k d ms) ≡ put k (cut (member_form f k) d) (cut_members f ms)
put-kept f k d no_members = refl
put-kept f k d (member l e ms) = at (slice_cmp nat_cmp k l) refl (put-kept f k d ms)
  where
    at : (o : Ordering) → slice_cmp nat_cmp k l ≡ o → cut_members f (put k d ms) ≡ put k (cut (member_form f k) d) (cut_members f ms)
        → cut_members f (match_ordering o (member k d (member l e ms)) (member l d ms) (member l e (put k d ms)))
        ≡ match_ordering o (member k (cut (member_form f k) d) (cut_members f (member l e ms))) (member l (cut (member_form f k) d) (cut_members f ms)) (member l (cut (member_form f l) e) (put k (cut (member_form f k) d) (cut_members f ms)))
    at Less is later = refl
    at Equal is later = ap (λ n. member l (cut (member_form f n) d) (cut_members f ms)) (sym (equal-names k l is))
    at Greater is later = ap (member l (cut (member_form f l) e)) later

-- an array or an object where one may be, and where none may
pub kept-array : (f : Form) (ds : Items) → opens_array f ≡ true → array (cut_items (item_form f) (room (item_form f)) ds) ≡ cut f (array ds)
kept-array f ds opens = ap (λ b. if b then array (cut_items (item_form f) (room (item_form f)) ds) else null) (sym opens)

pub no-array : (f : Form) (ds : Items) → opens_array f ≡ false → null ≡ cut f (array ds)
no-array f ds shut = ap (λ b. if b then array (cut_items (item_form f) (room (item_form f)) ds) else null) (sym shut)

pub kept-object : (f : Form) (ms : Members) → opens_object f ≡ true → object (few (names_at f) (cut_members f ms)) ≡ cut f (object ms)
kept-object f ms opens = ap (λ b. if b then object (few (names_at f) (cut_members f ms)) else null) (sym opens)

pub no-object : (f : Form) (ms : Members) → opens_object f ≡ false → null ≡ cut f (object ms)
no-object f ms shut = ap (λ b. if b then object (few (names_at f) (cut_members f ms)) else null) (sym shut)
