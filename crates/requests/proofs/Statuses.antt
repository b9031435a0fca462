-- The first Response among frames, frame by frame.
use Rattle.std.proofs.Common.{◌≡◌, ◌∙◌, ℕ, ◌+◌, ◌<◌, Bool, true, false, List, ◌∷◌, length, get_or, drop, Option, Some, None, refl, sym, ap}
use Rattle.std.specs.Prelude.{ℤ}
use Rattle.std.specs.List.{find}
use Rattle.std.proofs.lemmas.List.{drop_more}
use Rattle.arrayvec.specs.ArrayVec.{ArrayVec}
use Rattle.sig_types.specs.Items.{texts_of}
use Rattle.snmp_msg.specs.declared.message.Message.{Message}
use Rattle.snmp_msg.specs.Reading.{message_of}
use Rattle.requests.specs.Requests.{answers, messages, status_of}
use Rattle.requests.specs.Heads.{status_at}

-- the status of the first Response with an id
abbrev pub first : ℤ → List (ArrayVec ℕ) → Option ℤ
first id arrived = status_of (find (answers id) (messages (texts_of arrived)))

pub first_here : (id status : ℤ) (x : ArrayVec ℕ) (xs : List (ArrayVec ℕ)) → status_at id x.items ≡ Some status → first id (x ∷ xs) ≡ Some status
first_here id status x xs is = by_message (message_of x.items) refl
  where
    by_test : (m : Message) → message_of x.items ≡ Some m → (b : Bool) → answers id m ≡ b → first id (x ∷ xs) ≡ Some status
    by_test m e true ours = rw (e, ours) (rw (e, ours) at is)
    by_test m e false ours = absurd (let h = rw (e, ours) at is in cc)

    by_message : (r : Option Message) → message_of x.items ≡ r → first id (x ∷ xs) ≡ Some status
    by_message (Some m) e = by_test m e (answers id m) refl
    by_message None e = absurd (let h = rw e at is in cc)

pub first_later : (id : ℤ) (x : ArrayVec ℕ) (xs : List (ArrayVec ℕ)) → status_at id x.items ≡ None → first id (x ∷ xs) ≡ first id xs
first_later id x xs is = by_message (message_of x.items) refl
  where
    by_test : (m : Message) → message_of x.items ≡ Some m → (b : Bool) → answers id m ≡ b → first id (x ∷ xs) ≡ first id xs
    by_test m e true ours = absurd (let h = rw (e, ours) at is in cc)
    by_test m e false ours = rw (e, ours) refl

    by_message : (r : Option Message) → message_of x.items ≡ r → first id (x ∷ xs) ≡ first id xs
    by_message (Some m) e = by_test m e (answers id m) refl
    by_message None e = rw e refl

-- the same from a place on
pub first_there : (id : ℤ) (arrived : List (ArrayVec ℕ)) (i : ℕ) (x : ArrayVec ℕ) (status : ℤ) → i < length arrived → x ≡ get_or arrived i x
    → status_at id x.items ≡ Some status → first id (drop i arrived) ≡ Some status
first_there id arrived i x status below is here =
    ap (first id) (drop_more arrived i x below ∙ ap (λ (y : ArrayVec ℕ). y ∷ drop (i + 1) arrived) (sym is)) ∙ first_here id status x (drop (i + 1) arrived) here

pub first_beyond : (id : ℤ) (arrived : List (ArrayVec ℕ)) (i : ℕ) (x : ArrayVec ℕ) → i < length arrived → x ≡ get_or arrived i x
    → status_at id x.items ≡ None → first id (drop (i + 1) arrived) ≡ first id (drop i arrived)
first_beyond id arrived i x below is here =
    sym (ap (first id) (drop_more arrived i x below ∙ ap (λ (y : ArrayVec ℕ). y ∷ drop (i + 1) arrived) (sym is)) ∙ first_later id x (drop (i + 1) arrived) here)
