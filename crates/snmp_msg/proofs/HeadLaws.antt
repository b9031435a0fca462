-- The head that is read is that of the message.
use Rattle.std.proofs.Common.{◌≡◌, ◌≢◌, ◌∙◌, ℕ, zero, suc, arith, ◌==◌, ◌&&◌, Bool, true, false, List, [], ◌∷◌, length, Option, Some, None, refl, ap, nat_le}
use Rattle.std.specs.Prelude.{ℤ, pos, is_some, if◌then◌else◌}
use Rattle.std.specs.Option.{option_map}
use Rattle.std.proofs.lemmas.Bool.Decides.{nat_tests}
use Rattle.std.specs.Ordering.{int_eq}
use Rattle.ber_code.specs.Reading.{◌>>=◌, tagged_at, integer_at, all_at}
use Rattle.snmp_msg.specs.declared.message.Pdu.{Pdu}
use Rattle.snmp_msg.specs.declared.message.Bind.{Bind}
use Rattle.snmp_msg.specs.declared.message.Head.{Head}
use Rattle.snmp_msg.specs.declared.message.Message.{Message}
use Rattle.snmp_msg.specs.Messages.{tag_of}
use Rattle.snmp_msg.specs.Reading.{binding_at, kind_of, fields_at, pdu_at, content_of, framed_at, message_of}
use Rattle.snmp_msg.specs.Heads.{head_of, head_fields_at, head_pdu_at, head_content_of, head_at}

-- the head, and what follows the message
abbrev pub front : Message × List ℕ → Head × List ℕ
front m = (head_of m.0, m.1)

-- steps of which each gives what the other's is mapped to
steps : {A B C : Type 0} (f : B → C) (r : Option A) (g : A → Option B) (h : A → Option C) → ((x : A) → option_map f (g x) ≡ h x)
    → option_map f (r >>= g) ≡ (r >>= h)
steps f (Some x) g h same = same x
steps f None g h same = refl

-- what a test lets through
mapped : {B C : Type 0} (f : B → C) (b : Bool) (x : B) → option_map f (if b then Some x else None) ≡ (if b then Some (f x) else None)
mapped f true x = refl
mapped f false x = refl

-- of the bindings it only counts that they are some
bound : (pdu : Pdu) (community : List ℕ) (id status index : ℤ) (rest after : List ℕ) (binds : Option (List Bind)) →
    option_map front (binds >>= λ bs. if length rest == 0 then Some (record { community = record { items = community }; pdu = pdu; id = id; status = status; index = index; binds = record { items = bs } }, after) else None)
    ≡ (if is_some binds && length rest == 0 then Some (record { pdu = pdu; id = id; status = status; index = index }, after) else None)
bound pdu community id status index rest after (Some bs) = mapped front (length rest == 0) _
bound pdu community id status index rest after None = refl

fields_head : (community : List ℕ) (pdu : Pdu) (bytes : List ℕ) → option_map front (fields_at community pdu bytes) ≡ head_fields_at pdu bytes
unfolding fields_at head_fields_at
fields_head community pdu bytes =
    steps front (tagged_at (tag_of pdu) bytes) _ _ (λ c.
    steps front (integer_at c.0) _ _ (λ id.
    steps front (integer_at id.1) _ _ (λ status.
    steps front (integer_at status.1) _ _ (λ index.
    steps front (tagged_at 48 index.1) _ _ (λ list.
    bound pdu community id.0 status.0 index.0 list.1 c.1 (all_at binding_at 32 list.0))))))

pdu_head : (community bytes : List ℕ) → option_map front (pdu_at community bytes) ≡ head_pdu_at bytes
unfolding pdu_at head_pdu_at
pdu_head community [] = refl
pdu_head community (tag ∷ rest) = steps front (kind_of tag) _ _ (λ pdu. fields_head community pdu (tag ∷ rest))

-- a test on what follows the message
tested : (b : Bool) (m : Option (Message × List ℕ)) →
    option_map head_of (m >>= λ x. if b && length x.1 == 0 then Some x.0 else None) ≡ (option_map front m >>= λ x. if b && length x.1 == 0 then Some x.0 else None)
tested true (Some (m, rest)) = mapped head_of (length rest == 0) m
tested false (Some (m, rest)) = refl
tested b None = refl

content_head : (content : List ℕ) → option_map head_of (content_of content) ≡ head_content_of content
unfolding content_of head_content_of
content_head content =
    steps head_of (integer_at content) _ _ (λ version.
    steps head_of (tagged_at 4 version.1) _ _ (λ community.
    let b = int_eq version.0 (pos 0) && nat_le (length community.0) 32 in
    tested b (pdu_at community.0 community.1)
    ∙ ap (λ (m : Option (Head × List ℕ)). m >>= λ x. if b && length x.1 == 0 then Some x.0 else None) (pdu_head community.0 community.1)))

abbrev followed : List ℕ → Message → Option (Message × List ℕ)
followed rest m = Some (m, rest)

-- the message's own test comes before that on what follows it
whole : (b : Bool) (rest : List ℕ) (m : Option Message) →
    option_map head_of ((m >>= followed rest) >>= λ x. if b && length x.1 == 0 then Some x.0 else None)
    ≡ (option_map head_of m >>= λ x. if b && length rest == 0 then Some x else None)
whole true rest (Some m) = mapped head_of (length rest == 0) m
whole false rest (Some m) = refl
whole b rest None = refl

regroup : {A B C : Type 0} (r : Option A) (f : A → Option B) (g : B → Option C) → ((r >>= f) >>= g) ≡ (r >>= λ x. f x >>= g)
regroup (Some x) f g = refl
regroup None f g = refl

pub message_head : (bytes : List ℕ) → option_map head_of (message_of bytes) ≡ head_at bytes
unfolding message_of framed_at head_at
message_head bytes =
    let b = nat_le (length bytes) 1472 in
    ap (option_map head_of) (regroup (tagged_at 48 bytes) (λ c. content_of c.0 >>= followed c.1) (λ x. if b && length x.1 == 0 then Some x.0 else None))
    ∙ steps head_of (tagged_at 48 bytes) _ _ (λ c.
    whole b c.1 (content_of c.0) ∙ ap (λ (m : Option Head). m >>= λ x. if b && length c.1 == 0 then Some x else None) (content_head c.0))

-- ---- a loop over bindings that are not kept

shape : {A : Type 0} (v : A) (others : Option (List A)) → is_some (others >>= λ os. Some (v ∷ os)) ≡ is_some others
shape v (Some os) = refl
shape v None = refl

pub one_more : (n m : ℕ) (bytes : List ℕ) (v : Bind) (after : List ℕ) → n ≡ suc m → length bytes ≢ 0 → binding_at bytes ≡ Some (v, after)
    → is_some (all_at binding_at n bytes) ≡ is_some (all_at binding_at m after)
unfolding all_at
one_more n m [] v after e some is = absurd (some refl)
one_more n m (b ∷ rest) v after e some is = rw (e, is) (shape v (all_at binding_at m after))

pub no_more : (n m : ℕ) (bytes : List ℕ) → n ≡ suc m → length bytes ≢ 0 → binding_at bytes ≡ None → is_some (all_at binding_at n bytes) ≡ false
unfolding all_at
no_more n m [] e some is = absurd (some refl)
no_more n m (b ∷ rest) e some is = rw (e, is) refl

pub all_read : (n : ℕ) (bytes : List ℕ) → length bytes ≡ 0 → is_some (all_at binding_at n bytes) ≡ true
unfolding all_at
all_read zero [] none = refl
all_read (suc n) [] none = refl
all_read n (b ∷ rest) none = absurd (omega arith)

pub at_end : (n : ℕ) (bytes : List ℕ) → n ≡ 0 → is_some (all_at binding_at n bytes) ≡ (length bytes == 0)
unfolding all_at
at_end n [] e = rw e refl
at_end n (b ∷ rest) e = rw e (grind (arith, nat_tests))
