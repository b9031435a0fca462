-- A text that is handed over and written bit by bit.
use Rattle.std.proofs.Common.{◌≡◌, ◌≢◌, ◌-◌, ℕ, List, ◌∷◌, ◌++◌, length, take, drop, Option, [], sym, ◌∙◌, ap, refl, arith}
use Rattle.std.proofs.Common.{length-drop, append_assoc, append-nil}
use Rattle.std.proofs.lemmas.List.{take-append-drop, take_all}
use Rattle.io_edge.specs.Edge.{appended, Appends}
use Rattle.io_edge.proofs.Appending.{appended-appended, appended-nil}
use Rattle.trace_text.specs.declared.lines.Line.{Line}
use Rattle.trace_text.specs.Line.{line_text}
use Rattle.trace_text.proofs.Ends.{some_text}
use Rattle.trace_writer.specs.Bytes.{AppendsSome, AppendsFront, AppendsUpTo, Puts, PutsFront, PutsUpTo}

-- a list with something in front of it or after it isn't empty
pub some_before : {A : Type 0} (rest more : List A) → rest ≢ [] → rest ++ more ≢ []
some_before [] more some = absurd (some refl)
some_before (x ∷ rest) more some = λ none. cc none

pub some_behind : {A : Type 0} (front rest : List A) → rest ≢ [] → front ++ rest ≢ []
some_behind [] rest some = some
some_behind (x ∷ front) rest some = λ none. cc none

-- n bytes more of the rest
pub appends_more : (old mid new : Option (List ℕ)) (piece rest : List ℕ) (n : ℕ) → AppendsSome old mid piece rest → Appends mid new (take n rest)
    → AppendsSome old new piece (take (length rest - n) (drop n rest))
appends_more old mid new piece rest n (front, e, a) more =
    let all : take (length rest - n) (drop n rest) ≡ drop n rest = take_all _ _ (omega (arith, length-drop n rest)) in
    rw all (
      front ++ take n rest,
      rw (append_assoc, take-append-drop) e,
      more ∙ ap (λ o. appended o (take n rest)) a
          ∙ appended-appended old front (take n rest),
    )

-- nothing was written yet
pub none_yet : (old : Option (List ℕ)) (piece : List ℕ) → AppendsSome old old piece piece
none_yet old piece = ([], refl, sym (appended-nil old))

pub front_yet : (old : Option (List ℕ)) (piece : List ℕ) → piece ≢ [] → AppendsFront old old piece
front_yet old piece some = (piece, some, none_yet old piece)

-- with all that was held written, a prefix of the piece was written
pub held_front : (old mid new : Option (List ℕ)) (held piece : List ℕ) → Appends old mid held → AppendsFront mid new piece → PutsFront old new held piece
held_front old mid new held piece b (rest, some, (front, e, a)) = (
  rest,
  some,
  (
    held ++ front,
    ap (λ x. held ++ x) e ∙ sym (append_assoc held front rest),
    a ∙ ap (λ o. appended o front) b
        ∙ appended-appended old held front,
  ),
)

-- all of the piece was written after all that was held
pub held_all : (old mid new : Option (List ℕ)) (held piece : List ℕ) → Appends old mid held → Appends mid new piece → Puts old new held [] piece
held_all old mid new held piece b a = (held ++ piece, sym (append-nil (held ++ piece)), a ∙ ap (λ o. appended o piece) b ∙ appended-appended old held piece)

-- a prefix of the held bytes is a prefix of these with a piece after them
pub front_held : (old new : Option (List ℕ)) (held piece : List ℕ) → AppendsFront old new held → PutsFront old new held piece
front_held old new held piece (rest, some, (front, e, a)) = (
  rest ++ piece,
  some_before rest piece some,
  (front, ap (λ x. x ++ piece) e ∙ append_assoc front rest piece, a),
)

-- one piece after another
pub puts_then : (old mid new : Option (List ℕ)) (held holds last p q : List ℕ) → Puts old mid held holds p → Puts mid new holds last q
    → Puts old new held last (p ++ q)
puts_then old mid new held holds last p q (f, e, a) (g, d, b) =
    let split : held ++ (p ++ q) ≡ (f ++ g) ++ last =
    sym (append_assoc held p q) ∙ ap (λ x. x ++ q) e ∙ append_assoc f holds q ∙ ap (λ x. f ++ x) d ∙ sym (append_assoc f g last) in
    (f ++ g, split, b ∙ ap (λ o. appended o g) a ∙ appended-appended old f g)

pub puts_front : (old mid new : Option (List ℕ)) (held holds p q : List ℕ) → Puts old mid held holds p → PutsFront mid new holds q
    → PutsFront old new held (p ++ q)
puts_front old mid new held holds p q one (rest, some, two) = (rest, some, puts_then old mid new held holds rest p q one two)

pub front_first : (old new : Option (List ℕ)) (held p q : List ℕ) → PutsFront old new held p → PutsFront old new held (p ++ q)
front_first old new held p q (rest, some, (front, e, a)) =
    (rest ++ q, some_before rest q some, (front, sym (append_assoc held p q) ∙ ap (λ x. x ++ q) e ∙ append_assoc front rest q, a))

-- into an empty outbox: a prefix of the text, all of it, and a prefix of it as what is held is written
pub empty_front : (old new : Option (List ℕ)) (held text : List ℕ) → held ≡ [] → PutsFront old new held text → AppendsFront old new text
empty_front old new held text none front = rw none at front

pub flush_all : (old mid new : Option (List ℕ)) (held holds text : List ℕ) → held ≡ [] → Puts old mid held holds text → Appends mid new holds
    → Appends old new text
flush_all old mid new held holds text none (f, e, a) b =
    let split : text ≡ f ++ holds = rw none at e in
    rw split (b ∙ ap (λ o. appended o holds) a ∙ appended-appended old f holds)

pub flush_front : (old mid new : Option (List ℕ)) (held holds text : List ℕ) → held ≡ [] → Puts old mid held holds text → AppendsFront mid new holds
    → AppendsFront old new text
flush_front old mid new held holds text none (f, e, a) (rest, some, (g, d, b)) =
    let split : text ≡ f ++ holds = rw none at e in
    (rest, some, (f ++ g, split ∙ ap (λ x. f ++ x) d ∙ sym (append_assoc f g rest), b ∙ ap (λ o. appended o g) a ∙ appended-appended old f g))

-- what a prefix of a piece is, is up to its end
pub front_up_to : (old new : Option (List ℕ)) (piece : List ℕ) → AppendsFront old new piece → AppendsUpTo old new piece
front_up_to old new piece (rest, some, so) = (rest, so)

pub none_up_to : (old : Option (List ℕ)) (piece : List ℕ) → AppendsUpTo old old piece
none_up_to old piece = (piece, none_yet old piece)

-- all of one piece, and then the next up to its end
pub puts_up_to : (old mid new : Option (List ℕ)) (held holds p q : List ℕ) → Puts old mid held holds p → PutsUpTo mid new holds q
    → PutsUpTo old new held (p ++ q)
puts_up_to old mid new held holds p q one (rest, two) = (rest, puts_then old mid new held holds rest p q one two)

pub empty_up_to : (old new : Option (List ℕ)) (held text : List ℕ) → held ≡ [] → PutsUpTo old new held text → AppendsUpTo old new text
empty_up_to old new held text none up_to = rw none at up_to
