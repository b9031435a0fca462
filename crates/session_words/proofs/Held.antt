-- What a reader holds, and then what its source has left.
use Rattle.std.proofs.Common.{Bool, true, false, take, drop, ◌≡◌, ◌<◌, ◌≤◌, ◌+◌, ◌∙◌, ℕ, List, [], ◌∷◌, ◌++◌, length, Option, Some, None, IfSome, refl, sym, ap, subst, arith, append_assoc, append-nil, length-append}
use Rattle.io_edge.specs.Edge.{Reads, told_as}
use Rattle.session_words.specs.declared.line_reader.Next.{Next}
use Rattle.session_words.specs.declared.line_reader.Next.TheVariants.{Line, Long, End}
use Rattle.session_words.specs.Lines.{first_line, behind_first, Lacks, IsCut, StandsFirst}
use Rattle.session_words.specs.Unread.{ahead_of, behind_told, Leaves, GivesLine, PassesLong, PassesOver, HasNoLine, Gives, GivesHeld}
use Rattle.session_words.proofs.Cuts.{lacks-both, first_line-cut, behind_first-cut, first_line-none, behind_first-none, first_line-on}

-- with nothing held it's what the source has left
pub ahead-none : (left : Option (List ℕ)) → ahead_of [] left ≡ left
ahead-none None = refl
ahead-none (Some bytes) = refl

-- a piece that was read is held
pub read-ahead : (held piece : List ℕ) (old new : Option (List ℕ)) → Reads old new piece → ahead_of (held ++ piece) new ≡ ahead_of held old
read-ahead held piece None new reads = ap (ahead_of (held ++ piece)) reads
read-ahead held piece (Some bytes) new (rest, is, whole, ended) =
    ap (ahead_of (held ++ piece)) is ∙ ap Some (append_assoc held piece rest ∙ ap (λ (ys : List ℕ). held ++ ys) (sym whole))

-- none is read only at the end
pub read-end : (piece : List ℕ) (old new : Option (List ℕ)) → Reads old new piece → piece ≡ [] → new ≡ told_as [] old
read-end piece None new reads none = reads
read-end piece (Some bytes) new (rest, is, whole, ended) none =
    let same : rest ≡ [] = ap (λ (ys : List ℕ). ys ++ rest) (sym none) ∙ sym whole ∙ ended none in
    is ∙ ap Some same

-- what is reported of a source stays reported
pub told-same : (held more : List ℕ) (left other : Option (List ℕ)) → ahead_of held left ≡ ahead_of more other → told_as [] left ≡ told_as [] other
told-same held more None None same = refl
told-same held more None (Some bytes) same = absurd (cc)
told-same held more (Some bytes) None same = absurd (cc)
told-same held more (Some bytes) (Some others) same = refl

-- a cut of what is held is one of all
cut-on : (held line rest left : List ℕ) → IsCut 10 held line rest → IsCut 10 (held ++ left) line (rest ++ left)
cut-on held line rest left cut = record {
  whole = ap (λ (ys : List ℕ). ys ++ left) cut.whole ∙ append_assoc line (10 ∷ rest) left;
  lacks = cut.lacks;
}

-- a line that is held whole is given
pub gives-held : (next : Next) (held rest line : List ℕ) (left : Option (List ℕ)) → (next ≡ End → ⊥) → GivesHeld next held rest line
    → Gives next (ahead_of held left) (ahead_of rest left) line
gives-held Line held rest line None not gives = (refl, gives.1)
gives-held Line held rest line (Some left) not gives = ((rest ++ left, refl, cut-on held line rest left gives.0), gives.1)
gives-held Long held rest line None not gives = refl
gives-held Long held rest line (Some left) not (long, cut, more) = (long, rest ++ left, refl, cut-on held long rest left cut, more)
gives-held End held rest line left not gives = absurd (not refl)

-- at the end of the source no line is left
pub ends-held : (old left other : Option (List ℕ)) (held : List ℕ) → ahead_of held left ≡ old → left ≡ told_as [] other → Lacks 10 held → HasNoLine old
ends-held old None other held is ended lacks = subst HasNoLine is tt
ends-held old (Some bytes) (Some others) held is ended lacks =
    let none : bytes ≡ [] = cc in
    subst HasNoLine is (subst (λ (ys : List ℕ). Lacks 10 (held ++ ys)) (sym none) (subst (Lacks 10) (sym (append-nil held)) lacks))
ends-held old (Some bytes) None held is ended lacks = absurd (cc)

-- more than 4,096 bytes of a line are skipped
pub passes-first : (held : List ℕ) (left : Option (List ℕ)) → Lacks 10 held → 4096 < length held → PassesOver (ahead_of held left) left
passes-first held None lacks long = refl
passes-first held (Some bytes) lacks long = (held, bytes, refl, refl, lacks, long)

pub passes-on : (old mid new : Option (List ℕ)) (held : List ℕ) → PassesOver old mid → ahead_of held new ≡ mid → Lacks 10 held → PassesOver old new
passes-on None mid None held passes is lacks = refl
passes-on None mid (Some left) held passes is lacks = absurd (cc)
passes-on (Some bytes) mid None held (front, rest, so, whole, none, long) is lacks = absurd (cc)
passes-on (Some bytes) mid (Some left) held (front, rest, so, whole, none, long) is lacks =
    let same : rest ≡ held ++ left = cc in (
      front ++ held,
      left,
      refl,
      whole ∙ ap (λ (ys : List ℕ). front ++ ys) same ∙ sym (append_assoc front held left),
      lacks-both 10 front held none lacks,
      omega (arith, length-append front held),
    )

-- and then its newline comes
pub passes-line : (old mid left : Option (List ℕ)) (held line rest : List ℕ) → PassesOver old mid → ahead_of held left ≡ mid → IsCut 10 held line rest
    → PassesLong old (ahead_of rest left)
passes-line None mid None held line rest passes is cut = refl
passes-line None mid (Some left) held line rest passes is cut = absurd (cc)
passes-line (Some bytes) mid None held line rest (front, back, so, whole, none, long) is cut = absurd (cc)
passes-line (Some bytes) mid (Some left) held line rest (front, back, so, whole, none, long) is cut =
    let same : back ≡ held ++ left = cc in (
      front ++ line,
      rest ++ left,
      refl,
      record {
        whole = whole ∙ ap (λ (ys : List ℕ). front ++ ys) (same ∙ (cut-on held line rest left cut).whole) ∙ sym (append_assoc front line (10 ∷ (rest ++ left)));
        lacks = lacks-both 10 front line none cut.lacks;
      },
      omega (arith, length-append front line),
    )

-- or the end of the input
pub passes-end : (old mid : Option (List ℕ)) → PassesOver old mid → mid ≡ told_as [] mid → HasNoLine old
passes-end None mid passes ended = tt
passes-end (Some bytes) None (front, rest, so, whole, none, long) ended = absurd (cc)
passes-end (Some bytes) (Some left) (front, rest, so, whole, none, long) ended =
    let empty : rest ≡ [] = cc in
    subst (Lacks 10) (sym (whole ∙ ap (λ (ys : List ℕ). front ++ ys) empty ∙ append-nil front)) none

pub passes-told : (held : List ℕ) (left mid : Option (List ℕ)) → PassesOver (ahead_of held left) mid → told_as [] mid ≡ told_as [] left
passes-told held None mid passes = ap (told_as []) passes
passes-told held (Some bytes) mid (front, rest, so, whole, none, long) = ap (told_as []) so

-- a first line begins with nothing
pub leaves-first : (left : Option (List ℕ)) (held : List ℕ) → held ≡ [] → Leaves left (ahead_of held left) []
leaves-first None held none = refl
leaves-first (Some bytes) held none = (held ++ bytes, refl, sym (ap (λ (ys : List ℕ). ys ++ bytes) none))

-- it continues with all that is held
pub leaves-on : (old left : Option (List ℕ)) (held line : List ℕ) → Leaves old (ahead_of held left) line → Leaves old left (line ++ held)
leaves-on None None held line leaves = refl
leaves-on None (Some left) held line leaves = absurd (cc)
leaves-on (Some bytes) None held line (rest, so, whole) = absurd (cc)
leaves-on (Some bytes) (Some left) held line (rest, so, whole) =
    let same : rest ≡ held ++ left = cc in
    (left, refl, whole ∙ ap (λ (ys : List ℕ). line ++ ys) same ∙ sym (append_assoc line held left))

-- or it ends in what is held
pub leaves-line : (old left : Option (List ℕ)) (held line piece rest : List ℕ) → Leaves old (ahead_of held left) line → Lacks 10 line → IsCut 10 held piece rest
    → GivesLine old (ahead_of rest left) (line ++ piece)
leaves-line None None held line piece rest leaves lacks cut = refl
leaves-line None (Some left) held line piece rest leaves lacks cut = absurd (cc)
leaves-line (Some bytes) None held line piece rest (back, so, whole) lacks cut = absurd (cc)
leaves-line (Some bytes) (Some left) held line piece rest (back, so, whole) lacks cut =
    let same : back ≡ held ++ left = cc in (
      rest ++ left,
      refl,
      record {
        whole = whole ∙ ap (λ (ys : List ℕ). line ++ ys) (same ∙ (cut-on held piece rest left cut).whole) ∙ sym (append_assoc line piece (10 ∷ (rest ++ left)));
        lacks = lacks-both 10 line piece lacks cut.lacks;
      },
    )

-- what a line is that was given
pub line-is : (old new : Option (List ℕ)) (line : List ℕ) → GivesLine old new line → IfSome old (λ bytes. line ≡ first_line bytes)
line-is None new line gives = tt
line-is (Some bytes) new line (rest, is, cut) = sym (ap first_line cut.whole ∙ first_line-cut line rest cut.lacks)

pub behind-is : (old new : Option (List ℕ)) (line : List ℕ) → GivesLine old new line → new ≡ behind_told old
behind-is None new line gives = gives
behind-is (Some bytes) new line (rest, is, cut) = is ∙ ap Some (sym (ap behind_first cut.whole ∙ behind_first-cut line rest cut.lacks))

-- and of one that the end of the input ends
pub last-is : (old left : Option (List ℕ)) (line : List ℕ) → Leaves old left line → Lacks 10 line → left ≡ told_as [] left → IfSome old (λ bytes. line ≡ first_line bytes)
last-is None left line leaves lacks ended = tt
last-is (Some bytes) None line (rest, so, whole) lacks ended = absurd (cc)
last-is (Some bytes) (Some left) line (rest, so, whole) lacks ended =
    let empty : rest ≡ [] = cc in
    sym (ap first_line (whole ∙ ap (λ (ys : List ℕ). line ++ ys) empty ∙ append-nil line) ∙ first_line-none line lacks)

pub last-behind : (old left : Option (List ℕ)) (line : List ℕ) → Leaves old left line → Lacks 10 line → left ≡ told_as [] left → left ≡ behind_told old
last-behind None left line leaves lacks ended = leaves
last-behind (Some bytes) None line (rest, so, whole) lacks ended = absurd (cc)
last-behind (Some bytes) (Some left) line (rest, so, whole) lacks ended =
    let empty : rest ≡ [] = cc in
    so ∙ ap Some (empty ∙ sym (ap behind_first (whole ∙ ap (λ (ys : List ℕ). line ++ ys) empty ∙ append-nil line) ∙ behind_first-none line lacks))

-- a first line that is too long
pub long-line : (old new : Option (List ℕ)) (line : List ℕ) (limit : ℕ) → GivesLine old new line → limit < length line → IfSome old (λ bytes. limit < length (first_line bytes))
long-line None new line limit gives long = tt
long-line (Some bytes) new line limit (rest, is, cut) long =
    let same : first_line bytes ≡ line = ap first_line cut.whole ∙ first_line-cut line rest cut.lacks in rw same long

pub long-front : (old left : Option (List ℕ)) (line : List ℕ) (limit : ℕ) → Leaves old left line → Lacks 10 line → limit < length line
    → IfSome old (λ bytes. limit < length (first_line bytes))
long-front None left line limit leaves lacks long = tt
long-front (Some bytes) left line limit (rest, so, whole) lacks long =
    let same : first_line bytes ≡ line ++ first_line rest = ap first_line whole ∙ first_line-on line rest lacks in
    rw same (omega (arith, length-append line (first_line rest)))

-- how much of it was read
pub read-little : (old left : Option (List ℕ)) (held line : List ℕ) (limit : ℕ) → Leaves old (ahead_of held left) line → length line ≤ limit → length held ≤ 4096
    → IfSome old (λ bytes. IfSome left (λ more. length bytes ≤ length more + (limit + 4096)))
read-little None left held line limit leaves short few = tt
read-little (Some bytes) None held line limit leaves short few = tt
read-little (Some bytes) (Some left) held line limit (rest, so, whole) short few =
    let same : rest ≡ held ++ left = cc in
    omega (arith, ap (λ (ys : List ℕ). length ys) whole, length-append line rest, ap (λ (ys : List ℕ). length ys) same, length-append held left)

-- what is held is cut where its first newline is
pub cut-held : (held rest bytes : List ℕ) (place : ℕ) → StandsFirst 10 bytes place → bytes ≡ held → rest ≡ drop (place + 1) held → IsCut 10 held (take place held) rest
cut-held held rest bytes place stands same is =
    subst (λ (ys : List ℕ). IsCut 10 held (take place held) ys) (sym is)
    (subst (λ (ys : List ℕ). IsCut 10 ys (take place ys) (drop (place + 1) ys)) same stands.cut)

-- a first line that ends in what is held
pub first-ends : (old left : Option (List ℕ)) (held rest line longer : List ℕ) → Leaves old (ahead_of held left) line → Lacks 10 line
    → (piece : List ℕ) × (longer ≡ line ++ piece) × IsCut 10 held piece rest → GivesLine old (ahead_of rest left) longer
first-ends old left held rest line longer leaves lacks (piece, is, cut) =
    subst (GivesLine old (ahead_of rest left)) (sym is) (leaves-line old left held line piece rest leaves lacks cut)

-- one that continues with all that is held
pub first-goes : (old left : Option (List ℕ)) (held line longer : List ℕ) → Leaves old (ahead_of held left) line → longer ≡ line ++ held → Leaves old left longer
first-goes old left held line longer leaves is = subst (Leaves old left) (sym is) (leaves-on old left held line leaves)

pub first-lacks : (held line longer : List ℕ) → Lacks 10 line → Lacks 10 held → longer ≡ line ++ held → Lacks 10 longer
first-lacks held line longer lacks none is = subst (Lacks 10) (sym is) (lacks-both 10 line held lacks none)

-- one that is too long, whether or not it ends there
pub first-long : (old left : Option (List ℕ)) (held rest line longer : List ℕ) (limit : ℕ) (ended : Bool) → Leaves old (ahead_of held left) line → Lacks 10 line
    → (ended ≡ true → (piece : List ℕ) × (longer ≡ line ++ piece) × IsCut 10 held piece rest)
    → (ended ≡ false → (longer ≡ line ++ held) × Lacks 10 held × (rest ≡ []))
    → limit < length longer → IfSome old (λ bytes. limit < length (first_line bytes))
first-long old left held rest line longer limit true leaves lacks cut on long =
    long-line old (ahead_of rest left) longer limit (first-ends old left held rest line longer leaves lacks (cut refl)) long
first-long old left held rest line longer limit false leaves lacks cut on long =
    long-front old left longer limit (first-goes old left held line longer leaves (on refl).0) (first-lacks held line longer lacks (on refl).1 (on refl).0) long

-- where a read gave nothing, nothing is left
pub ended-told : (held more : List ℕ) (left new : Option (List ℕ)) → ahead_of held new ≡ ahead_of more left → held ≡ more → more ≡ [] → new ≡ told_as [] left
    → left ≡ told_as [] left
ended-told held more left new same kept none ended =
    sym (ahead-none left) ∙ ap (λ (h : List ℕ). ahead_of h left) (sym none) ∙ sym same ∙ ap (λ (h : List ℕ). ahead_of h new) (kept ∙ none) ∙ ahead-none new ∙ ended

-- at least that many bytes of a source were read, if it reports them
abbrev pub HasRead : ℕ → Option (List ℕ) → Option (List ℕ) → Type 0
HasRead n None new = Unit {0}
HasRead n (Some bytes) None = ⊥
HasRead n (Some bytes) (Some left) = n + length left ≤ length bytes

-- a piece more was read, of a byte or more
pub one_read : (n : ℕ) (old mid new : Option (List ℕ)) (held : List ℕ) → HasRead n old mid → ahead_of held new ≡ mid → 1 ≤ length held → HasRead (n + 1) old new
one_read n None mid new held read is some = tt
one_read n (Some bytes) None new held read is some = absurd read
one_read n (Some bytes) (Some rest) None held read is some = absurd (cc)
one_read n (Some bytes) (Some rest) (Some left) held read is some =
    let same : rest ≡ held ++ left = cc in
    let long : length rest ≡ length held + length left = ap length same ∙ length-append held left in
    omega (arith, read, some, long)
