-- Lines have one reading as a log, or stop being one at one place.
use Rattle.std.proofs.Common.{◌≡◌, ◌≤◌, ◌<◌, ◌⊎◌, ◌∙◌, inl, inr, nat_le, ℕ, List, [], ◌∷◌, ◌++◌, length, map, drop, get_or, reverse, Some, None, append_assoc, refl, sym, ap, subst, arith}
use Rattle.std.proofs.lemmas.Bool.{le-leb}
use Rattle.std.proofs.lemmas.List.{map-append, reverse-append, reverse-reverse}
use Rattle.std.proofs.lemmas.List.Elements.{filter-append}
use Rattle.std.proofs.lemmas.Grind.{reverse_onto}
use Rattle.trace_text.specs.declared.lines.Line.{Line}
use Rattle.trace_text.specs.Line.{line_text}
use Rattle.safety_laws.specs.TraceText.{AreLines}
use Rattle.scenario_data.specs.Content.{ScenarioContent}
use Rattle.trace_laws.proofs.SameLines.{same_line}
use Rattle.judge_session.specs.declared.faults.LineFault.{LineFault}
use Rattle.judge_session.specs.declared.faults.LineFault.TheVariants.{NotALine, NoCabinet, NotLater, FrameVersion, LoadVersion}
use Rattle.judge_session.specs.Log.{Follow, IsLog, IsRead, IsFault, LogStops, ended, fault_of, short_lines}

-- two lists that are one, cut where their first parts have one length, or the first of them is shorter
same_cut : (xs ys : List (List ℕ)) (x y : List ℕ) (more rest : List (List ℕ)) → xs ++ x ∷ more ≡ ys ++ y ∷ rest → length xs ≡ length ys → (xs ≡ ys) × (x ≡ y)
same_cut [] [] x y more rest e many = (refl, ap (λ (ls : List (List ℕ)). get_or ls 0 []) e)
same_cut [] (z ∷ ys) x y more rest e many = absurd (omega (arith, many))
same_cut (z ∷ xs) [] x y more rest e many = absurd (omega (arith, many))
same_cut (z ∷ xs) (w ∷ ys) x y more rest e many =
    let heads : z ≡ w = ap (λ (ls : List (List ℕ)). get_or ls 0 []) e in
    let so = same_cut xs ys x y more rest (ap (λ (ls : List (List ℕ)). drop 1 ls) e) (omega (arith, many)) in
    (ap (λ (l : List ℕ). l ∷ xs) heads ∙ ap (λ (ls : List (List ℕ)). w ∷ ls) so.0, so.1)

earlier_cut : (xs ys : List (List ℕ)) (x y : List ℕ) (more rest : List (List ℕ)) → xs ++ x ∷ more ≡ ys ++ y ∷ rest → length xs < length ys
    → (between : List (List ℕ)) × (ys ≡ xs ++ x ∷ between)
earlier_cut xs [] x y more rest e less = absurd (omega (arith, less))
earlier_cut [] (z ∷ ys) x y more rest e less = (ys, ap (λ (l : List ℕ). l ∷ ys) (sym (ap (λ (ls : List (List ℕ)). get_or ls 0 []) e)))
earlier_cut (z ∷ xs) (w ∷ ys) x y more rest e less =
    let heads : z ≡ w = ap (λ (ls : List (List ℕ)). get_or ls 0 []) e in
    let (between, is) = earlier_cut xs ys x y more rest (ap (λ (ls : List (List ℕ)). drop 1 ls) e) (omega (arith, less)) in
    (between, ap (λ (l : List ℕ). l ∷ ys) (sym heads) ∙ ap (λ (ls : List (List ℕ)). z ∷ ls) is)

-- lines are determined by their texts
texts_back : (xs : List Line) → map line_text (reverse xs) ≡ reverse (map line_text xs)
texts_back [] = refl
texts_back (x ∷ xs) =
    ap (map line_text) (reverse_onto xs x []) ∙ (map-append line_text (reverse xs) (x ∷ [])
    ∙ (ap (λ (ts : List (List ℕ)). ts ++ line_text x ∷ []) (texts_back xs) ∙ sym (reverse_onto (map line_text xs) (line_text x) [])))

one_lines : (a b : List Line) → AreLines a → AreLines b → map line_text a ≡ map line_text b → a ≡ b
one_lines [] [] are other e = refl
one_lines [] (y ∷ b) are other e = absurd (cc e)
one_lines (x ∷ a) [] are other e = absurd (cc e)
one_lines (x ∷ a) (y ∷ b) (is, are) (it, other) e =
    ap (λ (l : Line). l ∷ a) (same_line x y is it (ap (λ (ts : List (List ℕ)). get_or ts 0 []) e))
    ∙ ap (λ (ls : List Line). y ∷ ls) (one_lines a b are other (ap (λ (ts : List (List ℕ)). drop 1 ts) e))

pub one_log : (s : ScenarioContent) (lines : List (List ℕ)) (a b : List Line) → IsLog s lines a → IsLog s lines b → a ≡ b
one_log s lines a b is are =
    one_lines a b is.are are.are
    (sym (reverse-reverse (map line_text a))
    ∙ (ap (λ (ts : List (List ℕ)). reverse ts) (sym (texts_back a) ∙ (sym is.texts ∙ (are.texts ∙ texts_back b))) ∙ reverse-reverse (map line_text b)))

-- texts of lines that begin with those of others, and one more, are those of the others, of a line, and of further lines
more_texts : (xs zs : List Line) (t : List ℕ) (rest : List (List ℕ)) → AreLines xs → AreLines zs → map line_text xs ++ t ∷ rest ≡ map line_text zs
    → (l : Line) × (ys : List Line) × (zs ≡ xs ++ l ∷ ys) × (line_text l ≡ t)
more_texts [] [] t rest are other e = absurd (cc e)
more_texts [] (z ∷ zs) t rest are other e = (z, zs, refl, sym (ap (λ (ts : List (List ℕ)). get_or ts 0 []) e))
more_texts (x ∷ xs) [] t rest are other e = absurd (cc e)
more_texts (x ∷ xs) (z ∷ zs) t rest (is, are) (it, other) e =
    let (l, ys, so, text) = more_texts xs zs t rest are other (ap (λ (ts : List (List ℕ)). drop 1 ts) e) in
    let heads : x ≡ z = same_line x z is it (ap (λ (ts : List (List ℕ)). get_or ts 0 []) e) in
    (l, ys, ap (λ (ls : List Line). z ∷ ls) so ∙ ap (λ (k : Line). k ∷ (xs ++ l ∷ ys)) (sym heads), text)

-- in the order of the lines and in the reverse order
are_append : (xs ys : List Line) → AreLines xs → AreLines ys → AreLines (xs ++ ys)
are_append [] ys are other = other
are_append (x ∷ xs) ys (is, are) other = (is, are_append xs ys are other)

are_reverse : (xs : List Line) → AreLines xs → AreLines (reverse xs)
are_reverse [] are = tt
are_reverse (x ∷ xs) (is, are) = subst AreLines (sym (reverse_onto xs x [])) (are_append (reverse xs) (x ∷ []) (are_reverse xs are) (is, tt))

are_after : (xs ys : List Line) → AreLines (xs ++ ys) → AreLines ys
are_after [] ys are = are
are_after (x ∷ xs) ys (is, are) = are_after xs ys are

follow_after : (s : ScenarioContent) (xs ys : List Line) → Follow s (xs ++ ys) → Follow s ys
follow_after s [] ys follow = follow
follow_after s (x ∷ xs) ys (first, follow) = follow_after s xs ys follow

-- a fault is that the bytes are not a line, or one of the line that they are
fault_is : (s : ScenarioContent) (before : List Line) (bytes : List ℕ) (fault : LineFault) → IsFault s before bytes fault
    → ((fault ≡ NotALine) × ((line : Line) → IsRead bytes line → ⊥)) ⊎ ((line : Line) × IsRead bytes line × (fault_of s before line ≡ Some fault))
fault_is s before bytes NotALine is = inl (refl, is)
fault_is s before bytes NoCabinet is = inr is
fault_is s before bytes NotLater is = inr is
fault_is s before bytes FrameVersion is = inr is
fault_is s before bytes LoadVersion is = inr is

one_read : (bytes : List ℕ) (a b : Line) → IsRead bytes a → IsRead bytes b → a ≡ b
one_read bytes a b is are = same_line a b is.is are.is (sym is.text ∙ are.text)

-- a line that follows has no fault
no_fault : (s : ScenarioContent) (before : List Line) (bytes : List ℕ) (l : Line) (fault : LineFault) → IsRead bytes l → fault_of s before l ≡ None → IsFault s before bytes fault → ⊥
no_fault s before bytes l fault read none is = by (fault_is s before bytes fault is)
  where
    by : ((fault ≡ NotALine) × ((line : Line) → IsRead bytes line → ⊥)) ⊎ ((line : Line) × IsRead bytes line × (fault_of s before line ≡ Some fault)) → ⊥
    by (inl (unread, never)) = never l read
    by (inr (line, other, some)) =
        let same : line ≡ l = one_read bytes line l other read in
        let both : Some fault ≡ None = sym (subst (λ (x : Line). fault_of s before x ≡ Some fault) same some) ∙ none in cc

one_fault : (s : ScenarioContent) (before : List Line) (bytes : List ℕ) (f g : LineFault) → IsFault s before bytes f → IsFault s before bytes g → f ≡ g
one_fault s before bytes f g is are = by (fault_is s before bytes f is) (fault_is s before bytes g are)
  where
    by : ((f ≡ NotALine) × ((line : Line) → IsRead bytes line → ⊥)) ⊎ ((line : Line) × IsRead bytes line × (fault_of s before line ≡ Some f))
        → ((g ≡ NotALine) × ((line : Line) → IsRead bytes line → ⊥)) ⊎ ((line : Line) × IsRead bytes line × (fault_of s before line ≡ Some g)) → f ≡ g
    by (inl (unread, never)) (inl (unreadable, nor)) = unread ∙ sym unreadable
    by (inl (unread, never)) (inr (line, read, some)) = absurd (never line read)
    by (inr (line, read, some)) (inl (unreadable, nor)) = absurd (nor line read)
    by (inr (line, read, some)) (inr (other, again, too)) =
        let same : other ≡ line = one_read bytes other line again read in
        let both : Some f ≡ Some g = sym some ∙ subst (λ (x : Line). fault_of s before x ≡ Some g) same too in cc

-- a log doesn't stop
log_goes_on : (s : ScenarioContent) (front rest : List (List ℕ)) (line : List ℕ) (a before : List Line) (fault : LineFault) → IsLog s (front ++ line ∷ rest) a
    → IsLog s front before → length line ≤ 4096 → IsFault s before line fault → ⊥
log_goes_on s front rest line a before fault is begins short why =
    let kept : short_lines (front ++ line ∷ rest) ≡ short_lines front ++ line ∷ short_lines rest =
    filter-append (λ l. nat_le (length l) 4096) front (line ∷ rest) ∙ ap (λ (ls : List (List ℕ)). short_lines front ++ ls) (rw (le-leb (length line) 4096 short) refl) in
    let texts : map line_text (reverse before) ++ ended line ∷ map ended (short_lines rest) ≡ map line_text (reverse a) =
    ap (λ (ts : List (List ℕ)). ts ++ ended line ∷ map ended (short_lines rest)) (sym begins.texts)
    ∙ (sym (map-append ended (short_lines front) (line ∷ short_lines rest)) ∙ (ap (map ended) (sym kept) ∙ is.texts)) in
    let (l, ys, so, text) = more_texts (reverse before) (reverse a) (ended line) (map ended (short_lines rest)) (are_reverse before begins.are) (are_reverse a is.are) texts in
    let back : a ≡ reverse ys ++ l ∷ before =
    sym (reverse-reverse a) ∙ (ap (λ (ls : List Line). reverse ls) so ∙ (reverse-append (reverse before) (l ∷ ys) ∙ (ap (λ (ls : List Line). reverse (l ∷ ys) ++ ls) (reverse-reverse before)
    ∙ (ap (λ (ls : List Line). ls ++ before) (reverse_onto ys l []) ∙ append_assoc (reverse ys) (l ∷ []) before)))) in
    let follow : Follow s (l ∷ before) = follow_after s (reverse ys) (l ∷ before) (subst (λ (ls : List Line). Follow s ls) back is.follow) in
    let line_is : AreLines (l ∷ before) = are_after (reverse ys) (l ∷ before) (subst AreLines back is.are) in
    no_fault s before line l fault (record { is = line_is.0; text = sym text }) follow.0 why

pub no_stop : (s : ScenarioContent) (lines : List (List ℕ)) (a before : List Line) (place : ℕ) (fault : LineFault) → IsLog s lines a → LogStops s lines place before fault → ⊥
no_stop s lines a before place fault is stops =
    log_goes_on s stops.front stops.rest stops.line a before fault (subst (λ (ls : List (List ℕ)). IsLog s ls a) stops.cut is) stops.log stops.short stops.why

-- of two places at which it stops none is before the other
not_earlier : (s : ScenarioContent) (lines : List (List ℕ)) (a b : List Line) (m n : ℕ) (f g : LineFault) → (is : LogStops s lines m a f) → (are : LogStops s lines n b g)
    → length is.front < length are.front → ⊥
not_earlier s lines a b m n f g is are less =
    let (between, so) = earlier_cut is.front are.front is.line are.line is.rest are.rest (sym is.cut ∙ are.cut) less in
    log_goes_on s is.front between is.line b a f (subst (λ (ls : List (List ℕ)). IsLog s ls b) so are.log) is.log is.short is.why

order : (m n : ℕ) → (m < n) ⊎ ((m ≡ n) ⊎ (n < m))
order m n = grind arith

pub one_stop : (s : ScenarioContent) (lines : List (List ℕ)) (a b : List Line) (m n : ℕ) (f g : LineFault) → LogStops s lines m a f → LogStops s lines n b g
    → (m ≡ n) × (f ≡ g)
one_stop s lines a b m n f g is are = by (order (length is.front) (length are.front))
  where
    by : (length is.front < length are.front) ⊎ ((length is.front ≡ length are.front) ⊎ (length are.front < length is.front)) → (m ≡ n) × (f ≡ g)
    by (inl less) = absurd (not_earlier s lines a b m n f g is are less)
    by (inr (inr more)) = absurd (not_earlier s lines b a n m g f are is more)
    by (inr (inl same)) =
        let cut = same_cut is.front are.front is.line are.line is.rest are.rest (sym is.cut ∙ are.cut) same in
        let log : IsLog s are.front a = subst (λ (ls : List (List ℕ)). IsLog s ls a) cut.0 is.log in
        let one : a ≡ b = one_log s are.front a b log are.log in
        let why : IsFault s b are.line f = subst (λ (ls : List Line). IsFault s ls are.line f) one (subst (λ (l : List ℕ). IsFault s a l f) cut.1 is.why) in
        (is.at ∙ (same ∙ sym are.at), one_fault s b are.line f g why are.why)
