-- The rows of the table of the objects and the names: each instance of a row has a name, and each name is in a row.
use Rattle.std.proofs.Common.{◌≡◌, inl, inr, ℕ, zero, suc, ◌+◌, ◌-◌, ◌<◌, ◌≤◌, Bool, true, false, eqb, List, [], ◌∷◌, ◌++◌, map, get_or, length, cond, Option, Some, None, rules, refl, sym, ap, subst, arith}
use Rattle.std.specs.Prelude.{IfSome}
use Rattle.arrayvec.specs.ArrayVec.{ArrayVec}
use Rattle.ber_code.specs.Reading.{Gives}
use Rattle.ber_code.specs.Names.{IsWritable}
use Rattle.oid_map.proofs.Least.{found_passes}
use Rattle.std.specs.List.{find, flat_map, AllByRecursion}
use Rattle.std.proofs.lemmas.Bool.{cases_lt, cases_eq, ne_eqb}
use Rattle.sig_tables.specs.Cells.{IsCell}
use Rattle.sig_tables.specs.declared.cells.Cell.{Cell}
use Rattle.sig_tables.specs.declared.cells.Cell.TheVariants.{Phase as PhaseCell, Sequence as SequenceCell, Split as SplitCell, Pattern as PatternCell, Preempt as PreemptCell, Unit as UnitCell}
use Rattle.oid_map.specs.declared.objects.Range.{Range}
use Rattle.oid_map.specs.declared.names.TableName.{TableName}
use Rattle.oid_map.specs.declared.names.TableName.TheVariants.{Phase, Group, Pattern, Split, Preempt, Sequence}
use Rattle.oid_map.specs.declared.names.Name.{Name}
use Rattle.oid_map.specs.declared.names.Name.TheVariants.{Cell as CellName, Index, Group as GroupName, PatternStatus, PatternControl, Txn, Clock, Counter, Target, ModeCode, Request, Cancel, RequestState}
use Rattle.oid_map.specs.Order.{IsAmong, is_before}
use Rattle.oid_map.specs.Objects.{Row, ◌to◌, asc, own, counted, tuples, instances, objects, readable_rows, readable, write_only_rows, write_only, next_of}
use Rattle.oid_map.specs.Names.{IsBetween, IsName, IsIndex, IsReadable, IsReadableInstance, IsWriteOnlyInstance, arcs_of}
use Rattle.oid_map.proofs.Ranges.{turned}
use Rattle.oid_map.proofs.Rows.{all_append}
use Rattle.oid_map.proofs.Rising.{Within, tuples_within}

-- each instance of the row has the property
abbrev RowHas : (List ℕ → Type 0) → Row → Type 0
RowHas P row = (t : List ℕ) → Within row.indices t → P (row.arcs ++ t)

row_has : (P : List ℕ → Type 0) (row : Row) → RowHas P row → AllByRecursion P (instances row)
row_has P row h = go (tuples row.indices) (tuples_within row.indices)
  where
    go : (ts : List (List ℕ)) → AllByRecursion (Within row.indices) ts → AllByRecursion P (map (λ t. row.arcs ++ t) ts)
    go [] all = tt
    go (t ∷ ts) all = (h t all.0, go ts all.1)

rows_have : (P : List ℕ → Type 0) (rows : List Row) → AllByRecursion (RowHas P) rows → AllByRecursion P (flat_map instances rows)
rows_have P [] h = tt
rows_have P (row ∷ rows) h = all_append P (instances row) (flat_map instances rows) (row_has P row h.0) (rows_have P rows h.1)

-- one index, two, and three, of those within their ranges
one : (r : Range) (P : List ℕ → Type 0) → ((a : ℕ) → IsBetween a r.least r.most → P (a ∷ [])) → (t : List ℕ) → Within (r ∷ []) t → P t
one r P h [] w = absurd w
one r P h (a ∷ []) w = h a (w.0, w.1)
one r P h (a ∷ b ∷ t) w = absurd w.2

two : (r s : Range) (P : List ℕ → Type 0) → ((a b : ℕ) → IsBetween a r.least r.most → IsBetween b s.least s.most → P (a ∷ b ∷ [])) → (t : List ℕ) → Within (r ∷ s ∷ []) t → P t
two r s P h [] w = absurd w
two r s P h (a ∷ t) w = one s (λ u. P (a ∷ u)) (λ b. h a b (w.0, w.1)) t w.2

three : (r s q : Range) (P : List ℕ → Type 0) → ((a b c : ℕ) → IsBetween a r.least r.most → IsBetween b s.least s.most → IsBetween c q.least q.most → P (a ∷ b ∷ c ∷ []))
    → (t : List ℕ) → Within (r ∷ s ∷ q ∷ []) t → P t
three r s q P h [] w = absurd w
three r s q P h (a ∷ t) w = two s q (λ u. P (a ∷ u)) (λ b c. h a b c (w.0, w.1)) t w.2

-- a scalar's last arc
scalar : (r : Range) (P : List ℕ → Type 0) → ((a : ℕ) → IsBetween a r.least r.most → P (a ∷ 0 ∷ [])) → (t : List ℕ) → Within (r ∷ 0 to 0 ∷ []) t → P t
scalar r P h = two r (0 to 0) P (λ a b ha hb. let e : b ≡ 0 = omega (arith, hb.1) in subst (λ (n : ℕ). P (a ∷ n ∷ [])) (sym e) (h a ha))

named_phase : (c p : ℕ) → IsBetween c 1 23 → IsBetween p 1 16 → IsReadableInstance (asc ++ 1 ∷ 2 ∷ 1 ∷ c ∷ p ∷ [])
named_phase c p hc hp = elim (cases_eq c 1) [
  | inl e ↦ (Index Phase 1 p 0, (refl, hp, refl), tt, rw e refl)
  | inr ne ↦ (CellName (PhaseCell p c), (hp.0, hp.1, omega (arith, hc.0, ne), hc.1), tt, refl)
]

named_group : (c g : ℕ) → IsBetween c 1 10 → IsBetween g 1 2 → IsReadableInstance (asc ++ 1 ∷ 4 ∷ 1 ∷ c ∷ g ∷ [])
named_group c g hc hg = elim (cases_eq c 1) [
  | inl e ↦ (Index Group 1 g 0, (refl, hg, refl), tt, rw e refl)
  | inr ne ↦ (GroupName c g, ((omega (arith, hc.0, ne), hc.1), hg), tt, refl)
]

named_pattern : (c n : ℕ) → IsBetween c 1 5 → IsBetween n 1 48 → IsReadableInstance (asc ++ 4 ∷ 7 ∷ 1 ∷ c ∷ n ∷ [])
named_pattern c n hc hn = elim (cases_eq c 1) [
  | inl e ↦ (Index Pattern 1 n 0, (refl, hn, refl), tt, rw e refl)
  | inr ne ↦ (CellName (PatternCell n c), (hn.0, hn.1, omega (arith, hc.0, ne), hc.1), tt, refl)
]

named_split : (c s p : ℕ) → IsBetween c 1 5 → IsBetween s 1 32 → IsBetween p 1 16 → IsReadableInstance (asc ++ 4 ∷ 9 ∷ 1 ∷ c ∷ s ∷ p ∷ [])
named_split c s p hc hs hp = elim (cases_lt c 3) [
  | inl less ↦ (Index Split c s p, ((hc.0, omega (arith, less)), hs, hp), tt, refl)
  | inr later ↦ (CellName (SplitCell s p c), (hs.0, hs.1, hp.0, hp.1, later, hc.1), tt, refl)
]

named_preempt_index : (c i : ℕ) → IsBetween c 1 1 → IsBetween i 1 8 → IsReadableInstance (asc ++ 6 ∷ 2 ∷ 1 ∷ c ∷ i ∷ [])
named_preempt_index c i hc hi = let e : c ≡ 1 = omega (arith, hc.0, hc.1) in (Index Preempt 1 i 0, (refl, hi, refl), tt, rw e refl)

named_preempt : (c i : ℕ) → IsBetween c 4 15 → IsBetween i 1 8 → IsReadableInstance (asc ++ 6 ∷ 2 ∷ 1 ∷ c ∷ i ∷ [])
named_preempt c i hc hi = (CellName (PreemptCell i c), (hi.0, hi.1, hc.0, hc.1), tt, refl)

named_sequence : (c s r : ℕ) → IsBetween c 1 3 → IsBetween s 1 16 → IsBetween r 1 2 → IsReadableInstance (asc ++ 7 ∷ 3 ∷ 1 ∷ c ∷ s ∷ r ∷ [])
named_sequence c s r hc hs hr = elim (cases_lt c 3) [
  | inl less ↦ (Index Sequence c s r, ((hc.0, omega (arith, less)), hs, hr), tt, refl)
  | inr later ↦ let e : c ≡ 3 = omega (arith, later, hc.1) in (CellName (SequenceCell s r), (hs.0, hs.1, hr.0, hr.1), tt, rw e refl)
]

-- scalars under asc
named_coordination : (n : ℕ) (name : Name) (a : ℕ) → IsBetween a n n → IsName name → IsReadable name → asc ++ 4 ∷ n ∷ 0 ∷ [] ≡ arcs_of name → IsReadableInstance (asc ++ 4 ∷ a ∷ 0 ∷ [])
named_coordination n name a h is reads e =
    let same : a ≡ n = omega (arith, h.0, h.1) in
    (name, is, reads, rw same e)

named_status : (a : ℕ) → IsBetween a 1 4 → IsReadableInstance (own ++ 2 ∷ a ∷ 0 ∷ [])
named_status zero h = absurd (omega (arith, h.0))
named_status (suc zero) h = (Clock, tt, tt, refl)
named_status (suc (suc zero)) h = (Counter, tt, tt, refl)
named_status (suc (suc (suc zero))) h = (Target, tt, tt, refl)
named_status (suc (suc (suc (suc zero)))) h = (ModeCode, tt, tt, refl)
named_status (suc (suc (suc (suc (suc n))))) h = absurd (omega (arith, h.1))

named_unit : (a : ℕ) → IsBetween a 1 7 → IsReadableInstance (own ++ 3 ∷ a ∷ 0 ∷ [])
named_unit a h =
    let other : eqb (a + 1) 1 ≡ false = ne_eqb (a + 1) 1 (λ e. absurd (omega (arith, e, h.0))) in
    let back : a + 1 - 1 ≡ a = omega arith in
    (CellName (UnitCell (a + 1)), (omega arith, omega (arith, h.1)), tt, rw (other, back) refl)

infixr 20 ◌also◌
abbrev ◌also◌ : {A B : Type 0} → A → B → A × B
a also b = (a, b)

all_named : AllByRecursion (RowHas IsReadableInstance) readable_rows
unfolding objects
all_named =
    two (1 to 23) (1 to 16) (λ t. IsReadableInstance (asc ++ 1 ∷ 2 ∷ 1 ∷ t)) named_phase
    also two (1 to 10) (1 to 2) (λ t. IsReadableInstance (asc ++ 1 ∷ 4 ∷ 1 ∷ t)) named_group
    also scalar (2 to 2) (λ t. IsReadableInstance (asc ++ 4 ∷ t)) (λ a h. named_coordination 2 (CellName (UnitCell 1)) a h (omega arith, omega arith) tt refl)
    also two (1 to 5) (1 to 48) (λ t. IsReadableInstance (asc ++ 4 ∷ 7 ∷ 1 ∷ t)) named_pattern
    also three (1 to 5) (1 to 32) (1 to 16) (λ t. IsReadableInstance (asc ++ 4 ∷ 9 ∷ 1 ∷ t)) named_split
    also scalar (10 to 10) (λ t. IsReadableInstance (asc ++ 4 ∷ t)) (λ a h. named_coordination 10 PatternStatus a h tt tt refl)
    also scalar (14 to 14) (λ t. IsReadableInstance (asc ++ 4 ∷ t)) (λ a h. named_coordination 14 PatternControl a h tt tt refl)
    also two (1 to 1) (1 to 8) (λ t. IsReadableInstance (asc ++ 6 ∷ 2 ∷ 1 ∷ t)) named_preempt_index
    also two (4 to 15) (1 to 8) (λ t. IsReadableInstance (asc ++ 6 ∷ 2 ∷ 1 ∷ t)) named_preempt
    also three (1 to 3) (1 to 16) (1 to 2) (λ t. IsReadableInstance (asc ++ 7 ∷ 3 ∷ 1 ∷ t)) named_sequence
    also scalar (1 to 1) (λ t. IsReadableInstance (own ++ 1 ∷ t)) (λ a h. (Txn a, (h.0, omega (arith, h.1)), inl (omega (arith, h.1)), refl))
    also scalar (7 to 10) (λ t. IsReadableInstance (own ++ 1 ∷ t)) (λ a h. (Txn a, (omega (arith, h.0), h.1), inr (omega (arith, h.0)), refl))
    also scalar (1 to 4) (λ t. IsReadableInstance (own ++ 2 ∷ t)) named_status
    also scalar (1 to 7) (λ t. IsReadableInstance (own ++ 3 ∷ t)) named_unit
    also one (1 to 10) (λ t. IsReadableInstance (own ++ 4 ∷ 3 ∷ 1 ∷ t)) (λ a h. (RequestState a, h, tt, refl))
    also tt

pub readable_named : AllByRecursion IsReadableInstance readable
unfolding readable
readable_named = rows_have IsReadableInstance readable_rows all_named

named_written : (a : ℕ) → IsBetween a 1 2 → IsWriteOnlyInstance (own ++ 4 ∷ a ∷ 0 ∷ [])
named_written zero h = absurd (omega (arith, h.0))
named_written (suc zero) h = (Request, tt, (λ reads. reads), refl)
named_written (suc (suc zero)) h = (Cancel, tt, (λ reads. reads), refl)
named_written (suc (suc (suc n))) h = absurd (omega (arith, h.1))

not_shown : (a : ℕ) → IsBetween a 2 6 → IsReadable (Txn a) → ⊥
not_shown a h reads = elim reads [ inl less ↦ absurd (omega (arith, less, h.0)) | inr more ↦ absurd (omega (arith, more, h.1)) ]

pub write_only_named : AllByRecursion IsWriteOnlyInstance write_only
unfolding objects write_only
write_only_named = rows_have IsWriteOnlyInstance write_only_rows (
    scalar (2 to 6) (λ t. IsWriteOnlyInstance (own ++ 1 ∷ t)) (λ a h. (Txn a, (omega (arith, h.0), omega (arith, h.1)), not_shown a h, refl))
    also scalar (1 to 2) (λ t. IsWriteOnlyInstance (own ++ 4 ∷ t)) named_written
    also tt)

among_left : {A : Type 0} (x : A) (xs ys : List A) → IsAmong x xs → IsAmong x (xs ++ ys)
among_left x [] ys h = absurd h
among_left x (y ∷ more) ys h = elim h [ inl e ↦ inl e | inr later ↦ inr (among_left x more ys later) ]

among_right : {A : Type 0} (x : A) (xs ys : List A) → IsAmong x ys → IsAmong x (xs ++ ys)
among_right x [] ys h = h
among_right x (y ∷ more) ys h = inr (among_right x more ys h)

among_same : (p x : List ℕ) (xs : List (List ℕ)) → IsAmong x xs → IsAmong (p ++ x) (map (λ t. p ++ t) xs)
among_same p x [] h = absurd h
among_same p x (y ∷ ys) h = elim h [ inl e ↦ inl (ap (λ (t : List ℕ). p ++ t) e) | inr later ↦ inr (among_same p x ys later) ]

among_turned : (a : ℕ) (t : List ℕ) (inner : List (List ℕ)) (k first : ℕ) → first ≤ a → a < first + k → IsAmong t inner → IsAmong (a ∷ t) (turned inner (counted k first))
among_turned a t inner zero first low high h = absurd (omega arith)
among_turned a t inner (suc k) first low high h = elim (cases_eq a first) [
  | inl e ↦ among_left (a ∷ t) (map (λ later. first ∷ later) inner) (turned inner (counted k (first + 1))) (rw e (among_same (first ∷ []) t inner h))
  | inr ne ↦ among_right (a ∷ t) (map (λ later. first ∷ later) inner) (turned inner (counted k (first + 1)))
      (among_turned a t inner k (first + 1) (omega (arith, ne)) (omega arith) h)
]

among_tuples : (ranges : List Range) (t : List ℕ) → Within ranges t → IsAmong t (tuples ranges)
among_tuples [] [] h = inl refl
among_tuples [] (a ∷ t) h = absurd h
among_tuples (r ∷ rs) [] h = absurd h
among_tuples (r ∷ rs) (a ∷ t) h = among_turned a t (tuples rs) (r.most + 1 - r.least) r.least h.0 (omega (arith, h.0, h.1)) (among_tuples rs t h.2)

-- what is read past the last row
abbrev no_row : Row
no_row = record { arcs = []; indices = []; readable = false }

among_rows : (rows : List Row) (i : ℕ) (t : List ℕ) → i < length rows → Within (get_or rows i no_row).indices t → IsAmong ((get_or rows i no_row).arcs ++ t) (flat_map instances rows)
among_rows [] i t h w = absurd (omega arith)
among_rows (row ∷ rows) zero t h w = among_left (row.arcs ++ t) (instances row) (flat_map instances rows) (among_same row.arcs t (tuples row.indices) (among_tuples row.indices t w))
among_rows (row ∷ rows) (suc i) t h w = among_right ((get_or rows i no_row).arcs ++ t) (instances row) (flat_map instances rows) (among_rows rows i t (omega arith) w)

-- an instance of the i-th row
in_row : (i : ℕ) (t : List ℕ) → i < length readable_rows → Within (get_or readable_rows i no_row).indices t → IsAmong ((get_or readable_rows i no_row).arcs ++ t) readable
unfolding readable
in_row i t h w = among_rows readable_rows i t h w

cell_listed : (cell : Cell) → IsCell cell → IsAmong (arcs_of (CellName cell)) readable
unfolding objects
cell_listed (PhaseCell phase column) h = in_row 0 (column ∷ phase ∷ []) (omega arith) (omega (arith, h.2), h.3, (h.0, h.1, tt))
cell_listed (SequenceCell sequence ring) h = in_row 9 (3 ∷ sequence ∷ ring ∷ []) (omega arith) (omega arith, omega arith, (h.0, h.1, (h.2, h.3, tt)))
cell_listed (SplitCell split phase column) h = in_row 4 (column ∷ split ∷ phase ∷ []) (omega arith) (omega (arith, h.4), h.5, (h.0, h.1, (h.2, h.3, tt)))
cell_listed (PatternCell pattern column) h = in_row 3 (column ∷ pattern ∷ []) (omega arith) (omega (arith, h.2), h.3, (h.0, h.1, tt))
cell_listed (PreemptCell preempt column) h = in_row 8 (column ∷ preempt ∷ []) (omega arith) (h.2, h.3, (h.0, h.1, tt))
cell_listed (UnitCell number) h = elim (cases_eq number 1) [
  | inl e ↦ rw e (in_row 2 (2 ∷ 0 ∷ []) (omega arith) (omega arith, omega arith, (omega arith, omega arith, tt)))
  | inr ne ↦
      let other : eqb number 1 ≡ false = ne_eqb number 1 (λ e. ne e) in
      rw other (in_row 13 ((number - 1) ∷ 0 ∷ []) (omega arith) (omega (arith, h.0, ne), omega (arith, h.1), (omega arith, omega arith, tt)))
]

index_listed : (table : TableName) (column row sub : ℕ) → IsIndex table column row sub → IsAmong (arcs_of (Index table column row sub)) readable
unfolding objects
index_listed Phase column row sub h = in_row 0 (column ∷ row ∷ []) (omega arith) (omega (arith, h.0), omega (arith, h.0), (h.1.0, h.1.1, tt))
index_listed Group column row sub h = in_row 1 (column ∷ row ∷ []) (omega arith) (omega (arith, h.0), omega (arith, h.0), (h.1.0, h.1.1, tt))
index_listed Pattern column row sub h = in_row 3 (column ∷ row ∷ []) (omega arith) (omega (arith, h.0), omega (arith, h.0), (h.1.0, h.1.1, tt))
index_listed Split column row sub h = in_row 4 (column ∷ row ∷ sub ∷ []) (omega arith) (h.0.0, omega (arith, h.0.1), (h.1.0, h.1.1, (h.2.0, h.2.1, tt)))
index_listed Preempt column row sub h = in_row 7 (column ∷ row ∷ []) (omega arith) (omega (arith, h.0), omega (arith, h.0), (h.1.0, h.1.1, tt))
index_listed Sequence column row sub h = in_row 9 (column ∷ row ∷ sub ∷ []) (omega arith) (h.0.0, omega (arith, h.0.1), (h.1.0, h.1.1, (h.2.0, h.2.1, tt)))

-- each name of a readable instance is in the list
pub name_listed : (name : Name) → IsName name → IsReadable name → IsAmong (arcs_of name) readable
unfolding objects
name_listed (CellName cell) h reads = cell_listed cell h
name_listed (Index table column row sub) h reads = index_listed table column row sub h
name_listed (GroupName column group) h reads = in_row 1 (column ∷ group ∷ []) (omega arith) (omega (arith, h.0.0), h.0.1, (h.1.0, h.1.1, tt))
name_listed PatternStatus h reads = in_row 5 (10 ∷ 0 ∷ []) (omega arith) (omega arith, omega arith, (omega arith, omega arith, tt))
name_listed PatternControl h reads = in_row 6 (14 ∷ 0 ∷ []) (omega arith) (omega arith, omega arith, (omega arith, omega arith, tt))
name_listed (Txn number) h reads = elim reads [
  | inl less ↦ in_row 10 (number ∷ 0 ∷ []) (omega arith) (h.0, omega (arith, less), (omega arith, omega arith, tt))
  | inr more ↦ in_row 11 (number ∷ 0 ∷ []) (omega arith) (omega (arith, more), h.1, (omega arith, omega arith, tt))
]
name_listed Clock h reads = in_row 12 (1 ∷ 0 ∷ []) (omega arith) (omega arith, omega arith, (omega arith, omega arith, tt))
name_listed Counter h reads = in_row 12 (2 ∷ 0 ∷ []) (omega arith) (omega arith, omega arith, (omega arith, omega arith, tt))
name_listed Target h reads = in_row 12 (3 ∷ 0 ∷ []) (omega arith) (omega arith, omega arith, (omega arith, omega arith, tt))
name_listed ModeCode h reads = in_row 12 (4 ∷ 0 ∷ []) (omega arith) (omega arith, omega arith, (omega arith, omega arith, tt))
name_listed Request h reads = absurd reads
name_listed Cancel h reads = absurd reads
name_listed (RequestState number) h reads = in_row 14 (number ∷ []) (omega arith) (h.0, h.1, tt)

written_in_row : (i : ℕ) (t : List ℕ) → i < length write_only_rows → Within (get_or write_only_rows i no_row).indices t → IsAmong ((get_or write_only_rows i no_row).arcs ++ t) write_only
unfolding write_only
written_in_row i t h w = among_rows write_only_rows i t h w

-- each name of an instance that can only be written is in the other list
pub write_only_listed : (name : Name) → IsName name → (IsReadable name → ⊥) → IsAmong (arcs_of name) write_only
unfolding objects
write_only_listed (CellName cell) h hidden = absurd (hidden tt)
write_only_listed (Index table column row sub) h hidden = absurd (hidden tt)
write_only_listed (GroupName column group) h hidden = absurd (hidden tt)
write_only_listed PatternStatus h hidden = absurd (hidden tt)
write_only_listed PatternControl h hidden = absurd (hidden tt)
write_only_listed (Txn number) h hidden = elim (cases_lt number 2) [
  | inl less ↦ absurd (hidden (inl less))
  | inr low ↦ elim (cases_lt 6 number) [
    | inl more ↦ absurd (hidden (inr more))
    | inr high ↦ written_in_row 0 (number ∷ 0 ∷ []) (omega arith) (low, high, (omega arith, omega arith, tt))
  ]
]
write_only_listed Clock h hidden = absurd (hidden tt)
write_only_listed Counter h hidden = absurd (hidden tt)
write_only_listed Target h hidden = absurd (hidden tt)
write_only_listed ModeCode h hidden = absurd (hidden tt)
write_only_listed Request h hidden = written_in_row 1 (1 ∷ 0 ∷ []) (omega arith) (omega arith, omega arith, (omega arith, omega arith, tt))
write_only_listed Cancel h hidden = written_in_row 1 (2 ∷ 0 ∷ []) (omega arith) (omega arith, omega arith, (omega arith, omega arith, tt))
write_only_listed (RequestState number) h hidden = absurd (hidden tt)

-- each such name can be written
writable_cell : (cell : Cell) → IsWritable (arcs_of (CellName cell))
writable_cell (PhaseCell phase column) = search rules
writable_cell (SequenceCell sequence ring) = search rules
writable_cell (SplitCell split phase column) = search rules
writable_cell (PatternCell pattern column) = search rules
writable_cell (PreemptCell preempt column) = search rules
writable_cell (UnitCell number) = split (eqb number 1)
  where
    split : (b : Bool) → IsWritable (cond b (asc ++ 4 ∷ 2 ∷ 0 ∷ []) (own ++ 3 ∷ (number - 1) ∷ 0 ∷ []))
    split true = search rules
    split false = search rules

writable_name : (name : Name) → IsWritable (arcs_of name)
writable_name (CellName cell) = writable_cell cell
writable_name (Index Phase column row sub) = search rules
writable_name (Index Group column row sub) = search rules
writable_name (Index Pattern column row sub) = search rules
writable_name (Index Split column row sub) = search rules
writable_name (Index Preempt column row sub) = search rules
writable_name (Index Sequence column row sub) = search rules
writable_name (GroupName column group) = search rules
writable_name PatternStatus = search rules
writable_name PatternControl = search rules
writable_name (Txn number) = search rules
writable_name Clock = search rules
writable_name Counter = search rules
writable_name Target = search rules
writable_name ModeCode = search rules
writable_name Request = search rules
writable_name Cancel = search rules
writable_name (RequestState number) = search rules

-- what is found in a list has what all of the list have
found_has : (P : List ℕ → Type 0) (test : List ℕ → Bool) (xs : List (List ℕ)) → AllByRecursion P xs → IfSome (find test xs) P
found_has P test [] h = tt
found_has P test (x ∷ xs) h = split (test x) (find test xs) (found_has P test xs h.1)
  where
    split : (b : Bool) (o : Option (List ℕ)) → IfSome o P → IfSome (cond b (Some x) o) P
    split true o k = h.0
    split false o k = k

-- a call's answer has what the list that it gives has
given_has : (P : List ℕ → Type 0) (result : Option (ArrayVec ℕ)) (found : Option (List ℕ)) → Gives (λ o. o.items) result found → IfSome found P → IfSome result (λ o. P o.items)
given_has P None found g h = tt
given_has P (Some o) found g h = subst (λ (f : Option (List ℕ)). IfSome f P) g h

pub next_known : (name : List ℕ) (result : Option (ArrayVec ℕ)) → Gives (λ o. o.items) result (next_of name) → IfSome result (λ o. IsReadableInstance o.items)
next_known name result g = given_has IsReadableInstance result (next_of name) g (found_has IsReadableInstance (is_before name) readable readable_named)

pub next_passes : (name : List ℕ) (result : Option (ArrayVec ℕ)) → Gives (λ o. o.items) result (next_of name) → IfSome result (λ o. is_before name o.items ≡ true)
next_passes name result g = given_has (λ n. is_before name n ≡ true) result (next_of name) g (found_passes (is_before name) readable)

pub next_writable : (result : Option (ArrayVec ℕ)) → IfSome result (λ o. IsReadableInstance o.items) → IfSome result (λ o. IsWritable o.items)
next_writable None h = tt
next_writable (Some o) (name, is, reads, same) = subst IsWritable (sym same) (writable_name name)
