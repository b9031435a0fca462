-- The loads of a value without faults are few, and have cells that there are.
use Rattle.std.proofs.Common.{◌≡◌, ◌≢◌, ◌≤◌, ◌<◌, ◌+◌, ◌*◌, ◌==◌, ℕ, zero, suc, Bool, true, false, nat_lt, if◌then◌else◌, List, [], ◌∷◌, ◌++◌, length, refl, sym, subst, arith}
use Rattle.std.specs.List.{AllByRecursion}
use Rattle.std.proofs.lemmas.Bool.{ltb-true, eqb-false}
use Rattle.std.proofs.lemmas.List.{length-append}
use Rattle.serde_json.specs.Data.{Data, Items, no_items, item}
use Rattle.serde_json.specs.Events.{items_len}
use Rattle.scenario_read.specs.Paths.{Step, then_named, then_item}
use Rattle.scenario_read.specs.Kinds.{Fits, Beyond, fault_at, each_behind, items_in}
use Rattle.scenario_read.specs.CellLists.{cell, cell_of}
use Rattle.scenario_read.specs.Fields.{held, object_of}
use Rattle.scenario_read.specs.Table.{round, cabinet_number, load_cells, load_shape, load_cabinet, count_of, full_faults, load}
use Rattle.scenario_read.specs.Content.{load_of, each_of}
use Rattle.scenario_read.proofs.NoFaults.{none-left}
use Rattle.scenario_read.proofs.Walks.{each_of-len}
use Rattle.master_load.specs.Downloads.{IsPut, IsLoad}
use Rattle.runnable.specs.Octets.{PutOctets, HoldsOctets}
use Rattle.scenario_checked.proofs.RangesParts.{whole-in, list-in, held-in, object-in, AllClean, all-clean}
use Rattle.scenario_checked.proofs.RangesLists.{each-holds}
use Rattle.scenario_checked.proofs.RangesCells.{cell-in}

-- ---- what a load puts

load-clean : (rounds cabinets : ℕ) (earlier : List ℕ) (path : List Step) (d : Data) → load rounds cabinets earlier path d ≡ []
    → AllClean path d (round rounds ∷ cabinet_number cabinets ∷ load_cells ∷ []) × (full_faults earlier path (load_cabinet cabinets d) ≡ [])
load-clean rounds cabinets earlier path d e =
    let parts = none-left (object_of (load_shape rounds cabinets) path d) (full_faults earlier path (load_cabinet cabinets d)) e in
    let fields = (object-in (load_shape rounds cabinets) path d parts.0).0 in
    (all-clean path d (round rounds ∷ cabinet_number cabinets ∷ load_cells ∷ []) fields, parts.1)

pub load-in : (rounds cabinets : ℕ) (earlier : List ℕ) (path : List Step) (d : Data) → load rounds cabinets earlier path d ≡ []
    → IsLoad (load_of rounds cabinets d) × PutOctets (load_of rounds cabinets d).cells
load-in rounds cabinets earlier path d e =
    let own = (load-clean rounds cabinets earlier path d e).0 in
    let list = list-in 1 768 cell (then_named path load_cells.name) (held load_cells d) (held-in path d load_cells own.1.1.0) in
    let items : Items = items_in (held load_cells d) in
    let few : length (each_of cell_of items) ≤ 768 = subst (λ (n : ℕ). n ≤ 768) (sym (each_of-len cell_of items)) list.1 in (
      (few, each-holds cell cell_of IsPut (λ p x k. (cell-in p x k).0) (then_named path load_cells.name) 0 items list.2),
      each-holds cell cell_of (λ put. HoldsOctets put.1) (λ p x k. (cell-in p x k).1) (then_named path load_cells.name) 0 items list.2,
    )

-- ---- at most a hundred of a cabinet

-- each of these numbers is from 1 to a last one
abbrev AllUpTo : ℕ → List ℕ → Type 0
AllUpTo n xs = AllByRecursion (λ x. (1 ≤ x) × (x ≤ n)) xs

-- how many of these are 1 to a last number
abbrev counted : ℕ → List ℕ → ℕ
counted zero xs = 0
counted (suc n) xs = count_of (suc n) xs + counted n xs

counted-none : (n : ℕ) → counted n [] ≡ 0
counted-none zero = refl
counted-none (suc n) = omega (arith, counted-none n)

-- how many of one number
abbrev mine : ℕ → ℕ → ℕ
mine zero x = 0
mine (suc n) x = (if x == suc n then 1 else 0) + mine n x

counted-more : (n x : ℕ) (xs : List ℕ) → counted n (x ∷ xs) ≡ mine n x + counted n xs
counted-more zero x xs = omega arith
counted-more (suc n) x xs = omega (arith, counted-more n x xs)

mine-once : (n x : ℕ) → 1 ≤ x → x ≤ n → 1 ≤ mine n x
mine-once zero x low high = absurd (omega (arith, low, high))
mine-once (suc n) x low high = from (λ less. mine-once n x low less) (x == suc n) refl
  where
    from : (x ≤ n → 1 ≤ mine n x) → (b : Bool) → (x == suc n) ≡ b → 1 ≤ (if b then 1 else 0) + mine n x
    from more true e = omega arith
    from more false e =
        let other : x ≢ suc n = eqb-false x (suc n) e in
        let once : 1 ≤ mine n x = more (omega (arith, high, other)) in
        omega (arith, once)

all-counted : (n : ℕ) (xs : List ℕ) → AllUpTo n xs → length xs ≤ counted n xs
all-counted n [] all = omega arith
all-counted n (x ∷ xs) all =
    let once : 1 ≤ mine n x = mine-once n x all.0.0 all.0.1 in
    let more : length xs ≤ counted n xs = all-counted n xs all.1 in
    omega (arith, once, more, counted-more n x xs)

counted-few : (n most : ℕ) (xs : List ℕ) → ((c : ℕ) → count_of c xs ≤ most) → counted n xs ≤ n * most
counted-few zero most xs few = omega arith
counted-few (suc n) most xs few =
    let first : count_of (suc n) xs ≤ most = few (suc n) in
    let more : counted n xs ≤ n * most = counted-few n most xs few in
    let e : suc n * most ≡ n * most + most = grind arith in
    omega (arith, first, more, e)

-- one more at the end
abbrev one : Bool → ℕ
one b = if b then 1 else 0

count-last : (c x : ℕ) (xs : List ℕ) → count_of c (xs ++ x ∷ []) ≡ count_of c xs + one (x == c)
count-last c x [] = omega arith
count-last c x (y ∷ xs) = omega (arith, count-last c x xs)

all-last : (n x : ℕ) (xs : List ℕ) → AllUpTo n xs → (1 ≤ x) × (x ≤ n) → AllUpTo n (xs ++ x ∷ [])
all-last n x [] all last = (last, tt)
all-last n x (y ∷ xs) all last = (all.0, all-last n x xs all.1 last)

-- numbers of which each is at most a hundred times
record AreFew (n : ℕ) (xs : List ℕ) : Type 0 where
  upto : AllUpTo n xs
  few : (c : ℕ) → count_of c xs ≤ 100

not-full : (earlier : List ℕ) (path : List Step) (cab : ℕ) → full_faults earlier path cab ≡ [] → count_of cab earlier < 100
not-full earlier path cab e = from (nat_lt (count_of cab earlier) 100) refl e
  where
    from : (b : Bool) → nat_lt (count_of cab earlier) 100 ≡ b → fault_at path (if b then Fits else Beyond) ≡ [] → count_of cab earlier < 100
    from true is k = ltb-true (count_of cab earlier) 100 is
    from false is k = absurd (cc)

one-more : (n x : ℕ) (xs : List ℕ) → AreFew n xs → (1 ≤ x) × (x ≤ n) → count_of x xs < 100 → AreFew n (xs ++ x ∷ [])
one-more n x xs are range room = record {
  upto = all-last n x xs are.upto range;
  few = λ c. from c (x == c) refl;
}
  where
    from : (c : ℕ) (b : Bool) → (x == c) ≡ b → count_of c (xs ++ x ∷ []) ≤ 100
    from c true e = grind (arith, count-last c x xs, e, room)
    from c false e = grind (arith, count-last c x xs, e, are.few c)

loads-few : (rounds cabinets : ℕ) (path : List Step) (place : ℕ) (earlier : List ℕ) (ds : Items) → AreFew cabinets earlier
    → each_behind (load rounds cabinets) (load_cabinet cabinets) path place earlier ds ≡ [] → length earlier + items_len ds ≤ cabinets * 100
loads-few rounds cabinets path place earlier no_items are e =
    let all : length earlier ≤ counted cabinets earlier = all-counted cabinets earlier are.upto in
    let few : counted cabinets earlier ≤ cabinets * 100 = counted-few cabinets 100 earlier are.few in
    omega (arith, all, few)
loads-few rounds cabinets path place earlier (item d ds) are e =
    let cab : ℕ = load_cabinet cabinets d in
    let at : List Step = then_item path place in
    let parts = none-left (load rounds cabinets earlier at d) (each_behind (load rounds cabinets) (load_cabinet cabinets) path (place + 1) (earlier ++ cab ∷ []) ds) e in
    let own = load-clean rounds cabinets earlier at d parts.0 in
    let range = whole-in 1 cabinets (then_named at (cabinet_number cabinets).name) (held (cabinet_number cabinets) d) (held-in at d (cabinet_number cabinets) own.0.1.0) in
    let more : length (earlier ++ cab ∷ []) + items_len ds ≤ cabinets * 100 =
    loads-few rounds cabinets path (place + 1) (earlier ++ cab ∷ []) ds (one-more cabinets cab earlier are range (not-full earlier at cab own.1)) parts.1 in
    omega (arith, more, length-append earlier (cab ∷ []))

pub loads-in : (rounds cabinets : ℕ) (path : List Step) (ds : Items) → cabinets ≤ 64
    → each_behind (load rounds cabinets) (load_cabinet cabinets) path 0 [] ds ≡ [] → length (each_of (load_of rounds cabinets) ds) ≤ 6400
loads-in rounds cabinets path ds few e =
    let all : 0 + items_len ds ≤ cabinets * 100 = loads-few rounds cabinets path 0 [] ds (record { upto = tt; few = λ c. omega arith }) e in
    omega (arith, all, few, each_of-len (load_of rounds cabinets) ds)
