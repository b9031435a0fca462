-- What the requests of the master and of a scenario ask: nothing under the number of a load that isn't of that load.
use Rattle.std.proofs.Common.{◌≡◌, ◌<◌, ◌≤◌, ◌+◌, ◌∙◌, ◌&&◌, nat_le, if◌then◌else◌, ℕ, ℤ, pos, Bool, true, false, List, [], ◌∷◌, length, map, Option, Some, None, Result, Ok, Err, is_ok, IfOk, IfSome, refl, sym, ap, ap₂, subst, arith}
use Rattle.std.specs.List.{flat_map, AllByRecursion}
use Rattle.std.proofs.lemmas.Bool.{le-leb}
use Rattle.sig_tables.specs.declared.tables.Tables.{Tables}
use Rattle.sig_tables.specs.declared.cells.Cell.{Cell}
use Rattle.sig_tables.specs.declared.cells.CellValue.{CellValue}
use Rattle.sig_tables.specs.declared.cells.CellValue.TheVariants.{Number as NumberValue, Octets as OctetsValue}
use Rattle.sig_tables.specs.Cells.{Content, Number, Octets as OctetsContent, content_of}
use Rattle.sig_tables.specs.Putting.{put_content}
use Rattle.sig_tables.specs.Ranges.{fits_of}
use Rattle.ber_code.specs.Fields.{AreTexts}
use Rattle.ber_code.specs.Names.{IsName as IsNameText, name_text}
use Rattle.ber_code.proofs.Texts.{integer_is, name_is}
use Rattle.snmp_msg.specs.declared.message.Pdu.{Pdu}
use Rattle.snmp_msg.specs.declared.message.Pdu.TheVariants.{Get, Next, Response, Set}
use Rattle.snmp_msg.specs.declared.message.Value.{Value}
use Rattle.snmp_msg.specs.declared.message.Value.TheVariants.{Int}
use Rattle.snmp_msg.specs.declared.message.Bind.{Bind}
use Rattle.snmp_msg.specs.declared.message.Message.{Message}
use Rattle.snmp_msg.specs.Messages.{IsMessage}
use Rattle.snmp_msg.specs.Shortest.{value_text, binding_text, shortest}
use Rattle.snmp_msg.specs.Values.{IsBinding}
use Rattle.snmp_msg.proofs.WrittenLaws.{octets_are}
use Rattle.oid_map.specs.declared.names.Name.{Name}
use Rattle.oid_map.specs.declared.names.Name.TheVariants.{Cell as CellName, Txn}
use Rattle.oid_map.specs.Names.{IsName, arcs_of}
use Rattle.oid_map.specs.Reading.{name_at}
use Rattle.oid_map.proofs.Back.{back}
use Rattle.trace_laws.proofs.Named.{name-short}
use Rattle.requests.specs.Requests.{request, bound, number_at}
use Rattle.master_load.specs.declared.download.Step.{Step}
use Rattle.master_load.specs.declared.download.Step.TheVariants as step
use Rattle.master_load.specs.Downloads.{IsPut as IsLoadPut, ArePuts, cell_bind, part_cells, parts_for, step_binds}
use Rattle.agent.specs.declared.ask.Order.{Order}
use Rattle.agent.specs.declared.ask.Wish.{Wish}
use Rattle.agent.specs.declared.ask.Ask.{Ask}
use Rattle.agent.specs.declared.bindings.Fault.{Fault}
use Rattle.agent.specs.Bindings.{before, each_gives}
use Rattle.agent.specs.Orders.{order_of}
use Rattle.agent.specs.Downloads.{id_in, put_into, put_of, begin_wish, with_puts, part_wish, verify_wish, finish_wish, download_object, step_wish}
use Rattle.agent.specs.Asks.{direct_wish, set_wish, wish_of, ask_of, Asks}
use Rattle.judged_runs.specs.Messages.{IsPartOf, IsTotalOf, IsFinishOf, IsOwnWish}
use Rattle.judged_runs.proofs.Peeling.{IsClear, peeled, same-binds, first-name}

-- each part of these cells can be put
abbrev pub AllParts : List (Cell × Content) → Type 0
AllParts cells = (k : ℕ) → ArePuts (part_cells cells k)

-- the first of these bindings names nothing of a download
abbrev IsNoDownload : List Bind → Type 0
IsNoDownload [] = Unit {0}
IsNoDownload (first ∷ others) = download_object (name_at first.name.items) ≡ 0

-- ---- names and values have texts

named : (name : Name) → IsName name → IsNameText (name_text (arcs_of name)) (arcs_of name)
named name is = let short = name-short name is in name_is (arcs_of name) short.writable short.short

pub number-clear : (name : Name) (n : ℕ) → IsName name → n < 2147483648 → IsClear (number_at name n)
unfolding value_text
number-clear name n is small = record { name = named name is; value = integer_is (pos n) (omega (arith, small)) }

cell-clear : (put : Cell × Content) → IsLoadPut put → IsClear (cell_bind put)
unfolding value_text
cell-clear (cell, Number n) is = record { name = named (CellName cell) is.0; value = integer_is (pos n) (let l : n < 65536 = is.1 in omega (arith, l)) }
cell-clear (cell, OctetsContent octets) is = record { name = named (CellName cell) is.0; value = octets_are (record { items = octets }) (let l : length octets ≤ 16 = is.1 in omega (arith, l)) }

pub cells-clear : (cells : List (Cell × Content)) → ArePuts cells → AllByRecursion IsClear (map cell_bind cells)
cells-clear [] all = tt
cells-clear (put ∷ cells) all = (cell-clear put all.0, cells-clear cells all.1)

-- ---- what a part puts

-- what a binding puts, if anything, is this
abbrev PutsThis : Cell × Content → Result (Cell × CellValue) ℕ → Type 0
PutsThis put r = IfOk r (λ given. put_content given ≡ put)

into-ok : (cell : Cell) (value : CellValue) → PutsThis (cell, content_of value) (put_into cell (Some value))
into-ok cell value = split (is_ok (fits_of cell (content_of value)))
  where
    split : (b : Bool) → PutsThis (cell, content_of value) (if b then Ok (cell, value) else Err 3)
    split true = refl
    split false = tt

one-ok : (put : Cell × Content) → IsLoadPut put → PutsThis put (put_of (cell_bind put))
one-ok (cell, Number n) is = rw (back (CellName cell) is.0) (into-ok cell (NumberValue n))
one-ok (cell, OctetsContent octets) is =
    let short : nat_le (length octets) 16 ≡ true = le-leb (length octets) 16 is.1 in
    rw (back (CellName cell) is.0, short) (into-ok cell (OctetsValue (record { items = octets })))

before-ok : (a : Result (Cell × CellValue) ℕ) (place : ℕ) (b : Result (List (Cell × CellValue)) Fault) (put : Cell × Content) (cells : List (Cell × Content))
    → IfOk a (λ given. put_content given ≡ put) → IfOk b (λ others. map put_content others ≡ cells) → IfOk (before a place b) (λ all. map put_content all ≡ put ∷ cells)
before-ok (Err status) place b put cells one rest = tt
before-ok (Ok given) place (Err fault) put cells one rest = tt
before-ok (Ok given) place (Ok others) put cells one rest = ap₂ (λ (x : Cell × Content) (y : List (Cell × Content)). x ∷ y) one rest

each-ok : (place : ℕ) (cells : List (Cell × Content)) → ArePuts cells → IfOk (each_gives put_of place (map cell_bind cells)) (λ puts. map put_content puts ≡ cells)
each-ok place [] all = refl
each-ok place (put ∷ cells) all =
    before-ok (put_of (cell_bind put)) place (each_gives put_of (place + 1) (map cell_bind cells)) put cells (one-ok put all.0) (each-ok (place + 1) cells all.1)

-- ---- what is wished

module _ (only : Bool) (load : ℕ → Option (List (Cell × Content))) where
  begin-own : (r : Result ℕ ℕ) (others : List Bind) → IsOwnWish only load (begin_wish r others)
  begin-own (Ok id) [] = tt
  begin-own (Ok id) (second ∷ others) = tt
  begin-own (Err status) others = tt

  direct-own : (r : Result (List Order) Fault) → IsOwnWish only load (direct_wish r)
  direct-own (Ok orders) = tt
  direct-own (Err fault) = tt

  puts-own : (id number : ℕ) (r : Result (List (Cell × CellValue)) Fault) (cells : List (Cell × Content)) → IfOk r (λ puts. map put_content puts ≡ cells)
      → IsPartOf (load id) number cells → IsOwnWish only load (with_puts id number r)
  puts-own id number (Ok puts) cells e is = subst (IsPartOf (load id) number) (sym e) is
  puts-own id number (Err fault) cells e is = tt

  part-own : (id k : ℕ) (b : Bool) (cells : List (Cell × Content)) → ArePuts cells → IsPartOf (load id) k cells
      → IsOwnWish only load (part_wish id (if b then Ok k else Err 3) (map cell_bind cells))
  part-own id k true cells all is = puts-own id k (each_gives put_of 3 (map cell_bind cells)) cells (each-ok 3 cells all) is
  part-own id k false cells all is = tt

  verify-own : (id total : ℕ) (b : Bool) → IsTotalOf (load id) total → IsOwnWish only load (verify_wish id (if b then Ok total else Err 3) [])
  verify-own id total true is = is
  verify-own id total false is = tt

  finish-own : (id : ℕ) (b : Bool) → IsFinishOf only (load id) → IsOwnWish only load (finish_wish id (if b then Ok 1 else Err 3) [])
  finish-own id true fin = fin
  finish-own id false fin = tt

  -- a step under this number, whose own cells these are
  step-own : (t : Tables) (id : ℕ) (cells : List (Cell × Content)) (at : Step) → AllParts cells → ((k : ℕ) → IsPartOf (load id) k (part_cells cells k))
      → IsTotalOf (load id) (parts_for (length cells)) → IsFinishOf only (load id) → IsOwnWish only load (set_wish t (step_binds id cells at))
  step-own t id cells step.Begin all parts total fin = rw (back (Txn 2) (omega arith, omega arith)) (begin-own (id_in (Int (pos id))) [])
  step-own t id cells (step.Part k) all parts total fin =
      rw (back (Txn 3) (omega arith, omega arith)) (split (nat_le 1 id && nat_le id 2147483647))
    where
      split : (b : Bool) → IsOwnWish only load (step_wish (if b then Ok id else Err 3) (number_at (Txn 4) k ∷ map cell_bind (part_cells cells k)))
      split true = rw (back (Txn 4) (omega arith, omega arith)) (part-own id k (nat_le 1 k && nat_le k 60000) (part_cells cells k) (all k) (parts k))
      split false = tt
  step-own t id cells step.Verify all parts total fin =
      rw (back (Txn 3) (omega arith, omega arith)) (split (nat_le 1 id && nat_le id 2147483647))
    where
      n : ℕ
      n = parts_for (length cells)

      split : (b : Bool) → IsOwnWish only load (step_wish (if b then Ok id else Err 3) (number_at (Txn 5) n ∷ []))
      split true = rw (back (Txn 5) (omega arith, omega arith)) (verify-own id n (nat_le 0 n && nat_le n 60000) total)
      split false = tt
  step-own t id cells step.Finish all parts total fin =
      rw (back (Txn 3) (omega arith, omega arith)) (split (nat_le 1 id && nat_le id 2147483647))
    where
      split : (b : Bool) → IsOwnWish only load (step_wish (if b then Ok id else Err 3) (number_at (Txn 6) 1 ∷ []))
      split true = rw (back (Txn 6) (omega arith, omega arith)) (finish-own id (nat_le 1 1 && nat_le 1 1) fin)
      split false = tt

  -- a Set of something else than a download
  other-own : (t : Tables) (binds : List Bind) → IsNoDownload binds → IsOwnWish only load (set_wish t binds)
  other-own t [] is = tt
  other-own t (first ∷ others) is = rw is (direct-own (each_gives (order_of t) 1 (first ∷ others)))

  -- ---- a request

  -- what a message of this kind wishes, where a Set of its bindings is own
  wished : (t : Tables) (pdu : Pdu) (binds : List Bind) → (pdu ≡ Set → IsOwnWish only load (set_wish t binds)) → IfSome (wish_of t pdu binds) (IsOwnWish only load)
  wished t Get binds own = tt
  wished t Next binds own = tt
  wished t Response binds own = tt
  wished t Set binds own = own refl

  asked-own : (octets community : List ℕ) (t : Tables) (o : Option Ask) → IfSome o (Asks octets community t)
      → ((m : Message) → IsMessage octets m → IsOwnWish only load (set_wish t m.binds.items)) → IfSome o (λ ask. IsOwnWish only load ask.wish)
  asked-own octets community t None is own = tt
  asked-own octets community t (Some ask) is own =
      subst (λ (w : Option Wish). IfSome w (IsOwnWish only load)) is.wish
      (wished t ask.message.pdu ask.message.binds.items (λ e. own ask.message is.message))

  -- the steps of a download
  pub load-asks : ((frame community : List ℕ) (t : Tables) → IfSome (ask_of frame community t) (Asks frame community t))
      → (community : List ℕ) (id : ℤ) (n : ℕ) (cells : List (Cell × Content)) (at : Step) → AllByRecursion IsClear (step_binds n cells at) → AllParts cells
      → ((k : ℕ) → IsPartOf (load n) k (part_cells cells k)) → IsTotalOf (load n) (parts_for (length cells)) → IsFinishOf only (load n)
      → (own : List ℕ) (t : Tables) → IfSome (ask_of (shortest (request Set community id (step_binds n cells at))) own t) (λ ask. IsOwnWish only load ask.wish)
  load-asks found community id n cells at clear all parts total fin own t =
      let text : List ℕ = shortest (request Set community id (step_binds n cells at)) in
      asked-own text own t (ask_of text own t) (found text own t)
      (λ m is. let r = peeled Set community id (step_binds n cells at) m is in
      subst (λ (bs : List Bind). IsOwnWish only load (set_wish t bs)) (sym (same-binds (step_binds n cells at) m.binds.items clear r.fits r.texts))
      (step-own t n cells at all parts total fin))

  -- anything that isn't a download
  pub other-asks : ((frame community : List ℕ) (t : Tables) → IfSome (ask_of frame community t) (Asks frame community t))
      → (pdu : Pdu) (community : List ℕ) (id : ℤ) (name : Name) (value : Value) (others : List Bind) → IsName name → download_object (Some name) ≡ 0
      → (own : List ℕ) (t : Tables) → IfSome (ask_of (shortest (request pdu community id (bound name value ∷ others))) own t) (λ ask. IsOwnWish only load ask.wish)
  other-asks found pdu community id name value others is none own t =
      let binds : List Bind = bound name value ∷ others in
      let text : List ℕ = shortest (request pdu community id binds) in
      asked-own text own t (ask_of text own t) (found text own t)
      (λ m read. let r = peeled pdu community id binds m read in other-own t m.binds.items (no-download m.binds.items r.fits r.texts))
    where
      no-download : (cs : List Bind) → length (flat_map binding_text (bound name value ∷ others)) ≤ 1472 → AreTexts IsBinding (flat_map binding_text (bound name value ∷ others)) cs → IsNoDownload cs
      no-download [] fits are = tt
      no-download (c ∷ cs) fits are =
          ap (λ (arcs : List ℕ). download_object (name_at arcs)) (first-name (bound name value) others c cs (named name is) fits are)
          ∙ ap download_object (back name is) ∙ none
