-- The lists that were found are where they did when another member is put into the frame.
use Rattle.std.proofs.Common.{◌≡◌, ℕ, List, true, false, Bool, ◌||◌, Option, Some, unwrap_or, bytes_eq, codes, refl, sym, ◌∙◌, subst, arith}
use Rattle.std.proofs.lemmas.Bool.{or_parts}
use Rattle.std.proofs.lemmas.Slice.Eq.{bytes_eq-Decides}
use Rattle.serde_json.specs.Data.{Data, null, array, object, Items, no_items, Members, no_members, put}
use Rattle.serde_json.proofs.Views.{get_member-put, get_member-put_other}
use Rattle.scenario_file.specs.declared.found.Found.{Found}
use Rattle.scenario_file.specs.declared.found.Reach.{Reach}
use Rattle.scenario_file.specs.declared.listed.Listed.{Listed}
use Rattle.scenario_file.specs.declared.lists.Lists.{Lists}
use Rattle.scenario_file.specs.declared.written.Written.{Written}
use Rattle.scenario_file.specs.Growing.{written, inner_text}
use Rattle.scenario_file.specs.Listing.{Holds, name_of, AllOf, ReachGrows, Within, Lists as ListsItems}
use Rattle.scenario_read.specs.Fields.{either}
use Rattle.scenario_file.specs.Framing.{is_list, text_named, stand_in, with_rows, IsHeld, HoldsPlace, TextsStand, FramingStands, MasterStands, ScheduleStands, AllStand}
use Rattle.scenario_file.proofs.Growth.{all-further}
use Rattle.scenario_file.proofs.Frames.{by-name}

pub apart : (k l : List ℕ) → bytes_eq k l ≡ false → l ≡ k → ⊥
apart k l other same =
    let both : bytes_eq k l ≡ true = (bytes_eq-Decides k l).1 (sym same) in
    let clash : true ≡ false = sym both ∙ other in
    absurd (cc)

-- the master that is there, or one that says nothing
abbrev pub master_or_none : Option Data → Data
master_or_none o = unwrap_or (either o (Some (object no_members))) null

-- another member, and items that ask for more
pub stand-other : (found : Found) (text : Written) (last now : Reach) (frame : Members) (ds : Items) (k : List ℕ) (d : Data)
    → bytes_eq k (name_of found) ≡ false → ReachGrows last now → FramingStands found text last frame ds → FramingStands found text now (put k d frame) ds
stand-other found text last now frame ds k d other far stands = record {
  holds = stands.holds;
  text_is = stands.text_is;
  within = all-further (name_of found) last now ds far stands.within;
  held = subst (λ o. IsHeld (name_of found) o ds) (sym (get_member-put_other (name_of found) k d frame (apart k (name_of found) other))) stands.held;
}

-- the list itself
pub stand-here : (found : Found) (text : Written) (last now : Reach) (frame : Members) (ds : Items) → Holds found ds → written text ≡ inner_text false ds
    → AllOf (Within (name_of found) last) ds → ReachGrows last now → FramingStands found text now (put (name_of found) (stand_in (name_of found) ds) frame) ds
stand-here found text last now frame ds holds is within far = record {
  holds = holds;
  text_is = is;
  within = all-further (name_of found) last now ds far within;
  held = subst (λ o. IsHeld (name_of found) o ds) (sym (get_member-put (name_of found) (stand_in (name_of found) ds) frame)) refl;
}

-- a different member from the master
pub schedule-other : (found : Found) (text : Written) (frame : Members) (ds : Items) (k : List ℕ) (d : Data)
    → bytes_eq k (codes "master") ≡ false → ScheduleStands found text frame ds → ScheduleStands found text (put k d frame) ds
schedule-other found text frame ds k d other stands = record {
  holds = stands.holds;
  text_is = stands.text_is;
  held = subst (λ o. HoldsPlace (master_or_none o) ds) (sym (get_member-put_other (codes "master") k d frame (apart k (codes "master") other))) stands.held;
}

-- the master of the schedule
pub schedule-here : (found : Found) (text : Written) (frame : Members) (ds : Items) (d : Data) → Holds found ds → written text ≡ inner_text false ds
    → HoldsPlace d ds → ScheduleStands found text (put (codes "master") d frame) ds
schedule-here found text frame ds d holds is held = record {
  holds = holds;
  text_is = is;
  held = subst (λ o. HoldsPlace (master_or_none o) ds) (sym (get_member-put (codes "master") d frame)) held;
}

-- none of six
none-of-six : (a b c d e f : Bool) → (a || (b || (c || (d || (e || f))))) ≡ false → (a ≡ false) × (b ≡ false) × (c ≡ false) × (d ≡ false) × (e ≡ false) × (f ≡ false)
none-of-six a b c d e f none =
    let p = or_parts a (b || (c || (d || (e || f)))) none in
    let q = or_parts b (c || (d || (e || f))) p.1 in
    let r = or_parts c (d || (e || f)) q.1 in
    let s = or_parts d (e || f) r.1 in
    let t = or_parts e f s.1 in
    (p.0, q.0, r.0, s.0, t.0, t.1)

no-further : (last : Reach) → ReachGrows last last
no-further last = record { round = omega arith; cabinet = omega arith; version = omega arith }

-- a member that is none of the lists, nor the master
pub all-stand-other : (lists : Lists) (frame : Members) (rows : List ℕ → Items) (k : List ℕ) (d : Data) → is_list k ≡ false → bytes_eq k (codes "master") ≡ false
    → AllStand lists frame rows → AllStand lists (put k d frame) rows
all-stand-other lists frame rows k d none no-master s =
    let other =
    none-of-six (bytes_eq k (codes "cabinets")) (bytes_eq k (codes "inputs")) (bytes_eq k (codes "loads")) (bytes_eq k (codes "priority")) (bytes_eq k (codes "frames")) (bytes_eq k (codes "faults")) none in
    let far = no-further lists.last in
    record {
      cabinets = stand-other _ _ lists.last lists.last frame _ k d other.0 far s.cabinets;
      inputs = stand-other _ _ lists.last lists.last frame _ k d other.1 far s.inputs;
      loads = stand-other _ _ lists.last lists.last frame _ k d other.2 far s.loads;
      priority = stand-other _ _ lists.last lists.last frame _ k d other.3 far s.priority;
      frames = stand-other _ _ lists.last lists.last frame _ k d other.4 far s.frames;
      faults = stand-other _ _ lists.last lists.last frame _ k d other.5 far s.faults;
      schedule = schedule-other _ _ frame _ k d no-master s.schedule;
    }

pub texts-stand : (lists : Lists) (frame : Members) (rows : List ℕ → Items) → AllStand lists frame rows → TextsStand lists.texts rows
texts-stand lists frame rows s = record {
  top = λ name is.
      by-name (λ n. text_named lists.texts n ≡ inner_text false (rows n)) name is s.cabinets.text_is s.inputs.text_is s.loads.text_is s.priority.text_is s.frames.text_is s.faults.text_is;
  schedule = s.schedule.text_is;
}

-- a list put in under what it is known to be
pub same-list : (lists : Lists) (found known : Found) (frame : Members) (rows : List ℕ → Items) (ds : Items) → found ≡ known
    → AllStand lists (put (name_of known) (stand_in (name_of known) ds) frame) (with_rows rows (name_of known) ds) → AllStand lists (put (name_of found) (stand_in (name_of found) ds) frame) (with_rows rows (name_of found) ds)
same-list lists found known frame rows ds is s = subst (λ (f : Found). AllStand lists (put (name_of f) (stand_in (name_of f) ds) frame) (with_rows rows (name_of f) ds)) (sym is) s

-- a list at the top is not a schedule
pub no-such-list : (found known : Found) → found ≡ known → name_of found ≡ codes "schedule" → bytes_eq (name_of known) (codes "schedule") ≡ false → ⊥
no-such-list found known is named apart-so =
    let same : name_of known ≡ codes "schedule" = subst (λ (f : Found). name_of f ≡ codes "schedule") is named in
    apart (name_of known) (codes "schedule") apart-so (sym same)

-- ---- the schedule while its master is read

-- another member of the master
pub master-other : (schedule : Listed) (ms : Members) (ds : Items) (k : List ℕ) (d : Data) → bytes_eq k (codes "schedule") ≡ false → MasterStands schedule ms ds → MasterStands schedule (put k d ms) ds
master-other schedule ms ds k d other stands = record {
  list = stands.list;
  items = stands.items;
  held = subst (λ o. IsHeld (codes "schedule") o ds) (sym (get_member-put_other (codes "schedule") k d ms (apart k (codes "schedule") other))) stands.held;
}

-- a schedule in place of that before
pub master-here : (schedule : Listed) (ms : Members) (ds : Items) (d : Data) → name_of schedule.found ≡ codes "schedule" → ListsItems schedule ds → d ≡ array no_items → MasterStands schedule (put (codes "schedule") d ms) ds
master-here schedule ms ds d named lists is = record {
  list = named;
  items = lists;
  held = subst (λ o. IsHeld (codes "schedule") o ds) (sym (get_member-put (codes "schedule") d ms)) is;
}
