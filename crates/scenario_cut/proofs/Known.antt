-- The members of an object without faults: each has a known name, and what is there has no faults of the field's kind.
use Rattle.std.proofs.Common.{◌≡◌, ℕ, Bool, true, false, ◌||◌, if◌then◌else◌, List, [], ◌∷◌, ◌++◌, filter, Option, Some, None, unwrap_or, bytes_eq, refl, sym, ap, ◌∙◌, subst}
use Rattle.std.proofs.lemmas.Slice.Eq.{bytes_eq-Decides}
use Rattle.serde_json.specs.Data.{Data, object, Members, no_members, member}
use Rattle.serde_json.specs.Find.{get_member, get}
use Rattle.scenario_data.specs.Causes.{Field as FieldCause}
use Rattle.scenario_read.specs.Paths.{Step, path_text, then_named}
use Rattle.scenario_read.specs.Kinds.{is_among}
use Rattle.scenario_read.specs.Fields.{Field, Shape, either, faults_of, field_faults, fields_faults, stands, only_one, all_of, known_fields, names, unknown_faults, chosen_faults, alternative_faults, members_faults}
use Rattle.scenario_read.specs.Sorted.{Sorted, MembersSorted}
use Rattle.scenario_read.proofs.NameOrder.{AllFound, all-found}
use Rattle.scenario_read.proofs.NoFaults.{none-left, both-faultless}

-- ---- the members

-- this is so at each name
abbrev pub AtEach : (List ℕ → Data → Type 0) → Members → Type 0
AtEach P no_members = Unit {0}
AtEach P (member name d ms) = P name d × AtEach P ms

module _ (P : List ℕ → Data → Type 0) where
  -- this is so of what is at a field without faults
  abbrev pub Gives : Field → Type 0
  Gives f = (path : List Step) (d : Data) → Sorted d → f.kind path d ≡ [] → P f.name d

  abbrev pub AllGive : List Field → Type 0
  AllGive [] = Unit {0}
  AllGive (f ∷ fields) = Gives f × AllGive fields

  abbrev pub EachGives : List (List Field) → Type 0
  EachGives [] = Unit {0}
  EachGives (fields ∷ more) = AllGive fields × EachGives more

  both-give : (xs ys : List Field) → AllGive xs → AllGive ys → AllGive (xs ++ ys)
  both-give [] ys a b = b
  both-give (f ∷ xs) ys a b = (a.0, both-give xs ys a.1 b)

  -- so it is of what is at a known name
  at-known : (path : List Step) (d : Data) (fields : List Field) → AllGive fields → fields_faults path d fields ≡ []
      → (name : List ℕ) (v : Data) → is_among (names fields) name ≡ true → get name d ≡ Some v → Sorted v → P name v
  at-known path d [] good e name v known found sorted = absurd (cc)
  at-known path d (f ∷ fields) good e name v known found sorted =
      let parts = none-left (field_faults path d f) (fields_faults path d fields) e in
      choose parts.0 (λ k. at-known path d fields good.1 parts.1 name v k found sorted) (bytes_eq f.name name) refl known
    where
      choose : field_faults path d f ≡ [] → (is_among (names fields) name ≡ true → P name v) → (b : Bool)
          → bytes_eq f.name name ≡ b → (b || is_among (names fields) name) ≡ true → P name v
      choose here later true is k =
          let same : f.name ≡ name = (bytes_eq-Decides f.name name).0 is in
          let stood : get f.name d ≡ Some v = ap (λ n. get n d) same ∙ found in
          subst (λ n. P n v) same (good.0 (then_named path f.name) v sorted (sym (ap (λ o. faults_of f.kind (then_named path f.name) (either o f.default)) stood) ∙ here))
      choose here later false is k = later k

  unknown-none : (known : List (List ℕ)) (path : List Step) (all ms : Members) → unknown_faults known path ms ≡ [] → MembersSorted ms → AllFound all ms
      → ((name : List ℕ) (v : Data) → is_among known name ≡ true → get_member name all ≡ Some v → Sorted v → P name v) → AtEach P ms
  unknown-none known path all no_members e sorted found good = tt
  unknown-none known path all (member name d ms) e sorted found good = choose (λ k. unknown-none known path all ms k sorted.2 found.1 good) (is_among known name) refl e
    where
      choose : (unknown_faults known path ms ≡ [] → AtEach P ms) → (b : Bool) → is_among known name ≡ b
          → (if b then unknown_faults known path ms else (FieldCause (path_text (then_named path name)) ∷ unknown_faults known path ms)) ≡ [] → P name d × AtEach P ms
      choose rest true is k = (good name d is found.0 sorted.0, rest k)
      choose rest false is k = absurd (cc)

  picked : (b : Bool) (fields : List Field) (more : List (List Field)) → AllGive fields → EachGives more → EachGives (if b then fields ∷ more else more)
  picked true fields more here rest = (here, rest)
  picked false fields more here rest = rest

  standing : (d : Data) (alternatives : List (List Field)) → EachGives alternatives → EachGives (filter (stands d) alternatives)
  standing d [] good = tt
  standing d (fields ∷ more) good = picked (stands d fields) fields (filter (stands d) more) good.0 (standing d more good.1)

  inside : (a b : List Field) → Some a ≡ Some b → a ≡ b
  inside a b e = cc

  one-gives : (alternatives : List (List Field)) (fields : List Field) → EachGives alternatives → only_one alternatives ≡ Some fields → AllGive fields
  one-gives [] fields good e = absurd (cc)
  one-gives (a ∷ []) fields good e = subst AllGive (inside a fields e) good.0
  one-gives (a ∷ b ∷ more) fields good e = absurd (cc)

  -- the known fields of an object without faults have none, and give this
  known-faultless : (shape : Shape) (path : List Step) (d : Data) → AllGive shape.fields → EachGives shape.alternatives
      → fields_faults path d shape.fields ≡ [] → alternative_faults path d shape.alternatives ≡ []
      → AllGive (known_fields shape d) × (fields_faults path d (known_fields shape d) ≡ [])
  known-faultless shape path d good goods e f = at shape.alternatives goods f
    where
      at : (alternatives : List (List Field)) → EachGives alternatives → alternative_faults path d alternatives ≡ []
          → AllGive (shape.fields ++ unwrap_or (only_one (filter (stands d) alternatives)) (all_of alternatives))
          × (fields_faults path d (shape.fields ++ unwrap_or (only_one (filter (stands d) alternatives)) (all_of alternatives)) ≡ [])
      at [] g h = (both-give shape.fields [] good tt, both-faultless path d shape.fields [] e refl)
      at (a ∷ more) g h = choose (only_one (filter (stands d) (a ∷ more))) refl h
        where
          choose : (o : Option (List Field)) → only_one (filter (stands d) (a ∷ more)) ≡ o → chosen_faults path d o ≡ []
              → AllGive (shape.fields ++ unwrap_or o (all_of (a ∷ more))) × (fields_faults path d (shape.fields ++ unwrap_or o (all_of (a ∷ more))) ≡ [])
          choose None is k = absurd (cc)
          choose (Some fields) is k = (both-give shape.fields fields good (one-gives (filter (stands d) (a ∷ more)) fields (standing d (a ∷ more) g) is), both-faultless path d shape.fields fields e k)

  -- so it is at each name of an object without faults
  pub at-each : (shape : Shape) → AllGive shape.fields → EachGives shape.alternatives → (path : List Step) (ms : Members) → MembersSorted ms → members_faults shape path ms ≡ [] → AtEach P ms
  at-each shape good goods path ms sorted e =
      let d = object ms in
      let front = none-left (unknown_faults (names (known_fields shape d)) path ms) (fields_faults path d shape.fields ++ alternative_faults path d shape.alternatives) e in
      let back = none-left (fields_faults path d shape.fields) (alternative_faults path d shape.alternatives) front.1 in
      let known = known-faultless shape path d good goods back.0 back.1 in
      unknown-none (names (known_fields shape d)) path ms ms front.0 sorted (all-found ms sorted) (at-known path d (known_fields shape d) known.0 known.1)
