-- Names that are known: a member put at one leaves no unknown name among the members.
use Rattle.std.proofs.Common.{◌≡◌, ℕ, Bool, true, false, if◌then◌else◌, List, [], ◌∷◌, Ordering, Less, Equal, Greater, nat_cmp, refl, ap, ◌∙◌}
use Rattle.std.specs.Cmp.Lexicographic.{slice_cmp}
use Rattle.std.specs.Ordering.{match_ordering}
use Rattle.serde_json.specs.Data.{Data, Members, no_members, member, put}
use Rattle.scenario_data.specs.Causes.{Cause, Field as FieldCause}
use Rattle.scenario_read.specs.Paths.{Step, path_text, then_named}
use Rattle.scenario_read.specs.Kinds.{is_among}
use Rattle.scenario_read.specs.Fields.{unknown_faults}

module _ (names : List (List ℕ)) (path : List Step) where
  -- the faults of the first name, before those of the others
  abbrev first_of : List ℕ → List Cause → Bool → List Cause
  first_of name rest b = if b then rest else (FieldCause (path_text (then_named path name)) ∷ rest)

  known-first : (name : List ℕ) (rest : List Cause) (b : Bool) → first_of name rest b ≡ [] → (b ≡ true) × (rest ≡ [])
  known-first name rest true e = (refl, e)
  known-first name rest false e = absurd (cc)

  known-more : (name : List ℕ) (d : Data) (ms : Members) → is_among names name ≡ true → unknown_faults names path ms ≡ [] → unknown_faults names path (member name d ms) ≡ []
  known-more name d ms is none = ap (first_of name (unknown_faults names path ms)) is ∙ none

  pub known-put : (name : List ℕ) (d : Data) (ms : Members) → is_among names name ≡ true → unknown_faults names path ms ≡ [] → unknown_faults names path (put name d ms) ≡ []
  known-put name d no_members is none = known-more name d no_members is refl
  known-put name d (member other e ms) is none =
      let parts = known-first other (unknown_faults names path ms) (is_among names other) none in
      at (slice_cmp nat_cmp name other) parts.0 parts.1 (known-put name d ms is parts.1)
    where
      at : (o : Ordering) → is_among names other ≡ true → unknown_faults names path ms ≡ [] → unknown_faults names path (put name d ms) ≡ []
          → unknown_faults names path (match_ordering o (member name d (member other e ms)) (member other d ms) (member other e (put name d ms))) ≡ []
      at Less so rest more = known-more name d (member other e ms) is none
      at Equal so rest more = known-more other d ms so rest
      at Greater so rest more = known-more other e (put name d ms) so more
