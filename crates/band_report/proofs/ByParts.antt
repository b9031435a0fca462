-- An object by its parts: the first fault of its parts is its own.
use Rattle.std.proofs.Common.{◌≡◌, List, [], ◌++◌, refl, sym, ◌∙◌, subst}
use Rattle.serde_json.specs.Data.{object, Members}
use Rattle.scenario_data.specs.declared.refusal.ReadFail.{ReadFail}
use Rattle.scenario_data.specs.Causes.{Cause}
use Rattle.scenario_read.specs.Fields.{field_faults, names, object_of, unknown_faults}
use Rattle.scenario_read.specs.Readers.{Refuses}
use Rattle.scenario_read.proofs.Objects.{known-object}
use Rattle.scenario_read.proofs.Refusing.{refuses_more, refuses_behind}
use Rattle.scenario_checked.specs.Inside.{scenario}
use Rattle.band_report.specs.Asked.{section, pattern, travel, asked_shape}

module _ (ms : Members) (known : unknown_faults (names asked_shape.fields) [] ms ≡ []) where
  abbrev at-scenario : List Cause
  at-scenario = field_faults [] (object ms) scenario

  abbrev at-section : List Cause
  at-section = field_faults [] (object ms) section

  abbrev at-pattern : List Cause
  at-pattern = field_faults [] (object ms) pattern

  abbrev at-travel : List Cause
  at-travel = field_faults [] (object ms) travel

  all : object_of asked_shape [] (object ms) ≡ (at-scenario ++ (at-section ++ (at-pattern ++ (at-travel ++ [])))) ++ []
  all = known-object asked_shape [] (object ms) known

  refused : (fail : ReadFail) → Refuses fail (at-scenario ++ (at-section ++ (at-pattern ++ (at-travel ++ [])))) → Refuses fail (object_of asked_shape [] (object ms))
  refused fail h = subst (Refuses fail) (sym all) (refuses_more fail _ [] h)

  pub scenario-refused : (fail : ReadFail) → Refuses fail at-scenario → Refuses fail (object_of asked_shape [] (object ms))
  scenario-refused fail h = refused fail (refuses_more fail at-scenario _ h)

  module _ (first : at-scenario ≡ []) where
    pub section-refused : (fail : ReadFail) → Refuses fail at-section → Refuses fail (object_of asked_shape [] (object ms))
    section-refused fail h = refused fail (refuses_behind fail at-scenario _ first (refuses_more fail at-section _ h))

    module _ (second : at-section ≡ []) where
      pub pattern-refused : (fail : ReadFail) → Refuses fail at-pattern → Refuses fail (object_of asked_shape [] (object ms))
      pattern-refused fail h =
          refused fail (refuses_behind fail at-scenario _ first
          (refuses_behind fail at-section _ second (refuses_more fail at-pattern _ h)))

      module _ (third : at-pattern ≡ []) where
        pub travel-refused : (fail : ReadFail) → Refuses fail at-travel → Refuses fail (object_of asked_shape [] (object ms))
        travel-refused fail h =
            refused fail
            (refuses_behind fail at-scenario _ first (refuses_behind fail at-section _ second
            (refuses_behind fail at-pattern _ third (refuses_more fail at-travel [] h))))

        pub none-found : at-travel ≡ [] → object_of asked_shape [] (object ms) ≡ []
        none-found fourth = all ∙ four-none at-scenario at-section at-pattern at-travel first second third fourth
          where
            four-none : (a b c d : List Cause) → a ≡ [] → b ≡ [] → c ≡ [] → d ≡ [] → (a ++ (b ++ (c ++ (d ++ [])))) ++ [] ≡ []
            four-none a b c d p q r s = rw (p, q, r, s) refl
