-- A value begins with its first token, and this says about it.
use Rattle.std.proofs.Common.{◌≡◌, ℕ, List, ◌∷◌, Option, Some, None, option_map, IfSome, refl, sym, ap, ◌∙◌, subst}
use Rattle.std.specs.Borrow.{Bor}
use Rattle.json.specs.Token as spec
use Rattle.json.specs.Json as json
use Rattle.json.specs.Json.{Parse, value, value_with, parse_map}
use Rattle.json.specs.Reads.{token_of}
use Rattle.json.specs.declared.token.Token.{Token}
use Rattle.json.specs.declared.token.Token.TheVariants.{BeginObject, EndObject, BeginArray, EndArray, Key, String, Number, Bool, Null, Bad}
use Rattle.json.proofs.Grammar.{value_is}
use Rattle.serde_json.specs.Data.{Num, Data, Items, Members, number, array, object}
use Rattle.serde_json.specs.Read.{number_of, of_json, converted}
use Rattle.scenario_cut.specs.Beginning.{BeginsWith}
use Rattle.scenario_cut.proofs.Turns.{converted-array, converted-object}

-- what was read, if anything, begins with this token
abbrev Begun : Token → Option (Data × List spec.Token) → Type 0
Begun token read = IfSome read (λ p. BeginsWith token p.0)

begun-number : (text : Bor (List ℕ)) (o : Option Num) (rest : List spec.Token) → Begun (Number text) (option_map (λ d. (d, rest)) (option_map number o))
begun-number text None rest = tt
begun-number text (Some n) rest = record { no_number = λ k. absurd (k text refl); no_list = λ k. tt; no_object = λ k. tt }

begun-array : (o : Option (Items × List spec.Token)) → Begun BeginArray (parse_map array o)
begun-array None = tt
begun-array (Some p) = record { no_number = λ k. tt; no_list = λ k. absurd (k refl); no_object = λ k. tt }

begun-object : (o : Option (Members × List spec.Token)) → Begun BeginObject (parse_map object o)
begun-object None = tt
begun-object (Some p) = record { no_number = λ k. tt; no_list = λ k. tt; no_object = λ k. absurd (k refl) }

begun : (token : Token) (a : Parse json.Items) (o : Parse json.Members) (rest : List spec.Token) → Begun token (converted of_json (value_with a o (token_of token ∷ rest)))
begun BeginObject a o rest = subst (Begun BeginObject) (sym (converted-object (o rest))) (begun-object _)
begun EndObject a o rest = tt
begun BeginArray a o rest = subst (Begun BeginArray) (sym (converted-array (a rest))) (begun-array _)
begun EndArray a o rest = tt
begun (Key text) a o rest = tt
begun (String text) a o rest = record { no_number = λ k. tt; no_list = λ k. tt; no_object = λ k. tt }
begun (Number text) a o rest = begun-number text (number_of text.now) rest
begun (Bool b) a o rest = record { no_number = λ k. tt; no_list = λ k. tt; no_object = λ k. tt }
begun Null a o rest = record { no_number = λ k. tt; no_list = λ k. tt; no_object = λ k. tt }
begun Bad a o rest = tt

begins-with : (token : Token) (depth : ℕ) (rest after : List spec.Token) (d : Data)
    → converted of_json (value depth (token_of token ∷ rest)) ≡ Some (d, after) → BeginsWith token d
begins-with token depth rest after d read =
    subst (Begun token) (ap (converted of_json) (sym (value_is depth (token_of token ∷ rest))) ∙ read) (begun token _ _ rest)

-- a value of this token and what follows, and what the token says about it
pub begun-value : (token : Token) (depth : ℕ) (rest after : List spec.Token) (d : Data)
    → converted of_json (value depth (token_of token ∷ rest)) ≡ Some (d, after)
    → (e : Data) × (converted of_json (value depth (token_of token ∷ rest)) ≡ Some (e, after)) × BeginsWith token e
begun-value token depth rest after d read = (d, read, begins-with token depth rest after d read)
