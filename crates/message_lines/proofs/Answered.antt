-- What an answer says of the digits, from what it says of the octets.
use Rattle.std.proofs.Common.{◌≡◌, ℕ, List, Some, Result, Ok, Err, get_or, ap, arith, ◌∙◌}
use Rattle.std.specs.Prelude.{IfOk}
use Rattle.hex.specs.Hex.{decode_of, encode_with}
use Rattle.snmp_msg.specs.declared.message.Message.{Message}
use Rattle.snmp_msg.specs.Messages.{IsMessage}
use Rattle.snmp_msg.specs.Shortest.{shortest}
use Rattle.message_lines.specs.Line.{Write, message_line, none_line}

-- the line of a message isn't `none`
pub not_none : (m : Message) → message_line m ≡ none_line → ⊥
unfolding message_line shortest encode_with
not_none m e = let first : 51 ≡ 110 = let f : (List ℕ → ℕ) = λ line. get_or line 0 0 in ap f e in absurd (omega (arith, first))

-- a line with these characters
module _ {L E : Type 0} (items : L → List ℕ) where
  -- the line of the one message there is
  pub of_found : (octets : List ℕ) (m : Message) → ((other : Message) → IsMessage octets other → Some m ≡ Some other)
      → (r : Result L E) → IfOk r (λ line. items line ≡ message_line m) → IfOk r (λ line. (other : Message) → IsMessage octets other → items line ≡ message_line other)
  of_found octets m each (Ok line) is = λ other there. let same = each other there in let e : m ≡ other = cc in is ∙ ap message_line e
  of_found octets m each (Err e) is = tt

  -- any line, where no message is
  pub of_nothing : (octets : List ℕ) → ((m : Message) → IsMessage octets m → ⊥)
      → (r : Result L E) → IfOk r (λ line. (m : Message) → IsMessage octets m → items line ≡ message_line m)
  of_nothing octets nothing (Ok line) = λ m there. absurd (nothing m there)
  of_nothing octets nothing (Err e) = tt

  -- `none`, where the digits write no message
  pub of_no_digits : (digits octets : List ℕ) → decode_of digits ≡ Ok octets
      → (r : Result L E) → IfOk r (λ line. ((m : Message) → IsMessage octets m → ⊥) → items line ≡ none_line)
      → IfOk r (λ line. ((m : Message) → Write digits m → ⊥) → items line ≡ none_line)
  of_no_digits digits octets written (Ok line) is = λ nothing. is (λ m there. nothing m (octets, written, there))
  of_no_digits digits octets written (Err e) is = tt
