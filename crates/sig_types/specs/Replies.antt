-- The replies of a cabinet, and those to the messages of one stream.
use Rattle.std.specs.Prelude.{ℕ, ◌==◌, if◌then◌else◌, List, [], ◌∷◌}

-- a reply: the pass that processed the message, and the bytes of the reply
pub record Reply : Type 0 where
  pub pass : ℕ
  pub octets : List ℕ

-- the bytes of the replies to the messages of a pass, in order
abbrev pub replied_on : ℕ → List Reply → List (List ℕ)
replied_on pass [] = []
replied_on pass (r ∷ replies) = if r.pass == pass then r.octets ∷ replied_on pass replies else replied_on pass replies
