-- The two effects that a request can have on a controller: orders, or the installation of tables by an accepted
-- finish.
use Rattle.std.specs.Prelude.{Bool, true, false, List, [], Option, Some}
use Rattle.sig_types.specs.declared.notes.StageAnswer.{StageAnswer}
use Rattle.sig_types.specs.declared.notes.StageAnswer.TheVariants.{Accepted}
use Rattle.agent.specs.declared.ask.Order.{Order}
use Rattle.agent.specs.declared.ask.Wish.{Wish}
use Rattle.agent.specs.declared.ask.Wish.TheVariants.{Direct, Finish}

-- the orders of a request
abbrev pub orders_in : Wish → List Order
orders_in (Direct orders) = orders.items
orders_in _ = []

-- the stage has accepted a finish
abbrev pub has_accepted : Option StageAnswer → Bool
has_accepted (Some Accepted) = true
has_accepted _ = false

-- the request is a finish that was accepted
abbrev pub is_accepted : Wish → Option StageAnswer → Bool
is_accepted (Finish id) outcome = has_accepted outcome
is_accepted _ outcome = false
