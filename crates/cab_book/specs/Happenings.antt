-- What has a line in a round, in order: displays of the cabinet, each with its tick, and replies. The code stores
-- displays and replies separately; each reply says how many displays precede it.
use Rattle.std.specs.Prelude.{ℕ, ◌-◌, ◌≤◌, List, [], ◌∷◌, ◌++◌, map, take, drop}
use Rattle.sig_types.specs.declared.frame.Frame.{Frame}
use Rattle.sig_types.specs.Items.{Item}
use Rattle.cabinet_history.specs.declared.Reply.{Reply}
use Rattle.cabinet_history.specs.CabinetHistory.{CabinetHistory, with_item}
use Rattle.cabinet_history.specs.Journals.{Act}
use Rattle.cabinet_history.specs.CabinetAnswers.{item_replies, item_written}
use Rattle.cab_book.specs.declared.happened.Answered.{Answered}

pub data Happening : Type 0 where
  Wrote : (written : ℕ × Frame) → Happening
  Replied : (reply : Reply) → Happening

-- what an item that a pass brings after a cabinet history produces
abbrev pub item_happenings : CabinetHistory → ℕ → Item → List Happening
item_happenings cabinet_history pass item = map Wrote (item_written cabinet_history item) ++ map Replied (item_replies cabinet_history pass item)

-- what these acts produce, in order
abbrev pub acts_happenings : CabinetHistory → List Act → List Happening
acts_happenings cabinet_history [] = []
acts_happenings cabinet_history (act ∷ acts) = item_happenings cabinet_history act.pass act.item ++ acts_happenings (with_item cabinet_history act.item) acts

-- displays and replies in order, after `before` displays; each reply says how many displays precede it
abbrev pub interleaved : ℕ → List (ℕ × Frame) → List Answered → List Happening
interleaved before frames [] = map Wrote frames
interleaved before frames (a ∷ answered) =
    map Wrote (take (a.behind - before) frames) ++ (Replied a.reply ∷ interleaved a.behind (drop (a.behind - before) frames) answered)

-- the numbers of displays that precede these replies don't decrease, and are at most `most`
abbrev pub AreInOrder : ℕ → List Answered → ℕ → Type 0
AreInOrder before [] most = before ≤ most
AreInOrder before (a ∷ answered) most = (before ≤ a.behind) × AreInOrder a.behind answered most

-- only the replies
abbrev pub replies_in : List Answered → List Reply
replies_in answered = map (λ a. a.reply) answered
