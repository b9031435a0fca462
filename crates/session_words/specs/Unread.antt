-- Which bytes a reader of lines has left, and which of them its calls take.
use Rattle.std.specs.Prelude.{◌≡◌, ◌<◌, ◌≤◌, ℕ, List, ◌++◌, take, drop, length, Option, Some, None, IfSome}
use Rattle.session_words.specs.declared.line_reader.LineReader.{LineReader}
use Rattle.session_words.specs.declared.line_reader.Next.{Next}
use Rattle.session_words.specs.declared.line_reader.Next.TheVariants.{Line, Long, End}
use Rattle.session_words.specs.Lines.{behind_first, Lacks, IsCut}

-- the bytes that a reader holds and that aren't in a line yet
abbrev pub held_of : LineReader → List ℕ
held_of reader = drop reader.at reader.held.items

-- the last line that the reader gave
abbrev pub given_line : LineReader → List ℕ
given_line reader = take reader.count (drop reader.start reader.held.items)

-- these bytes, followed by the bytes left, if these are reported
abbrev pub ahead_of : List ℕ → Option (List ℕ) → Option (List ℕ)
ahead_of held None = None
ahead_of held (Some left) = Some (held ++ left)

-- all bytes that aren't in a line yet: those that the reader holds, followed by those that its source has left
abbrev pub unread : LineReader → Option (List ℕ) → Option (List ℕ)
unread reader left = ahead_of (held_of reader) left

-- the bytes after the first line, if they are reported
abbrev pub behind_told : Option (List ℕ) → Option (List ℕ)
behind_told None = None
behind_told (Some bytes) = Some (behind_first bytes)

-- the bytes begin with `front`, and `new` are the bytes after it
abbrev pub Leaves : Option (List ℕ) → Option (List ℕ) → List ℕ → Type 0
Leaves None new front = new ≡ None
Leaves (Some bytes) new front = (rest : List ℕ) × (new ≡ Some rest) × (bytes ≡ front ++ rest)

-- the bytes begin with a line and its newline, and `new` are the bytes after it
abbrev pub GivesLine : Option (List ℕ) → Option (List ℕ) → List ℕ → Type 0
GivesLine None new line = new ≡ None
GivesLine (Some bytes) new line = (rest : List ℕ) × (new ≡ Some rest) × IsCut 10 bytes line rest

-- the bytes begin with a line of more than 4,096 bytes and its newline, and `new` are the bytes after it
abbrev pub PassesLong : Option (List ℕ) → Option (List ℕ) → Type 0
PassesLong None new = new ≡ None
PassesLong (Some bytes) new = (line rest : List ℕ) × (new ≡ Some rest) × IsCut 10 bytes line rest × (4096 < length line)

-- the bytes begin with more than 4,096 bytes without a newline, and `new` are the bytes after them
abbrev pub PassesOver : Option (List ℕ) → Option (List ℕ) → Type 0
PassesOver None new = new ≡ None
PassesOver (Some bytes) new = (front rest : List ℕ) × (new ≡ Some rest) × (bytes ≡ front ++ rest) × Lacks 10 front × (4096 < length front)

-- no newline is left
abbrev pub HasNoLine : Option (List ℕ) → Type 0
HasNoLine told = IfSome told (λ bytes. Lacks 10 bytes)

-- what a call takes of the bytes: a line, a line that is too long, or nothing at the end
abbrev pub Gives : Next → Option (List ℕ) → Option (List ℕ) → List ℕ → Type 0
Gives Line old new line = GivesLine old new line × (length line ≤ 4096)
Gives Long old new line = PassesLong old new
Gives End old new line = HasNoLine old

-- what a call takes of the bytes that a reader holds, if a whole line is among them
abbrev pub GivesHeld : Next → List ℕ → List ℕ → List ℕ → Type 0
GivesHeld Line old new line = IsCut 10 old line new × (length line ≤ 4096)
GivesHeld Long old new line = (long : List ℕ) × IsCut 10 old long new × (4096 < length long)
GivesHeld End old new line = Unit {0}
