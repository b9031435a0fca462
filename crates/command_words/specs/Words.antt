-- Which command the words of a command line are.
use Rattle.std.specs.Prelude.{◌≡◌, ◌≤◌, ◌⊎◌, ℕ, Bool, true, false, List, [], ◌∷◌, ◌++◌, Ok, codes, decimal, length}
use Rattle.hex.specs.Hex.{decode_of}
use Rattle.gen_arterial.specs.Written.{CanMake}
use Rattle.judge_laws.specs.declared.Terms.{Terms}
use Rattle.command_words.specs.declared.command.Seeding.{Seeding}
use Rattle.command_words.specs.declared.command.Overlap.{Overlap}
use Rattle.command_words.specs.declared.command.Command.{Command}
use Rattle.command_words.specs.declared.command.Command.TheVariants.{Run, Check, Generate, Survey, Band, Respond, Overlaps, Live, Judge, Help, Version}

-- the words are `run`, with 0 workers, or `run --workers N`, with N workers from 0 to 8
abbrev pub IsRun : List (List ℕ) → ℕ → Type 0
IsRun words workers =
    ((words ≡ codes "run" ∷ []) × (workers ≡ 0)) ⊎ ((words ≡ codes "run" ∷ codes "--workers" ∷ decimal workers ∷ []) × (workers ≤ 8))

-- the words are `check`: check a trace
abbrev pub IsCheck : List (List ℕ) → Type 0
IsCheck words = words ≡ codes "check" ∷ []

-- the options `--seed`, `--cabinets` and `--rounds` with these numbers
abbrev pub seeding_words : Seeding → List (List ℕ)
seeding_words from =
    codes "--seed" ∷ decimal from.seed ∷ codes "--cabinets" ∷ decimal from.cabinets ∷ codes "--rounds" ∷ decimal from.rounds ∷ []

-- a scenario can be generated from these numbers: the seed has at most 32 bits, and the numbers of cabinets and
-- rounds are allowed
abbrev pub CanSeed : Seeding → Type 0
CanSeed from = (from.seed ≤ 4294967295) × CanMake from.cabinets from.rounds

-- the words are `generate` with these options: write the generated scenario
abbrev pub IsGenerate : List (List ℕ) → Seeding → Type 0
IsGenerate words from = (words ≡ codes "generate" ∷ seeding_words from) × CanSeed from

-- the words are `survey` with these options: write the totals of a run of the generated scenario
abbrev pub IsSurvey : List (List ℕ) → Seeding → Type 0
IsSurvey words from = (words ≡ codes "survey" ∷ seeding_words from) × CanSeed from

-- the words are `band`: report the widest progression bands of a section
abbrev pub IsBand : List (List ℕ) → Type 0
IsBand words = words ≡ codes "band" ∷ []

-- the words are `respond`: write the scenario of a field file
abbrev pub IsRespond : List (List ℕ) → Type 0
IsRespond words = words ≡ codes "respond" ∷ []

-- the options that give an overlap; the word `hex` gives its parent phases
abbrev pub overlap_words : Overlap → List ℕ → List (List ℕ)
overlap_words overlap hex =
    codes "--cabinet" ∷ decimal overlap.cabinet ∷ codes "--parents" ∷ hex ∷ codes "--trail" ∷ decimal overlap.trail ∷ codes "--yellow" ∷ decimal overlap.yellow ∷ codes "--red" ∷ decimal overlap.red ∷ []

-- the overlap is valid: it has a cabinet from 1 to 64, 1 to 16 parent phases, and times of at most 255 ticks
pub record IsOverlap (overlap : Overlap) : Type 0 where
  pub numbered : (1 ≤ overlap.cabinet) × (overlap.cabinet ≤ 64)
  pub parented : (1 ≤ length overlap.parents.items) × (length overlap.parents.items ≤ 16)
  pub trailed : overlap.trail ≤ 255
  pub yellowed : overlap.yellow ≤ 255
  pub cleared : overlap.red ≤ 255

-- these options give this overlap. The word of the parent phases has two hexadecimal digits for each phase, in upper
-- or lower case
abbrev pub IsGiven : List (List ℕ) → Overlap → Type 0
IsGiven words overlap = (hex : List ℕ) × (words ≡ overlap_words overlap hex) × (decode_of hex ≡ Ok overlap.parents.items) × IsOverlap overlap

-- the words are `overlaps` with options that give this overlap: report the overlap over a trace
abbrev pub IsOverlaps : List (List ℕ) → Overlap → Type 0
IsOverlaps words overlap = (hex : List ℕ) × (words ≡ codes "overlaps" ∷ overlap_words overlap hex) × (decode_of hex ≡ Ok overlap.parents.items) × IsOverlap overlap

-- the words are `live`: answer the requests of a session
abbrev pub IsLive : List (List ℕ) → Type 0
IsLive words = words ≡ codes "live" ∷ []

-- the words are this option with the number `n`, which is at most `most`; without words `n` is 0
abbrev pub IsOptional : List (List ℕ) → List ℕ → ℕ → ℕ → Type 0
IsOptional words option most n = ((words ≡ []) × (n ≡ 0)) ⊎ ((words ≡ option ∷ decimal n ∷ []) × (n ≤ most))

-- the option `--joined`, if the log begins in the middle
abbrev pub joined_words : Bool → List (List ℕ)
joined_words true = codes "--joined" ∷ []
joined_words false = []

-- the words give the terms of a judgement: `--joined` if the log begins in the middle, then `--tolerance` with 0 to
-- 20 ticks. Without `--tolerance` the tolerance is 0
abbrev pub IsTerms : List (List ℕ) → Terms → Type 0
IsTerms words terms = (rest : List (List ℕ)) × (words ≡ joined_words terms.joined ++ rest) × IsOptional rest (codes "--tolerance") 20 terms.tolerance

-- the words are `judge` with options that give these terms: judge a log
abbrev pub IsJudge : List (List ℕ) → Terms → Type 0
IsJudge words terms = (rest : List (List ℕ)) × (words ≡ codes "judge" ∷ rest) × IsTerms rest terms

-- the words are `--help`: write the help
abbrev pub IsHelp : List (List ℕ) → Type 0
IsHelp words = words ≡ codes "--help" ∷ []

-- the words are `--version`: write the version
abbrev pub IsVersion : List (List ℕ) → Type 0
IsVersion words = words ≡ codes "--version" ∷ []

-- the words are this command
abbrev pub AskFor : List (List ℕ) → Command → Type 0
AskFor words (Run workers) = IsRun words workers
AskFor words Check = IsCheck words
AskFor words (Generate from) = IsGenerate words from
AskFor words (Survey from) = IsSurvey words from
AskFor words Band = IsBand words
AskFor words Respond = IsRespond words
AskFor words (Overlaps overlap) = IsOverlaps words overlap
AskFor words Live = IsLive words
AskFor words (Judge terms) = IsJudge words terms
AskFor words Help = IsHelp words
AskFor words Version = IsVersion words

-- the words are a command
abbrev pub IsCommand : List (List ℕ) → Type 0
IsCommand words = (command : Command) × AskFor words command
