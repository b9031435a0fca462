-- What the words ask for is one command.
use Rattle.std.proofs.Common.{◌≡◌, ◌≤◌, ◌↔◌, ◌∙◌, inl, inr, ℕ, List, [], ◌∷◌, true, false, Bool, Option, Some, None, codes, decimal, get_or, drop, length, refl, sym, ap, subst, arith}
use Rattle.std.specs.Str.{bytes_eq}
use Rattle.std.proofs.lemmas.Slice.Eq.{bytes_eq-Decides}
use Rattle.command_words.specs.declared.command.Seeding.{Seeding}
use Rattle.command_words.specs.declared.command.Overlap.{Overlap}
use Rattle.judge_laws.specs.declared.Terms.{Terms}
use Rattle.command_words.specs.declared.command.Command.{Command}
use Rattle.command_words.specs.declared.command.Command.TheVariants.{Run, Check, Generate, Survey, Band, Respond, Overlaps, Live, Judge, Help, Version}
use Rattle.command_words.specs.Words.{IsRun, IsCheck, IsGenerate, IsSurvey, IsBand, IsRespond, IsOverlaps, IsLive, IsJudge, IsHelp, IsVersion, seeding_words, CanSeed, AskFor}
use Rattle.command_words.proofs.Decimals.{same_number}
use Rattle.command_words.proofs.OneOverlap.{one_overlap}
use Rattle.command_words.proofs.OneJudge.{one_judge}

-- the numbers after options, read one after another, are those from which a scenario is generated
pub read_seeding : (texts first second third : List (List ℕ)) (read from : Seeding) → texts ≡ codes "--seed" ∷ decimal read.seed ∷ first
    → first ≡ codes "--cabinets" ∷ decimal read.cabinets ∷ second → second ≡ codes "--rounds" ∷ decimal read.rounds ∷ third
    → read.seed ≤ 4294967295 → read.cabinets ≤ 4294967295 → read.rounds ≤ 4294967295 → texts ≡ seeding_words from → CanSeed from → (read ≡ from) × (third ≡ [])
read_seeding texts first second third read from a b c s k m is can =
    let whole : texts ≡ codes "--seed" ∷ decimal read.seed ∷ codes "--cabinets" ∷ decimal read.cabinets ∷ codes "--rounds" ∷ decimal read.rounds ∷ third =
    a ∙ ap (λ (ws : List (List ℕ)). codes "--seed" ∷ decimal read.seed ∷ ws) (b ∙ ap (λ (ws : List (List ℕ)). codes "--cabinets" ∷ decimal read.cabinets ∷ ws) c) in
    let same = sym whole ∙ is in
    let few : from.cabinets ≤ 64 = can.1.few in
    let short : from.rounds ≤ 86400 = can.1.short in
    let seed : read.seed ≡ from.seed = same_number _ _ s can.0 (ap (λ (ws : List (List ℕ)). get_or ws 1 []) same) in
    let cabinets : read.cabinets ≡ from.cabinets = same_number _ _ k (omega (arith, few)) (ap (λ (ws : List (List ℕ)). get_or ws 3 []) same) in
    let rounds : read.rounds ≡ from.rounds = same_number _ _ m (omega (arith, short)) (ap (λ (ws : List (List ℕ)). get_or ws 5 []) same) in (
      ap (λ (n : ℕ). record { seed = n; cabinets = read.cabinets; rounds = read.rounds }) seed
          ∙ (ap (λ (n : ℕ). record { seed = from.seed; cabinets = n; rounds = read.rounds }) cabinets
          ∙ ap (λ (n : ℕ). record { seed = from.seed; cabinets = from.cabinets; rounds = n }) rounds),
      ap (λ (ws : List (List ℕ)). drop 6 ws) same,
    )

-- numbers from which a scenario is generated are determined by their words
pub one_seeding : (texts : List (List ℕ)) (a b : Seeding) → texts ≡ seeding_words a → CanSeed a → texts ≡ seeding_words b → CanSeed b → a ≡ b
one_seeding texts a b is can are may =
    let few : a.cabinets ≤ 64 = can.1.few in
    let short : a.rounds ≤ 86400 = can.1.short in
    (read_seeding texts _ _ [] a b is refl refl can.0 (omega (arith, few)) (omega (arith, short)) are may).0

-- these are they, and no others
pub its_seeding : (texts : List (List ℕ)) (a : Seeding) → texts ≡ seeding_words a → CanSeed a → (b : Seeding)
    → (Some a ≡ Some b) ↔ ((texts ≡ seeding_words b) × CanSeed b)
its_seeding texts a is can b = (
  λ e. let same : a ≡ b = cc in subst (λ (x : Seeding). (texts ≡ seeding_words x) × CanSeed x) same (is, can),
  λ both. ap Some (one_seeding texts a b is can both.0 both.1),
)

-- a number of workers is determined by the words
pub one_run : (words : List (List ℕ)) (m n : ℕ) → IsRun words m → IsRun words n → m ≡ n
one_run words m n (inl a) (inl b) = a.1 ∙ sym b.1
one_run words m n (inl a) (inr b) = let less : 1 ≡ 3 = ap length (sym a.0 ∙ b.0) in absurd (omega (arith, less))
one_run words m n (inr a) (inl b) = let less : 3 ≡ 1 = ap length (sym a.0 ∙ b.0) in absurd (omega (arith, less))
one_run words m n (inr a) (inr b) =
    let small : m ≤ 8 = a.1 in
    let few : n ≤ 8 = b.1 in
    same_number m n (omega (arith, small)) (omega (arith, few)) (ap (λ (ws : List (List ℕ)). get_or ws 2 []) (sym a.0 ∙ b.0))

-- the first word of a command
name_of : Command → List ℕ
name_of (Run workers) = codes "run"
name_of Check = codes "check"
name_of (Generate from) = codes "generate"
name_of (Survey from) = codes "survey"
name_of Band = codes "band"
name_of Respond = codes "respond"
name_of (Overlaps overlap) = codes "overlaps"
name_of Live = codes "live"
name_of (Judge terms) = codes "judge"
name_of Help = codes "--help"
name_of Version = codes "--version"

has_name : (words : List (List ℕ)) (c : Command) → AskFor words c → get_or words 0 [] ≡ name_of c
unfolding name_of
has_name words (Run workers) (inl alone) = ap (λ (ws : List (List ℕ)). get_or ws 0 []) alone.0
has_name words (Run workers) (inr more) = ap (λ (ws : List (List ℕ)). get_or ws 0 []) more.0
has_name words Check is = ap (λ (ws : List (List ℕ)). get_or ws 0 []) is
has_name words (Generate from) is = ap (λ (ws : List (List ℕ)). get_or ws 0 []) is.0
has_name words (Survey from) is = ap (λ (ws : List (List ℕ)). get_or ws 0 []) is.0
has_name words Band is = ap (λ (ws : List (List ℕ)). get_or ws 0 []) is
has_name words Respond is = ap (λ (ws : List (List ℕ)). get_or ws 0 []) is
has_name words (Overlaps overlap) is = ap (λ (ws : List (List ℕ)). get_or ws 0 []) is.1
has_name words Live is = ap (λ (ws : List (List ℕ)). get_or ws 0 []) is
has_name words (Judge terms) is = ap (λ (ws : List (List ℕ)). get_or ws 0 []) is.1
has_name words Help is = ap (λ (ws : List (List ℕ)). get_or ws 0 []) is
has_name words Version is = ap (λ (ws : List (List ℕ)). get_or ws 0 []) is

-- so commands of different names are not asked for by the same words
differ : (words : List (List ℕ)) (c d : Command) → AskFor words c → AskFor words d → bytes_eq (name_of c) (name_of d) ≡ false → ⊥
differ words c d is are other =
    let same : bytes_eq (name_of c) (name_of d) ≡ true = (bytes_eq-Decides (name_of c) (name_of d)).1 (sym (has_name words c is) ∙ has_name words d are) in cc

pub one_command : (words : List (List ℕ)) (c d : Command) → AskFor words c → AskFor words d → c ≡ d
unfolding name_of
one_command words (Run m) (Run n) is are = ap Run (one_run words m n is are)
one_command words (Run m) d is are = absurd (differ words (Run m) d is are refl)
one_command words Check Check is are = refl
one_command words Check d is are = absurd (differ words Check d is are refl)
one_command words (Generate a) (Generate b) is are =
    ap Generate (one_seeding (drop 1 words) a b (ap (λ (ws : List (List ℕ)). drop 1 ws) is.0) is.1 (ap (λ (ws : List (List ℕ)). drop 1 ws) are.0) are.1)
one_command words (Generate a) d is are = absurd (differ words (Generate a) d is are refl)
one_command words (Survey a) (Survey b) is are =
    ap Survey (one_seeding (drop 1 words) a b (ap (λ (ws : List (List ℕ)). drop 1 ws) is.0) is.1 (ap (λ (ws : List (List ℕ)). drop 1 ws) are.0) are.1)
one_command words (Survey a) d is are = absurd (differ words (Survey a) d is are refl)
one_command words Band Band is are = refl
one_command words Band d is are = absurd (differ words Band d is are refl)
one_command words Respond Respond is are = refl
one_command words Respond d is are = absurd (differ words Respond d is are refl)
one_command words (Overlaps a) (Overlaps b) is are =
    ap Overlaps (one_overlap (drop 1 words) a b (is.0, ap (λ (ws : List (List ℕ)). drop 1 ws) is.1, is.2, is.3) (are.0, ap (λ (ws : List (List ℕ)). drop 1 ws) are.1, are.2, are.3))
one_command words (Overlaps a) d is are = absurd (differ words (Overlaps a) d is are refl)
one_command words Live Live is are = refl
one_command words Live d is are = absurd (differ words Live d is are refl)
one_command words (Judge a) (Judge b) is are = ap Judge (one_judge words a b is are)
one_command words (Judge a) d is are = absurd (differ words (Judge a) d is are refl)
one_command words Help Help is are = refl
one_command words Help d is are = absurd (differ words Help d is are refl)
one_command words Version Version is are = refl
one_command words Version d is are = absurd (differ words Version d is are refl)

-- the words ask for this, and for no other
pub its_command : (words : List (List ℕ)) (c : Command) → AskFor words c → (d : Command) → (Some c ≡ Some d) ↔ AskFor words d
its_command words c is d = (
  λ e. let same : c ≡ d = cc in subst (λ (x : Command). AskFor words x) same is,
  λ are. ap Some (one_command words c d is are),
)

-- they ask for none
pub no_command : (words : List (List ℕ)) → ((n : ℕ) → IsRun words n → ⊥) → (IsCheck words → ⊥) → ((from : Seeding) → IsGenerate words from → ⊥) → ((from : Seeding) → IsSurvey words from → ⊥) → (IsBand words → ⊥) → (IsRespond words → ⊥) → ((overlap : Overlap) → IsOverlaps words overlap → ⊥) → (IsLive words → ⊥) → ((terms : Terms) → IsJudge words terms → ⊥) → (IsHelp words → ⊥) → (IsVersion words → ⊥) → (d : Command) → (None ≡ Some d) ↔ AskFor words d
no_command words run check generate survey band respond overlaps live judge help version d = (λ e. absurd (cc), λ is. absurd (none d is))
  where
    none : (c : Command) → AskFor words c → ⊥
    none (Run workers) is = run workers is
    none Check is = check is
    none (Generate from) is = generate from is
    none (Survey from) is = survey from is
    none Band is = band is
    none Respond is = respond is
    none (Overlaps overlap) is = overlaps overlap is
    none Live is = live is
    none (Judge terms) is = judge terms is
    none Help is = help is
    none Version is = version is

-- what was not found is not asked for
pub not_found : {A : Type 0} (P : A → Type 0) (found : Option A) → found ≡ None → ((x : A) → (found ≡ Some x) ↔ P x) → (x : A) → P x → ⊥
not_found P found none is x holds = let some : found ≡ Some x = (is x).1 holds in cc

pub not_lone : (words : List (List ℕ)) (name : List ℕ) (found : Bool) → ((found ≡ true) ↔ (words ≡ name ∷ [])) → found ≡ false → words ≡ name ∷ [] → ⊥
not_lone words name found is other e = let same : true ≡ false = sym (is.1 e) ∙ other in cc
