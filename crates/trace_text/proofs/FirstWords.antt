-- The first word of a line, which gives its kind.
use Rattle.std.proofs.Common.{◌≡◌, ℕ, List, [], ◌∷◌, get_or, Ok, Err, refl, ap, ◌∙◌}
use Rattle.sig_types.specs.declared.notes.MasterNote.TheVariants as note
use Rattle.trace_text.specs.declared.lines.Line.{Line}
use Rattle.trace_text.specs.declared.lines.Line.TheVariants.{S, F, R, M, J, L, A, Z}
use Rattle.trace_text.specs.Line.{line_words}
use Rattle.trace_text.specs.Words.{unended}

-- the letter of a line's kind
abbrev pub kind : Line → ℕ
kind (S json) = 83
kind (F cab tick veh ped mode counter target version) = 70
kind (R round) = 82
kind (M note) = 77
kind (J cab runs) = 74
kind (L cab id outcome) = 76
kind (A cab pass reply) = 65
kind (Z rounds) = 90

-- it is the first word
pub first_word : (l : Line) → get_or (line_words l) 0 [] ≡ kind l ∷ []
first_word (S json) = refl
first_word (F cab tick veh ped mode counter target version) = refl
first_word (R round) = refl
first_word (M (note.Fail cab)) = refl
first_word (M (note.Good cab)) = refl
first_word (M (note.Pattern cab pattern)) = refl
first_word (M (note.LoadDone cab load)) = refl
first_word (M (note.LoadRefused cab load status index)) = refl
first_word (J cab runs) = refl
first_word (L cab id (Ok version)) = refl
first_word (L cab id (Err broken)) = refl
first_word (A cab pass reply) = refl
first_word (Z rounds) = refl

-- so the words give the kind
pub kind_told : (l : Line) (k : ℕ) (words : List (List ℕ)) → (k ∷ []) ∷ words ≡ line_words l → k ≡ kind l
kind_told l k words e =
    let same : k ∷ [] ≡ kind l ∷ [] = ap (λ ws. get_or ws 0 []) e ∙ first_word l in
    ap (λ letter. get_or letter 0 0) same

-- and so does the text
pub first_letter : (l : Line) → get_or (unended (line_words l)) 0 0 ≡ kind l
first_letter (S json) = refl
first_letter (F cab tick veh ped mode counter target version) = refl
first_letter (R round) = refl
first_letter (M (note.Fail cab)) = refl
first_letter (M (note.Good cab)) = refl
first_letter (M (note.Pattern cab pattern)) = refl
first_letter (M (note.LoadDone cab load)) = refl
first_letter (M (note.LoadRefused cab load status index)) = refl
first_letter (J cab runs) = refl
first_letter (L cab id (Ok version)) = refl
first_letter (L cab id (Err broken)) = refl
first_letter (A cab pass reply) = refl
first_letter (Z rounds) = refl
