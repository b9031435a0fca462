-- The words of a line give the line, and so does its text.
use Rattle.std.proofs.Common.{◌≡◌, ℕ, ℤ, ◌<◌, ◌^◌, List, [], ◌∷◌, ◌++◌, get_or, drop, decimal, Option, Result, Ok, Err, refl, sym, ap, ◌∙◌, arith}
use Rattle.std.proofs.Common.{◌==◌, append-nil}
use Rattle.std.proofs.lemmas.List.{append_cancel_right}
use Rattle.std.specs.List.{slice_split}
use Rattle.arrayvec.specs.ArrayVec.{ArrayVec}
use Rattle.sig_types.specs.declared.frame.Colour.{Colour}
use Rattle.sig_types.specs.declared.frame.Ped.{Ped}
use Rattle.sig_types.specs.declared.frame.Mode.{Mode}
use Rattle.sig_types.specs.declared.notes.Broken.{Broken}
use Rattle.sig_types.specs.declared.notes.MasterNote.{MasterNote}
use Rattle.sig_types.specs.declared.notes.MasterNote.TheVariants as note
use Rattle.trace_text.specs.declared.lines.Line.{Line}
use Rattle.trace_text.specs.declared.lines.Line.TheVariants.{S, F, R, M, J, L, A, Z}
use Rattle.trace_text.specs.IsLine.{IsLine, IsWorded, Fits, FitsNote, FitsLoad}
use Rattle.trace_text.specs.Line.{line_words, line_text, note_words, load_words}
use Rattle.trace_text.specs.Words.{unended}
use Rattle.trace_text.proofs.Endings.{unended-ended}
use Rattle.trace_text.proofs.FirstWords.{kind, kind_told, first_word, first_letter}
use Rattle.trace_text.proofs.Spaces.{line_split}
use Rattle.trace_laws.proofs.SameWords.{same_number, same_signed, colours_told, signals_told, same_runs, same_reply}
use Rattle.trace_laws.proofs.SameModes.{mode_told}

-- the word at a place
abbrev word : ℕ → List (List ℕ) → List ℕ
word k words = get_or words k []

-- words that are the same at each place
word_told : (k : ℕ) (xs ys : List (List ℕ)) → xs ≡ ys → word k xs ≡ word k ys
word_told k xs ys e = ap (word k) e

-- the first letter of the word at a place
first_told : (k : ℕ) (xs ys : List (List ℕ)) → xs ≡ ys → get_or (word k xs) 0 0 ≡ get_or (word k ys) 0 0
first_told k xs ys e = ap (λ words. get_or (word k words) 0 0) e

-- the first letter of the third word of a note
abbrev what : MasterNote → ℕ
what (note.Fail cab) = 102
what (note.Good cab) = 103
what (note.Pattern cab pattern) = 112
what (note.LoadDone cab load) = 108
what (note.LoadRefused cab load status index) = 108

what_first : (n : MasterNote) → get_or (word 2 (note_words n)) 0 0 ≡ what n
what_first (note.Fail cab) = refl
what_first (note.Good cab) = refl
what_first (note.Pattern cab pattern) = refl
what_first (note.LoadDone cab load) = refl
what_first (note.LoadRefused cab load status index) = refl

what_told : (a b : MasterNote) → note_words a ≡ note_words b → what a ≡ what b
what_told a b e = sym (what_first a) ∙ first_told 2 (note_words a) (note_words b) e ∙ what_first b

fail_is : (cab : ℕ) → cab < 2 ^ 32 → (b : MasterNote) → FitsNote b → note_words (note.Fail cab) ≡ note_words b → note.Fail cab ≡ b
fail_is cab low (note.Fail c) fits e = ap note.Fail (same_number cab c low fits (word_told 1 _ _ e))
fail_is cab low b fits e = absurd (let told = what_told (note.Fail cab) b e in omega (arith, told))

good_is : (cab : ℕ) → cab < 2 ^ 32 → (b : MasterNote) → FitsNote b → note_words (note.Good cab) ≡ note_words b → note.Good cab ≡ b
good_is cab low (note.Good c) fits e = ap note.Good (same_number cab c low fits (word_told 1 _ _ e))
good_is cab low b fits e = absurd (let told = what_told (note.Good cab) b e in omega (arith, told))

pattern_is : (cab pattern : ℕ) → FitsNote (note.Pattern cab pattern) → (b : MasterNote) → FitsNote b
    → note_words (note.Pattern cab pattern) ≡ note_words b → note.Pattern cab pattern ≡ b
pattern_is cab pattern low (note.Pattern c p) fits e =
    let told : decimal cab ≡ decimal c = word_told 1 _ _ e in
    let said : decimal pattern ≡ decimal p = word_told 3 _ _ e in
    let small : pattern < 2 ^ 8 = low.1 in
    let below : p < 2 ^ 8 = fits.1 in
    let same : cab ≡ c = same_number cab c low.0 fits.0 told in
    let also : pattern ≡ p = same_number pattern p (omega arith) (omega arith) said in
    rw (same, also) refl
pattern_is cab pattern low b fits e = absurd (let told = what_told (note.Pattern cab pattern) b e in omega (arith, told))

done_is : (cab load : ℕ) → FitsNote (note.LoadDone cab load) → (b : MasterNote) → FitsNote b
    → note_words (note.LoadDone cab load) ≡ note_words b → note.LoadDone cab load ≡ b
done_is cab load low (note.LoadDone c l) fits e =
    let same : cab ≡ c = same_number cab c low.0 fits.0 (word_told 1 _ _ e) in
    let also : load ≡ l = same_number load l low.1 fits.1 (word_told 3 _ _ e) in
    rw (same, also) refl
done_is cab load low (note.LoadRefused c l status index) fits e = absurd (let told : 100 ≡ 114 = first_told 4 _ _ e in omega (arith, told))
done_is cab load low b fits e = absurd (let told = what_told (note.LoadDone cab load) b e in omega (arith, told))

refused_is : (cab load : ℕ) (status index : ℤ) → FitsNote (note.LoadRefused cab load status index) → (b : MasterNote) → FitsNote b
    → note_words (note.LoadRefused cab load status index) ≡ note_words b → note.LoadRefused cab load status index ≡ b
refused_is cab load status index low (note.LoadRefused c l s i) fits e =
    let same : cab ≡ c = same_number cab c low.0 fits.0 (word_told 1 _ _ e) in
    let also : load ≡ l = same_number load l low.1 fits.1 (word_told 3 _ _ e) in
    let state : status ≡ s = same_signed status s low.2 fits.2 (word_told 5 _ _ e) in
    let place : index ≡ i = same_signed index i low.3 fits.3 (word_told 6 _ _ e) in
    rw (same, also, state, place) refl
refused_is cab load status index low (note.LoadDone c l) fits e = absurd (let told : 114 ≡ 100 = first_told 4 _ _ e in omega (arith, told))
refused_is cab load status index low b fits e = absurd (let told = what_told (note.LoadRefused cab load status index) b e in omega (arith, told))

same_note : (a b : MasterNote) → FitsNote a → FitsNote b → note_words a ≡ note_words b → a ≡ b
same_note (note.Fail cab) b fits also e = fail_is cab fits b also e
same_note (note.Good cab) b fits also e = good_is cab fits b also e
same_note (note.Pattern cab pattern) b fits also e = pattern_is cab pattern fits b also e
same_note (note.LoadDone cab load) b fits also e = done_is cab load fits b also e
same_note (note.LoadRefused cab load status index) b fits also e = refused_is cab load status index fits b also e

same_broken : (x y : Broken) → x.rule ≡ y.rule → x.row ≡ y.row → x ≡ y
same_broken x y e f = ap (λ rule. record { rule = rule; row = x.row }) e ∙ ap (λ row. record { rule = y.rule; row = row }) f

same_load : (cab id : ℕ) (x : Result ℕ Broken) (c i : ℕ) (y : Result ℕ Broken) → cab < 2 ^ 32 → id < 2 ^ 32 → FitsLoad x → c < 2 ^ 32 → i < 2 ^ 32 → FitsLoad y
    → load_words cab id x ≡ load_words c i y → L cab id x ≡ L c i y
same_load cab id (Ok version) c i (Ok v) low small fits below less also e =
    let same : cab ≡ c = same_number cab c low below (word_told 1 _ _ e) in
    let number : id ≡ i = same_number id i small less (word_told 2 _ _ e) in
    let made : version ≡ v = same_number version v fits also (word_told 4 _ _ e) in
    rw (same, number, made) refl
same_load cab id (Err x) c i (Err y) low small fits below less also e =
    let same : cab ≡ c = same_number cab c low below (word_told 1 _ _ e) in
    let number : id ≡ i = same_number id i small less (word_told 2 _ _ e) in
    let byte : x.rule < 2 ^ 8 = fits.0 in
    let bytes : x.row < 2 ^ 16 = fits.1 in
    let octet : y.rule < 2 ^ 8 = also.0 in
    let octets : y.row < 2 ^ 16 = also.1 in
    let rule : x.rule ≡ y.rule = same_number x.rule y.rule (omega arith) (omega arith) (word_told 4 _ _ e) in
    let row : x.row ≡ y.row = same_number x.row y.row (omega arith) (omega arith) (word_told 5 _ _ e) in
    let broken : x ≡ y = same_broken x y rule row in
    rw (same, number, broken) refl
same_load cab id (Ok version) c i (Err y) low small fits below less also e = absurd (let told : 97 ≡ 114 = first_told 3 _ _ e in omega (arith, told))
same_load cab id (Err x) c i (Ok v) low small fits below less also e = absurd (let told : 114 ≡ 97 = first_told 3 _ _ e in omega (arith, told))

-- the first word gives the kind
kinds_told : (a b : Line) → line_words a ≡ line_words b → kind a ≡ kind b
kinds_told a b e =
    let same : kind a ∷ [] ≡ kind b ∷ [] = sym (first_word a) ∙ word_told 0 _ _ e ∙ first_word b in
    ap (λ letter. get_or letter 0 0) same

-- each kind of line by its words
frame_is : (cab tick : ℕ) (veh : List Colour) (ped : List Ped) (m : Mode) (counter target version : ℕ) → Fits (F cab tick veh ped m counter target version)
    → (b : Line) → IsWorded b → line_words (F cab tick veh ped m counter target version) ≡ line_words b → F cab tick veh ped m counter target version ≡ b
frame_is cab tick veh ped m counter target version fits (F c t v p n k g w) is e =
    let also = is.1 in
    let same_cab : cab ≡ c = same_number cab c fits.0 also.0 (word_told 1 _ _ e) in
    let same_tick : tick ≡ t = same_number tick t fits.1 also.1 (word_told 2 _ _ e) in
    let same_veh : veh ≡ v = colours_told veh v (word_told 3 _ _ e) in
    let same_ped : ped ≡ p = signals_told ped p (word_told 4 _ _ e) in
    let same_m : m ≡ n = mode_told m n fits.4 also.4 (word_told 5 _ _ e) in
    let same_counter : counter ≡ k = same_number counter k fits.5 also.5 (word_told 6 _ _ e) in
    let same_target : target ≡ g = same_number target g fits.6 also.6 (word_told 7 _ _ e) in
    let same_version : version ≡ w = same_number version w fits.7 also.7 (word_told 8 _ _ e) in
    rw (same_cab, same_tick, same_veh, same_ped, same_m, same_counter, same_target, same_version) refl
frame_is cab tick veh ped m counter target version fits b is e = absurd (let told = kind_told b 70 _ e in omega (arith, told))

round_is : (round : ℕ) → round < 2 ^ 32 → (b : Line) → IsWorded b → line_words (R round) ≡ line_words b → R round ≡ b
round_is round low (R r) is e = ap R (same_number round r low is.1 (word_told 1 _ _ e))
round_is round low b is e = absurd (let told = kind_told b 82 _ e in omega (arith, told))

end_is : (rounds : ℕ) → rounds < 2 ^ 32 → (b : Line) → IsWorded b → line_words (Z rounds) ≡ line_words b → Z rounds ≡ b
end_is rounds low (Z r) is e = ap Z (same_number rounds r low is.1 (word_told 1 _ _ e))
end_is rounds low b is e = absurd (let told = kind_told b 90 _ e in omega (arith, told))

note_is : (n : MasterNote) → FitsNote n → (b : Line) → IsWorded b → line_words (M n) ≡ line_words b → M n ≡ b
note_is n fits (M o) is e = ap M (same_note n o fits is.1 e)
note_is n fits b is e = absurd (let told = kinds_told (M n) b e in omega (arith, told))

journal_is : (cab : ℕ) (runs : List (ℕ × ℕ)) → Fits (J cab runs) → (b : Line) → IsWorded b → line_words (J cab runs) ≡ line_words b → J cab runs ≡ b
journal_is cab runs fits (J c rs) is e =
    let same : cab ≡ c = same_number cab c fits.0 is.1.0 (word_told 1 _ _ e) in
    let also : runs ≡ rs = same_runs runs rs fits.1 is.1.1 (ap (drop 2) e) in
    rw (same, also) refl
journal_is cab runs fits b is e = absurd (let told = kind_told b 74 _ e in omega (arith, told))

load_is : (cab id : ℕ) (r : Result ℕ Broken) → Fits (L cab id r) → (b : Line) → IsWorded b → line_words (L cab id r) ≡ line_words b → L cab id r ≡ b
load_is cab id r fits (L c i s) is e = same_load cab id r c i s fits.0 fits.1 fits.2 is.1.0 is.1.1 is.1.2 e
load_is cab id r fits b is e = absurd (let told = kinds_told (L cab id r) b e in omega (arith, told))

reply_is : (cab pass : ℕ) (r : Option (ArrayVec ℕ)) → Fits (A cab pass r) → (b : Line) → IsWorded b
    → line_words (A cab pass r) ≡ line_words b → A cab pass r ≡ b
reply_is cab pass r fits (A c p s) is e =
    let same : cab ≡ c = same_number cab c fits.0 is.1.0 (word_told 1 _ _ e) in
    let count : pass ≡ p = same_number pass p fits.1 is.1.1 (word_told 2 _ _ e) in
    let also : r ≡ s = same_reply r s fits.2 is.1.2 (word_told 3 _ _ e) in
    rw (same, count, also) refl
reply_is cab pass r fits b is e = absurd (let told = kind_told b 65 _ e in omega (arith, told))

words_tell : (a b : Line) → IsWorded a → IsWorded b → line_words a ≡ line_words b → a ≡ b
words_tell (S json) b is also e = absurd is
words_tell (F cab tick veh ped m counter target version) b is also e = frame_is cab tick veh ped m counter target version is.1 b also e
words_tell (R round) b is also e = round_is round is.1 b also e
words_tell (M n) b is also e = note_is n is.1 b also e
words_tell (J cab runs) b is also e = journal_is cab runs is.1 b also e
words_tell (L cab id r) b is also e = load_is cab id r is.1 b also e
words_tell (A cab pass r) b is also e = reply_is cab pass r is.1 b also e
words_tell (Z rounds) b is also e = end_is rounds is.1 b also e

-- a line of a different kind from a scenario's
worded : (l : Line) → IsLine l → (kind l ≡ 83 → ⊥) → IsWorded l
worded (S json) is other = absurd (other refl)
worded (F cab tick veh ped m counter target version) is other = is
worded (R round) is other = is
worded (M n) is other = is
worded (J cab runs) is other = is
worded (L cab id r) is other = is
worded (A cab pass r) is other = is
worded (Z rounds) is other = is

-- the text of a line without its newline
abbrev pub front : Line → List ℕ
front l = unended (line_words l)

pub front_ended : (l : Line) → line_text l ≡ front l ++ 10 ∷ []
unfolding line_text
front_ended l = sym (unended-ended (line_words l))

fronts_told : (a b : Line) → front a ≡ front b → kind a ≡ kind b
fronts_told a b e = sym (first_letter a) ∙ ap (λ text. get_or text 0 0) e ∙ first_letter b

fronts_split : (a b : Line) → IsWorded a → IsWorded b → front a ≡ front b → line_words a ≡ line_words b
fronts_split a b is also e = sym (line_split a is) ∙ ap (slice_split (λ b. b == 32)) e ∙ line_split b also

other_is : (a b : Line) → IsLine a → IsLine b → (kind a ≡ 83 → ⊥) → front a ≡ front b → a ≡ b
other_is a b is also other e =
    let told : kind a ≡ kind b = fronts_told a b e in
    let first = worded a is other in
    let second = worded b also (λ scenario. other (told ∙ scenario)) in
    words_tell a b first second (fronts_split a b first second e)

scenario_is : (json : List ℕ) (b : Line) → front (S json) ≡ front b → S json ≡ b
scenario_is json (S text) e = ap S (sym (append-nil json) ∙ ap (drop 2) e ∙ append-nil text)
scenario_is json b e = absurd (let told = fronts_told (S json) b e in omega (arith, told))

-- a line is determined by its text without the newline
pub same_front : (a b : Line) → IsLine a → IsLine b → front a ≡ front b → a ≡ b
same_front (S json) b is also e = scenario_is json b e
same_front a b is also e = other_is a b is also (λ scenario. omega (arith, scenario)) e

-- and so by its text
pub same_line : (a b : Line) → IsLine a → IsLine b → line_text a ≡ line_text b → a ≡ b
same_line a b is also e = same_front a b is also (append_cancel_right (front a) (front b) (10 ∷ []) (sym (front_ended a) ∙ e ∙ front_ended b))
