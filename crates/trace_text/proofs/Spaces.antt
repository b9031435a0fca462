-- No word of a line holds a space, but a scenario's text; so the spaces give the words.
use Rattle.std.proofs.Common.{◌≡◌, ◌≢◌, ℕ, ℤ, pos, negsuc, ◌<◌, ◌^◌, ◌==◌, ◌&&◌, not, suc, zero, Bool, true, false, List, [], ◌∷◌, ◌++◌, get_or, length, map, codes, decimal, Option, Some, None, Ok, Err, refl, sym, ap, ◌∙◌, arith, lit<, append-nil, ◌/◌, ◌%◌}
use Rattle.std.proofs.lemmas.Bool.{ne_eqb}
use Rattle.std.proofs.lemmas.List.Splits.{slice_split_at, slice_split_none, join_with_byte-slice_split}
use Rattle.std.specs.Fmt.{signed_decimal}
use Rattle.std.specs.Int.{w32}
use Rattle.std.specs.Int.RustNames.{FitsSigned}
use Rattle.std.specs.List.{slice_split, join_with_byte, All}
use Rattle.hex.specs.Hex.{encode_with, lower_digits}
use Rattle.sig_types.specs.declared.frame.Colour.{Colour}
use Rattle.sig_types.specs.declared.frame.Colour.TheVariants as colour
use Rattle.sig_types.specs.declared.frame.Ped.{Ped}
use Rattle.sig_types.specs.declared.frame.Ped.TheVariants as signal
use Rattle.sig_types.specs.declared.frame.Mode.{Mode}
use Rattle.sig_types.specs.declared.frame.Mode.TheVariants as mode
use Rattle.sig_types.specs.declared.notes.MasterNote.{MasterNote}
use Rattle.sig_types.specs.declared.notes.MasterNote.TheVariants as note
use Rattle.trace_text.specs.declared.lines.Line.{Line}
use Rattle.trace_text.specs.declared.lines.Line.TheVariants.{S, F, R, M, J, L, A, Z}
use Rattle.trace_text.specs.IsLine.{IsWorded, FitsRun, FitsRuns, FitsMode, FitsNote}
use Rattle.trace_text.specs.Line.{line_words, note_words}
use Rattle.trace_text.specs.Texts.{colour_letter, signal_letter, mode_text, run_word}
use Rattle.trace_text.specs.Words.{Lacks, unended}
use Rattle.trace_text.specs.Reads.{Reads}
use Rattle.trace_text.proofs.Cuts.{lacks_head, lacks_tail}
use Rattle.trace_text.proofs.FirstWords.{kind, first_word}
use Rattle.trace_text.proofs.Reading.{reads_none, none_reads}
use Rattle.trace_text.proofs.RunWords.{digits_lack}
use Rattle.trace_text.proofs.BelowZero.{fits_pos, fits_negsuc}

-- no element is the byte
abbrev pub LacksAll : ℕ → List ℕ → Type 0
LacksAll c [] = Unit {0}
LacksAll c (x ∷ xs) = (x ≢ c) × LacksAll c xs

from_lacks : (c : ℕ) (xs : List ℕ) → Lacks c xs → LacksAll c xs
from_lacks c [] h = tt
from_lacks c (x ∷ xs) h = (lacks_head c x xs h, from_lacks c xs (lacks_tail c x xs h))

all_of : (c : ℕ) (xs : List ℕ) → LacksAll c xs → All (λ x. (x == c) ≡ false) xs
all_of c [] h k d low = absurd (omega arith)
all_of c (x ∷ xs) h zero d low = ne_eqb x c h.0
all_of c (x ∷ xs) h (suc k) d low = all_of c xs h.1 k d (omega arith)

-- as the test of a split has it
pub all_lack : (c : ℕ) (xs : List ℕ) → Lacks c xs → All (λ x. (x == c) ≡ false) xs
all_lack c xs h = all_of c xs (from_lacks c xs h)

joined_lacks : (c : ℕ) (xs ys : List ℕ) → LacksAll c xs → LacksAll c ys → LacksAll c (xs ++ ys)
joined_lacks c [] ys h k = k
joined_lacks c (x ∷ xs) ys h k = (h.0, joined_lacks c xs ys h.1 k)

-- of a literal, by a test
abbrev lacks : ℕ → List ℕ → Bool
lacks c [] = true
lacks c (x ∷ xs) = not (x == c) && lacks c xs

by_test : (c : ℕ) (xs : List ℕ) → lacks c xs ≡ true → LacksAll c xs
by_test c [] h = tt
by_test c (x ∷ xs) h = grind (arith, by_test c xs)

letters_lack : {X : Type 0} (c : ℕ) (f : X → ℕ) → ((x : X) → f x ≢ c) → (xs : List X) → LacksAll c (map f xs)
letters_lack c f h [] = tt
letters_lack c f h (x ∷ xs) = (h x, letters_lack c f h xs)

entry_lacks : (c : ℕ) (xs : List ℕ) → LacksAll c xs → 0 ≢ c → (k : ℕ) → get_or xs k 0 ≢ c
entry_lacks c [] h past k = past
entry_lacks c (x ∷ xs) h past zero = h.0
entry_lacks c (x ∷ xs) h past (suc k) = entry_lacks c xs h.1 past k

hex_lacks : (octets : List ℕ) → LacksAll 32 (encode_with lower_digits octets)
unfolding encode_with
hex_lacks [] = tt
hex_lacks (b ∷ rest) =
    let digit = entry_lacks 32 lower_digits (by_test 32 lower_digits refl) (λ e. omega arith) in
    (digit (b / 16), (digit (b % 16), hex_lacks rest))

colour_lacks : (x : Colour) → colour_letter x ≢ 32
colour_lacks colour.Green e = omega arith
colour_lacks colour.Yellow e = omega arith
colour_lacks colour.Clear e = omega arith
colour_lacks colour.Red e = omega arith

signal_lacks : (x : Ped) → signal_letter x ≢ 32
signal_lacks signal.Walk e = omega arith
signal_lacks signal.Flash e = omega arith
signal_lacks signal.Dont e = omega arith

number_lacks : (n : ℕ) → n < 2 ^ 32 → LacksAll 32 (decimal n)
number_lacks n small = from_lacks 32 (decimal n) (digits_lack n 32 (omega arith) (lit< tt))

literal : (xs : List ℕ) → lacks 32 xs ≡ true → LacksAll 32 xs
literal xs h = by_test 32 xs h

signed_lacks : (z : ℤ) → FitsSigned w32 z → LacksAll 32 (signed_decimal z)
signed_lacks (pos n) fits = number_lacks n (let low = fits_pos n fits in omega arith)
signed_lacks (negsuc n) fits = (λ e. omega arith, number_lacks (suc n) (let low = fits_negsuc n fits in omega arith))

stage_lacks : (n : ℕ) (ends : List ℕ) → n < 2 ^ 8 → LacksAll 32 ends → LacksAll 32 (80 ∷ (decimal n ++ ends))
stage_lacks n ends small h = (λ e. omega arith, joined_lacks 32 (decimal n) ends (number_lacks n (omega arith)) h)

mode_lacks : (m : Mode) → FitsMode m → LacksAll 32 (mode_text m)
mode_lacks mode.Start fits = literal (codes "S") refl
mode_lacks mode.Free fits = literal (codes "F") refl
mode_lacks (mode.Seek n) fits = (λ e. omega arith, number_lacks n (omega arith))
mode_lacks (mode.Coord n) fits = (λ e. omega arith, number_lacks n (omega arith))
mode_lacks mode.Ending fits = literal (codes "E") refl
mode_lacks mode.Flash fits = literal (codes "X") refl
mode_lacks (mode.Entry n) fits = stage_lacks n (codes "e") fits (literal (codes "e") refl)
mode_lacks (mode.Track n) fits = stage_lacks n (codes "t") fits (literal (codes "t") refl)
mode_lacks (mode.Dwell n) fits = stage_lacks n (codes "d") fits (literal (codes "d") refl)
mode_lacks (mode.Exit n) fits = stage_lacks n (codes "x") fits (literal (codes "x") refl)

-- no word holds a space
abbrev pub WordsLack : List (List ℕ) → Type 0
WordsLack [] = Unit {0}
WordsLack (word ∷ words) = LacksAll 32 word × WordsLack words

runs_lack : (runs : List (ℕ × ℕ)) → FitsRuns runs → WordsLack (map run_word runs)
runs_lack [] fits = tt
runs_lack (run ∷ runs) fits =
    let first : FitsRun run = fits 0 (omega arith) in (
      joined_lacks 32 (decimal run.0) (codes "*" ++ decimal run.1) (number_lacks run.0 first.0) (λ e. omega arith, number_lacks run.1 first.1),
      runs_lack runs (λ k low. fits (suc k) (let below : k < length runs = low in omega arith)),
    )

note_lacks : (n : MasterNote) → FitsNote n → WordsLack (note_words n)
note_lacks (note.Fail cab) fits = (literal (codes "M") refl, (number_lacks cab fits, (literal (codes "fail") refl, tt)))
note_lacks (note.Good cab) fits = (literal (codes "M") refl, (number_lacks cab fits, (literal (codes "good") refl, tt)))
note_lacks (note.Pattern cab pattern) fits =
    (literal (codes "M") refl, (number_lacks cab fits.0, (literal (codes "pattern") refl, (number_lacks pattern (let low = fits.1 in omega arith), tt))))
note_lacks (note.LoadDone cab load) fits =
    (literal (codes "M") refl, (number_lacks cab fits.0, (literal (codes "load") refl, (number_lacks load fits.1, (literal (codes "done") refl, tt)))))
note_lacks (note.LoadRefused cab load status index) fits = (
  literal (codes "M") refl,
  (
    number_lacks cab fits.0,
    (
      literal (codes "load") refl,
      (
        number_lacks load fits.1,
        (
          literal (codes "refused") refl,
          (signed_lacks status fits.2, (signed_lacks index fits.3, tt)),
        ),
      ),
    ),
  ),
)

line_lacks : (l : Line) → IsWorded l → WordsLack (line_words l)
line_lacks (S json) is = absurd is
line_lacks (F cab tick veh ped mode counter target version) is =
    let fits = is.1 in (
      literal (codes "F") refl,
      (
        number_lacks cab fits.0,
        (
          number_lacks tick fits.1,
          (
            letters_lack 32 colour_letter colour_lacks veh,
            (
              letters_lack 32 signal_letter signal_lacks ped,
              (
                mode_lacks mode fits.4,
                (number_lacks counter fits.5, (number_lacks target fits.6, (number_lacks version fits.7, tt))),
              ),
            ),
          ),
        ),
      ),
    )
line_lacks (R round) is = (literal (codes "R") refl, (number_lacks round is.1, tt))
line_lacks (M note) is = note_lacks note is.1
line_lacks (J cab runs) is = (literal (codes "J") refl, (number_lacks cab is.1.0, runs_lack runs is.1.1))
line_lacks (L cab id (Ok version)) is =
    let fits = is.1 in
    (literal (codes "L") refl, (number_lacks cab fits.0, (number_lacks id fits.1, (literal (codes "accepted") refl, (number_lacks version fits.2, tt)))))
line_lacks (L cab id (Err broken)) is =
    let fits = is.1 in
    let rule = fits.2.0 in let row = fits.2.1 in (
      literal (codes "L") refl,
      (
        number_lacks cab fits.0,
        (
          number_lacks id fits.1,
          (
            literal (codes "refused") refl,
            (number_lacks broken.rule (omega arith), (number_lacks broken.row (omega arith), tt)),
          ),
        ),
      ),
    )
line_lacks (A cab pass None) is = (literal (codes "A") refl, (number_lacks cab is.1.0, (number_lacks pass is.1.1, (literal (codes "-") refl, tt))))
line_lacks (A cab pass (Some octets)) is = (literal (codes "A") refl, (number_lacks cab is.1.0, (number_lacks pass is.1.1, (hex_lacks octets.items, tt))))
line_lacks (Z rounds) is = (literal (codes "Z") refl, (number_lacks rounds is.1, tt))

-- the words between the spaces, put together again
joined_words : (words : List (List ℕ)) → join_with_byte 32 words ≡ unended words
joined_words [] = refl
joined_words (word ∷ []) = sym (append-nil word)
joined_words (word ∷ next ∷ words) = ap (λ rest. word ++ 32 ∷ rest) (joined_words (next ∷ words))

split_words : (words : List (List ℕ)) → 0 < length words → WordsLack words → slice_split (λ b. b == 32) (unended words) ≡ words
split_words [] some h = absurd (omega arith)
split_words (word ∷ []) some h = rw append-nil (slice_split_none (λ b. b == 32) word (all_of 32 word h.0))
split_words (word ∷ next ∷ words) some h =
    slice_split_at (λ b. b == 32) word 32 (unended (next ∷ words)) (all_of 32 word h.0) refl
    ∙ ap (λ rest. word ∷ rest) (split_words (next ∷ words) (omega arith) h.1)

nonempty : (words : List (List ℕ)) (k : ℕ) → get_or words 0 [] ≡ k ∷ [] → 0 < length words
nonempty [] k e = let long : 0 ≡ length (k ∷ []) = ap length e in absurd (omega arith)
nonempty (word ∷ words) k e = omega arith

some_words : (l : Line) → 0 < length (line_words l)
some_words l = nonempty (line_words l) (kind l) (first_word l)

-- the words of a line are what is between the spaces of its text
pub line_split : (l : Line) → IsWorded l → slice_split (λ b. b == 32) (unended (line_words l)) ≡ line_words l
line_split l is = split_words (line_words l) (some_words l) (line_lacks l is)

words_told : (bytes : List ℕ) (l : Line) → slice_split (λ b. b == 32) bytes ≡ line_words l → bytes ≡ unended (line_words l)
words_told bytes l e = sym (join_with_byte-slice_split 32 bytes) ∙ ap (join_with_byte 32) e ∙ joined_words (line_words l)

-- so a line is read from its text as from these words
pub reads_text : (bytes : List ℕ) (words : List (List ℕ)) → words ≡ slice_split (λ b. b == 32) bytes
    → (found : Option Line) → Reads IsWorded line_words words found → Reads IsWorded (λ l. unended (line_words l)) bytes found
reads_text bytes words split None h = reads_none (λ l is e. none_reads h l is (split ∙ ap (slice_split (λ b. b == 32)) e ∙ line_split l is))
reads_text bytes words split (Some line) h = record {
  value = (h.value.0, words_told bytes line (sym split ∙ h.value.1));
  only = λ l is e. h.only l is (split ∙ ap (slice_split (λ b. b == 32)) e ∙ line_split l is);
}

-- and no line has no words
pub none_worded : (bytes : List ℕ) → [] ≡ slice_split (λ b. b == 32) bytes → Reads IsWorded (λ l. unended (line_words l)) bytes None
none_worded bytes none = reads_text bytes [] none None (reads_none (λ l is e. let long : 0 ≡ length (line_words l) = ap length e in let some = some_words l in omega (arith, long, some)))
