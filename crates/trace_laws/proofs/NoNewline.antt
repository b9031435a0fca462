-- No line holds a newline but at its end.
use Rattle.std.proofs.Common.{◌≡◌, ◌≢◌, ℕ, ℤ, pos, negsuc, ◌<◌, ◌^◌, ◌==◌, ◌&&◌, not, suc, zero, Bool, true, List, [], ◌∷◌, ◌++◌, get_or, length, map}
use Rattle.std.proofs.Common.{codes, decimal, Option, Some, None, Result, Ok, Err, refl, arith, lit<, ◌/◌, ◌%◌}
use Rattle.std.specs.Fmt.{signed_decimal}
use Rattle.std.specs.Int.{w32}
use Rattle.std.specs.Int.RustNames.{FitsSigned}
use Rattle.hex.specs.Hex.{encode_with, lower_digits}
use Rattle.arrayvec.specs.ArrayVec.{ArrayVec}
use Rattle.sig_types.specs.declared.frame.Colour.{Colour}
use Rattle.sig_types.specs.declared.frame.Colour.TheVariants as colour
use Rattle.sig_types.specs.declared.frame.Ped.{Ped}
use Rattle.sig_types.specs.declared.frame.Ped.TheVariants as signal
use Rattle.sig_types.specs.declared.frame.Mode.{Mode}
use Rattle.sig_types.specs.declared.frame.Mode.TheVariants as mode
use Rattle.sig_types.specs.declared.notes.Broken.{Broken}
use Rattle.sig_types.specs.declared.notes.MasterNote.{MasterNote}
use Rattle.sig_types.specs.declared.notes.MasterNote.TheVariants as note
use Rattle.trace_text.specs.declared.lines.Line.{Line}
use Rattle.trace_text.specs.declared.lines.Line.TheVariants.{S, F, R, M, J, L, A, Z}
use Rattle.trace_text.specs.IsLine.{IsLine, FitsRun, FitsRuns, FitsMode, FitsNote, FitsLoad}
use Rattle.trace_text.specs.Line.{line_words, note_words, load_words}
use Rattle.trace_text.specs.Texts.{colour_letter, signal_letter, colours_text, signals_text, mode_text, run_word, reply_text}
use Rattle.trace_text.specs.Words.{Lacks, spaced, unended}
use Rattle.trace_text.proofs.Cuts.{lacks_head, lacks_tail}
use Rattle.trace_text.proofs.RunWords.{digits_lack}
use Rattle.trace_text.proofs.BelowZero.{fits_pos, fits_negsuc}

-- no byte is a newline
abbrev OneLine : List ℕ → Type 0
OneLine [] = Unit {0}
OneLine (x ∷ xs) = (x ≢ 10) × OneLine xs

from_lacks : (xs : List ℕ) → Lacks 10 xs → OneLine xs
from_lacks [] h = tt
from_lacks (x ∷ xs) h = (lacks_head 10 x xs h, from_lacks xs (lacks_tail 10 x xs h))

to_lacks : (xs : List ℕ) → OneLine xs → Lacks 10 xs
to_lacks [] h k low = absurd (omega arith)
to_lacks (x ∷ xs) h zero low = h.0
to_lacks (x ∷ xs) h (suc k) low = to_lacks xs h.1 k (omega arith)

joined : (xs ys : List ℕ) → OneLine xs → OneLine ys → OneLine (xs ++ ys)
joined [] ys h k = k
joined (x ∷ xs) ys h k = (h.0, joined xs ys h.1 k)

-- of a literal, by a test
abbrev one_line : List ℕ → Bool
one_line [] = true
one_line (x ∷ xs) = not (x == 10) && one_line xs

literal : (xs : List ℕ) → one_line xs ≡ true → OneLine xs
literal [] h = tt
literal (x ∷ xs) h = grind (arith, literal xs)

letters : {X : Type 0} (f : X → ℕ) → ((x : X) → f x ≢ 10) → (xs : List X) → OneLine (map f xs)
letters f h [] = tt
letters f h (x ∷ xs) = (h x, letters f h xs)

entry : (xs : List ℕ) → OneLine xs → (k : ℕ) → get_or xs k 0 ≢ 10
entry [] h k = λ e. omega arith
entry (x ∷ xs) h zero = h.0
entry (x ∷ xs) h (suc k) = entry xs h.1 k

hexadecimal : (octets : List ℕ) → OneLine (encode_with lower_digits octets)
unfolding encode_with
hexadecimal [] = tt
hexadecimal (b ∷ rest) =
    let digit = entry lower_digits (literal lower_digits refl) in
    (digit (b / 16), (digit (b % 16), hexadecimal rest))

colour_other : (x : Colour) → colour_letter x ≢ 10
colour_other colour.Green e = omega arith
colour_other colour.Yellow e = omega arith
colour_other colour.Clear e = omega arith
colour_other colour.Red e = omega arith

signal_other : (x : Ped) → signal_letter x ≢ 10
signal_other signal.Walk e = omega arith
signal_other signal.Flash e = omega arith
signal_other signal.Dont e = omega arith

number : (n : ℕ) → n < 2 ^ 32 → OneLine (decimal n)
number n small = from_lacks (decimal n) (digits_lack n 10 (omega arith) (lit< tt))

signed : (z : ℤ) → FitsSigned w32 z → OneLine (signed_decimal z)
signed (pos n) fits = number n (let low = fits_pos n fits in omega arith)
signed (negsuc n) fits = (λ e. omega arith, number (suc n) (let low = fits_negsuc n fits in omega arith))

stage : (n : ℕ) (ends : List ℕ) → n < 2 ^ 8 → OneLine ends → OneLine (80 ∷ (decimal n ++ ends))
stage n ends small h = (λ e. omega arith, joined (decimal n) ends (number n (omega arith)) h)

mode_word : (m : Mode) → FitsMode m → OneLine (mode_text m)
mode_word mode.Start fits = literal (codes "S") refl
mode_word mode.Free fits = literal (codes "F") refl
mode_word (mode.Seek n) fits = (λ e. omega arith, number n (omega arith))
mode_word (mode.Coord n) fits = (λ e. omega arith, number n (omega arith))
mode_word mode.Ending fits = literal (codes "E") refl
mode_word mode.Flash fits = literal (codes "X") refl
mode_word (mode.Entry n) fits = stage n (codes "e") fits (literal (codes "e") refl)
mode_word (mode.Track n) fits = stage n (codes "t") fits (literal (codes "t") refl)
mode_word (mode.Dwell n) fits = stage n (codes "d") fits (literal (codes "d") refl)
mode_word (mode.Exit n) fits = stage n (codes "x") fits (literal (codes "x") refl)

-- no word holds a newline
abbrev OneLineEach : List (List ℕ) → Type 0
OneLineEach [] = Unit {0}
OneLineEach (word ∷ words) = OneLine word × OneLineEach words

one_line_run : (run : ℕ × ℕ) → FitsRun run → OneLine (run_word run)
one_line_run run fits = joined (decimal run.0) (codes "*" ++ decimal run.1) (number run.0 fits.0) (λ e. omega arith, number run.1 fits.1)

run_words : (runs : List (ℕ × ℕ)) → FitsRuns runs → OneLineEach (map run_word runs)
run_words [] fits = tt
run_words (run ∷ runs) fits =
    (one_line_run run (fits 0 (omega arith)), run_words runs (λ k low. fits (suc k) (let below : k < length runs = low in omega arith)))

reply_word : (reply : Option (ArrayVec ℕ)) → OneLine (reply_text reply)
reply_word None = literal (codes "-") refl
reply_word (Some octets) = hexadecimal octets.items

note_each : (n : MasterNote) → FitsNote n → OneLineEach (note_words n)
note_each (note.Fail cab) fits = (literal (codes "M") refl, (number cab fits, (literal (codes "fail") refl, tt)))
note_each (note.Good cab) fits = (literal (codes "M") refl, (number cab fits, (literal (codes "good") refl, tt)))
note_each (note.Pattern cab pattern) fits =
    (literal (codes "M") refl, (number cab fits.0, (literal (codes "pattern") refl, (number pattern (let low = fits.1 in omega arith), tt))))
note_each (note.LoadDone cab load) fits =
    (literal (codes "M") refl, (number cab fits.0, (literal (codes "load") refl, (number load fits.1, (literal (codes "done") refl, tt)))))
note_each (note.LoadRefused cab load status index) fits =
    let ends : OneLineEach (signed_decimal status ∷ signed_decimal index ∷ []) = (signed status fits.2, (signed index fits.3, tt)) in
    (literal (codes "M") refl, (number cab fits.0, (literal (codes "load") refl, (number load fits.1, (literal (codes "refused") refl, ends)))))

load_each : (cab id : ℕ) (r : Result ℕ Broken) → cab < 2 ^ 32 → id < 2 ^ 32 → FitsLoad r → OneLineEach (load_words cab id r)
load_each cab id (Ok version) low small fits =
    (literal (codes "L") refl, (number cab low, (number id small, (literal (codes "accepted") refl, (number version fits, tt)))))
load_each cab id (Err broken) low small fits =
    let rule = fits.0 in
    let row = fits.1 in
    let ends : OneLineEach (decimal broken.rule ∷ decimal broken.row ∷ []) = (number broken.rule (omega arith), (number broken.row (omega arith), tt)) in
    (literal (codes "L") refl, (number cab low, (number id small, (literal (codes "refused") refl, ends))))

frame_each : (cab tick : ℕ) (veh : List Colour) (ped : List Ped) (m : Mode) (counter target version : ℕ) → IsLine (F cab tick veh ped m counter target version)
    → OneLineEach (line_words (F cab tick veh ped m counter target version))
frame_each cab tick veh ped m counter target version is =
    let fits = is.1 in
    let ends : OneLineEach (decimal counter ∷ decimal target ∷ decimal version ∷ [])
    = (number counter fits.5, (number target fits.6, (number version fits.7, tt))) in
    let shown : OneLineEach (colours_text veh ∷ signals_text ped ∷ mode_text m ∷ decimal counter ∷ decimal target ∷ decimal version ∷ []) =
    (letters colour_letter colour_other veh, (letters signal_letter signal_other ped, (mode_word m fits.4, ends))) in
    (literal (codes "F") refl, (number cab fits.0, (number tick fits.1, shown)))

each : (l : Line) → IsLine l → OneLineEach (line_words l)
each (S json) is = (literal (codes "S") refl, (from_lacks json is.0, tt))
each (F cab tick veh ped m counter target version) is = frame_each cab tick veh ped m counter target version is
each (R round) is = (literal (codes "R") refl, (number round is.1, tt))
each (M n) is = note_each n is.1
each (J cab runs) is = (literal (codes "J") refl, (number cab is.1.0, run_words runs is.1.1))
each (L cab id r) is = load_each cab id r is.1.0 is.1.1 is.1.2
each (A cab pass reply) is = (literal (codes "A") refl, (number cab is.1.0, (number pass is.1.1, (reply_word reply, tt))))
each (Z rounds) is = (literal (codes "Z") refl, (number rounds is.1, tt))

spaced_words : (words : List (List ℕ)) → OneLineEach words → OneLine (spaced words)
spaced_words [] h = tt
spaced_words (word ∷ words) h = (λ e. omega arith, joined word (spaced words) h.0 (spaced_words words h.1))

unended_words : (words : List (List ℕ)) → OneLineEach words → OneLine (unended words)
unended_words [] h = tt
unended_words (word ∷ words) h = joined word (spaced words) h.0 (spaced_words words h.1)

pub no_newline : (l : Line) → IsLine l → Lacks 10 (unended (line_words l))
no_newline l is = to_lacks (unended (line_words l)) (unended_words (line_words l) (each l is))
