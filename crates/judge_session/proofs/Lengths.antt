-- How long the text of a line that is judged can be.
use Rattle.std.proofs.Common.{◌≡◌, ◌∙◌, ℕ, ◌+◌, ◌<◌, ◌≤◌, ◌^◌, List, [], ◌∷◌, length, codes, decimal, Ok, Err, sym, ap, refl, arith}
use Rattle.std.proofs.lemmas.List.{length-append, length-map}
use Rattle.std.proofs.lemmas.Fmt.{length-decimal-le}
use Rattle.sig_types.specs.declared.frame.Mode.{Mode}
use Rattle.sig_types.specs.declared.frame.Mode.TheVariants as mode
use Rattle.trace_text.specs.declared.lines.Line.{Line}
use Rattle.trace_text.specs.declared.lines.Line.TheVariants.{S, F, R, M, J, L, A, Z}
use Rattle.trace_text.specs.IsLine.{FitsMode}
use Rattle.trace_text.specs.Line.{line_words, line_text}
use Rattle.trace_text.specs.Texts.{mode_text, colours_text, signals_text, colour_letter, signal_letter}
use Rattle.trace_text.specs.Words.{after_word, line_of}
use Rattle.judge_session.specs.Log.{IsRead, IsJudged, ended}

-- how long some words are with a space or a newline after each
abbrev long : List (List ℕ) → ℕ
long [] = 0
long (word ∷ words) = length word + 1 + long words

after-long : (words : List (List ℕ)) → length (after_word words) ≡ long words + 1
after-long [] = refl
after-long (word ∷ words) = omega (arith, length-append word (after_word words), after-long words)

line-long : (word : List ℕ) (words : List (List ℕ)) → length (line_of (word ∷ words)) ≡ long (word ∷ words)
line-long word words = omega (arith, length-append word (after_word words), after-long words)

number-long : (n : ℕ) → n < 2 ^ 32 → length (decimal n) ≤ 10
number-long n h = length-decimal-le 10 n (omega arith) (omega (arith, h)) (omega (arith, h))

byte-long : (n : ℕ) → n < 2 ^ 8 → length (decimal n) ≤ 3
byte-long n h = length-decimal-le 3 n (omega arith) (omega (arith, h)) (omega (arith, h))

mode-long : (m : Mode) → FitsMode m → length (mode_text m) ≤ 5
mode-long mode.Start f = omega arith
mode-long mode.Free f = omega arith
mode-long (mode.Seek n) f = omega (arith, byte-long n f)
mode-long (mode.Coord n) f = omega (arith, byte-long n f)
mode-long mode.Ending f = omega arith
mode-long mode.Flash f = omega arith
mode-long (mode.Entry n) f = omega (arith, byte-long n f, length-append (decimal n) (codes "e"))
mode-long (mode.Track n) f = omega (arith, byte-long n f, length-append (decimal n) (codes "t"))
mode-long (mode.Dwell n) f = omega (arith, byte-long n f, length-append (decimal n) (codes "d"))
mode-long (mode.Exit n) f = omega (arith, byte-long n f, length-append (decimal n) (codes "x"))

text-long : (line : Line) (bytes : List ℕ) → ended bytes ≡ line_text line → length bytes + 1 ≡ length (line_of (line_words line))
unfolding line_text
text-long line bytes e = sym (length-append bytes (10 ∷ [])) ∙ ap (λ (t : List ℕ). length t) e

pub short : (bytes : List ℕ) (line : Line) → IsRead bytes line → IsJudged line → length bytes ≤ 4096
short bytes (F cab tick veh ped m counter target version) read judged =
    let (c, t, v, p, f, n, g, w) = read.is.1 in
    omega (
      arith,
      text-long (F cab tick veh ped m counter target version) bytes read.text,
      line-long (codes "F") (decimal cab ∷ decimal tick ∷ colours_text veh ∷ signals_text ped ∷ mode_text m ∷ decimal counter ∷ decimal target ∷ decimal version ∷ []),
      number-long cab c,
      number-long tick t,
      length-map veh colour_letter ∙ v,
      length-map ped signal_letter ∙ p,
      mode-long m f,
      number-long counter n,
      number-long target g,
      number-long version w,
    )
short bytes (L cab id (Ok version)) read judged =
    let (c, i, w) = read.is.1 in
    omega (
      arith,
      text-long (L cab id (Ok version)) bytes read.text,
      line-long (codes "L") (decimal cab ∷ decimal id ∷ codes "accepted" ∷ decimal version ∷ []),
      number-long cab c,
      number-long id i,
      number-long version w,
    )
short bytes (L cab id (Err broken)) read judged = absurd judged
short bytes (S json) read judged = absurd judged
short bytes (R round) read judged = absurd judged
short bytes (M note) read judged = absurd judged
short bytes (J cab runs) read judged = absurd judged
short bytes (A cab pass reply) read judged = absurd judged
short bytes (Z rounds) read judged = absurd judged
