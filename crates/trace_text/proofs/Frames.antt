-- A frame's line, from the parts of its words after the letter.
use Rattle.std.proofs.Common.{◌≡◌, ◌≢◌, ℕ, ◌<◌, ◌^◌, List, [], ◌∷◌, ◌++◌, length, codes, decimal, Option, Some, None, ap, ◌∙◌, arith}
use Rattle.sig_types.specs.declared.frame.Colour.{Colour}
use Rattle.sig_types.specs.declared.frame.Ped.{Ped}
use Rattle.sig_types.specs.declared.frame.Mode.{Mode}
use Rattle.trace_text.specs.declared.lines.Line.{Line}
use Rattle.trace_text.specs.declared.lines.Line.TheVariants.{F}
use Rattle.trace_text.specs.IsLine.{IsWorded, Fits, FitsMode}
use Rattle.trace_text.specs.Line.{line_words}
use Rattle.trace_text.specs.Reads.{Reads}
use Rattle.trace_text.specs.Texts.{colours_text, signals_text, mode_text}
use Rattle.trace_text.proofs.FirstWords.{kind_told}
use Rattle.trace_text.proofs.FrontParts.{Front, none_before, none_after, some_after}
use Rattle.trace_text.proofs.Reading.{reads_none, reads_some, none_reads, some_reads}

abbrev Shown : Type 0
Shown = List Colour × (List Ped × Mode)

abbrev pub IsNumber : ℕ → Type 0
IsNumber n = n < 2 ^ 32

abbrev pub number_words : ℕ → List (List ℕ)
number_words n = decimal n ∷ []

abbrev pub AreColours : List Colour → Type 0
AreColours veh = length veh ≡ 16

abbrev pub colours_words : List Colour → List (List ℕ)
colours_words veh = colours_text veh ∷ []

abbrev pub AreSignals : List Ped → Type 0
AreSignals ped = length ped ≡ 16

abbrev pub signals_words : List Ped → List (List ℕ)
signals_words ped = signals_text ped ∷ []

abbrev pub mode_words : Mode → List (List ℕ)
mode_words mode = mode_text mode ∷ []

abbrev pub AreGiven : List Ped × Mode → Type 0
AreGiven s = (length s.0 ≡ 16) × FitsMode s.1

abbrev pub given_words : List Ped × Mode → List (List ℕ)
given_words s = signals_text s.0 ∷ mode_text s.1 ∷ []

abbrev pub AreTwo : ℕ × ℕ → Type 0
AreTwo n = (n.0 < 2 ^ 32) × (n.1 < 2 ^ 32)

abbrev AreShown : Shown → Type 0
AreShown s = (length s.0 ≡ 16) × ((length s.1.0 ≡ 16) × FitsMode s.1.1)

abbrev AreThree : ℕ × (ℕ × ℕ) → Type 0
AreThree n = (n.0 < 2 ^ 32) × ((n.1.0 < 2 ^ 32) × (n.1.1 < 2 ^ 32))

abbrev pub two_words : ℕ × ℕ → List (List ℕ)
two_words n = decimal n.0 ∷ decimal n.1 ∷ []

abbrev shown_words : Shown → List (List ℕ)
shown_words s = colours_text s.0 ∷ signals_text s.1.0 ∷ mode_text s.1.1 ∷ []

abbrev three_words : ℕ × (ℕ × ℕ) → List (List ℕ)
three_words n = decimal n.0 ∷ decimal n.1.0 ∷ decimal n.1.1 ∷ []

-- what it says after cabinet and tick
abbrev Later : Type 0
Later = Shown × (ℕ × (ℕ × ℕ))

abbrev AreLater : Later → Type 0
AreLater y = AreShown y.0 × AreThree y.1

abbrev later_words : Later → List (List ℕ)
later_words y = shown_words y.0 ++ three_words y.1

-- what a frame's line says
abbrev Said : Type 0
Said = (ℕ × ℕ) × Later

abbrev AreSaid : Said → Type 0
AreSaid x = AreTwo x.0 × AreLater x.1

abbrev said_words : Said → List (List ℕ)
said_words x = two_words x.0 ++ later_words x.1

abbrev frame_of : Said → Line
frame_of x = F x.0.0 x.0.1 x.1.0.0 x.1.0.1.0 x.1.0.1.1 x.1.1.0 x.1.1.1.0 x.1.1.1.1

abbrev tail_of : List (List ℕ) → List (List ℕ)
tail_of [] = []
tail_of (word ∷ words) = words

frame_fits : (x : Said) → AreSaid x → Fits (frame_of x)
frame_fits x are = (are.0.0, are.0.1, are.1.0.0, are.1.0.1.0, are.1.0.1.1, are.1.1.0, are.1.1.1.0, are.1.1.1.1)

module _ (words : List (List ℕ)) where
  abbrev ReadsFrame : Option Line → Type 0
  ReadsFrame found = Reads IsWorded line_words (codes "F" ∷ words) found

  -- a line with these words is a frame
  frame_only : (P : Line → Type 0) → ((x : Said) → AreSaid x → words ≡ said_words x ++ [] → P (frame_of x)) → (l : Line) → IsWorded l → codes "F" ∷ words ≡ line_words l → P l
  frame_only P h (F c t v p m k g n) is e =
      let fits = is.1 in
      h ((c, t), ((v, (p, m)), (k, (g, n)))) ((fits.0, fits.1), ((fits.2, (fits.3, fits.4)), (fits.5, (fits.6, fits.7)))) (ap tail_of e)
  frame_only P h l is e = absurd (let told = kind_told l 70 _ e in omega (arith, told))

  pub none_said : Front AreSaid said_words words None → ReadsFrame None
  none_said h = reads_none (frame_only (λ _. ⊥) (λ x fits e. none_reads h (x, []) fits e))

  module _ (x : Said) (left : List (List ℕ)) (h : Front AreSaid said_words words (Some (x, left))) where
    pub none_more : left ≢ [] → ReadsFrame None
    none_more more = reads_none (frame_only (λ _. ⊥) (λ y fits e. more (ap (λ p. p.1) (some_reads h (y, []) fits e))))

    pub some_frame : left ≡ [] → ReadsFrame (Some (frame_of x))
    some_frame end = reads_some (tt, frame_fits x h.value.0) (ap (λ w. codes "F" ∷ w) (h.value.1 ∙ ap (λ w. said_words x ++ w) end))
        (frame_only (λ l. frame_of x ≡ l) (λ y fits e. ap (λ p. frame_of p.0) (some_reads h (y, []) fits e)))

  module _ (two : ℕ × ℕ) (left : List (List ℕ)) (h : Front AreTwo two_words words (Some (two, left))) where
    pub none_shown : Front AreShown shown_words left None → ReadsFrame None
    none_shown k = none_said (none_after AreTwo AreLater two_words later_words words two left h (none_before AreShown AreThree shown_words three_words left k))

    module _ (shown : Shown) (after : List (List ℕ)) (k : Front AreShown shown_words left (Some (shown, after))) where
      pub none_three : Front AreThree three_words after None → ReadsFrame None
      none_three j = none_said (none_after AreTwo AreLater two_words later_words words two left h (none_after AreShown AreThree shown_words three_words left shown after k j))

      pub all_said : (three : ℕ × (ℕ × ℕ)) (rest : List (List ℕ)) → Front AreThree three_words after (Some (three, rest)) → Front AreSaid said_words words (Some ((two, (shown, three)), rest))
      all_said three rest j = some_after AreTwo AreLater two_words later_words words two left h (shown, three) rest (some_after AreShown AreThree shown_words three_words left shown after k three rest j)

  pub none_two : Front AreTwo two_words words None → ReadsFrame None
  none_two h = none_said (none_before AreTwo AreLater two_words later_words words h)
