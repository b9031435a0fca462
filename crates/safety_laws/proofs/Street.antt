-- The street of a history is safe.
use Rattle.std.proofs.Common.{◌≡◌, ◌≢◌, ◌⊎◌, inl, inr, ◌+◌, ◌-◌, ◌==◌, ℕ, true, false, not, if◌then◌else◌, List, get_or, refl, sym, ◌∙◌, ap, subst}
use Rattle.std.proofs.lemmas.Bool.{cases_Bool, false≢true}
use Rattle.sig_types.specs.declared.frame.Colour.{Colour}
use Rattle.sig_types.specs.declared.frame.Colour.TheVariants.{Green, Yellow, Clear, Red}
use Rattle.sig_types.specs.declared.frame.Ped.{Ped}
use Rattle.sig_types.specs.declared.frame.Ped.TheVariants.{Walk, Flash, Dont}
use Rattle.sig_types.specs.declared.frame.Mode.{Mode}
use Rattle.sig_types.specs.declared.frame.Frame.{Frame}
use Rattle.sig_types.specs.Phases.{is_phase}
use Rattle.sig_types.specs.Colour.{same_colour, same_signal, colour_of, signal_of}
use Rattle.sig_tables.specs.declared.tables.Tables.{Tables}
use Rattle.sig_tables.specs.Tables.{is_enabled, pedestrian_clear_time}
use Rattle.sig_tables.specs.Sides.{are_incompatible}
use Rattle.sig_tables.specs.Past.{Moment}
use Rattle.sig_tables.specs.Looking.{last_frame}
use Rattle.sig_tables.specs.Lesser.{Lesser, lesser_clear}
use Rattle.sig_tables.specs.Goals.{lesser_in}
use Rattle.tick_laws.specs.Safe.{is_on, Apart as ColoursApart, ClearanceEnds, GreenEnds, ColourFollows as ColoursFollow}
use Rattle.tick_laws.specs.Walking.{OnGreen, Quiet, SignalEnds, WalkWithin, FlashWithin}
use Rattle.tick_laws.proofs.Choices.{same-is, same-is-signal}
use Rattle.tick_laws.proofs.Sought.{Numbered}
use Rattle.safety_laws.specs.Safe.{Indications, Intersection, colour_at, signal_at, mode_at, in_force, Apart, makes_way_for, clearance_due}
use Rattle.safety_laws.specs.Safe.{next_colour, next_signal, PhaseFollows, way_at}
use Rattle.safety_laws.specs.Written.{shown_by}
use Rattle.safety_laws.proofs.AfterDont.{AfterDont}
use Rattle.safety_laws.proofs.Ways.{lesser-is, clear-is}

red : (c : Colour) → not (same_colour c Red) ≡ false → c ≡ Red
red Green h = absurd (false≢true (sym h))
red Yellow h = absurd (false≢true (sym h))
red Clear h = absurd (false≢true (sym h))
red Red h = refl

pub other-colour : (a b : Colour) → a ≢ b → same_colour a b ≡ false
other-colour a b ne = elim (cases_Bool (same_colour a b)) [ inl e ↦ absurd (ne (same-is a b e)) | inr f ↦ f ]

pub other-signal : (a b : Ped) → a ≢ b → same_signal a b ≡ false
other-signal a b ne = elim (cases_Bool (same_signal a b)) [ inl e ↦ absurd (ne (same-is-signal a b e)) | inr f ↦ f ]

colour-follows : (t : Tables) (p : ℕ) (was now : Colour) → ColoursFollow t p was now → now ≢ was → now ≡ next_colour t p was
colour-follows t p Green now (inl e) ne = absurd (ne e)
colour-follows t p Green now (inr e) ne = e
colour-follows t p Yellow now (inl e) ne = absurd (ne e)
colour-follows t p Yellow now (inr e) ne = e
colour-follows t p Clear now (inl e) ne = absurd (ne e)
colour-follows t p Clear now (inr e) ne = e
colour-follows t p Red now (inl e) ne = absurd (ne e)
colour-follows t p Red now (inr e) ne = e

signal-follows : (t : Tables) (mode : Mode) (p : ℕ) (was now : Ped)
    → (was ≡ Walk → now ≢ Walk → now ≡ (if clearance_due (makes_way_for t mode p) (pedestrian_clear_time t p) == 0 then Dont else Flash))
    → (was ≡ Flash → now ≢ Flash → now ≡ Dont)
    → (was ≡ Dont → now ≢ Dont → now ≡ Walk)
    → now ≢ was → now ≡ next_signal t mode p was
signal-follows t mode p Walk now w f d ne = w refl ne
signal-follows t mode p Flash now w f d ne = f refl ne
signal-follows t mode p Dont now w f d ne = d refl ne

-- what is known of a moment and those before it
pub record Known (s : Intersection) (past : List Moment) (m : Moment) : Type 0 where
  pub tables : s.tables m.frame.version ≡ m.tables
  pub numbered : Numbered m.frame.mode
  pub apart : ColoursApart m.tables m.frame
  pub quiet : Quiet m.tables m.frame
  pub clearances : (p : ℕ) → is_phase p ≡ true → ClearanceEnds past m p
  pub greens : (p : ℕ) → is_phase p ≡ true → GreenEnds past m p
  pub follows : (p : ℕ) → is_phase p ≡ true → ColoursFollow m.tables p (colour_of (last_frame past) p) (colour_of m.frame p)
  pub signals : (p : ℕ) → is_phase p ≡ true → SignalEnds past m p
  pub walks : (p : ℕ) → is_phase p ≡ true → WalkWithin past m p
  pub flashes : (p : ℕ) → is_phase p ≡ true → FlashWithin past m p
  pub after_dont : AfterDont past m
  pub green : OnGreen m.frame

module _ (s : Intersection) where
  pub colour-shown : (tick p : ℕ) (f : Frame) → s.shown tick ≡ shown_by f → colour_at s p tick ≡ colour_of f p
  colour-shown tick p f e = ap (λ (x : Indications). get_or x.colours (p - 1) Green) e

  pub signal-shown : (tick p : ℕ) (f : Frame) → s.shown tick ≡ shown_by f → signal_at s p tick ≡ signal_of f p
  signal-shown tick p f e = ap (λ (x : Indications). get_or x.signals (p - 1) Walk) e

  pub force-shown : (tick : ℕ) (past : List Moment) (m : Moment) → s.shown tick ≡ shown_by m.frame → Known s past m → in_force s tick ≡ m.tables
  force-shown tick past m e k = ap (λ (x : Indications). s.tables x.version) e ∙ k.tables

  pub way-shown : (tick p : ℕ) (past : List Moment) (m : Moment) → s.shown tick ≡ shown_by m.frame → Known s past m
      → way_at s p tick ≡ makes_way_for m.tables m.frame.mode p
  way-shown tick p past m e k =
      ap (λ (t : Tables). makes_way_for t (mode_at s tick) p) (force-shown tick past m e k)
      ∙ ap (λ (x : Indications). makes_way_for m.tables x.mode p) e

  -- what holds at a tick
  module _ (tick : ℕ) (past : List Moment) (m : Moment) (e : s.shown tick ≡ shown_by m.frame) (k : Known s past m) where
    at : (P : Tables → Type 0) → P (in_force s tick) → P m.tables
    at P h = subst P (force-shown tick past m e k) h

    pub apart-at : Apart s tick
    apart-at = record {
      colours = λ p q i. elim (cases_Bool (is_on m.frame p)) [
        | inl a ↦ elim (cases_Bool (is_on m.frame q)) [
          | inl b ↦ absurd (k.apart p q (at (λ t. are_incompatible t p q ≡ true) i) a b)
          | inr n ↦ inr (colour-shown tick q m.frame e ∙ red _ n)
        ]
        | inr n ↦ inl (colour-shown tick p m.frame e ∙ red _ n)
      ];
      signals = λ p q i. elim (k.quiet.walks p q (at (λ t. are_incompatible t p q ≡ true) i)) [
        | inl d ↦ inl (signal-shown tick p m.frame e ∙ d)
        | inr d ↦ inr (signal-shown tick q m.frame e ∙ d)
      ];
      disabled = λ p ph off.
          let dark : (is_on m.frame p ≡ false) × (signal_of m.frame p ≡ Dont) = k.quiet.disabled p ph (at (λ t. is_enabled t p ≡ false) off) in
          (colour-shown tick p m.frame e ∙ red _ dark.0, signal-shown tick p m.frame e ∙ dark.1);
    }

    pub green-at : (p : ℕ) → is_phase p ≡ true → (signal_at s p tick ≡ Dont) ⊎ (colour_at s p tick ≡ Green)
    green-at p ph = elim (k.green p ph) [
      | inl d ↦ inl (signal-shown tick p m.frame e ∙ d)
      | inr g ↦ inr (colour-shown tick p m.frame e ∙ g)
    ]

  -- from one tick to the next
  pub follows-at : (tick : ℕ) (past : List Moment) (m : Moment) → s.shown tick ≡ shown_by (last_frame past) → s.shown (tick + 1) ≡ shown_by m.frame
      → Known s past m → (p : ℕ) → is_phase p ≡ true → PhaseFollows s p tick
  follows-at tick past m e f k p ph =
      let was : colour_at s p tick ≡ colour_of (last_frame past) p = colour-shown tick p (last_frame past) e in
      let now : colour_at s p (tick + 1) ≡ colour_of m.frame p = colour-shown (tick + 1) p m.frame f in
      let signal_was : signal_at s p tick ≡ signal_of (last_frame past) p = signal-shown tick p (last_frame past) e in
      let signal_now : signal_at s p (tick + 1) ≡ signal_of m.frame p = signal-shown (tick + 1) p m.frame f in
      let force : in_force s (tick + 1) ≡ m.tables = force-shown (tick + 1) past m f k in
      let mode : mode_at s (tick + 1) ≡ m.frame.mode = ap (λ (x : Indications). x.mode) f in
      let ended : SignalEnds past m p = k.signals p ph in
      record {
        colour = λ ne. now
            ∙ colour-follows m.tables p (colour_of (last_frame past) p) (colour_of m.frame p) (k.follows p ph) (λ same. ne (now ∙ same ∙ sym was))
            ∙ ap (λ (t : Tables). next_colour t p (colour_of (last_frame past) p)) (sym force)
            ∙ ap (λ (c : Colour). next_colour (in_force s (tick + 1)) p c) (sym was);
        signal = λ ne. signal_now
            ∙ signal-follows m.tables m.frame.mode p (signal_of (last_frame past) p) (signal_of m.frame p)
            (λ a b. (ended.walk a b).1 ∙ ap (λ (n : ℕ). if n == 0 then Dont else Flash) (due m.frame.mode m.tables k.numbered))
            (λ a b. (ended.flash a b).1) (k.after_dont p ph) (λ same. ne (signal_now ∙ same ∙ sym signal_was))
            ∙ ap (λ (t : Tables). next_signal t m.frame.mode p (signal_of (last_frame past) p)) (sym force)
            ∙ ap (λ (x : Mode). next_signal (in_force s (tick + 1)) x p (signal_of (last_frame past) p)) (sym mode)
            ∙ ap (λ (c : Ped). next_signal (in_force s (tick + 1)) (mode_at s (tick + 1)) p c) (sym signal_was);
      }
    where
      due : (mode : Mode) (t : Tables) → Numbered mode
          → lesser_clear (lesser_in t mode p) (pedestrian_clear_time t p) ≡ clearance_due (makes_way_for t mode p) (pedestrian_clear_time t p)
      due mode t n =
          ap (λ (x : Lesser). lesser_clear x (pedestrian_clear_time t p)) (lesser-is t mode p n ph)
          ∙ clear-is (makes_way_for t mode p) (pedestrian_clear_time t p)
