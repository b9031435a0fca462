-- A street is safe at every tick where each line that makes it shows no breach.
use Rattle.std.proofs.Common.{◌≡◌, ◌≢◌, ℕ, ◌+◌, ◌-◌, ◌<◌, ◌≤◌, ◌==◌, Bool, true, false, not, List, [], ◌∷◌, refl, ◌∙◌, ap, arith, inl, ◌⊎◌}
use Rattle.std.proofs.lemmas.List.{get_or-replicate}
use Rattle.sig_types.specs.declared.frame.Colour.{Colour}
use Rattle.sig_types.specs.declared.frame.Colour.TheVariants.{Green, Yellow, Clear, Red}
use Rattle.sig_types.specs.declared.frame.Ped.{Ped}
use Rattle.sig_types.specs.declared.frame.Ped.TheVariants.{Walk, Flash, Dont}
use Rattle.sig_types.specs.Colour.{same_colour, same_signal}
use Rattle.sig_types.specs.Phases.{is_phase}
use Rattle.sig_types.proofs.Lists.{phase-in}
use Rattle.sig_tables.specs.declared.tables.Tables.{Tables}
use Rattle.sig_tables.specs.Tables.{is_enabled, least_green, yellow_time, red_clear_time, walk_time, pedestrian_clear_time}
use Rattle.sig_tables.specs.Sides.{are_incompatible, are_concurrent}
use Rattle.tick_laws.proofs.Choices.{same-self, same-is, same-self-signal, same-is-signal}
use Rattle.safety_laws.specs.Safe.{Indications, dark, Intersection, Interval, Safe, makes_way_for, green_due, walk_due, clearance_due, next_colour, next_signal}
use Rattle.judge_laws.specs.Breaches.{colour_of, signal_of, shows, gives, newest, first_of, Falls}
use Rattle.judge_laws.proofs.Tests.{both-of, first-of-four}
use Rattle.judge_laws.proofs.Runs.{back_at, Always, always-more, always-now, always-less, Steps, steps-more, steps-now, steps-less}
use Rattle.judge_laws.proofs.Ended.{Held, EachDue, due-now, due-more, due-less}

-- a phase of a dark cabinet
pub dark-colour : (p : ℕ) → is_phase p ≡ true → colour_of dark p ≡ Red
dark-colour p ph =
    let k : (0 < p) × (p ≤ 16) = phase-in p ph in
    let l : p - 1 < 16 = omega arith in
    get_or-replicate 16 (p - 1) Red _ l

pub dark-signal : (p : ℕ) → is_phase p ≡ true → signal_of dark p ≡ Dont
dark-signal p ph =
    let k : (0 < p) × (p ≤ 16) = phase-in p ph in
    let l : p - 1 < 16 = omega arith in
    get_or-replicate 16 (p - 1) Dont Walk l

-- what is shown, and the test of it
pub is-shown : (c : Colour) (p : ℕ) (x : Indications) → colour_of x p ≡ c → shows c p x ≡ true
is-shown c p x e = ap (λ (y : Colour). same_colour y c) e ∙ same-self c

pub is-given : (c : Ped) (p : ℕ) (x : Indications) → signal_of x p ≡ c → gives c p x ≡ true
is-given c p x e = ap (λ (y : Ped). same_signal y c) e ∙ same-self-signal c

-- an interval of a fact is one of another that says the same
pub interval-as : (P Q : ℕ → Type 0) → ((t : ℕ) → P t → Q t) → ((t : ℕ) → Q t → P t) → (first end : ℕ) → Interval P first end → Interval Q first end
interval-as P Q there back first end i = record {
  some = i.some;
  during = λ t from below. there t (i.during t from below);
  before = λ t next h. i.before t next (back t h);
  after = λ h. i.after (back end h);
}

module _ (tables : ℕ → Tables) where
  -- what holds at each tick
  pub record Still (x : Indications) : Type 0 where
    pub colours : (p q : ℕ) → are_incompatible (tables x.version) p q ≡ true → (colour_of x p ≡ Red) ⊎ (colour_of x q ≡ Red)
    pub signals : (p q : ℕ) → are_incompatible (tables x.version) p q ≡ true → (signal_of x p ≡ Dont) ⊎ (signal_of x q ≡ Dont)
    pub disabled : (p : ℕ) → is_phase p ≡ true → is_enabled (tables x.version) p ≡ false → (colour_of x p ≡ Red) × (signal_of x p ≡ Dont)
    pub on_green : (p : ℕ) → is_phase p ≡ true → (signal_of x p ≡ Dont) ⊎ (colour_of x p ≡ Green)

  -- what holds of a tick and the next
  pub record Moved (p : ℕ) (last x : Indications) : Type 0 where
    pub colour : colour_of x p ≢ colour_of last p → colour_of x p ≡ next_colour (tables x.version) p (colour_of last p)
    pub signal : signal_of x p ≢ signal_of last p → signal_of x p ≡ next_signal (tables x.version) x.mode p (signal_of last p)

  -- what is expected of each interval
  abbrev pub YellowDue : ℕ → ℕ × Indications → ℕ × Indications → Type 0
  YellowDue p first end = end.0 ≡ first.0 + yellow_time (tables first.1.version) p

  abbrev pub ClearDue : ℕ → ℕ × Indications → ℕ × Indications → Type 0
  ClearDue p first end = end.0 ≡ first.0 + red_clear_time (tables first.1.version) p

  abbrev pub GreenDue : ℕ → ℕ × Indications → ℕ × Indications → Type 0
  GreenDue p first end =
      first.0 + green_due (makes_way_for (tables end.1.version) end.1.mode p) (least_green (tables first.1.version) p) ≤ end.0

  abbrev pub WalkDue : ℕ → ℕ × Indications → ℕ × Indications → Type 0
  WalkDue p first end =
      (first.0 + walk_due (makes_way_for (tables end.1.version) end.1.mode p) (walk_time (tables first.1.version) p) ≤ end.0)
      × (end.0 ≤ first.0 + walk_time (tables first.1.version) p)

  abbrev pub FlashDue : ℕ → ℕ × Indications → ℕ × Indications → Type 0
  FlashDue p first end =
      (first.0 + clearance_due (makes_way_for (tables end.1.version) end.1.mode p) (pedestrian_clear_time (tables first.1.version) p) ≤ end.0)
      × (end.0 ≤ first.0 + pedestrian_clear_time (tables first.1.version) p)

  -- a line ends no interval of a fact but as is expected
  abbrev pub EndsDue : (Indications → Bool) → (ℕ × Indications → ℕ × Indications → Type 0) → List (ℕ × Indications) → ℕ × Indications → Type 0
  EndsDue holds D older line = holds (newest older) ≡ true → holds line.1 ≡ false → D (first_of holds older) line

  -- a line is as a safe street shows it, after what was reported before
  pub record Fine (older : List (ℕ × Indications)) (line : ℕ × Indications) : Type 0 where
    pub still : Still line.1
    pub moved : (p : ℕ) → is_phase p ≡ true → 0 < line.0 → Moved p (newest older) line.1
    pub yellow : (p : ℕ) → is_phase p ≡ true → EndsDue (shows Yellow p) (YellowDue p) older line
    pub clear : (p : ℕ) → is_phase p ≡ true → EndsDue (shows Clear p) (ClearDue p) older line
    pub green : (p : ℕ) → is_phase p ≡ true → EndsDue (shows Green p) (GreenDue p) older line
    pub walk : (p : ℕ) → is_phase p ≡ true → EndsDue (gives Walk p) (WalkDue p) older line
    pub flash : (p : ℕ) → is_phase p ≡ true → EndsDue (gives Flash p) (FlashDue p) older line

  abbrev pub AllFine : List (ℕ × Indications) → Type 0
  AllFine [] = Unit {0}
  AllFine (line ∷ older) = AllFine older × Fine older line

  -- the same of all ticks
  pub record Parts (back : List (ℕ × Indications)) : Type 0 where
    pub still : Always Still back
    pub moved : (p : ℕ) → is_phase p ≡ true → Steps (Moved p) back
    pub yellow : (p : ℕ) → is_phase p ≡ true → EachDue (shows Yellow p) (YellowDue p) back
    pub clear : (p : ℕ) → is_phase p ≡ true → EachDue (shows Clear p) (ClearDue p) back
    pub green : (p : ℕ) → is_phase p ≡ true → EachDue (shows Green p) (GreenDue p) back
    pub walk : (p : ℕ) → is_phase p ≡ true → EachDue (gives Walk p) (WalkDue p) back
    pub flash : (p : ℕ) → is_phase p ≡ true → EachDue (gives Flash p) (FlashDue p) back

  no-move : (p : ℕ) (x : Indications) → Moved p x x
  no-move p x = record { colour = λ ne. absurd (ne refl); signal = λ ne. absurd (ne refl) }

  enabled-phase : (t : Tables) (p : ℕ) → is_enabled t p ≡ true → is_phase p ≡ true
  enabled-phase t p e = (both-of (is_phase p) _ e).0

  dark-still : Still dark
  dark-still = record {
    colours = λ p q h. inl (dark-colour p (one-enabled p q h));
    signals = λ p q h. inl (dark-signal p (one-enabled p q h));
    disabled = λ p ph off. (dark-colour p ph, dark-signal p ph);
    on_green = λ p ph. inl (dark-signal p ph);
  }
    where
      one-enabled : (p q : ℕ) → are_incompatible (tables 0) p q ≡ true → is_phase p ≡ true
      one-enabled p q h = enabled-phase (tables 0) p (first-of-four (is_enabled (tables 0) p) (is_enabled (tables 0) q) (not (p == q)) (not (are_concurrent (tables 0) p q)) h).0

  dark-shows : (c : Colour) → same_colour Red c ≡ false → (p : ℕ) → is_phase p ≡ true → shows c p dark ≡ false
  dark-shows c e p ph = ap (λ (y : Colour). same_colour y c) (dark-colour p ph) ∙ e

  dark-gives : (c : Ped) → same_signal Dont c ≡ false → (p : ℕ) → is_phase p ≡ true → gives c p dark ≡ false
  dark-gives c e p ph = ap (λ (y : Ped). same_signal y c) (dark-signal p ph) ∙ e

  no-interval : (holds : Indications → Bool) (D : ℕ × Indications → ℕ × Indications → Type 0) → EachDue holds D []
  no-interval holds D first end i = absurd (i.after (i.during first (omega arith) i.some))

  pub parts-none : Parts []
  parts-none = record {
    still = λ t. dark-still;
    moved = λ p ph t. no-move p dark;
    yellow = λ p ph. no-interval (shows Yellow p) (YellowDue p);
    clear = λ p ph. no-interval (shows Clear p) (ClearDue p);
    green = λ p ph. no-interval (shows Green p) (GreenDue p);
    walk = λ p ph. no-interval (gives Walk p) (WalkDue p);
    flash = λ p ph. no-interval (gives Flash p) (FlashDue p);
  }

  pub parts-more : (line : ℕ × Indications) (older : List (ℕ × Indications)) → Falls (line ∷ older) → Parts older → Fine older line → Parts (line ∷ older)
  parts-more line older falls all now = record {
    still = always-more Still line older all.still now.still;
    moved = λ p ph. steps-more (Moved p) (no-move p) line older falls.0 (all.moved p ph) (now.moved p ph);
    yellow = λ p ph. due-more (shows Yellow p) (dark-shows Yellow refl p ph) (YellowDue p) line older falls (all.yellow p ph) (now.yellow p ph);
    clear = λ p ph. due-more (shows Clear p) (dark-shows Clear refl p ph) (ClearDue p) line older falls (all.clear p ph) (now.clear p ph);
    green = λ p ph. due-more (shows Green p) (dark-shows Green refl p ph) (GreenDue p) line older falls (all.green p ph) (now.green p ph);
    walk = λ p ph. due-more (gives Walk p) (dark-gives Walk refl p ph) (WalkDue p) line older falls (all.walk p ph) (now.walk p ph);
    flash = λ p ph. due-more (gives Flash p) (dark-gives Flash refl p ph) (FlashDue p) line older falls (all.flash p ph) (now.flash p ph);
  }

  pub parts-now : (line : ℕ × Indications) (older : List (ℕ × Indications)) → Falls (line ∷ older) → Parts (line ∷ older) → Fine older line
  parts-now line older falls all = record {
    still = always-now Still line older all.still;
    moved = λ p ph some. steps-now (Moved p) line older falls.0 (all.moved p ph) some;
    yellow = λ p ph. due-now (shows Yellow p) (dark-shows Yellow refl p ph) (YellowDue p) line older falls (all.yellow p ph);
    clear = λ p ph. due-now (shows Clear p) (dark-shows Clear refl p ph) (ClearDue p) line older falls (all.clear p ph);
    green = λ p ph. due-now (shows Green p) (dark-shows Green refl p ph) (GreenDue p) line older falls (all.green p ph);
    walk = λ p ph. due-now (gives Walk p) (dark-gives Walk refl p ph) (WalkDue p) line older falls (all.walk p ph);
    flash = λ p ph. due-now (gives Flash p) (dark-gives Flash refl p ph) (FlashDue p) line older falls (all.flash p ph);
  }

  pub parts-less : (line : ℕ × Indications) (older : List (ℕ × Indications)) → Falls (line ∷ older) → Parts (line ∷ older) → Parts older
  parts-less line older falls all = record {
    still = always-less Still dark-still line older falls.0 all.still;
    moved = λ p ph. steps-less (Moved p) (no-move p) line older falls.0 (all.moved p ph);
    yellow = λ p ph. due-less (shows Yellow p) (dark-shows Yellow refl p ph) (YellowDue p) line older falls (all.yellow p ph);
    clear = λ p ph. due-less (shows Clear p) (dark-shows Clear refl p ph) (ClearDue p) line older falls (all.clear p ph);
    green = λ p ph. due-less (shows Green p) (dark-shows Green refl p ph) (GreenDue p) line older falls (all.green p ph);
    walk = λ p ph. due-less (gives Walk p) (dark-gives Walk refl p ph) (WalkDue p) line older falls (all.walk p ph);
    flash = λ p ph. due-less (gives Flash p) (dark-gives Flash refl p ph) (FlashDue p) line older falls (all.flash p ph);
  }

  pub all-parts : (back : List (ℕ × Indications)) → Falls back → AllFine back → Parts back
  all-parts [] falls all = parts-none
  all-parts (line ∷ older) falls all = parts-more line older falls (all-parts older falls.1 all.0) all.1

  pub parts-all : (back : List (ℕ × Indications)) → Falls back → Parts back → AllFine back
  parts-all [] falls all = tt
  parts-all (line ∷ older) falls all = (parts-all older falls.1 (parts-less line older falls all), parts-now line older falls all)

  -- a street that shows this at each tick
  abbrev pub street : List (ℕ × Indications) → Intersection
  street back = record { tables = tables; shown = back_at back }

  -- intervals of colours and of signals
  colour-held : (back : List (ℕ × Indications)) (c : Colour) (p first end : ℕ) → Interval (λ t. colour_of (back_at back t) p ≡ c) first end → Interval (Held (shows c p) back) first end
  colour-held back c p first end i = interval-as (λ t. colour_of (back_at back t) p ≡ c) (Held (shows c p) back)
      (λ t e. is-shown c p (back_at back t) e) (λ t e. same-is (colour_of (back_at back t) p) c e) first end i

  held-colour : (back : List (ℕ × Indications)) (c : Colour) (p first end : ℕ) → Interval (Held (shows c p) back) first end → Interval (λ t. colour_of (back_at back t) p ≡ c) first end
  held-colour back c p first end i = interval-as (Held (shows c p) back) (λ t. colour_of (back_at back t) p ≡ c)
      (λ t e. same-is (colour_of (back_at back t) p) c e) (λ t e. is-shown c p (back_at back t) e) first end i

  signal-held : (back : List (ℕ × Indications)) (c : Ped) (p first end : ℕ) → Interval (λ t. signal_of (back_at back t) p ≡ c) first end → Interval (Held (gives c p) back) first end
  signal-held back c p first end i = interval-as (λ t. signal_of (back_at back t) p ≡ c) (Held (gives c p) back)
      (λ t e. is-given c p (back_at back t) e) (λ t e. same-is-signal (signal_of (back_at back t) p) c e) first end i

  held-signal : (back : List (ℕ × Indications)) (c : Ped) (p first end : ℕ) → Interval (Held (gives c p) back) first end → Interval (λ t. signal_of (back_at back t) p ≡ c) first end
  held-signal back c p first end i = interval-as (Held (gives c p) back) (λ t. signal_of (back_at back t) p ≡ c)
      (λ t e. same-is-signal (signal_of (back_at back t) p) c e) (λ t e. is-given c p (back_at back t) e) first end i

  pub parts-safe : (back : List (ℕ × Indications)) → Parts back → Safe (street back)
  parts-safe back all = record {
    apart = λ t. record { colours = (all.still t).colours; signals = (all.still t).signals; disabled = (all.still t).disabled };
    follows = λ p t ph. record { colour = (all.moved p ph t).colour; signal = (all.moved p ph t).signal };
    lasts = λ p first end ph. record {
      yellow = λ i. all.yellow p ph first end (colour-held back Yellow p first end i);
      clear = λ i. all.clear p ph first end (colour-held back Clear p first end i);
      green = λ i. all.green p ph first end (colour-held back Green p first end i);
      walk = λ i. all.walk p ph first end (signal-held back Walk p first end i);
      flash = λ i. all.flash p ph first end (signal-held back Flash p first end i);
    };
    on_green = λ p t ph. (all.still t).on_green p ph;
  }

  pub safe-parts : (back : List (ℕ × Indications)) → Safe (street back) → Parts back
  safe-parts back safe = record {
    still = λ t. record {
      colours = (safe.apart t).colours;
      signals = (safe.apart t).signals;
      disabled = (safe.apart t).disabled;
      on_green = λ p ph. safe.on_green p t ph;
    };
    moved = λ p ph t. record { colour = (safe.follows p t ph).colour; signal = (safe.follows p t ph).signal };
    yellow = λ p ph first end i. (safe.lasts p first end ph).yellow (held-colour back Yellow p first end i);
    clear = λ p ph first end i. (safe.lasts p first end ph).clear (held-colour back Clear p first end i);
    green = λ p ph first end i. (safe.lasts p first end ph).green (held-colour back Green p first end i);
    walk = λ p ph first end i. (safe.lasts p first end ph).walk (held-signal back Walk p first end i);
    flash = λ p ph first end i. (safe.lasts p first end ph).flash (held-signal back Flash p first end i);
  }
