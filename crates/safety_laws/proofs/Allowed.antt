-- A pedestrian clearance that a preempt cuts short is safe, and is refused for a phase that the preempt serves.
use Rattle.std.proofs.Common.{◌≡◌, ◌≢◌, ◌<◌, ◌≤◌, ◌+◌, ◌-◌, ◌==◌, ◌&&◌, ℕ, zero, suc, not, true, false, nat_le, List, ◌∷◌, replicate, get_or, inl}
use Rattle.std.proofs.Common.{inr, ◌⊎◌, refl, sym, ◌∙◌, ap, subst, arith}
use Rattle.std.proofs.lemmas.Bool.{le-leb, lt-leb, false≢true, cases_lt, cases_Bool, and_parts, eq-eqb, eqb-true, eqb-false}
use Rattle.std.proofs.lemmas.List.{get_or-replicate}
use Rattle.sig_types.specs.declared.frame.Colour.{Colour}
use Rattle.sig_types.specs.declared.frame.Colour.TheVariants.{Green, Yellow, Clear, Red}
use Rattle.sig_types.specs.declared.frame.Ped.{Ped}
use Rattle.sig_types.specs.declared.frame.Ped.TheVariants.{Walk, Flash, Dont}
use Rattle.sig_types.specs.Phases.{is_phase}
use Rattle.sig_types.proofs.Lists.{phase-in}
use Rattle.sig_tables.specs.declared.tables.Tables.{Tables}
use Rattle.sig_tables.specs.Tables.{is_enabled, pedestrian_clear_time}
use Rattle.sig_tables.specs.Sides.{are_incompatible, are_concurrent}
use Rattle.sig_tables.specs.Standard.{max8, standard, pair}
use Rattle.sig_tables.proofs.Below.{enabled-phase}
use Rattle.tick_laws.proofs.Choices.{differs, differs-signal}
use Rattle.safety_laws.specs.Safe.{Intersection, intersection_of, colour_at, signal_at, mode_at, in_force, way_at, Apart, clearance_due, next_signal}
use Rattle.safety_laws.specs.Safe.{PhaseFollows, Interval, Lasts, Safe}
use Rattle.safety_laws.specs.Rows.{IsRefusedWith, preempted, cut_flash}

-- of sixteen only the second differs from the first
second-alone : {A : Type 0} (x y d : A) (p : ℕ) → is_phase p ≡ true → p ≢ 2 → get_or (x ∷ y ∷ replicate 14 x) (p - 1) d ≡ x
second-alone x y d zero ph ne = absurd (false≢true ph)
second-alone x y d (suc zero) ph ne = refl
second-alone x y d (suc (suc zero)) ph ne = absurd (ne refl)
second-alone x y d (suc (suc (suc k))) ph ne =
    let high : suc (suc (suc k)) ≤ 16 = (phase-in _ ph).1 in
    let low : k < 14 = omega arith in
    let place : suc (suc (suc k)) - 1 ≡ suc (suc k) = omega arith in
    rw place (get_or-replicate 14 k x d low)

module _ (tables : ℕ → Tables) where
  abbrev cut : Intersection
  cut = intersection_of 1 tables cut_flash

  green-stands : (tick : ℕ) → (cut.shown tick).colours ≡ Red ∷ Green ∷ replicate 14 Red
  green-stands tick =
      let n : 0 ≤ tick = omega arith in
      let first : nat_le 0 tick ≡ true = le-leb 0 tick n in
      elim (cases_Bool (nat_le 30 tick)) [
        | inl second ↦ elim (cases_Bool (nat_le 80 tick)) [
          | inl third ↦ rw (first, second, third) refl
          | inr third ↦ rw (first, second, third) refl
        ]
        | inr second ↦ elim (cases_Bool (nat_le 80 tick)) [
          | inl third ↦ rw (first, second, third) refl
          | inr third ↦ rw (first, second, third) refl
        ]
      ]

  flash-stands : (tick : ℕ) → tick < 80 → (cut.shown tick).signals ≡ Dont ∷ Flash ∷ replicate 14 Dont
  flash-stands tick h =
      let n : 0 ≤ tick = omega arith in
      let first : nat_le 0 tick ≡ true = le-leb 0 tick n in
      let third : nat_le 80 tick ≡ false = lt-leb 80 tick h in
      elim (cases_Bool (nat_le 30 tick)) [ inl second ↦ rw (first, second, third) refl | inr second ↦ rw (first, second, third) refl ]

  dont-stands : (tick : ℕ) → 80 ≤ tick → (cut.shown tick).signals ≡ replicate 16 Dont
  dont-stands tick h =
      let third : nat_le 80 tick ≡ true = le-leb 80 tick h in
      rw third refl

  -- what each phase shows
  second-green : (tick : ℕ) → colour_at cut 2 tick ≡ Green
  second-green tick = ap (λ (x : List Colour). get_or x 1 Green) (green-stands tick)

  other-red : (p tick : ℕ) → is_phase p ≡ true → p ≢ 2 → colour_at cut p tick ≡ Red
  other-red p tick ph ne = ap (λ (x : List Colour). get_or x (p - 1) Green) (green-stands tick) ∙ second-alone Red Green Green p ph ne

  second-flash : (tick : ℕ) → tick < 80 → signal_at cut 2 tick ≡ Flash
  second-flash tick h = ap (λ (x : List Ped). get_or x 1 Walk) (flash-stands tick h)

  second-dont : (tick : ℕ) → 80 ≤ tick → signal_at cut 2 tick ≡ Dont
  second-dont tick h = ap (λ (x : List Ped). get_or x 1 Walk) (dont-stands tick h)

  other-dont : (p tick : ℕ) → is_phase p ≡ true → p ≢ 2 → signal_at cut p tick ≡ Dont
  other-dont p tick ph ne = elim (cases_lt tick 80) [
    | inl low ↦ ap (λ (x : List Ped). get_or x (p - 1) Walk) (flash-stands tick low) ∙ second-alone Dont Flash Walk p ph ne
    | inr high ↦
        ap (λ (x : List Ped). get_or x (p - 1) Walk) (dont-stands tick high)
        ∙ (let k : (0 < p) × (p ≤ 16) = phase-in p ph in let l : p - 1 < 16 = omega arith in get_or-replicate 16 (p - 1) Dont Walk l)
  ]

  -- the clearance of phase 2 is the only interval that ends
  whole : (first end : ℕ) → Interval (λ tick. signal_at cut 2 tick ≡ Flash) first end → (first ≡ 0) × (end ≡ 80)
  whole first end i =
      let some : first < end = i.some in
      let early : (end ≤ 80) = elim (cases_lt 80 end) [
        | inl l ↦
            let low : first ≤ end - 1 = omega arith in
            let high : end - 1 < end = omega arith in
            let late : 80 ≤ end - 1 = omega arith in
            absurd (differs-signal Dont Flash refl (sym (second-dont (end - 1) late) ∙ i.during (end - 1) low high))
        | inr l ↦ l
      ] in
      let late : 80 ≤ end = elim (cases_lt end 80) [ inl l ↦ absurd (i.after (second-flash end l)) | inr l ↦ l ] in
      let start : first ≡ 0 = from first some early i.before in
      (start, omega arith)
    where
      from : (first : ℕ) → first < end → end ≤ 80 → ((tick : ℕ) → tick + 1 ≡ first → ¬ (signal_at cut 2 tick ≡ Flash)) → first ≡ 0
      from zero some early before = refl
      from (suc k) some early before =
          let low : k < 80 = omega (arith, some, early) in
          let next : k + 1 ≡ suc k = omega arith in
          absurd (before k next (second-flash k low))

-- the tables with a preempt that serves phases 4 and 8
abbrev tables : ℕ → Tables
tables version = preempted (pair 4 8) version

abbrev street : Intersection
street = intersection_of 1 tables cut_flash

is-second : (p : ℕ) → (p ≡ 2) ⊎ (p ≢ 2)
is-second p = elim (cases_Bool (p == 2)) [ inl e ↦ inl (eqb-true p 2 e) | inr e ↦ inr (eqb-false p 2 e) ]

-- of two incompatible phases one isn't phase 2
other : (t : Tables) (p q : ℕ) → are_incompatible t p q ≡ true
    → ((is_phase p ≡ true) × (p ≢ 2)) ⊎ ((is_phase q ≡ true) × (q ≢ 2))
other t p q i =
    let both = and_parts (is_enabled t p && is_enabled t q && not (p == q)) (not (are_concurrent t p q)) i in
    let three = and_parts (is_enabled t p && is_enabled t q) (not (p == q)) both.0 in
    let two = and_parts (is_enabled t p) (is_enabled t q) three.0 in
    elim (is-second p) [
      | inl e ↦ elim (is-second q) [
        | inl f ↦ absurd (false≢true (sym (same p q (e ∙ sym f)) ∙ three.1))
        | inr n ↦ inr (enabled-phase t q two.1, n)
      ]
      | inr n ↦ inl (enabled-phase t p two.0, n)
    ]
  where
    same : (p q : ℕ) → p ≡ q → not (p == q) ≡ false
    same p q e = let t : (p == q) ≡ true = eq-eqb p q e in rw t refl

second-lit : (p : ℕ) → p ≡ 2 → (version : ℕ) → is_enabled (tables version) p ≡ false → ⊥
unfolding max8 standard preempted
second-lit p e version off = false≢true (sym off ∙ ap (λ (x : ℕ). is_enabled (tables version) x) e)

cut-apart : (tick : ℕ) → Apart street tick
cut-apart tick = record {
  colours = λ p q i. elim (other (preempted (pair 4 8) (street.shown tick).version) p q i) [
    | inl o ↦ inl (other-red tables p tick o.0 o.1)
    | inr o ↦ inr (other-red tables q tick o.0 o.1)
  ];
  signals = λ p q i. elim (other (preempted (pair 4 8) (street.shown tick).version) p q i) [
    | inl o ↦ inl (other-dont tables p tick o.0 o.1)
    | inr o ↦ inr (other-dont tables q tick o.0 o.1)
  ];
  disabled = λ p ph off. elim (is-second p) [
    | inl e ↦ absurd (second-lit p e ((street.shown tick).version) off)
    | inr n ↦ (other-red tables p tick ph n, other-dont tables p tick ph n)
  ];
}

-- where the second holds and each other holds, all hold
by-phase : (P : ℕ → Type 0) → P 2 → ((p : ℕ) → is_phase p ≡ true → p ≢ 2 → P p) → (p : ℕ) → is_phase p ≡ true → P p
by-phase P second others p ph = elim (is-second p) [ inl e ↦ subst P (sym e) second | inr n ↦ others p ph n ]

colours-stay : (p tick : ℕ) → colour_at street p (tick + 1) ≡ colour_at street p tick
colours-stay p tick = ap (λ (x : List Colour). get_or x (p - 1) Green) (green-stands tables (tick + 1) ∙ sym (green-stands tables tick))

second-follows : (tick : ℕ) → PhaseFollows street 2 tick
second-follows tick = record {
  colour = λ ne. absurd (ne (colours-stay 2 tick));
  signal = λ ne. elim (cases_lt (tick + 1) 80) [
    | inl l ↦ let low : tick < 80 = omega arith in absurd (ne (second-flash tables (tick + 1) l ∙ sym (second-flash tables tick low)))
    | inr h ↦ elim (cases_lt tick 80) [
      | inl low ↦
          second-dont tables (tick + 1) h
          ∙ sym (ap (λ (x : Ped). next_signal (in_force street (tick + 1)) (mode_at street (tick + 1)) 2 x) (second-flash tables tick low))
      | inr high ↦ absurd (ne (second-dont tables (tick + 1) h ∙ sym (second-dont tables tick high)))
    ]
  ];
}

cut-follows : (p tick : ℕ) → is_phase p ≡ true → PhaseFollows street p tick
cut-follows p tick = by-phase (λ x. PhaseFollows street x tick) (second-follows tick) (λ q ph ne. record {
  colour = λ other. absurd (other (colours-stay q tick));
  signal = λ other. absurd (other (other-dont tables q (tick + 1) ph ne ∙ sym (other-dont tables q tick ph ne)));
}) p

-- what is so at none of the ticks has no interval
none : (holds : ℕ → Type 0) (first end : ℕ) → ((tick : ℕ) → ¬ holds tick) → Interval holds first end → ⊥
none holds first end never i = let some : first < end = i.some in let low : first ≤ first = omega arith in never first (i.during first low some)

no-walk : (tick : ℕ) → ¬ (signal_at street 2 tick ≡ Walk)
no-walk tick e = elim (cases_lt tick 80) [
  | inl low ↦ differs-signal Flash Walk refl (sym (second-flash tables tick low) ∙ e)
  | inr high ↦ differs-signal Dont Walk refl (sym (second-dont tables tick high) ∙ e)
]

cut-due : (first end : ℕ) → first ≡ 0 → end ≡ 80
    → (first + clearance_due (way_at street 2 end) (pedestrian_clear_time (in_force street first) 2) ≤ end)
    × (end ≤ first + pedestrian_clear_time (in_force street first) 2)
unfolding max8 standard preempted
cut-due first end a b = rw (a, b) (omega arith, omega arith)

second-lasts : (first end : ℕ) → Lasts street 2 first end
second-lasts first end = record {
  yellow = λ i. absurd (none _ first end (λ tick e. differs Green Yellow refl (sym (second-green tables tick) ∙ e)) i);
  clear = λ i. absurd (none _ first end (λ tick e. differs Green Clear refl (sym (second-green tables tick) ∙ e)) i);
  green = λ i. absurd (i.after (second-green tables end));
  walk = λ i. absurd (none _ first end no-walk i);
  flash = λ i. let at : (first ≡ 0) × (end ≡ 80) = whole tables first end i in cut-due first end at.0 at.1;
}

cut-lasts : (p first end : ℕ) → is_phase p ≡ true → Lasts street p first end
cut-lasts p first end = by-phase (λ x. Lasts street x first end) (second-lasts first end) (λ q ph ne. record {
  yellow = λ i. absurd (none _ first end (λ tick e. differs Red Yellow refl (sym (other-red tables q tick ph ne) ∙ e)) i);
  clear = λ i. absurd (none _ first end (λ tick e. differs Red Clear refl (sym (other-red tables q tick ph ne) ∙ e)) i);
  green = λ i. absurd (none _ first end (λ tick e. differs Red Green refl (sym (other-red tables q tick ph ne) ∙ e)) i);
  walk = λ i. absurd (none _ first end (λ tick e. differs-signal Dont Walk refl (sym (other-dont tables q tick ph ne) ∙ e)) i);
  flash = λ i. absurd (none _ first end (λ tick e. differs-signal Dont Flash refl (sym (other-dont tables q tick ph ne) ∙ e)) i);
}) p

pub cut-safe : Safe (intersection_of 1 (preempted (pair 4 8)) cut_flash)
cut-safe = record {
  apart = cut-apart;
  follows = cut-follows;
  lasts = cut-lasts;
  on_green = λ p tick ph. by-phase (λ x. (signal_at street x tick ≡ Dont) ⊎ (colour_at street x tick ≡ Green))
      (inr (second-green tables tick)) (λ q qh ne. inl (other-dont tables q tick qh ne)) p ph;
}

-- where the preempt serves phase 2 itself, the whole clearance is expected
pub served_cut-refused : IsRefusedWith (preempted (pair 2 6)) cut_flash
unfolding max8 standard preempted
served_cut-refused safe =
    let e : 120 ≤ 80 = ((safe.lasts 2 0 80 refl).flash (record {
      some = omega arith;
      during = λ tick low high. second-flash (preempted (pair 2 6)) tick high;
      before = λ tick e. absurd (omega (arith, e));
      after = differs-signal Dont Flash refl;
    })).0 in
    absurd (omega (arith, e))
