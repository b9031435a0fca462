-- What is kept of a detector represents a round with its pulses taken, and still represents it while none comes.
use Rattle.std.proofs.Common.{◌≡◌, ◌⊎◌, inl, inr, ℕ, zero, suc, ◌+◌, ◌-◌, ◌*◌, ◌%◌, ◌^◌, ◌<◌, ◌≤◌, ◌==◌, ◌||◌, Bool, true, false, if◌then◌else◌, nat_lt, min, List, [], length, replicate, get_or, get_or-set_same, get_or-set_other, refl, sym, ap, ap₂, ◌∙◌, subst, add-one, arith}
use Rattle.std.specs.Prelude.{slice_set}
use Rattle.std.proofs.lemmas.Bool.{ltb-true, ltb-false, lt-ltb, le-ltb}
use Rattle.std.proofs.lemmas.Bool.Decides.{Decides-eqb}
use Rattle.detector_bank.specs.declared.bank.Detector.{Detector}
use Rattle.detector_bank.specs.declared.bank.Pulse.{Pulse}
use Rattle.detector_bank.specs.declared.watch.Watch.{Watch}
use Rattle.detector_bank.specs.Pulses.{flags, after, any_on, some_pulse, edges_from, edges_in, state, active}
use Rattle.detector_bank.specs.Bank.{quiet, present, latest_edges, past_delay, lately_past}
use Rattle.detector_bank.specs.Watching.{present_at, lately_at, edges_at, Counts, Watches}
use Rattle.detector_bank.proofs.Counting.{slot-other, zeros, fewer, latest-few}
use Rattle.detector_bank.proofs.Reaching.{other-number, same-number, or-none, still-present, none-present, present-few, now-only, lately-still, lately-next, first-next}

pub watch-start : (d : Detector) (ps : List Pulse) → length ps ≤ 1000000
    → Watches (record { on = false; last_pulse = 0; last_on = 0; last_inactive = 0; last_past_delay = 0; most = 0; rounds = replicate 60 0; edges = replicate 60 0 }) d ps 0
watch-start d ps few = record {
  few = few;
  on = refl;
  last_pulse = refl;
  present = refl;
  last_on = omega arith;
  last_inactive = omega arith;
  last_past_delay = omega arith;
  lately = λ n. sym (ap (λ b. b || false) (le-ltb d.delay 0 (omega arith)));
  ended = λ off is. refl;
  most = none-more (latest_edges d ps 60 0) refl;
  counts = record {
    past = λ i. none-more (get_or (replicate 60 0) i 0) (zeros 60 i 0);
    edges = λ r low near.
        let first : r ≡ 0 = omega arith in
        ap (λ m. edges_in d ps m) first ∙ either (get_or (replicate 60 0) (r % 60) 0 == r) (get_or (replicate 60 0) (r % 60) 0) (zeros 60 (r % 60) 0);
  };
}
  where
    none-more : (n : ℕ) → n ≡ 0 → n ≤ 0
    none-more n e = omega (arith, e)

    either : (b : Bool) (n : ℕ) → n ≡ 0 → 0 ≡ (if b then n else 0)
    either true n e = sym e
    either false n e = refl

-- where it is past its delay some rounds have gone by
begun : (w : Watch) (delay j : ℕ) → nat_lt delay (present_at w j) ≡ true → 0 < j
begun w delay j past = let more = ltb-true delay (present_at w j) past in let few = present-few (w.on || (w.last_on == j)) w.last_inactive j in omega (arith, more, few)

-- a round without a pulse
quiet-counts : (w : Watch) (d : Detector) (ps : List Pulse) (j : ℕ) → edges_in d ps (suc j) ≡ 0 → Counts w d ps j → Counts w d ps (suc j)
quiet-counts w d ps j none h = record {
  past = λ i. let low = h.past i in omega (arith, low);
  edges = λ r low near. at r low near (nat_lt j r) refl;
}
  where
    at : (r : ℕ) → r ≤ suc j → suc j < r + 60 → (b : Bool) → nat_lt j r ≡ b → edges_in d ps r ≡ edges_at w r
    at r low near false e = let back = ltb-false j r e in h.edges r back (omega (arith, near))
    at r low near true e =
        let now = ltb-true j r e in
        let is : r ≡ suc j = omega (arith, now, low) in
        let early = h.past (r % 60) in
        ap (λ n. edges_in d ps n) is ∙ none ∙ sym (ap (λ b. if b then get_or w.edges (r % 60) 0 else 0) (other-number (get_or w.rounds (r % 60) 0) r (λ e. omega (arith, e, early, now))))

pub watch-quiet : (w : Watch) (d : Detector) (ps : List Pulse) (j : ℕ) → flags d ps (suc j) ≡ [] → Watches w d ps j → Watches w d ps (suc j)
watch-quiet w d ps j none h = record {
  few = h.few;
  on = now;
  last_pulse = ap (λ n. w.last_pulse + n) longer ∙ sums w.last_pulse (quiet d ps j) j h.last_pulse;
  present = there;
  last_on = let low = h.last_on in omega (arith, low);
  last_inactive = let low = h.last_inactive in omega (arith, low);
  last_past_delay = let low = h.last_past_delay in omega (arith, low);
  lately = λ n. late n;
  ended = λ off past. let x = ltb-true d.delay (present_at w (suc j)) past in let y = ended off in absurd (omega (arith, x, y));
  most = fewer-now;
  counts = quiet-counts w d ps j no-edges h.counts;
}
  where
    now : w.on ≡ state d ps (suc j)
    now = h.on ∙ sym (ap (λ fs. after (state d ps j) fs) none)

    longer : quiet d ps (suc j) ≡ quiet d ps j + 1
    longer = ap (λ fs. if some_pulse fs then 0 else quiet d ps j + 1) none

    sums : (a b c : ℕ) → a + b ≡ c → a + (b + 1) ≡ suc c
    sums a b c h = omega (arith, h)

    no-edges : edges_in d ps (suc j) ≡ 0
    no-edges = ap (λ fs. edges_from (state d ps j) fs) none

    act : active d ps (suc j) ≡ w.on
    act = ap (λ b. b || any_on (flags d ps (suc j))) (sym now) ∙ ap (λ fs. w.on || any_on fs) none ∙ or-none w.on

    there : present d ps (suc j) ≡ present_at w (suc j)
    there = ap (λ b. if b then present d ps j + 1 else 0) act ∙ ap (λ n. if w.on then n + 1 else 0) h.present ∙ still-present w.on w.last_on w.last_inactive j h.last_on h.last_inactive

    past-now : past_delay d ps (suc j) ≡ nat_lt d.delay (present_at w (suc j))
    past-now = ap (λ n. nat_lt d.delay n) there

    ended : w.on ≡ false → present_at w (suc j) ≡ 0
    ended off = let low = h.last_on in none-present w.on w.last_on w.last_inactive (suc j) off (λ e. omega (arith, e, low))

    goes-on : (b : Bool) → w.on ≡ b → nat_lt d.delay (present_at w j) ≡ true → (nat_lt d.delay (present_at w (suc j)) ≡ true) ⊎ (w.last_past_delay ≡ j)
    goes-on true on past = inl (on-goes on past)
      where
        on-goes : w.on ≡ true → nat_lt d.delay (present_at w j) ≡ true → nat_lt d.delay (present_at w (suc j)) ≡ true
        on-goes on past =
            let a : present_at w j ≡ j - w.last_inactive = ap (λ b. if b || (w.last_on == j) then j - w.last_inactive else 0) on in
            let b : present_at w (suc j) ≡ suc j - w.last_inactive = ap (λ b. if b || (w.last_on == suc j) then suc j - w.last_inactive else 0) on in
            let more = ltb-true d.delay (present_at w j) past in
            lt-ltb d.delay (present_at w (suc j)) (omega (arith, a, b, more))
    goes-on false off past = inr (h.ended off past)

    late : (n : ℕ) → lately_past d ps n (suc j) ≡ lately_at w d.delay n (suc j)
    late zero = past-now ∙ now-only (nat_lt d.delay (present_at w (suc j))) j w.last_past_delay h.last_past_delay
    late (suc m) =
        ap₂ (λ (a b : Bool). a || b) past-now (h.lately m)
        ∙ lately-still (nat_lt d.delay (present_at w (suc j))) (nat_lt d.delay (present_at w j)) j w.last_past_delay m (begun w d.delay j) (goes-on w.on refl)

    fewer-now : latest_edges d ps 60 (suc j) ≤ w.most
    fewer-now = least (latest_edges d ps 60 (suc j)) (edges_in d ps (suc j)) (latest_edges d ps 59 j) (latest_edges d ps 60 j) w.most refl no-edges (fewer d ps j) h.most
      where
        least : (x e a b c : ℕ) → x ≡ e + a → e ≡ 0 → a ≤ b → b ≤ c → x ≤ c
        least x e a b c p q r s = omega (arith, p, q, r, s)

-- the pulses of a round are taken
taken-counts : (w v : Watch) (d : Detector) (ps : List Pulse) (j edges : ℕ) → length w.rounds ≡ 60 → length w.edges ≡ 60 → edges ≡ edges_in d ps (suc j)
    → v.rounds ≡ slice_set w.rounds (suc j % 60) (suc j) → v.edges ≡ slice_set w.edges (suc j % 60) edges → Counts w d ps j → Counts v d ps (suc j)
taken-counts w v d ps j edges long longer own rounds kept h = record {
  past = λ i. early i (i == suc j % 60) refl;
  edges = λ r low near. at r low near (nat_lt j r) refl;
}
  where
    slot : suc j % 60 < length w.rounds
    slot = rw long (omega arith)

    place : suc j % 60 < length w.edges
    place = rw longer (omega arith)

    early : (i : ℕ) (b : Bool) → (i == suc j % 60) ≡ b → get_or v.rounds i 0 ≤ suc j
    early i true e =
        let is : i ≡ suc j % 60 = (Decides-eqb i (suc j % 60)).0 e in
        let set : get_or v.rounds i 0 ≡ suc j = ap₂ (λ (xs : List ℕ) (n : ℕ). get_or xs n 0) rounds is ∙ get_or-set_same w.rounds (suc j % 60) (suc j) 0 slot in omega (arith, set)
    early i false e =
        let low = h.past i in
        let set : get_or v.rounds i 0 ≡ get_or w.rounds i 0 =
        ap (λ xs. get_or xs i 0) rounds ∙ get_or-set_other w.rounds (suc j % 60) i (suc j) 0 (λ is. absurd (not-both (same-number i (suc j % 60) is) e)) in omega (arith, set, low)
      where
        not-both : {b : Bool} → b ≡ true → b ≡ false → ⊥
        not-both p q = absurd (cc)

    at : (r : ℕ) → r ≤ suc j → suc j < r + 60 → (b : Bool) → nat_lt j r ≡ b → edges_in d ps r ≡ edges_at v r
    at r low near false e =
        let back = ltb-false j r e in
        let other = slot-other j r (omega (arith, back)) near in
        h.edges r back (omega (arith, near))
        ∙ ap₂ (λ (a b : ℕ). if a == r then b else 0) (sym (ap (λ xs. get_or xs (r % 60) 0) rounds ∙ get_or-set_other w.rounds (suc j % 60) (r % 60) (suc j) 0 other))
        (sym (ap (λ xs. get_or xs (r % 60) 0) kept ∙ get_or-set_other w.edges (suc j % 60) (r % 60) edges 0 other))
    at r low near true e =
        let now = ltb-true j r e in
        let is : r ≡ suc j = omega (arith, now, low) in
        let here : get_or v.rounds (r % 60) 0 ≡ suc j = ap₂ (λ (xs : List ℕ) (n : ℕ). get_or xs (n % 60) 0) rounds is ∙ get_or-set_same w.rounds (suc j % 60) (suc j) 0 slot in
        let count : get_or v.edges (r % 60) 0 ≡ edges = ap₂ (λ (xs : List ℕ) (n : ℕ). get_or xs (n % 60) 0) kept is ∙ get_or-set_same w.edges (suc j % 60) edges 0 place in
        ap (λ n. edges_in d ps n) is ∙ sym own ∙ sym count
        ∙ sym (ap (λ b. if b then get_or v.edges (r % 60) 0 else 0) (same-number (get_or v.rounds (r % 60) 0) r (here ∙ sym is)))

pub watch-next : (w v : Watch) (d : Detector) (ps : List Pulse) (j : ℕ) (fs : List Bool) → length w.rounds ≡ 60 → length w.edges ≡ 60 → fs ≡ flags d ps (suc j)
    → v.on ≡ after w.on fs
    → v.last_pulse ≡ (if some_pulse fs then suc j else w.last_pulse)
    → v.last_on ≡ (if any_on fs then suc j else w.last_on)
    → v.last_inactive ≡ j - present_at w j
    → v.last_past_delay ≡ (if nat_lt d.delay (present_at v (suc j)) then suc j else (if nat_lt d.delay (present_at w j) then j else w.last_past_delay))
    → v.most ≡ min (w.most + edges_from w.on fs) (2 ^ 32 - 1)
    → v.rounds ≡ slice_set w.rounds (suc j % 60) (suc j)
    → v.edges ≡ slice_set w.edges (suc j % 60) (edges_from w.on fs)
    → Watches w d ps j → Watches v d ps (suc j)
watch-next w v d ps j fs long longer are on last_pulse last_on last_inactive past most rounds edges h = record {
  few = h.few;
  on = now;
  last_pulse = ap (λ n. n + quiet d ps (suc j)) (last_pulse ∙ ap (λ xs. if some_pulse xs then suc j else w.last_pulse) are)
      ∙ counted (some_pulse (flags d ps (suc j))) w.last_pulse (quiet d ps j) j h.last_pulse;
  present = there;
  last_on = last_on-low (any_on fs) v.last_on w.last_on j last_on h.last_on;
  last_inactive = omega (arith, last_inactive);
  last_past_delay = past-low (nat_lt d.delay (present_at v (suc j))) (nat_lt d.delay (present_at w j)) v.last_past_delay w.last_past_delay j past h.last_past_delay;
  lately = λ n. late n;
  ended = λ off is. past ∙ ap (λ b. if b then suc j else (if nat_lt d.delay (present_at w j) then j else w.last_past_delay)) is;
  most = few-now;
  counts = taken-counts w v d ps j (edges_from w.on fs) long longer own rounds edges h.counts;
}
  where
    now : v.on ≡ state d ps (suc j)
    now = on ∙ ap₂ (λ (b : Bool) (xs : List Bool). after b xs) h.on are

    own : edges_from w.on fs ≡ edges_in d ps (suc j)
    own = ap₂ (λ (b : Bool) (xs : List Bool). edges_from b xs) h.on are

    counted : (b : Bool) (p q j : ℕ) → p + q ≡ j → (if b then suc j else p) + (if b then 0 else q + 1) ≡ suc j
    counted true p q j h = omega arith
    counted false p q j h = omega (arith, h)

    last_on-low : (b : Bool) (v w j : ℕ) → v ≡ (if b then suc j else w) → w ≤ j → v ≤ suc j
    last_on-low true v w j e h = omega (arith, e)
    last_on-low false v w j e h = omega (arith, e, h)

    past-low : (a p : Bool) (v w j : ℕ) → v ≡ (if a then suc j else (if p then j else w)) → w ≤ j → v ≤ suc j
    past-low true p v w j e h = omega (arith, e)
    past-low false true v w j e h = omega (arith, e)
    past-low false false v w j e h = omega (arith, e, h)

    last_on-is : (b : Bool) (v w j : ℕ) → v ≡ (if b then suc j else w) → w ≤ j → (v == suc j) ≡ b
    last_on-is true v w j e h = same-number v (suc j) e
    last_on-is false v w j e h = other-number v (suc j) (λ x. omega (arith, e, h, x))

    act : active d ps (suc j) ≡ (v.on || (v.last_on == suc j))
    act = ap₂ (λ (a b : Bool). a || b) (sym now) (sym (last_on-is (any_on fs) v.last_on w.last_on j last_on h.last_on ∙ ap any_on are))

    there : present d ps (suc j) ≡ present_at v (suc j)
    there = ap₂ (λ (b : Bool) (n : ℕ). if b then n else 0) act longest
      where
        longest : present d ps j + 1 ≡ suc j - v.last_inactive
        longest = let few = present-few (w.on || (w.last_on == j)) w.last_inactive j in let is = h.present in lengths (present d ps j) (present_at w j) v.last_inactive is few last_inactive
          where
            lengths : (p q i : ℕ) → p ≡ q → q ≤ j → i ≡ j - q → p + 1 ≡ suc j - i
            lengths p q i a b c = omega (arith, a, b, c)

    past-now : past_delay d ps (suc j) ≡ nat_lt d.delay (present_at v (suc j))
    past-now = ap (λ n. nat_lt d.delay n) there

    late : (n : ℕ) → lately_past d ps n (suc j) ≡ lately_at v d.delay n (suc j)
    late zero = past-now ∙ first-next (nat_lt d.delay (present_at v (suc j))) (nat_lt d.delay (present_at w j)) j w.last_past_delay v.last_past_delay h.last_past_delay past
    late (suc m) =
        ap₂ (λ (a b : Bool). a || b) past-now (h.lately m)
        ∙ lately-next (nat_lt d.delay (present_at v (suc j))) (nat_lt d.delay (present_at w j)) j w.last_past_delay v.last_past_delay m (begun w d.delay j) past

    few-now : latest_edges d ps 60 (suc j) ≤ v.most
    few-now =
        least (latest_edges d ps 60 (suc j)) (edges_in d ps (suc j)) (latest_edges d ps 59 j) (latest_edges d ps 60 j) w.most v.most (edges_from w.on fs) refl own
        (fewer d ps j) h.most (latest-few d ps h.few 60 (suc j)) most
      where
        least : (x e a b c v f : ℕ) → x ≡ e + a → f ≡ e → a ≤ b → b ≤ c → x ≤ 1000000 * 60 → v ≡ min (c + f) (2 ^ 32 - 1) → x ≤ v
        least x e a b c v f p q r s few is = grind arith

pub edges-here : (w : Watch) (d : Detector) (ps : List Pulse) (j : ℕ) → Watches w d ps j → edges_at w j ≡ edges_in d ps j
edges-here w d ps j h = sym (h.counts.edges j (omega arith) (omega arith))

-- the same in the terms of the code
pub watch-taken : (w v : Watch) (d : Detector) (ps : List Pulse) (j r last : ℕ) (fs : List Bool) → length w.rounds ≡ 60 → length w.edges ≡ 60 → r ≡ j + 1 → last ≡ r - 1
    → fs ≡ flags d ps (j + 1)
    → v.on ≡ after w.on fs
    → v.last_pulse ≡ (if some_pulse fs then r else w.last_pulse)
    → v.last_on ≡ (if any_on fs then r else w.last_on)
    → v.last_inactive ≡ last - present_at w last
    → v.last_past_delay ≡ (if nat_lt d.delay (present_at v r) then r else (if nat_lt d.delay (present_at w last) then last else w.last_past_delay))
    → v.most ≡ min (w.most + edges_from w.on fs) (2 ^ 32 - 1)
    → v.rounds ≡ slice_set w.rounds (r % 60) r
    → v.edges ≡ slice_set w.edges (r % 60) (edges_from w.on fs)
    → Watches w d ps j → Watches v d ps (j + 1)
watch-taken w v d ps j r last fs long longer is before are on last_pulse last_on last_inactive past most rounds edges h =
    let now : r ≡ suc j = is ∙ add-one j in
    let old : last ≡ j = omega (arith, is, before) in
    subst (λ n. Watches v d ps n) (sym (add-one j))
    (watch-next w v d ps j fs long longer (are ∙ ap (λ n. flags d ps n) (add-one j)) on
    (last_pulse ∙ ap (λ n. if some_pulse fs then n else w.last_pulse) now)
    (last_on ∙ ap (λ n. if any_on fs then n else w.last_on) now)
    (last_inactive ∙ ap (λ n. n - present_at w n) old)
    (past ∙ ap₂ (λ (n m : ℕ). if nat_lt d.delay (present_at v n) then n else (if nat_lt d.delay (present_at w m) then m else w.last_past_delay)) now old)
    most (rounds ∙ ap (λ n. slice_set w.rounds (n % 60) n) now) (edges ∙ ap (λ n. slice_set w.edges (n % 60) (edges_from w.on fs)) now) h)
