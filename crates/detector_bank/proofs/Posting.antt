-- What is kept of a detector represents a round that must be examined once it was looked at, and for one that need not
-- be examined without a look.
use Rattle.std.proofs.Common.{◌≡◌, ℕ, ◌+◌, ◌-◌, ◌*◌, ◌%◌, ◌<◌, ◌≤◌, false, List, [], length, take, drop, get_or, sym, ap, ◌∙◌, subst, add-one, arith}
use Rattle.detector_bank.specs.declared.bank.Detector.{Detector}
use Rattle.detector_bank.specs.declared.bank.Pulse.{Pulse}
use Rattle.detector_bank.specs.declared.detector_state.DetectorState.{DetectorState}
use Rattle.detector_bank.specs.Pulses.{flags_of, flags}
use Rattle.detector_bank.specs.Bank.{calls}
use Rattle.detector_bank.specs.Watching.{Watches, key_of, key, at_key, Sorts, Before, Posted}
use Rattle.detector_bank.proofs.Watched.{watch-quiet}
use Rattle.detector_bank.proofs.Sorting.{key-is, none-between, keyed-flags}
use Rattle.detector_bank.proofs.Calling.{none-calls}

pub posted-start : (p : DetectorState) (sorted : List Pulse) (d : Detector) (ps : List Pulse) → Watches p.watch d ps 0 → Before sorted p.next (key_of d.cabinet d.detector 1)
    → p.calls ≡ false → Posted p 0 sorted d ps 0
posted-start p sorted d ps watch before calls = record {
  watch = watch;
  before = before;
  none = λ i low high. absurd (omega (arith, high));
  told = calls ∙ sym (none-calls d ps);
  still = λ i low high h. absurd (omega (arith, high));
}

-- a round that need not be examined
pub posted-quiet : (p : DetectorState) (due : ℕ) (sorted : List Pulse) (d : Detector) (ps : List Pulse) (j : ℕ) → j + 1 < due → Posted p due sorted d ps j
    → Posted p due sorted d ps (j + 1)
posted-quiet p due sorted d ps j soon h = record {
  watch = next;
  before = λ k q low. let b = h.before k q low in more (key (get_or sorted k q)) (d.cabinet % 1024 * 256 + d.detector) b;
  none = λ i low high. h.none i (omega (arith, low)) high;
  told = h.told ∙ sym now;
  still = λ i low high w. h.still i (omega (arith, low)) high w ∙ sym now;
}
  where
    next : Watches p.watch d ps (j + 1)
    next =
        subst (λ n. Watches p.watch d ps n) (sym (add-one j))
        (watch-quiet p.watch d ps j (ap (λ n. flags d ps n) (sym (add-one j)) ∙ h.none (j + 1) (omega arith) soon) h.watch)

    now : calls d ps (j + 1) ≡ calls d ps j
    now = h.still (j + 1) (omega arith) soon next

    more : (x a : ℕ) → x < a * 4294967296 + (j + 1) → x < a * 4294967296 + (j + 1 + 1)
    more x a h = omega (arith, h)

-- a round that must be examined
pub posted-step : (old new : DetectorState) (due silent pulse next : ℕ) (sorted : List Pulse) (d : Detector) (ps : List Pulse) (j r n from end : ℕ)
    → r ≡ j + 1 → n ≡ key_of d.cabinet d.detector r → Sorts sorted ps → Posted old due sorted d ps j → from ≤ end → end ≤ length sorted
    → (Before sorted old.next n → Before sorted from n) → (Before sorted from (n + 1) → Before sorted end (n + 1))
    → ((p : Pulse) → from < length sorted → n ≤ key (get_or sorted from p)) → ((p : Pulse) → end < length sorted → n + 1 ≤ key (get_or sorted end p))
    → ((i : ℕ) (p : Pulse) → i < pulse → end < length sorted → key_of d.cabinet d.detector i < key (get_or sorted end p))
    → (flags_of d (take (end - from) (drop from sorted)) ≡ flags d ps (j + 1) → Watches old.watch d ps j → Watches new.watch d ps (j + 1))
    → new.next ≡ end → (Watches new.watch d ps r → new.calls ≡ calls d ps r)
    → ((i : ℕ) → Watches new.watch d ps r → Watches new.watch d ps i → r ≤ i → i < silent → calls d ps i ≡ calls d ps r)
    → next ≤ silent → next ≤ pulse → Posted new next sorted d ps (j + 1)
posted-step old new due silent pulse next sorted d ps j r n from end is number sorts h front within first last low high ahead step place told still quiet none = record {
  watch = watch;
  before = subst (λ m. Before sorted m (key_of d.cabinet d.detector (j + 1 + 1))) (sym place)
      (λ k q l. let b = ends k q l in more (key (get_or sorted k q)) (d.cabinet % 1024 * 256 + d.detector) now b);
  none = λ i l m. sym (keyed-flags d i ps) ∙ ap (λ qs. flags_of d qs) (sym (sorts.same (key_of d.cabinet d.detector i)) ∙ between i l m);
  told = told here ∙ ap (λ m. calls d ps m) is;
  still = λ i l m w. still i here w (omega (arith, is, l)) (omega (arith, m, quiet)) ∙ ap (λ m. calls d ps m) is;
}
  where
    now : n ≡ key_of d.cabinet d.detector (j + 1)
    now = number ∙ ap (λ m. key_of d.cabinet d.detector m) is

    begins : Before sorted from n
    begins = first (subst (λ m. Before sorted old.next m) (sym now) h.before)

    ends : Before sorted end (n + 1)
    ends = last (λ k q l. let b = begins k q l in omega (arith, b))

    own : flags_of d (take (end - from) (drop from sorted)) ≡ flags d ps (j + 1)
    own =
        ap (λ qs. flags_of d qs) (key-is sorted from end n sorts.rises front within begins ends low high ∙ sorts.same n ∙ ap (λ m. at_key m ps) now)
        ∙ keyed-flags d (j + 1) ps

    watch : Watches new.watch d ps (j + 1)
    watch = step own h.watch

    here : Watches new.watch d ps r
    here = subst (λ m. Watches new.watch d ps m) (sym is) watch

    more : (x a : ℕ) → n ≡ a * 4294967296 + (j + 1) → x < n + 1 → x < a * 4294967296 + (j + 1 + 1)
    more x a e b = omega (arith, e, b)

    between : (i : ℕ) → j + 1 < i → i < next → at_key (key_of d.cabinet d.detector i) sorted ≡ []
    between i l m =
        none-between sorted end (key_of d.cabinet d.detector i) sorts.rises within
        (λ k q inside. let b = ends k q inside in below (key (get_or sorted k q)) (d.cabinet % 1024 * 256 + d.detector) now b l) (λ q there. ahead i q (omega (arith, m, none)) there)
      where
        below : {i : ℕ} (x a : ℕ) → n ≡ a * 4294967296 + (j + 1) → x < n + 1 → j + 1 < i → x < a * 4294967296 + i
        below x a e b l = omega (arith, e, b, l)
