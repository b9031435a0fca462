-- Eight phases as an octet, from the highest down.
use Rattle.std.proofs.Common.{◌≡◌, ℕ, suc, ◌+◌, ◌-◌, ◌*◌, ◌^◌, ◌<◌, ◌≤◌, Bool, true, false, refl, ap, ◌∙◌, arith}
use Rattle.std.specs.Prelude.{if◌then◌else◌}
use Rattle.std.proofs.Math.Nat.{pow-suc}
use mir.Val.{bool_byte}
use Rattle.agent.specs.Groups.{bits}

byte_is : (b : Bool) → bool_byte b ≡ (if b then 1 else 0)
byte_is true = refl
byte_is false = refl

byte_low : (b : Bool) → bool_byte b ≤ 1
byte_low true = omega arith
byte_low false = omega arith

-- one phase more, below the others
pub bits_more : (test : ℕ → Bool) (k first octet bit : ℕ) (b : Bool) → octet ≡ bits test k (first + 1) → bit ≡ bool_byte b → b ≡ test first → 2 * octet + bit ≡ bits test (k + 1) first
bits_more test k first octet bit b above this same =
    let up : k + 1 ≡ suc k = omega arith in
    let one : bit ≡ (if test first then 1 else 0) = this ∙ ap bool_byte same ∙ byte_is (test first) in
    let more : bits test (suc k) first ≡ (if test first then 1 else 0) + 2 * bits test k (first + 1) = refl in
    rw up (omega (arith, above, one, more))

pub room_more : (k octet bit : ℕ) (b : Bool) → octet < 2 ^ k → bit ≡ bool_byte b → 2 * octet + bit < 2 ^ (k + 1)
room_more k octet bit b few this =
    let up : k + 1 ≡ suc k = omega arith in
    rw up (omega (arith, few, this, byte_low b, pow-suc 2 k))

-- all eight of a group
pub bits_end : (test : ℕ → Bool) (k group octet : ℕ) → k ≡ 8 → octet ≡ bits test k (8 * group + 1 - k) → octet ≡ bits test 8 (8 * group - 7)
bits_end test k group octet end is =
    let first : 8 * group + 1 - 8 ≡ 8 * group - 7 = omega arith in
    is ∙ rw (end, first) refl
