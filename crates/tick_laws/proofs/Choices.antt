-- Choices between two, of colours or of signals.
use Rattle.std.proofs.Common.{◌≡◌, ◌≢◌, ℕ, Bool, true, false, if◌then◌else◌, ◌==◌, refl, sym, ◌∙◌, ap}
use Rattle.std.proofs.lemmas.Bool.{both_ways, false≢true}
use Rattle.std.proofs.lemmas.Bool.Decides.{Decides-eqb}
use Rattle.sig_types.specs.declared.frame.Colour.{Colour}
use Rattle.sig_types.specs.declared.frame.Colour.TheVariants.{Green, Yellow, Clear, Red}
use Rattle.sig_types.specs.declared.frame.Ped.{Ped}
use Rattle.sig_types.specs.declared.frame.Ped.TheVariants.{Walk, Flash, Dont}
use Rattle.sig_types.specs.Colour.{same_colour, same_signal}

-- a choice that is not the second is the first
pub leaves : {A : Type 0} (b : Bool) (x y : A) → (if b then x else y) ≢ y → b ≡ true
leaves true x y ne = refl
leaves false x y ne = absurd (ne refl)

-- a choice that is the second and not the first
pub second : {A : Type 0} (b : Bool) (x y c : A) → (x ≡ c → ⊥) → (if b then x else y) ≡ c → b ≡ false
second true x y c never e = absurd (never e)
second false x y c never e = refl

pub chosen : {A : Type 0} (b : Bool) (x y : A) → b ≡ true → (if b then x else y) ≡ x
chosen true x y e = refl
chosen false x y e = absurd (false≢true e)

pub not-chosen : {A : Type 0} (b : Bool) (x y : A) → b ≡ false → (if b then x else y) ≡ y
not-chosen false x y e = refl
not-chosen true x y e = absurd (false≢true (sym e))

-- a choice of two is not a third
pub neither : {A : Type 0} (b : Bool) (x y c : A) → (x ≡ c → ⊥) → (y ≡ c → ⊥) → (if b then x else y) ≡ c → ⊥
neither true x y c f g e = f e
neither false x y c f g e = g e

pub unequal : (a b : ℕ) → (a == b) ≡ false → a ≢ b
unequal a b f e = both_ways (a == b) f ((Decides-eqb a b).1 e)

pub same-self : (c : Colour) → same_colour c c ≡ true
same-self Green = refl
same-self Yellow = refl
same-self Clear = refl
same-self Red = refl

pub same-is : (x c : Colour) → same_colour x c ≡ true → x ≡ c
same-is Green Green h = refl
same-is Yellow Yellow h = refl
same-is Clear Clear h = refl
same-is Red Red h = refl
same-is _ _ h = absurd (false≢true h)

-- two colours that a test distinguishes
pub differs : (x c : Colour) → same_colour x c ≡ false → x ≡ c → ⊥
differs x c f e = both_ways (same_colour x c) f (ap (λ (y : Colour). same_colour y c) e ∙ same-self c)

pub same-self-signal : (s : Ped) → same_signal s s ≡ true
same-self-signal Walk = refl
same-self-signal Flash = refl
same-self-signal Dont = refl

pub same-is-signal : (x s : Ped) → same_signal x s ≡ true → x ≡ s
same-is-signal Walk Walk h = refl
same-is-signal Flash Flash h = refl
same-is-signal Dont Dont h = refl
same-is-signal _ _ h = absurd (false≢true h)

-- and two signals
pub differs-signal : (x s : Ped) → same_signal x s ≡ false → x ≡ s → ⊥
differs-signal x s f e = both_ways (same_signal x s) f (ap (λ (y : Ped). same_signal y s) e ∙ same-self-signal s)

-- Yellow is neither Red nor Clear
pub never-yellow : (b : Bool) → (if b then Red else Clear) ≡ Yellow → ⊥
never-yellow b = neither b Red Clear Yellow (differs Red Yellow refl) (differs Clear Yellow refl)

-- Walk is neither Dont nor Flash
pub never-walk : (b : Bool) → (if b then Dont else Flash) ≡ Walk → ⊥
never-walk b = neither b Dont Flash Walk (differs-signal Dont Walk refl) (differs-signal Flash Walk refl)
