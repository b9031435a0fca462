use Rattle.std.proofs.Common.{◌≡◌, ◌<◌, ◌≤◌, ◌-◌, ◌&&◌, ◌∷◌, ℕ, Bool, true, false, [], refl, sym, ◌∙◌, ap, arith}
use Rattle.std.proofs.lemmas.Bool.{false≢true}
use Rattle.std.proofs.lemmas.List.{get_or-replicate}
use Rattle.sig_types.specs.declared.frame.Colour.{Colour}
use Rattle.sig_types.specs.declared.frame.Colour.TheVariants.{Green, Red}
use Rattle.sig_types.specs.Phases.{is_phase}
use Rattle.sig_types.specs.Colour.{same_colour}
use Rattle.sig_tables.specs.Past.{first_frame, first_moment}
use Rattle.sig_tables.specs.Calls.{is_green}
use Rattle.sig_tables.proofs.Below.{is-above, is-within}
use Rattle.look_back.specs.FrameHistories.{LooksOver}
use Rattle.observer.specs.Inputs.{on-at}
use Rattle.observer.proofs.LookingBack.over.Goals as goal

first-red : (p : ℕ) → is_phase p ≡ true → is_green first_frame p ≡ false
first-red p h =
    ap (λ (c : Colour). same_colour c Green)
    (get_or-replicate 16 (p - 1) Red Green (let few : p ≤ 16 = is-within p h in let some : 0 < p = is-above p h in omega arith))

none-of : (p : ℕ) (b : Bool) → is_phase p ≡ true → false ≡ (is_green first_frame p && b)
none-of p b h = sym (ap (λ (x : Bool). x && b) (first-red p h))

pub returns-clause-stands : goal.returns-clause-stands
returns-clause-stands c = λ command clock.
    let looks : LooksOver c.push.new.self (first_moment c.args.tables.now ∷ []) =
    c.push.ensures [] (first_moment c.args.tables.now) c.requires.frame_history
    (record {
      frame = sym c.first_frame.ensures;
      quiet = λ p h. none-of p _ h;
      opposed = λ p h. none-of p _ h;
    })
    refl (λ i above within. c.empty-3.ensures.has i) in
    record {
      inputs = λ i above within. c.empty-4.ensures.has i ∙ sym (on-at _ i above within);
      frame_history = looks;
      frames = refl;
      within = λ n t. absurd (false≢true t);
    }
