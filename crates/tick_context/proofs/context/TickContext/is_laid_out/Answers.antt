use Rattle.std.proofs.Common.{◌≡◌, ◌∷◌, [], ℕ, refl, sym, ◌∙◌, ap, arith}
use Rattle.std.proofs.lemmas.Bool.Decides.{Decides-eqb}
use Rattle.sig_types.specs.declared.frame.Frame.{Frame}
use Rattle.tick_context.proofs.context.TickContext.is_laid_out.Goals as goal

two : (a b c d : ℕ) → a ≡ c → b ≡ d → a ∷ b ∷ [] ≡ c ∷ d ∷ []
two a b c d e f = rw (e, f) refl

pub returns-else-self-clause-is : goal.returns-else-self-clause-is
returns-else-self-clause-is c = λ past veh k red.
    let same : c.args.self.now.frame.version ≡ c.args.self.now.version = omega arith in
    c.are_on.ensures.is
    ∙ rw ((Decides-eqb c.args.self.now.frame.version c.args.self.now.version).1 same, c.on_in_ring.ensures.on past veh k red, c.on_in_ring-else-self.ensures.on past veh k red) refl

pub returns-else-self-clause-on : goal.returns-else-self-clause-on
returns-else-self-clause-on c = λ past veh k red t.
    ap (λ (f : Frame). f.on) (sym k.frame) ∙ c.are_on.ensures.on t
    ∙ two _ _ _ _ (c.on_in_ring.ensures.on past veh k red) (c.on_in_ring-else-self.ensures.on past veh k red)
