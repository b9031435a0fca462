-- The octets of one of some frames.
use Rattle.std.proofs.Common.{◌≡◌, ◌<◌, ◌∙◌, ℕ, List, [], length, get_or, sym, ap}
use Rattle.std.proofs.lemmas.List.{get_or-map}
use Rattle.arrayvec.specs.ArrayVec.{ArrayVec}
use Rattle.sig_types.specs.Items.{texts_of}

pub text_at : (frames : List (ArrayVec ℕ)) (place : ℕ) (frame : ArrayVec ℕ) → place < length frames → frame ≡ get_or frames place frame
    → get_or (texts_of frames) place [] ≡ frame.items
text_at frames place frame less is =
    get_or-map (λ (x : ArrayVec ℕ). x.items) frames place frame [] less ∙ sym (ap (λ (x : ArrayVec ℕ). x.items) is)
