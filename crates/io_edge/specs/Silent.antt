-- What a buffer reports: nothing, if its reader or writer reports nothing.
use Rattle.std.specs.Prelude.{ℕ, ◌≡◌, ◌==◌, ◌++◌, List, Option, Some, None, Bool, true, false, if◌then◌else◌}
use Rattle.std.proofs.Common.{refl, ap}
use Rattle.std.specs.Io.KnownBytes.{append_known}
use Rattle.std.specs.Io.Buffered.{reader_remaining, reader_capacity, writer_contents, writer_buffer}
use Rattle.std.specs.declared.io.buffered.BufReader.{BufReader}
use Rattle.std.specs.declared.io.buffered.BufWriter.{BufWriter}
use Rattle.io_edge.specs.Edge.{told_as}

abbrev unknown : Option (List ℕ)
unknown = None

either_unknown : (b : Bool) → (if b then unknown else unknown) ≡ unknown
either_unknown true = refl
either_unknown false = refl

-- a buffered reader reports nothing if its reader never reports anything
pub silent_buffer : {T A : Type 0} (r : BufReader T A) → reader_remaining (λ _. None) r ≡ None
silent_buffer r = either_unknown (reader_capacity r == 0)

-- if the bytes with others after them are unknown, the bytes are unknown
not_known : (known : Option (List ℕ)) (bytes : List ℕ) → append_known known bytes ≡ None → known ≡ None
not_known None bytes none = refl
not_known (Some xs) bytes none = ap (told_as xs) none

still_not_known : (known : Option (List ℕ)) (bytes : List ℕ) → known ≡ None → append_known known bytes ≡ None
still_not_known None bytes none = refl
still_not_known (Some xs) bytes none = ap (told_as (xs ++ bytes)) none

-- a buffered writer reports nothing from some moment on, if this is so for its writer
pub steady_buffer : {W A : Type 0} (contents : W → Option (List ℕ)) → ((w v : W) → contents w ≡ None → contents v ≡ None)
    → (w v : BufWriter W A) → writer_contents contents w ≡ None → writer_contents contents v ≡ None
steady_buffer contents steady w v none =
    still_not_known (contents v.inner) (writer_buffer v) (steady w.inner v.inner (not_known (contents w.inner) (writer_buffer w) none))
