-- The word of a reply.
use Rattle.std.proofs.Common.{◌≡◌, ◌≢◌, ℕ, ◌<◌, ◌≤◌, ◌*◌, List, length, codes, Option, Some, None, Result, Ok, Err, IfOk, ◌⊎◌, inl, inr, refl, sym, ap, ◌∙◌, arith}
use Rattle.std.specs.declared.alloc.AllocError.{AllocError}
use Rattle.arrayvec.specs.ArrayVec.{ArrayVec}
use Rattle.hex.specs.Hex.{decode_of, encode_lower, lower_digits}
use Rattle.hex.specs.declared.error.FromHexError.{FromHexError}
use Rattle.hex.specs.declared.error.FromHexError.TheVariants.{OutOfMemory}
use Rattle.hex.proofs.HexLemmas.{decode_of-encode_lower, decode_of-ok, decode_of-same, length-encode_with}
use Rattle.trace_text.specs.IsLine.{IsReply, FitsReply, IsOctets}
use Rattle.trace_text.specs.Reads.{Reads}
use Rattle.trace_text.specs.Texts.{reply_text, octets_text}
use Rattle.trace_text.proofs.Reading.{reads_none, reads_some}

same_vec : (a b : ArrayVec ℕ) → a.items ≡ b.items → a ≡ b
same_vec a b e = ap (λ items. record { items = items }) e

dash_only : (word : List ℕ) → word ≡ codes "-" → (reply : Option (ArrayVec ℕ)) → IsReply reply × FitsReply reply → word ≡ reply_text reply → None ≡ reply
dash_only word dash None is e = refl
dash_only word dash (Some octets) is e =
    let long : length word ≡ 2 * length octets.items = ap length e ∙ length-encode_with lower_digits octets.items in
    let one : length word ≡ 1 = ap length dash in absurd (omega arith)

-- a dash is not octets' word
pub dash_reads : (word : List ℕ) → word ≡ codes "-" → Reads (λ reply. IsReply reply × FitsReply reply) reply_text word (Some None)
dash_reads word dash = reads_some (tt, tt) dash (dash_only word dash)

module _ (word : List ℕ) where
  pub none_decoded : (error : FromHexError) → decode_of word ≡ Err error → Reads IsOctets octets_text word None
  none_decoded error bad = reads_none (λ octets is e. let both : Ok octets.items ≡ Err error = sym (decode_of-encode_lower octets.items is.1) ∙ ap decode_of (sym e) ∙ bad in cc)

  module _ (bytes : List ℕ) (decoded : decode_of word ≡ Ok bytes) where
    same_octets : (octets : ArrayVec ℕ) → IsOctets octets → word ≡ octets_text octets → bytes ≡ octets.items
    same_octets octets is e = decode_of-same word bytes octets.items decoded (ap decode_of e ∙ decode_of-encode_lower octets.items is.1)

    pub none_upper : (word ≡ encode_lower bytes → ⊥) → Reads IsOctets octets_text word None
    none_upper upper = reads_none (λ octets is e. upper (e ∙ ap encode_lower (sym (same_octets octets is e))))

    pub none_empty : length bytes ≡ 0 → Reads IsOctets octets_text word None
    none_empty empty = reads_none (λ octets is e. let same : length bytes ≡ length octets.items = ap length (same_octets octets is e) in let some = is.0 in omega arith)

    pub none_long : 1472 < length bytes → Reads IsOctets octets_text word None
    none_long long = reads_none (λ octets is e. let same : length bytes ≡ length octets.items = ap length (same_octets octets is e) in let some = is.0 in omega arith)

    pub some_octets : word ≡ encode_lower bytes → 0 < length bytes → (octets : ArrayVec ℕ) → octets.items ≡ bytes → length bytes ≤ 1472 → Reads IsOctets octets_text word (Some octets)
    some_octets lower some octets same short = reads_some
        ((rw same some, rw same short), rw same (decode_of-ok word bytes decoded).3)
        (lower ∙ ap encode_lower (sym same))
        (λ other is e. let items : octets.items ≡ other.items = same ∙ same_octets other is e in same_vec octets other items)

-- what `unread` gives of an error other than lack of memory
pub unread_reads : (word : List ℕ) (error : FromHexError) (r : Result (Option (ArrayVec ℕ)) AllocError) → ((error ≡ OutOfMemory) ⊎ (decode_of word ≡ Err error))
    → IfOk r (λ found. (found ≡ None) × (error ≢ OutOfMemory)) → IfOk r (Reads IsOctets octets_text word)
unread_reads word error (Err e) why said = tt
unread_reads word error (Ok found) why said = elim why [
  | inl memory ↦ absurd (said.1 memory)
  | inr bad ↦ rw said.0 (none_decoded word error bad)
]
