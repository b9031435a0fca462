-- What a line of a session requests. One space separates two words. The words are checked from left to right, and the
-- first fault is the reason why a line isn't accepted.
use Rattle.std.specs.Prelude.{ℕ, zero, suc, ◌+◌, ◌==◌, ◌&&◌, nat_le, Bool, true, false, bytes_eq, if◌then◌else◌, List, [], ◌∷◌, length, get_or, codes, decimal, Option, Some, None, Result, Ok, Err}
use Rattle.hex.specs.Hex.{decode_of}
use Rattle.hex.specs.declared.error.FromHexError.{FromHexError}
use Rattle.sig_types.specs.declared.frame.Field.TheVariants.{Veh, Ped, Preempt}
use Rattle.sig_types.specs.declared.notes.Way.{Way}
use Rattle.sig_types.specs.declared.notes.Way.TheVariants.{Poll, Load, Prio}
use Rattle.session_words.specs.declared.request.Request.{Request}
use Rattle.session_words.specs.declared.request.Request.TheVariants.{Tick, Input, Frame}
use Rattle.session_words.specs.declared.request.Untaken.{Untaken}
use Rattle.session_words.specs.declared.request.Untaken.TheVariants.{Request as NoRequest, Cabinet, Phase, Number, On, Stream, Hex, Ticks, Full}

-- the words, with this byte at the beginning of the first word
abbrev pub before_words : ℕ → List (List ℕ) → List (List ℕ)
before_words byte [] = (byte ∷ []) ∷ []
before_words byte (word ∷ words) = (byte ∷ word) ∷ words

-- the words of a line, between its spaces; a line without a space is one word
abbrev pub words_of : List ℕ → List (List ℕ)
words_of [] = [] ∷ []
words_of (byte ∷ bytes) = if byte == 32 then [] ∷ words_of bytes else before_words byte (words_of bytes)

-- the number that the word is, if it is one of this many numbers from `first` on. The word has decimal digits,
-- without a sign and without leading zeros
unfoldable pub number_among : ℕ → ℕ → List ℕ → Option ℕ
number_among first zero word = None
number_among first (suc many) word = if bytes_eq word (decimal first) then Some first else number_among (first + 1) many word

-- the number that the word is, if it is from 1 to `last`
abbrev pub number_to : ℕ → List ℕ → Option ℕ
number_to last word = number_among 1 last word

-- the meaning of the words `on` and `off`
abbrev pub switch_of : List ℕ → Option Bool
switch_of word =
    if bytes_eq word (codes "on") then Some true
    else if bytes_eq word (codes "off") then Some false
    else None

-- the stream that a word names
abbrev pub stream_of : List ℕ → Option Way
stream_of word =
    if bytes_eq word (codes "poll") then Some Poll
    else if bytes_eq word (codes "load") then Some Load
    else if bytes_eq word (codes "priority") then Some Prio
    else None

-- the octets that were read, if they are at most 1,472
abbrev pub few_octets : Result (List ℕ) FromHexError → Option (List ℕ)
few_octets (Ok octets) = if nat_le (length octets) 1472 then Some octets else None
few_octets (Err error) = None

-- the octets that a word gives, if they are at most 1,472. The word has two hexadecimal digits for each octet, in
-- upper or lower case
abbrev pub octets_of : List ℕ → Option (List ℕ)
octets_of word = few_octets (decode_of word)

-- the request that `go_on` makes of what was found in a word; if nothing was found, `untaken` is the reason why the
-- request isn't accepted
abbrev pub asked_for : {A : Type 0} → Untaken → Option A → (A → Result Request Untaken) → Result Request Untaken
asked_for untaken None go_on = Err untaken
asked_for untaken (Some found) go_on = go_on found

-- the word at this place; places are counted from 0
abbrev pub word_at : ℕ → List (List ℕ) → List ℕ
word_at place words = get_or words place []

-- `tick N`: run N ticks, from 1 to the number of ticks left in the round
abbrev pub tick_of : ℕ → List (List ℕ) → Result Request Untaken
tick_of left words = asked_for Ticks (number_to left (word_at 1 words)) (λ n. Ok (Tick n))

-- `veh CAB PHASE on` or `veh CAB PHASE off`: a vehicle detector turns on or off
abbrev pub veh_of : ℕ → List (List ℕ) → Result Request Untaken
veh_of cabinets words =
    asked_for Cabinet (number_to cabinets (word_at 1 words)) (λ cab.
    asked_for Phase (number_to 16 (word_at 2 words)) (λ phase.
    asked_for On (switch_of (word_at 3 words)) (λ on. Ok (Input cab (Veh phase on)))))

-- `ped CAB PHASE`: a push button is pressed
abbrev pub ped_of : ℕ → List (List ℕ) → Result Request Untaken
ped_of cabinets words =
    asked_for Cabinet (number_to cabinets (word_at 1 words)) (λ cab.
    asked_for Phase (number_to 16 (word_at 2 words)) (λ phase. Ok (Input cab (Ped phase))))

-- `preempt CAB N on` or `preempt CAB N off`: a preempt input turns on or off
abbrev pub preempt_of : ℕ → List (List ℕ) → Result Request Untaken
preempt_of cabinets words =
    asked_for Cabinet (number_to cabinets (word_at 1 words)) (λ cab.
    asked_for Number (number_to 8 (word_at 2 words)) (λ number.
    asked_for On (switch_of (word_at 3 words)) (λ on. Ok (Input cab (Preempt number on)))))

-- `frame CAB STREAM HEX`: a message reaches a cabinet on a stream
abbrev pub frame_of : ℕ → List (List ℕ) → Result Request Untaken
frame_of cabinets words =
    asked_for Cabinet (number_to cabinets (word_at 1 words)) (λ cab.
    asked_for Stream (stream_of (word_at 2 words)) (λ way.
    asked_for Hex (octets_of (word_at 3 words)) (λ octets. Ok (Frame cab way (record { items = octets })))))

-- there are this many words, and the first is this name
abbrev pub is_form : List ℕ → ℕ → List (List ℕ) → Bool
is_form name many words = bytes_eq (word_at 0 words) name && (length words == many)

-- what the words request, or the reason why they aren't accepted. The session has this many cabinets, and this many
-- ticks are left in the round
abbrev pub request_of_words : ℕ → ℕ → List (List ℕ) → Result Request Untaken
request_of_words cabinets left words =
    if is_form (codes "tick") 2 words then tick_of left words
    else if is_form (codes "veh") 4 words then veh_of cabinets words
    else if is_form (codes "ped") 3 words then ped_of cabinets words
    else if is_form (codes "preempt") 4 words then preempt_of cabinets words
    else if is_form (codes "frame") 4 words then frame_of cabinets words
    else Err NoRequest

-- what a line without its newline requests, or the reason why it isn't accepted. A line has at most 4,096 bytes
abbrev pub request_of : ℕ → ℕ → List ℕ → Result Request Untaken
request_of cabinets left line =
    if nat_le (length line) 4096 then request_of_words cabinets left (words_of line) else Err NoRequest

-- the word for the reason why a request isn't accepted
abbrev pub untaken_word : Untaken → List ℕ
untaken_word NoRequest = codes "request"
untaken_word Cabinet = codes "cabinet"
untaken_word Phase = codes "phase"
untaken_word Number = codes "number"
untaken_word On = codes "on"
untaken_word Stream = codes "stream"
untaken_word Hex = codes "hex"
untaken_word Ticks = codes "ticks"
untaken_word Full = codes "full"
