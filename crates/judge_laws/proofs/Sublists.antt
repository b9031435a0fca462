-- Lists of breaches with some left out, and tests that find fewer.
use Rattle.std.proofs.Common.{◌≡◌, ℕ, Bool, true, false, List, [], ◌∷◌, ◌++◌, refl, ap, ◌∙◌}
use Rattle.std.proofs.lemmas.Bool.{false≢true}
use Rattle.judge_laws.specs.declared.Breach.{Breach}
use Rattle.judge_laws.specs.declared.Clause.TheVariants.{Apart, Order, Clearance, ShortGreen, Pedestrian, OnGreen}
use Rattle.judge_laws.specs.Breaches.{breach_at, found, each}
use Rattle.judge_laws.specs.Sublist.{IsSublist, empty, keeps, leaves_out}

pub sublist-none : (ys : List Breach) → IsSublist [] ys
sublist-none [] = empty
sublist-none (y ∷ ys) = leaves_out y [] ys (sublist-none ys)

pub sublist-same : (xs : List Breach) → IsSublist xs xs
sublist-same [] = empty
sublist-same (x ∷ xs) = keeps x xs xs (sublist-same xs)

pub sublist-append : (some all less more : List Breach) → IsSublist some all → IsSublist less more → IsSublist (some ++ less) (all ++ more)
sublist-append some all less more s t = behind s
  where
    behind : {xs ys : List Breach} → IsSublist xs ys → IsSublist (xs ++ less) (ys ++ more)
    behind empty = t
    behind (keeps x xs ys s) = keeps x (xs ++ less) (ys ++ more) (behind s)
    behind (leaves_out y xs ys s) = leaves_out y (xs ++ less) (ys ++ more) (behind s)

pub sublist-found : (a b : Bool) (x : Breach) → (a ≡ true → b ≡ true) → IsSublist (found a x) (found b x)
sublist-found false b x h = sublist-none (found b x)
sublist-found true true x h = sublist-same (x ∷ [])
sublist-found true false x h = absurd (false≢true (h refl))

pub sublist-each : (of more : ℕ → List Breach) (ps : List ℕ) → ((p : ℕ) → IsSublist (of p) (more p)) → IsSublist (each of ps) (each more ps)
sublist-each of more [] h = empty
sublist-each of more (p ∷ ps) h = sublist-append (of p) (more p) (each of ps) (each more ps) (h p) (sublist-each of more ps h)

-- the breaches of a phase: those of its pairs, and one for each of six tests that finds it
abbrev pub listing : ℕ → ℕ → ℕ → List Breach → Bool → Bool → Bool → Bool → Bool → Bool → List Breach
listing cab tick p pairs lit order clearance green pedestrian on_green =
    pairs
    ++ (found lit (breach_at cab tick Apart p 0)
    ++ (found order (breach_at cab tick Order p 0)
    ++ (found clearance (breach_at cab tick Clearance p 0)
    ++ (found green (breach_at cab tick ShortGreen p 0)
    ++ (found pedestrian (breach_at cab tick Pedestrian p 0)
    ++ found on_green (breach_at cab tick OnGreen p 0))))))

-- fewer tests find fewer breaches
pub listing-fewer : (cab tick p : ℕ) (pairs : List Breach) (a b c d e f g h i j k l : Bool)
    → (a ≡ true → g ≡ true) → (b ≡ true → h ≡ true) → (c ≡ true → i ≡ true) → (d ≡ true → j ≡ true) → (e ≡ true → k ≡ true) → (f ≡ true → l ≡ true)
    → IsSublist (listing cab tick p pairs a b c d e f) (listing cab tick p pairs g h i j k l)
listing-fewer cab tick p pairs a b c d e f g h i j k l m n o q r s =
    sublist-append pairs pairs _ _ (sublist-same pairs)
    (sublist-append (found a (breach_at cab tick Apart p 0)) (found g (breach_at cab tick Apart p 0)) _ _ (sublist-found a g (breach_at cab tick Apart p 0) m)
    (sublist-append (found b (breach_at cab tick Order p 0)) (found h (breach_at cab tick Order p 0)) _ _ (sublist-found b h (breach_at cab tick Order p 0) n)
    (sublist-append (found c (breach_at cab tick Clearance p 0)) (found i (breach_at cab tick Clearance p 0)) _ _ (sublist-found c i (breach_at cab tick Clearance p 0) o)
    (sublist-append (found d (breach_at cab tick ShortGreen p 0)) (found j (breach_at cab tick ShortGreen p 0)) _ _ (sublist-found d j (breach_at cab tick ShortGreen p 0) q)
    (sublist-append (found e (breach_at cab tick Pedestrian p 0)) (found k (breach_at cab tick Pedestrian p 0)) _ _ (sublist-found e k (breach_at cab tick Pedestrian p 0) r)
    (sublist-found f l (breach_at cab tick OnGreen p 0) s))))))

-- the same tests find the same
pub listing-same : (cab tick p : ℕ) (xs ys : List Breach) (a b c d e f g h i j k l : Bool)
    → xs ≡ ys → a ≡ g → b ≡ h → c ≡ i → d ≡ j → e ≡ k → f ≡ l → listing cab tick p xs a b c d e f ≡ listing cab tick p ys g h i j k l
listing-same cab tick p xs ys a b c d e f g h i j k l m n o q r s t =
    ap (λ (x : List Breach). listing cab tick p x a b c d e f) m ∙ ap (λ (x : Bool). listing cab tick p ys x b c d e f) n
    ∙ ap (λ (x : Bool). listing cab tick p ys g x c d e f) o ∙ ap (λ (x : Bool). listing cab tick p ys g h x d e f) q
    ∙ ap (λ (x : Bool). listing cab tick p ys g h i x e f) r ∙ ap (λ (x : Bool). listing cab tick p ys g h i j x f) s
    ∙ ap (λ (x : Bool). listing cab tick p ys g h i j k x) t
