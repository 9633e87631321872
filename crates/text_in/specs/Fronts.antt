-- What stands before the first separator, and after it, is determined.
use Rattle.std.specs.Prelude.{ℕ, ◌≡◌, ◌≢◌, List, [], ◌∷◌, ◌++◌}
use Rattle.std.proofs.Common.{refl}
use Rattle.std.proofs.lemmas.List.Elements.{All-head, All-tail}
use Rattle.text_in.specs.Words.{Lacks}

-- bytes that lack the separator don't hold one after a front
pub separator_missing : (separator : ℕ) (bytes front back : List ℕ) → Lacks bytes separator →
    bytes ≡ front ++ separator ∷ back → ⊥
separator_missing separator [] [] back lacks e = cc
separator_missing separator [] (b ∷ front) back lacks e = cc
separator_missing separator (a ∷ bytes) [] back lacks e =
    All-head (λ b. b ≢ separator) a bytes lacks (cc)
separator_missing separator (a ∷ bytes) (b ∷ front) back lacks e =
    separator_missing separator bytes front back (All-tail (λ c. c ≢ separator) a bytes lacks) (cc)

-- two fronts without the separator, each followed by one, are the same, and so is what follows
pub front_unique : (separator : ℕ) (f g x y : List ℕ) → Lacks f separator → Lacks g separator
    → f ++ separator ∷ x ≡ g ++ separator ∷ y → (f ≡ g) × (x ≡ y)
front_unique separator [] [] x y p q e = (refl, cc)
front_unique separator [] (b ∷ g) x y p q e = absurd (All-head (λ c. c ≢ separator) b g q (cc))
front_unique separator (a ∷ f) [] x y p q e = absurd (All-head (λ c. c ≢ separator) a f p (cc))
front_unique separator (a ∷ f) (b ∷ g) x y p q e =
    let rest : (f ≡ g) × (x ≡ y) =
    front_unique separator f g x y (All-tail (λ c. c ≢ separator) a f p) (All-tail (λ c. c ≢ separator) b g q) (cc) in
    let same : a ∷ f ≡ b ∷ g = cc (rest.0) in
    (same, rest.1)
