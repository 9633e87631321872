-- Trails as lists: in preorder, the part with a split's tree before the part without it.
use Rattle.std.specs.Prelude.{ℕ, ◌≡◌, List, [], ◌∷◌, Option, Some, None, refl}
use Rattle.std.proofs.Common.{ap, ◌∙◌}
use Rattle.std.specs.Coded.{Coded, code_by, coded_list, coded_option, coded_ℕ}
use Rattle.concatenation.specs.Trails.{Trail, End, Split}

-- a split on a place over the first two trails
abbrev pub split_over : ℕ → List Trail → List Trail
split_over place [] = []
split_over place (with_it ∷ []) = []
split_over place (with_it ∷ without ∷ trails) = Split place without with_it ∷ trails

-- the first of some trails
abbrev pub first_of_trails : List Trail → Trail
first_of_trails [] = End
first_of_trails (trail ∷ trails) = trail

-- a trail in preorder before a list: nothing for an end, a place for a split
abbrev pub trail_onto : Trail → List (Option ℕ) → List (Option ℕ)
trail_onto End list = None ∷ list
trail_onto (Split place without with_it) list = Some place ∷ trail_onto with_it (trail_onto without list)

-- the trails of a list
abbrev pub trails_in : List (Option ℕ) → List Trail
trails_in [] = []
trails_in (None ∷ list) = End ∷ trails_in list
trails_in (Some place ∷ list) = split_over place (trails_in list)

-- the list gives the trail back
pub trails_in-onto : (trail : Trail) (list : List (Option ℕ))
    → trails_in (trail_onto trail list) ≡ trail ∷ trails_in list
trails_in-onto End list = refl
trails_in-onto (Split place without with_it) list =
    ap (split_over place)
    (trails_in-onto with_it (trail_onto without list) ∙ ap (λ trails. with_it ∷ trails) (trails_in-onto without list))

-- a trail is stored as its list
abbrev pub trail_code : Coded Trail
trail_code = code_by (List (Option ℕ)) (coded_list (coded_option coded_ℕ)) (λ trail. trail_onto trail [])
    (λ list. first_of_trails (trails_in list)) (λ trail. ap first_of_trails (trails_in-onto trail []))
