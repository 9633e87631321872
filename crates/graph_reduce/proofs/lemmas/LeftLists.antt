-- What is left, edge after edge and node after node.
use Rattle.std.specs.Prelude.{ℕ, zero, suc, ◌≡◌, ◌+◌, ◌≤◌, ◌++◌, Bool, true, false, List, [], ◌∷◌, length, map, take, Option, Some, None}
use Rattle.std.proofs.Common.{refl, ap, arith}
use Rattle.net_graph.specs.Members.{members_from, members_of}
use Rattle.graph_reduce.specs.State.{Bundle}
use Rattle.graph_reduce.specs.Reduction.{bundles_left, number_among}

-- one edge more
pub left-some : {B : Type 0} (f : Bundle → B) (edges : List (Option Bundle)) (x : Bundle) →
    map f (bundles_left (edges ++ Some x ∷ [])) ≡ map f (bundles_left edges) ++ f x ∷ []
left-some f [] x = refl
left-some f (None ∷ edges) x = left-some f edges x
left-some f (Some y ∷ edges) x = ap (λ more. f y ∷ more) (left-some f edges x)

-- .. or none
pub left-none : {B : Type 0} (f : Bundle → B) (edges : List (Option Bundle)) →
    map f (bundles_left (edges ++ None ∷ [])) ≡ map f (bundles_left edges)
left-none f [] = refl
left-none f (None ∷ edges) = left-none f edges
left-none f (Some y ∷ edges) = ap (λ more. f y ∷ more) (left-none f edges)

-- a node's new number is how many lower ones are left
length-members_below : (n : ℕ) (nodes : List Bool) (v : ℕ) →
    length (members_from n (take v nodes)) ≡ number_among nodes v
length-members_below n [] zero = refl
length-members_below n [] (suc v) = refl
length-members_below n (true ∷ nodes) zero = refl
length-members_below n (false ∷ nodes) zero = refl
length-members_below n (true ∷ nodes) (suc v) = ap suc (length-members_below (n + 1) nodes v)
length-members_below n (false ∷ nodes) (suc v) = length-members_below (n + 1) nodes v

pub number_is : (nodes : List Bool) (v : ℕ) → length (members_of (take v nodes)) ≡ number_among nodes v
number_is nodes v = length-members_below 0 nodes v

pub number_least : (nodes : List Bool) (v : ℕ) → number_among nodes v ≤ v
number_least [] v = omega arith
number_least (true ∷ nodes) zero = omega arith
number_least (false ∷ nodes) zero = omega arith
number_least (true ∷ nodes) (suc v) = omega (arith, number_least nodes v)
number_least (false ∷ nodes) (suc v) = omega (arith, number_least nodes v)
