-- What the trees at the places of a set sum to.
use Rattle.std.proofs.Common.{ℕ, suc, ◌≡◌, ◌+◌, Bool, true, false, List, [], ◌∷◌, slice_get, Option, None, Some, refl, arith}
use Rattle.std.specs.Prelude.{sum_by}
use Rattle.std.proofs.lemmas.List.Sums.{sum_by-cons}
use Rattle.net_graph.specs.Members.{members_from, members_of}
use Rattle.full_tree.specs.declared.code.Tree.{Tree}
use Rattle.concatenation.specs.Concatenation.{total_of}

-- the length of a tree, where there is one
abbrev pub length_if : Option Tree → ℕ
length_if None = 0
length_if (Some tree) = tree.length

-- the length of the tree at a place of the list
abbrev pub length_at : List Tree → ℕ → ℕ
length_at trees k = length_if (slice_get trees k)

-- values from a number on, as they go on from the next number
next : (f g : ℕ → ℕ) (n : ℕ) → ((k : ℕ) → f (n + k) ≡ g k) → (k : ℕ) → f (n + 1 + k) ≡ g (suc k)
next f g n is k = let there : n + suc k ≡ n + 1 + k = omega arith in rw there at (is (suc k))

-- the trees at the places of the set, where the first flag is that of the place n
sum_from : (f : ℕ → ℕ) (n : ℕ) (trees : List Tree) (set : List Bool) →
    ((k : ℕ) → f (n + k) ≡ length_at trees k) → sum_by f (members_from n set) ≡ total_of trees set
sum_from f n [] [] is = refl
sum_from f n [] (true ∷ set) is =
    let here : n + 0 ≡ n = omega arith in
    let rest = sum_from f (n + 1) [] set (next f (length_at []) n is) in
    omega (arith, sum_by-cons f n (members_from (n + 1) set), rw here at (is 0), rest)
sum_from f n [] (false ∷ set) is = sum_from f (n + 1) [] set (next f (length_at []) n is)
sum_from f n (tree ∷ trees) [] is = refl
sum_from f n (tree ∷ trees) (true ∷ set) is =
    let here : n + 0 ≡ n = omega arith in
    let rest = sum_from f (n + 1) trees set (next f (length_at (tree ∷ trees)) n is) in
    omega (arith, sum_by-cons f n (members_from (n + 1) set), rw here at (is 0), rest)
sum_from f n (tree ∷ trees) (false ∷ set) is =
    omega (arith, sum_from f (n + 1) trees set (next f (length_at (tree ∷ trees)) n is))

-- the trees at the places of a set are together as long as its total
pub sum_of_places : (trees : List Tree) (set : List Bool) →
    sum_by (length_at trees) (members_of set) ≡ total_of trees set
sum_of_places trees set = grind (arith, sum_from)
