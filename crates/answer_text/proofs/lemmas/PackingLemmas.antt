-- What is known of the packing of a leaf.
use Rattle.std.proofs.Common.{ℕ, ◌≡◌, ◌+◌, ◌≤◌, List, length, get_or, take, arith, subst}
use Rattle.std.specs.Prelude.{All, slice_get, Some}
use Rattle.std.proofs.lemmas.Option.{slice_get-get_or, slice_get_within}
use Rattle.std.proofs.lemmas.List.Elements.{All-more}
use Rattle.lists.specs.ListLaws.{All-at}
use Rattle.net_graph.specs.declared.packing.Cut.{Cut}
use Rattle.net_graph.specs.Graph.{Graph, IsGraph}
use Rattle.answer_text.specs.Answers.{IsPackingOn}

-- what holds of the first elements and of the next one that was found
pub All-found_more : {X : Type 0} (P : X → Type 0) (xs : List X) (i : ℕ) (x : X) → All P (take i xs) → slice_get xs i ≡ Some x → P x → All P (take (i + 1) xs)
All-found_more P xs i x all found holds =
    let within = slice_get_within xs i x found in
    let place = slice_get-get_or xs i x within in
    let here : x ≡ get_or xs i x = cc in
    All-more P xs i x within all (subst P here holds)

-- a packing has at most 19601 cuts
pub packing-few : (g : Graph) (packings : List (List Cut)) (leaf : ℕ) (cuts : List Cut) → IsGraph g → All (IsPackingOn g) packings → slice_get packings leaf ≡ Some cuts → length cuts ≤ 19601
packing-few g packings leaf cuts sound all found = let packing = All-at (IsPackingOn g) packings leaf cuts all found in omega arith
