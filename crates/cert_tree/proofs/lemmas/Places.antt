-- Places in lists of nodes.
use Rattle.std.proofs.Common.{ℕ, ◌≡◌, ◌+◌, ◌<◌, ◌≤◌, true, false, List, [], ◌∷◌, ◌++◌, length, take, drop, set, get_or, append_assoc, Option, Some, None, refl, ap, sym, ◌∙◌, arith, add-one, drop-cons}
use Rattle.std.specs.Prelude.{slice_get, is_some}
use Rattle.std.specs.List.{insert}
use Rattle.std.proofs.lemmas.List.{take_more, take_all, take-append-drop, length-take-le, set_at}
use Rattle.net_graph.specs.declared.packing.Cut.{Cut}
use Rattle.std.proofs.lemmas.Option.{slice_get-get_or, slice_get_within, same_Some}
use Rattle.cert_tree.specs.Tree.{Tree, split_with}
use Rattle.cert_tree.specs.Preorder.{nodes_of, packings_of, leaves_in}
use Rattle.cert_tree.specs.PreorderLaws.{leaves_in-append, leaves_in-nodes_of}
use Rattle.cert_tree.specs.Replaced.{replaced}
use Rattle.cert_tree.specs.ReplacedLaws.{nodes_of-replaced, packings_of-replaced}

-- a list around one of its places
pub around : {X : Type 0} (xs : List X) (place : ℕ) (x : X) → slice_get xs place ≡ Some x →
    xs ≡ take place xs ++ x ∷ drop (place + 1) xs
around xs place x is =
    grind (arith, same_Some, slice_get-get_or xs place x (slice_get_within xs place x is), take-append-drop place xs, drop-cons xs place x (slice_get_within xs place x is), add-one place)

-- what is put in behind a place
insert_behind : {X : Type 0} (xs : List X) (place : ℕ) (x y : X) → place < length xs → slice_get xs place ≡ Some x →
    insert xs (place + 1) y ≡ take place xs ++ x ∷ y ∷ drop (place + 1) xs
insert_behind xs place x y within is =
    grind (arith, same_Some, slice_get-get_or xs place x within, take_more xs place x within, append_assoc (take place xs) (x ∷ []) (y ∷ drop (place + 1) xs))

-- one node more is one leaf more where it is a leaf
leaves_in-more : {S : Type 0} (nodes : List (Option S)) (place : ℕ) → place < length nodes →
    leaves_in (take (place + 1) nodes) ≡ leaves_in (take place nodes) + leaves_in (get_or nodes place None ∷ [])
leaves_in-more nodes place within =
    grind (arith, take_more nodes place None within, leaves_in-append (take place nodes) (get_or nodes place None ∷ []))

leaves_in-one : {S : Type 0} (node : Option S) → is_some node ≡ false → leaves_in (node ∷ []) ≡ 1
leaves_in-one None is = refl
leaves_in-one (Some on) is = absurd cc

leaves_in-none : {S : Type 0} (node : Option S) → is_some node ≡ true → leaves_in (node ∷ []) ≡ 0
leaves_in-none None is = absurd cc
leaves_in-none (Some on) is = refl

pub leaf_passed : {S : Type 0} (nodes : List (Option S)) (place : ℕ) → place < length nodes →
    is_some (get_or nodes place None) ≡ false →
    leaves_in (take (place + 1) nodes) ≡ leaves_in (take place nodes) + 1
leaf_passed nodes place within is =
    grind (arith, leaves_in-more nodes place within, leaves_in-one (get_or nodes place None) is)

pub split_passed : {S : Type 0} (nodes : List (Option S)) (place : ℕ) → place < length nodes →
    is_some (get_or nodes place None) ≡ true →
    leaves_in (take (place + 1) nodes) ≡ leaves_in (take place nodes)
split_passed nodes place within is =
    omega (arith, leaves_in-more nodes place within, leaves_in-none (get_or nodes place None) is)

-- all leaves of a tree are passed with its last node
pub all_passed : {S : Type 0} (t : Tree S) (nodes : List (Option S)) (place : ℕ) → nodes ≡ nodes_of t →
    length nodes ≤ place →
    leaves_in (take place nodes) ≡ length (packings_of t)
all_passed t nodes place same past = ap leaves_in (take_all place nodes past) ∙ ap leaves_in same ∙ leaves_in-nodes_of t

-- the nodes around a leaf, with those of a split between them
pub nodes_with_split_at : {S : Type 0} (t : Tree S) (on : S) (nodes items : List (Option S)) (place leaf : ℕ) →
    nodes ≡ nodes_of t →
    slice_get (nodes_of t) place ≡ Some None → leaves_in (take place (nodes_of t)) ≡ leaf →
    items ≡ take place nodes ++ (Some on ∷ None ∷ None ∷ []) ++ drop (place + 1) nodes →
    (outside inside : List Cut) → items ≡ nodes_of (replaced leaf (split_with on outside inside) t)
nodes_with_split_at t on nodes items place leaf same at count parts outside inside =
    grind (
      arith,
      nodes_of-replaced (split_with on outside inside) t leaf (take place (nodes_of t)) (drop (place + 1) (nodes_of t)) (around (nodes_of t) place None at) count,
      around (nodes_of t) place None,
      append_assoc (take place nodes) (Some on ∷ None ∷ None ∷ []) (drop (place + 1) nodes),
    )

-- the packings with another one in place of a leaf's and one behind it
pub packings_with_split_at : {S : Type 0} (t : Tree S) (on : S) (packings : List (List Cut)) (leaf : ℕ)
    (outside inside : List Cut) →
    packings ≡ packings_of t → leaf < length (packings_of t) →
    set (insert packings (leaf + 1) inside) leaf outside ≡ packings_of (replaced leaf (split_with on outside inside) t)
packings_with_split_at t on packings leaf outside inside same below =
    let here = get_or packings leaf [] in
    let within : leaf < length packings = omega (arith, ap length same) in
    let found : slice_get packings leaf ≡ Some here = slice_get-get_or packings leaf [] within in
    let parts = around packings leaf here found in
    let front : length (take leaf packings) ≡ leaf = length-take-le leaf packings (omega arith) in
    let whole = packings_of-replaced (split_with on outside inside) t leaf (take leaf packings)
    (drop (leaf + 1) packings) here (sym same ∙ parts) front in
    ap (λ all. set all leaf outside) (insert_behind packings leaf here inside within found)
    ∙ set_at (take leaf packings) here (inside ∷ drop (leaf + 1) packings) outside leaf front ∙ sym whole
