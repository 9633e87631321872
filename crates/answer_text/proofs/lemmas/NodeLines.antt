-- The lines of a tree, one node after another in preorder.
use Rattle.std.proofs.Common.{ℕ, ◌≡◌, ◌+◌, ◌*◌, ◌<◌, ◌≤◌, List, [], ◌∷◌, ◌++◌, length, take, drop, get_or, refl, ap, sym, ◌∙◌, arith, append_assoc, Option, Some, None}
use Rattle.std.proofs.lemmas.List.{append-nil, take_more, take_all, take-append-drop}
use Rattle.std.proofs.lemmas.Option.{slice_get-get_or}
use Rattle.std.specs.Prelude.{slice_get}
use Rattle.net_graph.specs.declared.packing.Cut.{Cut}
use Rattle.cert_tree.specs.Tree.{Tree}
use Rattle.cert_tree.specs.Tree.Tree.{Leaf, Split}
use Rattle.answer_text.specs.AnswerLine.{Line}
use Rattle.answer_text.specs.declared.version.Version.TheVariants as version
use Rattle.answer_text.specs.Lines.{leaf_lines, line_text, lines_text, split_line, tree_lines}
use Rattle.answer_text.proofs.lemmas.Lengths.{lines_text-push}
use Rattle.std.proofs.lemmas.List.Concat.{flat_map-append}
use Rattle.cert_tree.specs.Preorder.{nodes_of, packings_of, leaves_in}
use Rattle.cert_tree.specs.PreorderLaws.{leaves_in-append, leaves_in-nodes_of, length-nodes_of}
use Rattle.cert_tree.specs.declared.split.SplitOn.{SplitOn}
use Rattle.answer_text.specs.Answers.{Labels, labelled, split_label}

-- the lines of nodes that say what a split is on, of which each leaf has the next packing
abbrev pub nodes_lines : Labels → List (Option SplitOn) → List (List Cut) → List Line
nodes_lines L [] packings = []
nodes_lines L (None ∷ nodes) [] = nodes_lines L nodes []
nodes_lines L (None ∷ nodes) (cuts ∷ packings) = leaf_lines cuts ++ nodes_lines L nodes packings
nodes_lines L (Some on ∷ nodes) packings = split_line version.Two (split_label L on) ∷ nodes_lines L nodes packings

-- a tree's nodes and those behind them
tree_then : (L : Labels) (t : Tree SplitOn) (nodes : List (Option SplitOn)) (packings : List (List Cut))
    → nodes_lines L (nodes_of t ++ nodes) (packings_of t ++ packings) ≡ tree_lines version.Two (labelled L t) ++ nodes_lines L nodes packings
tree_then L (Leaf cuts) nodes packings = refl
tree_then L (Split on o i) nodes packings =
    grind (
      arith,
      append_assoc (nodes_of o) (nodes_of i) nodes,
      append_assoc (packings_of o) (packings_of i) packings,
      tree_then L o (nodes_of i ++ nodes) (packings_of i ++ packings),
      tree_then L i nodes packings,
      append_assoc (tree_lines version.Two (labelled L o)) (tree_lines version.Two (labelled L i)) (nodes_lines L nodes packings),
    )

-- the nodes of a tree have its lines
pub nodes_lines-tree : (L : Labels) (t : Tree SplitOn) → nodes_lines L (nodes_of t) (packings_of t) ≡ tree_lines version.Two (labelled L t)
nodes_lines-tree L t =
    grind (arith, append-nil (nodes_of t), append-nil (packings_of t), tree_then L t, append-nil (tree_lines version.Two (labelled L t)))

-- one more split
split_more : (L : Labels) (nodes : List (Option SplitOn)) (on : SplitOn) (packings : List (List Cut))
    → nodes_lines L (nodes ++ Some on ∷ []) packings ≡ nodes_lines L nodes packings ++ split_line version.Two (split_label L on) ∷ []
split_more L [] on packings = refl
split_more L (None ∷ nodes) on [] = split_more L nodes on []
split_more L (None ∷ nodes) on (cuts ∷ packings) = search (append_assoc, split_more L nodes on packings)
split_more L (Some d ∷ nodes) on packings = ap (λ x. split_line version.Two (split_label L d) ∷ x) (split_more L nodes on packings)

-- one more leaf
leaf_more : (L : Labels) (nodes : List (Option SplitOn)) (packings : List (List Cut)) (d : List Cut) → leaves_in nodes < length packings
    → nodes_lines L (nodes ++ None ∷ []) packings ≡ nodes_lines L nodes packings ++ leaf_lines (get_or packings (leaves_in nodes) d)
leaf_more L [] [] d inside = absurd (omega arith)
leaf_more L [] (cuts ∷ packings) d inside = append-nil (leaf_lines cuts)
leaf_more L (None ∷ nodes) [] d inside = absurd (omega arith)
leaf_more L (None ∷ nodes) (cuts ∷ packings) d inside =
    ap (λ x. leaf_lines cuts ++ x) (leaf_more L nodes packings d (omega arith)) ∙ sym (append_assoc (leaf_lines cuts) (nodes_lines L nodes packings) (leaf_lines (get_or packings (leaves_in nodes) d)))
leaf_more L (Some on ∷ nodes) packings d inside = search (leaf_more L nodes packings d inside)

-- the nodes up to a place and the one there
take_push : (nodes : List (Option SplitOn)) (i : ℕ) (here : Option SplitOn) → i < length nodes → get_or nodes i None ≡ here → take (i + 1) nodes ≡ take i nodes ++ here ∷ []
take_push nodes i here inside is = take_more nodes i None inside ∙ ap (λ x. take i nodes ++ x ∷ []) is

-- a split at the next place
pub split_step : (L : Labels) (nodes : List (Option SplitOn)) (packings : List (List Cut)) (i : ℕ) (on : SplitOn) → i < length nodes → get_or nodes i None ≡ Some on
    → lines_text (nodes_lines L (take i nodes) packings) ++ line_text (split_line version.Two (split_label L on)) ≡ lines_text (nodes_lines L (take (i + 1) nodes) packings)
split_step L nodes packings i on inside is =
    grind (arith, lines_text-push (nodes_lines L (take i nodes) packings) (split_line version.Two (split_label L on)), split_more L (take i nodes) on packings, take_push nodes i (Some on) inside is)

-- it is no leaf
pub split_leaves : (nodes : List (Option SplitOn)) (i : ℕ) (e : SplitOn) → i < length nodes → get_or nodes i None ≡ Some e → leaves_in (take i nodes) ≡ leaves_in (take (i + 1) nodes)
split_leaves nodes i e inside is =
    omega (arith, ap leaves_in (take_push nodes i (Some e) inside is) ∙ leaves_in-append (take i nodes) (Some e ∷ []))

-- a leaf at the next place
pub leaf_step : (L : Labels) (nodes : List (Option SplitOn)) (packings : List (List Cut)) (i leaf : ℕ) (cuts : List Cut) → i < length nodes → get_or nodes i None ≡ None
    → leaf ≡ leaves_in (take i nodes) → leaf < length packings → slice_get packings leaf ≡ Some cuts
    → lines_text (nodes_lines L (take i nodes) packings) ++ lines_text (leaf_lines cuts) ≡ lines_text (nodes_lines L (take (i + 1) nodes) packings)
leaf_step L nodes packings i leaf cuts inside is count below found =
    grind (arith, slice_get-get_or packings leaf cuts below, flat_map-append line_text (nodes_lines L (take i nodes) packings) (leaf_lines cuts), leaf_more, take_push nodes i None inside is)

-- it is one leaf more
pub leaf_leaves : (nodes : List (Option SplitOn)) (i : ℕ) → i < length nodes → get_or nodes i None ≡ None → leaves_in (take i nodes) + 1 ≡ leaves_in (take (i + 1) nodes)
leaf_leaves nodes i inside is =
    omega (arith, ap leaves_in (take_push nodes i None inside is) ∙ leaves_in-append (take i nodes) (None ∷ []))

-- there are no more leaves before a place than all of them
leaves_in-take : (nodes : List (Option SplitOn)) (i : ℕ) → leaves_in (take i nodes) ≤ leaves_in nodes
leaves_in-take nodes i = omega (arith, leaves_in-append (take i nodes) (drop i nodes), ap leaves_in (take-append-drop i nodes))

-- fewer leaves stand before a leaf than there are packings
pub leaf_below : (t : Tree SplitOn) (nodes : List (Option SplitOn)) (i leaf : ℕ) → nodes ≡ nodes_of t → i < length nodes → get_or nodes i None ≡ None
    → leaf ≡ leaves_in (take i nodes) → leaf < length (packings_of t)
leaf_below t nodes i leaf same inside is count = grind (arith, leaves_in-nodes_of, leaf_leaves, leaves_in-take)

-- no more leaves were passed than there are
pub leaf_within : (t : Tree SplitOn) (nodes : List (Option SplitOn)) (i leaf : ℕ) → nodes ≡ nodes_of t → leaf ≡ leaves_in (take i nodes) → leaf ≤ length (packings_of t)
leaf_within t nodes i leaf same count = grind (arith, leaves_in-nodes_of, leaves_in-take)

-- behind the last node all packings were passed
pub leaf_last : (t : Tree SplitOn) (nodes : List (Option SplitOn)) (i leaf : ℕ) → nodes ≡ nodes_of t → length nodes ≤ i → leaf ≡ leaves_in (take i nodes) → length (packings_of t) ≤ leaf
leaf_last t nodes i leaf same past count = grind (arith, take_all i nodes past, leaves_in-nodes_of t)

-- the nodes are the leaves and, one fewer, the splits
pub nodes_count : (t : Tree SplitOn) (nodes : List (Option SplitOn)) → nodes ≡ nodes_of t → length nodes + 1 ≡ 2 * length (packings_of t)
nodes_count t nodes same = ap (λ x. length x + 1) same ∙ length-nodes_of t
