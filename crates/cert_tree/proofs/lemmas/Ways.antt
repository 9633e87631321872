-- Ways from the top of a tree to its leaves, and the walk up that finds them.
use Rattle.std.proofs.Common.{ℕ, suc, ◌≡◌, ◌+◌, ◌-◌, ◌<◌, ◌≤◌, ⊎_elim, true, false, ltb, List, [], ◌∷◌, ◌++◌, length, take, drop, get_or, reverse, slice_get, Option, Some, None, refl, ap, sym, ◌∙◌, arith, append_assoc, append-nil}
use Rattle.std.proofs.lemmas.Bool.{cases_lt}
use Rattle.std.proofs.lemmas.List.{reverse-append, take_more}
use Rattle.net_graph.specs.declared.packing.Cut.{Cut}
use Rattle.net_graph.specs.Decision.{Decided}
use Rattle.cert_tree.specs.declared.split.SplitOn.{SplitOn}
use Rattle.cert_tree.specs.declared.way.Turn.{Turn}
use Rattle.cert_tree.specs.Tree.{Tree}
use Rattle.cert_tree.specs.Tree.Tree.{Leaf, Split}
use Rattle.cert_tree.specs.Preorder.{nodes_of, packings_of, leaves_in}
use Rattle.cert_tree.specs.PreorderLaws.{leaves_in-append, leaves_in-nodes_of}
use Rattle.cert_tree.specs.ReplacedLaws.{IsInFirst, IsInSecond, place_in_append}
use Rattle.cert_tree.specs.Decisions.{IsLeafAt, outside_of, inside_of}
use Rattle.cert_tree.specs.LeafLaws.{IsLeafAt-outside, IsLeafAt-inside, IsLeafAt-leaf}
use Rattle.cert_tree.proofs.lemmas.Places.{around}
use Rattle.cert_tree.specs.Way.{turn_of, way_to, after_turns, turns_up}

-- the way to a leaf of the outside child, and of the inside child
pub way_to-outside : (on : SplitOn) (o i : Tree SplitOn) (leaf : ℕ) → leaf < length (packings_of o) →
    way_to (Split on o i) leaf ≡ turn_of on false ∷ way_to o leaf
way_to-outside on o i leaf below = let test : ltb leaf (length (packings_of o)) ≡ true = grind arith in rw test

pub way_to-inside : (on : SplitOn) (o i : Tree SplitOn) (leaf more : ℕ) → leaf ≡ length (packings_of o) + more →
    way_to (Split on o i) leaf ≡ turn_of on true ∷ way_to i more
way_to-inside on o i leaf more past = grind arith

-- a leaf's decision is the one to which its way leads
pub decision-way : (d : Decided) (t : Tree SplitOn) (leaf : ℕ) (dl : Decided) (cuts : List Cut) →
    IsLeafAt d t leaf dl cuts →
    after_turns d (way_to t leaf) ≡ dl
decision-way d (Leaf last) leaf dl cuts at = (IsLeafAt-leaf d last leaf dl cuts at).1
decision-way d (Split on o i) leaf dl cuts at =
    ⊎_elim
    (λ (below : leaf < length (packings_of o)).
    ap (after_turns d) (way_to-outside on o i leaf below)
    ∙ decision-way (outside_of d on) o leaf dl cuts (IsLeafAt-outside d on o i leaf dl cuts below at))
    (λ (past : length (packings_of o) ≤ leaf).
    let more = leaf - length (packings_of o) in
    let sum : leaf ≡ length (packings_of o) + more = omega arith in
    ap (after_turns d) (way_to-inside on o i leaf more sum)
    ∙ decision-way (inside_of d on) i more dl cuts (IsLeafAt-inside d on o i leaf dl cuts past at))
    (cases_lt leaf (length (packings_of o)))

-- on the way up a whole tree is passed by
turns_up-tree : (t : Tree SplitOn) (before : List (Option SplitOn)) (passed : ℕ) →
    turns_up (reverse (nodes_of t) ++ before) passed ≡ turns_up before (suc passed)
turns_up-tree (Leaf cuts) before passed = refl
turns_up-tree (Split on o i) before passed =
    grind (
      arith,
      Split on o i,
      reverse-append (Some on ∷ nodes_of o) (nodes_of i),
      append_assoc (reverse (nodes_of i)) (reverse (Some on ∷ nodes_of o)) before,
      reverse-append (Some on ∷ []) (nodes_of o),
      append_assoc (reverse (nodes_of o)) (Some on ∷ []) before,
      turns_up-tree i (reverse (nodes_of o) ++ (Some on ∷ before)) passed,
      turns_up-tree o (Some on ∷ before) (suc passed),
    )

-- the turns up from a leaf are those of its way, the last of them first
turns_up-way : (t : Tree SplitOn) (leaf : ℕ) (front back before : List (Option SplitOn)) →
    nodes_of t ≡ front ++ None ∷ back →
    leaves_in front ≡ leaf → turns_up (reverse front ++ before) 0 ≡ reverse (way_to t leaf) ++ turns_up before 0
turns_up-way (Leaf cuts) leaf [] back before same count = refl
turns_up-way (Leaf cuts) leaf (x ∷ []) back before same count = absurd cc
turns_up-way (Leaf cuts) leaf (x ∷ y ∷ front) back before same count = absurd cc
turns_up-way (Split on o i) leaf [] back before same count = absurd cc
turns_up-way (Split on o i) leaf (x ∷ front) back before same count =
    let head : x ≡ Some on = cc in
    let tail : nodes_of o ++ nodes_of i ≡ front ++ None ∷ back = cc in
    let passed : leaves_in front ≡ leaf = rw head at count in
    let turned : reverse (x ∷ front) ++ before ≡ reverse front ++ (Some on ∷ before) =
    ap (λ y. reverse (y ∷ front) ++ before) head ∙ ap (λ all. all ++ before) (reverse-append (Some on ∷ []) front)
    ∙ append_assoc (reverse front) (Some on ∷ []) before in
    ⊎_elim
    (λ (at : IsInFirst (nodes_of o) (nodes_of i) front back None).
    let among = ap leaves_in at.first ∙ leaves_in-append front (None ∷ at.rest) in
    let below : leaf < length (packings_of o) = omega (arith, among, leaves_in-nodes_of o) in
    ap (λ all. turns_up all 0) turned
    ∙ turns_up-way o leaf front at.rest (Some on ∷ before) at.first passed
    ∙ sym (append_assoc (reverse (way_to o leaf)) (turn_of on false ∷ []) (turns_up before 0))
    ∙ ap (λ all. all ++ turns_up before 0) (sym (reverse-append (turn_of on false ∷ []) (way_to o leaf))
    ∙ ap reverse (sym (way_to-outside on o i leaf below))))
    (λ (at : IsInSecond (nodes_of o) (nodes_of i) front back None).
    let among = ap leaves_in at.first ∙ leaves_in-append (nodes_of o) at.more in
    let more = leaves_in at.more in
    let past : leaf ≡ length (packings_of o) + more = omega (arith, among, leaves_in-nodes_of o) in
    let parts : reverse front ++ (Some on ∷ before) ≡ reverse at.more ++ (reverse (nodes_of o) ++ (Some on ∷ before)) =
    ap (λ all. reverse all ++ (Some on ∷ before)) at.first
    ∙ ap (λ all. all ++ (Some on ∷ before)) (reverse-append (nodes_of o) at.more)
    ∙ append_assoc (reverse at.more) (reverse (nodes_of o)) (Some on ∷ before) in
    ap (λ all. turns_up all 0) (turned ∙ parts)
    ∙ turns_up-way i more at.more back (reverse (nodes_of o) ++ (Some on ∷ before)) at.second refl
    ∙ ap (λ all. reverse (way_to i more) ++ all) (turns_up-tree o (Some on ∷ before) 0)
    ∙ sym (append_assoc (reverse (way_to i more)) (turn_of on true ∷ []) (turns_up before 0))
    ∙ ap (λ all. all ++ turns_up before 0) (sym (reverse-append (turn_of on true ∷ []) (way_to i more))
    ∙ ap reverse (sym (way_to-inside on o i leaf more past))))
    (place_in_append (nodes_of o) (nodes_of i) front back None tail)

-- from a leaf's place up to the top of a tree
pub turns_up-leaf : (t : Tree SplitOn) (leaf : ℕ) (front back : List (Option SplitOn)) →
    nodes_of t ≡ front ++ None ∷ back →
    leaves_in front ≡ leaf → turns_up (reverse front) 0 ≡ reverse (way_to t leaf)
turns_up-leaf t leaf front back same count =
    ap (λ all. turns_up all 0) (sym (append-nil (reverse front))) ∙ turns_up-way t leaf front back [] same count
    ∙ append-nil (reverse (way_to t leaf))

-- the nodes before the next place, the last of them first
pub reverse-take_more : {X : Type 0} (xs : List X) (place : ℕ) (d : X) → 0 < place → place ≤ length xs →
    reverse (take place xs) ≡ get_or xs (place - 1) d ∷ reverse (take (place - 1) xs)
reverse-take_more xs place d some within =
    grind (arith, take_more, reverse-append (take (place - 1) xs) (get_or xs (place - 1) d ∷ []))

-- the turns up from a place, by what the node before it gives
pub turns_up-step : (nodes all : List (Option SplitOn)) (place passed later : ℕ) (turns : List Turn) → nodes ≡ all →
    0 < place → place ≤ length all →
    turns_up (get_or nodes (place - 1) None ∷ reverse (take (place - 1) all)) passed
    ≡ turns ++ turns_up (reverse (take (place - 1) all)) later →
    turns_up (reverse (take place all)) passed ≡ turns ++ turns_up (reverse (take (place - 1) all)) later
turns_up-step nodes all place passed later turns same some within step =
    grind (arith, reverse-take_more all place None some within)

-- a leaf's place is one of the places of the nodes, and the turns up from it are those of its way
pub turns_up-place : (t : Tree SplitOn) (leaf place : ℕ) → slice_get (nodes_of t) place ≡ Some None →
    leaves_in (take place (nodes_of t)) ≡ leaf →
    turns_up (reverse (take place (nodes_of t))) 0 ≡ reverse (way_to t leaf)
turns_up-place t leaf place at count =
    grind (arith, turns_up-leaf t leaf (take place (nodes_of t)) (drop (place + 1) (nodes_of t)) (around (nodes_of t) place None at) count, around (nodes_of t) place None)
