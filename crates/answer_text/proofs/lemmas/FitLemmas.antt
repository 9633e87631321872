-- The parts of an answer fit its text.
use Rattle.std.proofs.Common.{◌≡◌, ◌<◌, ◌≤◌, ◌^◌, List, [], ◌∷◌, ◌++◌, length, Some, arith, refl, ap}
use Rattle.std.specs.Prelude.{All}
use Rattle.std.proofs.lemmas.List.Elements.{All-head, All-tail}
use Rattle.lists.specs.ListLaws.{All-first, All-second}
use Rattle.net_graph.specs.declared.packing.Cut.{Cut}
use Rattle.net_graph.specs.Graph.{Graph}
use Rattle.net_graph.specs.Members.{members_of}
use Rattle.cert_tree.specs.declared.split.SplitOn.{SplitOn}
use Rattle.cert_tree.specs.Tree.{Tree}
use Rattle.cert_tree.specs.Tree.Tree.{Leaf, Split}
use Rattle.answer_text.specs.declared.answer.Answer.{Answer}
use Rattle.answer_text.specs.declared.form.Form.{Form}
use Rattle.answer_text.specs.declared.form.Form.TheVariants as form
use Rattle.answer_text.specs.declared.head.AnswerHead.{AnswerHead}
use Rattle.answer_text.specs.declared.split.SplitName.{SplitName}
use Rattle.answer_text.specs.declared.split.SplitName.TheVariants as name
use Rattle.answer_text.specs.declared.version.Version.TheVariants as version
use Rattle.answer_text.specs.LineKinds as line
use Rattle.answer_text.specs.Lines.{head_lines, split_line, tree_lines, proof_lines}
use Rattle.answer_text.specs.Forms.{newest_of, set_size}
use Rattle.answer_text.specs.Spelling.{FitsAnswer, FitsEdge, FitsHead, FitsWeight, FitsLeaf, FitsTree}
use Rattle.cert_tree.specs.Preorder.{nodes_of, packings_of}
use Rattle.answer_text.specs.Answers.{Labels, FitsNode, IsAnswerOn, IsPackingOn, edge_labels, head_told, labelled, value_told}

-- the cuts of a leaf
leaf-fits : (F : Form) (g : Graph) (cuts : List Cut) → set_size F ≡ g.vertices → length g.edges ≤ 4900 → IsPackingOn g cuts → All FitsWeight cuts → FitsLeaf (set_size F) cuts
leaf-fits F g cuts size few packing weights = grind arith

-- a tree of fit packings, whose splits have fit labels
tree-fits : (F : Form) (L : Labels) (g : Graph) (t : Tree SplitOn) → set_size F ≡ g.vertices → length g.edges ≤ 4900 → All (IsPackingOn g) (packings_of t) → All (FitsNode F L) (nodes_of t)
    → All (All FitsWeight) (packings_of t) → FitsTree version.Two F (labelled L t)
tree-fits F L g (Leaf cuts) size few packings names weights =
    leaf-fits F g cuts size few (All-head (IsPackingOn g) cuts [] packings) (All-head (All FitsWeight) cuts [] weights)
tree-fits F L g (Split e o i) size few packings names weights =
    grind (
      arith,
      All-tail,
      All-head,
      tree-fits F L g o size few (All-first (IsPackingOn g) (packings_of o) (packings_of i) packings) (All-first (FitsNode F L) (nodes_of o) (nodes_of i) (All-tail (FitsNode F L) (Some e) (nodes_of o ++ nodes_of i) names)) (All-first (All FitsWeight) (packings_of o) (packings_of i) weights),
      All-first,
      tree-fits F L g i size few (All-second (IsPackingOn g) (packings_of o) (packings_of i) packings) (All-second (FitsNode F L) (nodes_of o) (nodes_of i) (All-tail (FitsNode F L) (Some e) (nodes_of o ++ nodes_of i) names)) (All-second (All FitsWeight) (packings_of o) (packings_of i) weights),
      All-second,
    )

-- in a text of any form a tree has the lines that it has in version 2
split_alike : (F : Form) (on : SplitName) → split_line version.Two on ≡ split_line (newest_of F) on
split_alike (form.OnGrid V) on = refl
split_alike (form.OfGraph E V) on = search

pub tree_alike : (F : Form) (t : Tree SplitName) → tree_lines version.Two t ≡ tree_lines (newest_of F) t
tree_alike F (Leaf cuts) = refl
tree_alike F (Split on o i) = λ k. split_alike F on k ∷ (tree_alike F o k ++ tree_alike F i k)

pub proof_alike : (F : Form) (t : Tree SplitName) → proof_lines version.Two t ≡ proof_lines (newest_of F) t
proof_alike F t = ap (λ x. line.Tree ∷ (x ++ line.End ∷ [])) (tree_alike F t)

-- .. and fits it
fits_alike : (F : Form) (t : Tree SplitName) → FitsTree version.Two F t → FitsTree (newest_of F) F t
fits_alike F (Leaf cuts) f = f
fits_alike F (Split (name.Edge e) o i) f = (f.0, fits_alike F o f.1, fits_alike F i f.2)
fits_alike (form.OnGrid V) (Split (name.Vertex p) o i) f = f
fits_alike (form.OfGraph E V) (Split (name.Vertex p) o i) f = ((tt, f.0.1), fits_alike (form.OfGraph E V) o f.1, fits_alike (form.OfGraph E V) i f.2)

-- the lines of a head, of which a note is told on a grid alone
pub head_alike : (F : Form) (h : AnswerHead) → head_lines (newest_of F) h ≡ head_lines (newest_of F) (head_told F h)
head_alike (form.OnGrid V) h = refl
head_alike (form.OfGraph E V) h = refl

-- An answer fits the text of its form, where its parts do.
pub answer_fits : (F : Form) (L : Labels) (g : Graph) (a : Answer) → set_size F ≡ g.vertices → length g.edges ≤ 4900 → IsAnswerOn g a → FitsHead a.head →
    length (edge_labels L (members_of a.network)) < 2 ^ 32 → All (FitsEdge F) (edge_labels L (members_of a.network)) → All (FitsNode F L) (nodes_of a.tree) →
    All (All FitsWeight) (packings_of a.tree) → FitsAnswer F (value_told F L a)
answer_fits F L g a size few on head count edges names weights =
    let tree = fits_alike F (labelled L a.tree) (tree-fits F L g a.tree size few on.packings names weights) in
    by_form F head edges tree
  where
    by_form : (F : Form) → FitsHead a.head → All (FitsEdge F) (edge_labels L (members_of a.network)) → FitsTree (newest_of F) F (labelled L a.tree) → FitsAnswer F (value_told F L a)
    by_form (form.OnGrid V) head edges tree = record { version = tt; head = head; note = tt; count = count; edges = edges; tree = tree }
    by_form (form.OfGraph E V) head edges tree = record {
      version = tt;
      head = record { length = head.length; bound = head.bound; openings = head.openings; total = omega arith };
      note = refl;
      count = count;
      edges = edges;
      tree = tree;
    }
