-- The lines of an answer are due, and lines of which each was due can be gone on with to the end of an answer.
use Rattle.std.proofs.Common.{ℕ, suc, zero, ◌≡◌, ◌≤◌, List, [], ◌∷◌, ◌++◌, length, map, refl, ◌∙◌, arith, append_assoc, Some, replicate, false, rules}
use Rattle.std.specs.Prelude.{All, pos, FitsSigned}
use Rattle.std.specs.Int.{w64}
use Rattle.std.proofs.lemmas.List.{length-replicate}
use Rattle.std.proofs.lemmas.List.Elements.{All-head, All-tail, All-cons, All-nil, All-append, All-map, All-replicate}
use Rattle.net_graph.specs.declared.packing.Cut.{Cut}
use Rattle.answer_text.specs.declared.form.Form.{Form}
use Rattle.answer_text.specs.declared.form.Form.TheVariants as form
use Rattle.answer_text.specs.declared.label.EdgeLabel.{EdgeLabel}
use Rattle.answer_text.specs.declared.label.EdgeLabel.TheVariants as edge
use Rattle.hanan_grid.specs.declared.name.EdgeName.{EdgeName}
use Rattle.answer_text.specs.declared.head.AnswerHead.{AnswerHead}
use Rattle.answer_text.specs.AnswerLine.{Line}
use Rattle.answer_text.specs.LineKinds as line
use Rattle.answer_text.specs.declared.line.Stage.{Stage}
use Rattle.answer_text.specs.declared.line.Stage.TheVariants as stage
use Rattle.answer_text.specs.Value.{WrittenAnswer}
use Rattle.cert_tree.specs.Tree.{Tree}
use Rattle.cert_tree.specs.Tree.Tree.{Leaf, Split}
use Rattle.answer_text.specs.declared.split.SplitName.{SplitName}
use Rattle.answer_text.specs.declared.version.Version.{Version}
use Rattle.answer_text.specs.declared.version.Version.TheVariants as version
use Rattle.answer_text.specs.Forms.{IsVersionOf, most_edges, set_size}
use Rattle.answer_text.specs.Notes.{no_note}
use Rattle.answer_text.specs.Spelling.{FitsSplit, FitsTree, FitsAnswer}
use Rattle.answer_text.specs.Lines.{split_line, tree_lines, head_lines, proof_lines, body_lines, answer_lines, run}
use Rattle.answer_text.specs.LineFits.{FitsLine, FitsLines, version_with, version_from}
use Rattle.answer_text.proofs.lemmas.Steps.{step-split_line}
use Rattle.answer_text.proofs.lemmas.FormLemmas.{HasRoom, edges_counted}

-- ---- the lines of an answer

-- cuts are due as they were counted
run_cuts : (cuts : List Cut) (nodes : ℕ) (ls : List Line) → run (stage.Body (length cuts) nodes) (map line.Cut cuts ++ ls) ≡ run (stage.Body 0 nodes) ls
run_cuts [] nodes ls = refl
run_cuts (c ∷ cuts) nodes ls = run_cuts cuts nodes ls

-- a tree is one node
run_tree : (v : Version) (t : Tree SplitName) (nodes : ℕ) (ls : List Line) → run (stage.Body 0 (suc nodes)) (tree_lines v t ++ ls) ≡ run (stage.Body 0 nodes) ls
run_tree v (Leaf cuts) nodes ls = run_cuts cuts nodes ls
run_tree v (Split on o i) nodes ls =
    search (step-split_line, append_assoc, run_tree v o (suc nodes) (tree_lines v i ++ ls), run_tree v i nodes ls)

-- edges are due as they were counted
run_edges : (edges : List EdgeLabel) (ls : List Line) → run (stage.Edges (length edges)) (map line.Edge edges ++ ls) ≡ run (stage.Edges 0) ls
run_edges [] ls = refl
run_edges (e ∷ edges) ls = run_edges edges ls

-- a head leads to the count of edges
run_head : (v : Version) (h : AnswerHead) (ls : List Line) → run stage.Title (head_lines v h ++ ls) ≡ run stage.Count ls
run_head v h ls = grind arith

-- the lines of an answer lead from the title to the end
pub run-answer : (a : WrittenAnswer) → run stage.Title (answer_lines a) ≡ Some stage.Done
run-answer a = run_head a.version a.head (body_lines a) ∙ run_edges a.edges (proof_lines a.version a.tree) ∙ run_tree a.version a.tree 0 (line.End ∷ [])

-- ---- they fit

-- lines of a version fit one after another
all_fit : (v : Version) (F : Form) (ls : List Line) → All (FitsLine v F) ls → FitsLines v F ls
all_fit v F [] f = tt
all_fit v F (line.Title w ∷ ls) f =
    grind (arith, All-head (FitsLine v F) (line.Title w) ls f, all_fit v F ls (All-tail (FitsLine v F) (line.Title w) ls f))
all_fit v F (l ∷ ls) f = (All-head (FitsLine v F) l ls f, all_fit v F ls (All-tail (FitsLine v F) l ls f))

-- lines and those behind them
pub fits_append : (v : Version) (F : Form) (xs ys : List Line) → FitsLines v F xs → FitsLines (version_from v xs) F ys → FitsLines v F (xs ++ ys)
fits_append v F [] ys f g = g
fits_append v F (x ∷ xs) ys f g = (f.0, fits_append (version_with v x) F xs ys f.1 g)

-- the version that lines and one more tell
pub version_from-append : (v : Version) (xs ys : List Line) → version_from v (xs ++ ys) ≡ version_from (version_from v xs) ys
version_from-append v [] ys = refl
version_from-append v (x ∷ xs) ys = version_from-append (version_with v x) xs ys

-- the line of a split that fits fits
split_fits : (v : Version) (F : Form) (on : SplitName) → FitsSplit v F on → FitsLine v F (split_line v on)
split_fits v F on f = grind arith

-- the lines of a tree that fits fit
tree_fits : (v : Version) (F : Form) (t : Tree SplitName) → FitsTree v F t → All (FitsLine v F) (tree_lines v t)
tree_fits v F (Leaf cuts) f = All-cons (FitsLine v F) (line.Leaf (length cuts)) (map line.Cut cuts) f.count (All-map (FitsLine v F) line.Cut cuts f.each)
tree_fits v F (Split on o i) f = search (All-cons, split_fits, All-append, tree_fits v F o f.1, tree_fits v F i f.2)

-- the lines of an answer that fits fit
version_fits : (F : Form) (a : WrittenAnswer) → FitsAnswer F a → All (FitsLine a.version F) (answer_lines a)
version_fits F a f =
    let P : Line → Type 0 = FitsLine a.version F in
    let behind : All P (tree_lines a.version a.tree ++ line.End ∷ []) =
    All-append P (tree_lines a.version a.tree) (line.End ∷ []) (tree_fits a.version F a.tree f.tree) (All-cons P line.End [] tt (All-nil P)) in
    let below : All P (map line.Edge a.edges ++ proof_lines a.version a.tree) =
    All-append P (map line.Edge a.edges) (proof_lines a.version a.tree) (All-map P line.Edge a.edges f.edges)
    (All-cons P line.Tree (tree_lines a.version a.tree ++ line.End ∷ []) tt behind) in
    All-append P (head_lines a.version a.head) (body_lines a) (grind arith)
    (All-cons P (line.Count (length a.edges)) (map line.Edge a.edges ++ proof_lines a.version a.tree) (edges_counted F a.edges f.edges f.count) below)

-- from any version on: the title tells the answer's
pub answer_fits : (v : Version) (F : Form) (a : WrittenAnswer) → FitsAnswer F a → FitsLines v F (answer_lines a)
answer_fits v F a f = all_fit a.version F (answer_lines a) (version_fits F a f)

-- ---- going on to an end

-- a cut and a label that fit, where there is an edge
abbrev some_cut : Form → Cut
some_cut F = record { weight = 1; members = replicate (set_size F) false }

abbrev some_name : EdgeName
some_name = record { x1 = pos 0; y1 = pos 0; x2 = pos 0; y2 = pos 0 }

abbrev some_edge : Form → EdgeLabel
some_edge (form.OnGrid V) = edge.Ends some_name
some_edge (form.OfGraph E V) = edge.Number 1

-- lines that lead from a stage to the end
abbrev body_end : Form → ℕ → ℕ → List Line
body_end F cuts nodes = replicate cuts (line.Cut (some_cut F)) ++ (replicate nodes (line.Leaf 0) ++ line.End ∷ [])

abbrev edges_end : Form → ℕ → List Line
edges_end F edges = replicate edges (line.Edge (some_edge F)) ++ line.Tree ∷ body_end F 0 1

abbrev concat_end : Form → List Line
concat_end F = line.Concat no_note ∷ line.Count 0 ∷ edges_end F 0

abbrev openings_end : Form → List Line
openings_end (form.OnGrid V) = line.Openings 0 ∷ concat_end (form.OnGrid V)
openings_end (form.OfGraph E V) = line.LastOpenings 0 ∷ line.Count 0 ∷ edges_end (form.OfGraph E V) 0

abbrev pub end_of : Version → Form → Stage → List Line
end_of v F stage.Title = line.Title v ∷ line.Length 0 ∷ line.Bound 0 ∷ line.Status false ∷ openings_end F
end_of v F stage.Length = line.Length 0 ∷ line.Bound 0 ∷ line.Status false ∷ openings_end F
end_of v F stage.Bound = line.Bound 0 ∷ line.Status false ∷ openings_end F
end_of v F stage.Status = line.Status false ∷ openings_end F
end_of v F stage.Openings = openings_end F
end_of v F stage.Concat = concat_end F
end_of v F stage.Count = line.Count 0 ∷ edges_end F 0
end_of v F (stage.Edges edges) = edges_end F edges
end_of v F (stage.Body cuts nodes) = body_end F cuts nodes
end_of v F stage.Done = []

-- leaves without cuts lead to the end
run_leaves : (nodes : ℕ) → run (stage.Body 0 nodes) (replicate nodes (line.Leaf 0) ++ line.End ∷ []) ≡ Some stage.Done
run_leaves zero = refl
run_leaves (suc nodes) = run_leaves nodes

-- cuts and then such leaves do
run_body_end : (F : Form) (cuts nodes : ℕ) → run (stage.Body cuts nodes) (body_end F cuts nodes) ≡ Some stage.Done
run_body_end F zero nodes = run_leaves nodes
run_body_end F (suc cuts) nodes = run_body_end F cuts nodes

-- edges and then such a tree do
run_edges_end : (F : Form) (edges : ℕ) → run (stage.Edges edges) (edges_end F edges) ≡ Some stage.Done
run_edges_end F zero = refl
run_edges_end F (suc edges) = run_edges_end F edges

-- from every stage the end is reached
pub run-end_of : (v : Version) (F : Form) (s : Stage) → run s (end_of v F s) ≡ Some stage.Done
run-end_of v F s = grind (arith, run_edges_end, run_body_end)

-- these lines fit
body_end_fits : (v : Version) (F : Form) (cuts nodes : ℕ) → All (FitsLine v F) (body_end F cuts nodes)
body_end_fits v F cuts nodes =
    All-append (FitsLine v F) (replicate cuts (line.Cut (some_cut F))) (replicate nodes (line.Leaf 0) ++ line.End ∷ [])
    (All-replicate (FitsLine v F) cuts (line.Cut (some_cut F)) (record { some = omega arith; weight = omega arith; members = length-replicate (set_size F) false }))
    (All-append (FitsLine v F) (replicate nodes (line.Leaf 0)) (line.End ∷ []) (All-replicate (FitsLine v F) nodes (line.Leaf 0) (omega arith)) (All-cons (FitsLine v F) line.End [] tt (All-nil (FitsLine v F))))

-- the coordinate 0 fits
pub zero_fits : FitsSigned w64 (pos 0)
zero_fits = search rules

-- edges that there are, or none
some_edges_fit : (v : Version) (F : Form) (edges : ℕ) → edges ≤ most_edges F → All (FitsLine v F) (replicate edges (line.Edge (some_edge F)))
some_edges_fit v (form.OnGrid V) edges few = search (All-replicate, zero_fits)
some_edges_fit v (form.OfGraph (suc E) V) edges few =
    All-replicate (FitsLine v (form.OfGraph (suc E) V)) edges (line.Edge (edge.Number 1)) (record { first = omega arith; within = omega arith; width = omega arith })
some_edges_fit v (form.OfGraph zero V) zero few = All-nil (FitsLine v (form.OfGraph zero V))
some_edges_fit v (form.OfGraph zero V) (suc edges) few = absurd (omega arith)

edges_end_fits : (v : Version) (F : Form) (edges : ℕ) → edges ≤ most_edges F → All (FitsLine v F) (edges_end F edges)
edges_end_fits v F edges few = search (All-append, some_edges_fit, All-cons, body_end_fits)

count_end_fits : (v : Version) (F : Form) → All (FitsLine v F) (end_of v F stage.Count)
count_end_fits v F = All-cons (FitsLine v F) (line.Count 0) (edges_end F 0) (omega arith) (edges_end_fits v F 0 (omega arith))

concat_end_fits : (v : Version) (F : Form) → All (FitsLine v F) (concat_end F)
concat_end_fits v F = All-cons (FitsLine v F) (line.Concat no_note) (end_of v F stage.Count) (omega arith) (count_end_fits v F)

status_end_fits : (v : Version) (F : Form) → All (FitsLine v F) (end_of v F stage.Status)
status_end_fits v F = All-cons (FitsLine v F) (line.Status false) (end_of v F stage.Openings) tt (grind arith)

bound_end_fits : (v : Version) (F : Form) → All (FitsLine v F) (end_of v F stage.Bound)
bound_end_fits v F = All-cons (FitsLine v F) (line.Bound 0) (end_of v F stage.Status) (omega arith) (status_end_fits v F)

length_end_fits : (v : Version) (F : Form) → All (FitsLine v F) (end_of v F stage.Length)
length_end_fits v F = All-cons (FitsLine v F) (line.Length 0) (end_of v F stage.Bound) (omega arith) (bound_end_fits v F)

version_end_fits : (v : Version) (F : Form) (s : Stage) → IsVersionOf F v → HasRoom F s → All (FitsLine v F) (end_of v F s)
version_end_fits v F stage.Title of room = All-cons (FitsLine v F) (line.Title v) (end_of v F stage.Length) (refl, of) (length_end_fits v F)
version_end_fits v F stage.Length of room = length_end_fits v F
version_end_fits v F stage.Bound of room = bound_end_fits v F
version_end_fits v F stage.Status of room = status_end_fits v F
version_end_fits v F stage.Openings of room = grind arith
version_end_fits v F stage.Concat of room = concat_end_fits v F
version_end_fits v F stage.Count of room = count_end_fits v F
version_end_fits v F (stage.Edges edges) of room = edges_end_fits v F edges room
version_end_fits v F (stage.Body cuts nodes) of room = body_end_fits v F cuts nodes
version_end_fits v F stage.Done of room = All-nil (FitsLine v F)

pub end_of_fits : (v : Version) (F : Form) (s : Stage) → IsVersionOf F v → HasRoom F s → FitsLines v F (end_of v F s)
end_of_fits v F s of room = all_fit v F (end_of v F s) (version_end_fits v F s of room)
