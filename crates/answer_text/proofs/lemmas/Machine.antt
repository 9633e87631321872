-- Lines of which each was due, up to the end, are the lines of an answer; and lines of an answer are due.
use Rattle.std.proofs.Common.{ℕ, suc, zero, ◌≡◌, ◌<◌, List, [], ◌∷◌, ◌++◌, length, map, refl, sym, ap, ◌∙◌, arith, append_assoc, Option, Some}
use Rattle.std.specs.Prelude.{All, flat_map, option_and_then, ◌^◌}
use Rattle.std.proofs.lemmas.List.{append-nil}
use Rattle.std.proofs.lemmas.List.Elements.{All-head, All-tail, All-cons, All-nil}
use Rattle.net_graph.specs.declared.packing.Cut.{Cut}
use Rattle.answer_text.specs.declared.form.Form.{Form}
use Rattle.answer_text.specs.declared.label.EdgeLabel.{EdgeLabel}
use Rattle.answer_text.specs.AnswerLine.{Line}
use Rattle.answer_text.specs.LineKinds as line
use Rattle.answer_text.specs.declared.line.Stage.{Stage}
use Rattle.answer_text.specs.declared.line.Stage.TheVariants as stage
use Rattle.answer_text.specs.Value.{WrittenAnswer}
use Rattle.cert_tree.specs.Tree.{Tree}
use Rattle.cert_tree.specs.Tree.Tree.{Leaf, Split}
use Rattle.answer_text.specs.declared.split.SplitName.{SplitName}
use Rattle.answer_text.specs.declared.split.SplitName.TheVariants as name
use Rattle.answer_text.specs.declared.version.Version.{Version}
use Rattle.answer_text.specs.declared.version.Version.TheVariants as version
use Rattle.answer_text.specs.Forms.{HasNote, set_size}
use Rattle.answer_text.specs.Notes.{no_note}
use Rattle.answer_text.specs.Spelling.{FitsEdge, FitsCut, FitsSplit, FitsTree, FitsNote, FitsAnswer}
use Rattle.answer_text.specs.declared.head.AnswerHead.{AnswerHead}
use Rattle.answer_text.specs.Lines.{split_line, tree_lines, result_lines, network_lines, proof_lines, answer_lines, step, run}
use Rattle.answer_text.specs.LineFits.{FitsLines}
use Rattle.answer_text.proofs.lemmas.Steps.{step-done}
use Rattle.answer_text.proofs.lemmas.FormLemmas.{most_edges-few}

-- ---- lines one after another

-- two stages one after another
then_more : (first both next : Stage → Option Stage) → ((s : Stage) → both s ≡ option_and_then next (first s)) → (due : Option Stage)
    → option_and_then both due ≡ option_and_then next (option_and_then first due)
then_more first both next same due = grind arith

-- what is due behind two runs of lines
pub run-append : (s : Stage) (xs ys : List Line) → run s (xs ++ ys) ≡ option_and_then (λ s'. run s' ys) (run s xs)
run-append s [] ys = refl
run-append s (x ∷ xs) ys = then_more (λ s'. run s' xs) (λ s'. run s' (xs ++ ys)) (λ s'. run s' ys) (λ s'. run-append s' xs ys) (step s x)

-- ---- up to the end

-- nothing follows the end
pub run-done : (ls : List Line) → run stage.Done ls ≡ Some stage.Done → ls ≡ []
run-done [] e = refl
run-done (l ∷ ls) e = let none = step-done l in absurd cc

-- the cuts that were due, and trees behind them, in a text of a version
record Body (v : Version) (F : Form) (cut_count tree_count : ℕ) (ls : List Line) : Type 0 where
  cuts : List Cut
  trees : List (Tree SplitName)
  cuts_due : length cuts ≡ cut_count
  trees_due : length trees ≡ tree_count
  cuts_fit : All (FitsCut (set_size F)) cuts
  trees_fit : All (FitsTree v F) trees
  parts : ls ≡ map line.Cut cuts ++ (flat_map (tree_lines v) trees ++ line.End ∷ [])

-- the first two of the trees are the parts of a split before them
split_body : (v : Version) (F : Form) (p : ℕ) (on : SplitName) (ls : List Line) (cuts : List Cut) (trees : List (Tree SplitName)) → FitsSplit v F on → length cuts ≡ 0 → length trees ≡ suc (suc p)
    → All (FitsTree v F) trees → ls ≡ map line.Cut cuts ++ (flat_map (tree_lines v) trees ++ line.End ∷ []) → Body v F 0 (suc p) (split_line v on ∷ ls)
split_body v F p on ls (c ∷ cuts) trees name none two fit parts = absurd (omega arith)
split_body v F p on ls [] [] name none two fit parts = absurd (omega arith)
split_body v F p on ls [] (o ∷ []) name none two fit parts = absurd (omega arith)
split_body v F p on ls [] (o ∷ i ∷ trees) name none two fit parts =
    let behind = All-tail (FitsTree v F) o (i ∷ trees) fit in
    record {
      cuts = [];
      trees = Split on o i ∷ trees;
      cuts_due = refl;
      trees_due = omega arith;
      cuts_fit = All-nil (FitsCut (set_size F));
      trees_fit = All-cons (FitsTree v F) (Split on o i) trees (name, All-head (FitsTree v F) o (i ∷ trees) fit, All-head (FitsTree v F) i trees behind) (All-tail (FitsTree v F) i trees behind);
      parts = ap (λ x. split_line v on ∷ x) (parts ∙ ap (λ x. x ++ line.End ∷ []) (sym (append_assoc (tree_lines v o) (tree_lines v i) (flat_map (tree_lines v) trees))));
    }

-- the line of a split is that of its version
split_as : (v : Version) (F : Form) (p : ℕ) (on : SplitName) (l : Line) (ls : List Line) → split_line v on ≡ l → FitsSplit v F on → Body v F 0 (suc (suc p)) ls → Body v F 0 (suc p) (l ∷ ls)
split_as v F p on l ls is fits rest = grind (arith, split_body)

-- lines up to the end are those
body_value : (v : Version) (F : Form) (cut_count tree_count : ℕ) (ls : List Line) → run (stage.Body cut_count tree_count) ls ≡ Some stage.Done → FitsLines v F ls → Body v F cut_count tree_count ls
body_value v F c p [] e f = absurd cc
body_value v F zero zero (line.End ∷ ls) e f = record {
  cuts = [];
  trees = [];
  cuts_due = refl;
  trees_due = refl;
  cuts_fit = All-nil (FitsCut (set_size F));
  trees_fit = All-nil (FitsTree v F);
  parts = ap (λ x. line.End ∷ x) (run-done ls e);
}
body_value v F zero (suc p) (line.Leaf n ∷ ls) e f =
    let rest = body_value v F n p ls e f.1 in
    let few : n < 2 ^ 32 = f.0 in
    record {
      cuts = [];
      trees = Leaf rest.cuts ∷ rest.trees;
      cuts_due = refl;
      trees_due = omega arith;
      cuts_fit = All-nil (FitsCut (set_size F));
      trees_fit = All-cons (FitsTree v F) (Leaf rest.cuts) rest.trees (record { count = omega arith; each = rest.cuts_fit }) rest.trees_fit;
      parts = (λ i. line.Leaf (sym rest.cuts_due i) ∷ rest.parts i)
          ∙ ap (λ x. line.Leaf (length rest.cuts) ∷ x) (sym (append_assoc (map line.Cut rest.cuts) (flat_map (tree_lines v) rest.trees) (line.End ∷ [])));
    }
body_value v F zero (suc p) (line.Split d ∷ ls) e f =
    split_as v F p (name.Edge d) (line.Split d) ls (ap (λ w. split_line w (name.Edge d)) f.0.0) f.0.1 (body_value v F 0 (suc (suc p)) ls e f.1)
body_value v F zero (suc p) (line.SplitEdge d ∷ ls) e f =
    split_as v F p (name.Edge d) (line.SplitEdge d) ls (grind arith) f.0.1 (body_value v F 0 (suc (suc p)) ls e f.1)
body_value v F zero (suc p) (line.SplitVertex d ∷ ls) e f =
    split_as v F p (name.Vertex d) (line.SplitVertex d) ls refl f.0 (body_value v F 0 (suc (suc p)) ls e f.1)
body_value v F (suc c) p (line.Cut d ∷ ls) e f =
    let rest = body_value v F c p ls e f.1 in
    record {
      cuts = d ∷ rest.cuts;
      trees = rest.trees;
      cuts_due = omega arith;
      trees_due = rest.trees_due;
      cuts_fit = All-cons (FitsCut (set_size F)) d rest.cuts f.0 rest.cuts_fit;
      trees_fit = rest.trees_fit;
      parts = ap (λ x. line.Cut d ∷ x) rest.parts;
    }
body_value v F c p (l ∷ ls) e f = absurd cc

-- the edges that were due, and the tree behind them
record Edges (v : Version) (F : Form) (edge_count : ℕ) (ls : List Line) : Type 0 where
  edges : List EdgeLabel
  tree : Tree SplitName
  edges_due : length edges ≡ edge_count
  edges_fit : All (FitsEdge F) edges
  tree_fit : FitsTree v F tree
  parts : ls ≡ map line.Edge edges ++ proof_lines v tree

-- the one tree of a body
one_tree : (v : Version) (F : Form) (ls : List Line) (cuts : List Cut) (trees : List (Tree SplitName)) → length cuts ≡ 0 → length trees ≡ 1
    → All (FitsTree v F) trees → ls ≡ map line.Cut cuts ++ (flat_map (tree_lines v) trees ++ line.End ∷ []) → Edges v F 0 (line.Tree ∷ ls)
one_tree v F ls (c ∷ cuts) trees none one fit parts = absurd (omega arith)
one_tree v F ls [] [] none one fit parts = absurd (omega arith)
one_tree v F ls [] (t ∷ u ∷ trees) none one fit parts = absurd (omega arith)
one_tree v F ls [] (t ∷ []) none one fit parts = record {
  edges = [];
  tree = t;
  edges_due = refl;
  edges_fit = All-nil (FitsEdge F);
  tree_fit = All-head (FitsTree v F) t [] fit;
  parts = ap (λ x. line.Tree ∷ x) (parts ∙ ap (λ x. x ++ line.End ∷ []) (append-nil (tree_lines v t)));
}

-- lines up to the end are those
edges_value : (v : Version) (F : Form) (edge_count : ℕ) (ls : List Line) → run (stage.Edges edge_count) ls ≡ Some stage.Done → FitsLines v F ls → Edges v F edge_count ls
edges_value v F k [] e f = absurd cc
edges_value v F zero (line.Tree ∷ ls) e f =
    let rest = body_value v F 0 1 ls e f.1 in
    one_tree v F ls rest.cuts rest.trees rest.cuts_due rest.trees_due rest.trees_fit rest.parts
edges_value v F (suc k) (line.Edge d ∷ ls) e f =
    let rest = edges_value v F k ls e f.1 in
    record {
      edges = d ∷ rest.edges;
      tree = rest.tree;
      edges_due = omega arith;
      edges_fit = All-cons (FitsEdge F) d rest.edges f.0 rest.edges_fit;
      tree_fit = rest.tree_fit;
      parts = ap (λ x. line.Edge d ∷ x) rest.parts;
    }
edges_value v F k (l ∷ ls) e f = absurd cc

-- an answer whose lines these are
pub record Told (F : Form) (ls : List Line) : Type 0 where
  pub answer : WrittenAnswer
  pub fits : FitsAnswer F answer
  pub lines : ls ≡ answer_lines answer

noted_fits : (F : Form) (h : AnswerHead) → HasNote F → FitsNote F h
noted_fits F h note = grind arith

bare_fits : (F : Form) (h : AnswerHead) → h.concat ≡ no_note → FitsNote F h
bare_fits F h is = grind arith

-- the lines of a network and of a tree, as they were counted
body_parts : (m : ℕ) (edges : List EdgeLabel) (v : Version) (t : Tree SplitName) (ls : List Line) → length edges ≡ m → ls ≡ map line.Edge edges ++ proof_lines v t
    → line.Count m ∷ ls ≡ network_lines edges ++ proof_lines v t
body_parts m edges v t ls due parts = λ i. line.Count (sym due i) ∷ parts i

-- lines that are due from the title to the end are those of an answer
pub answer_value : (F : Form) (w : Version) (ls : List Line) → run stage.Title ls ≡ Some stage.Done → FitsLines w F ls → Told F ls
answer_value F w (line.Title v ∷ line.Length l ∷ line.Bound b ∷ line.Status o ∷ line.Openings n ∷ line.Concat c ∷ line.Count m ∷ ls) e
    (title, (length_fits, (bound_fits, (status_fits, (openings_fits, (total_fits, (count_fits, f))))))) =
    let rest = edges_value v F m ls e f in
    let h : AnswerHead = record { length = l; bound = b; optimal = o; openings = n; concat = c } in
    let body = body_parts m rest.edges v rest.tree ls rest.edges_due rest.parts in
    record {
      answer = record { version = v; head = h; edges = rest.edges; tree = rest.tree };
      fits = record {
        version = title.1;
        head = record { length = length_fits; bound = bound_fits; openings = openings_fits.1; total = total_fits };
        note = noted_fits F h openings_fits.0;
        count = omega (arith, count_fits, most_edges-few F, rest.edges_due);
        edges = rest.edges_fit;
        tree = rest.tree_fit;
      };
      lines = ap (λ x. result_lines v h ++ (line.Openings n ∷ line.Concat c ∷ x)) body
          ∙ (grind arith);
    }
answer_value F w (line.Title v ∷ line.Length l ∷ line.Bound b ∷ line.Status o ∷ line.LastOpenings n ∷ line.Count m ∷ ls) e
    (title, (length_fits, (bound_fits, (status_fits, (openings_fits, (count_fits, f)))))) =
    let rest = edges_value v F m ls e f in
    let h : AnswerHead = record { length = l; bound = b; optimal = o; openings = n; concat = no_note } in
    let body = body_parts m rest.edges v rest.tree ls rest.edges_due rest.parts in
    record {
      answer = record { version = v; head = h; edges = rest.edges; tree = rest.tree };
      fits = record {
        version = title.1;
        head = record { length = length_fits; bound = bound_fits; openings = openings_fits.1; total = omega arith };
        note = bare_fits F h refl;
        count = omega (arith, count_fits, most_edges-few F, rest.edges_due);
        edges = rest.edges_fit;
        tree = rest.tree_fit;
      };
      lines = ap (λ x. result_lines v h ++ (line.LastOpenings n ∷ x)) body
          ∙ (grind arith);
    }
answer_value F w ls e f = absurd cc
