-- The bytes of an answer tell the answer, and where it ends.
use Rattle.std.proofs.Common.{ℕ, ◌≡◌, Bool, true, false, List, [], ◌∷◌, ◌++◌, length, map, refl, sym, ap, ◌∙◌, arith, append_assoc, Some}
use Rattle.std.proofs.lemmas.Bool.{false≢true}
use Rattle.net_graph.specs.declared.packing.Cut.{Cut}
use Rattle.answer_text.specs.declared.form.Form.{Form}
use Rattle.answer_text.specs.declared.label.EdgeLabel.{EdgeLabel}
use Rattle.answer_text.specs.declared.split.SplitName.{SplitName}
use Rattle.answer_text.specs.declared.split.SplitName.TheVariants as name
use Rattle.answer_text.specs.declared.version.Version.{Version}
use Rattle.answer_text.specs.AnswerLine.{Line}
use Rattle.answer_text.specs.LineKinds as line
use Rattle.answer_text.specs.declared.line.Stage.{Stage}
use Rattle.answer_text.specs.declared.line.Stage.TheVariants as stage
use Rattle.cert_tree.specs.Tree.{Tree}
use Rattle.cert_tree.specs.Tree.Tree.{Leaf, Split}
use Rattle.answer_text.specs.Forms.{first_version}
use Rattle.answer_text.specs.Spelling.{OneReading}
use Rattle.answer_text.specs.Lines.{lines_text, split_line, tree_lines, answer_lines, run}
use Rattle.answer_text.specs.LineFits.{FitsLines, version_with}
use Rattle.answer_text.proofs.lemmas.Due.{run-answer, answer_fits}
use Rattle.answer_text.proofs.lemmas.ReadLaws.{first_line, line_split}

-- ---- the text tells the lines

-- nothing is due behind the last line
none_behind : (s : Stage) (l : Line) (ls : List Line) → run s [] ≡ Some stage.Done → run s (l ∷ ls) ≡ Some stage.Done → ⊥
none_behind s l ls none some = grind arith

-- lines up to the end, at the front of bytes that begin with such lines too
lines_one : (v : Version) (F : Form) (s : Stage) (ls ms : List Line) (p q : List ℕ) → run s ls ≡ Some stage.Done → run s ms ≡ Some stage.Done → FitsLines v F ls → FitsLines v F ms
    → lines_text ls ++ p ≡ lines_text ms ++ q → (ls ≡ ms) × (p ≡ q)
lines_one v F s [] [] p q d e f g same = (refl, same)
lines_one v F s [] (m ∷ ms) p q d e f g same = absurd (none_behind s m ms d e)
lines_one v F s (l ∷ ls) [] p q d e f g same = absurd (none_behind s l ls e d)
lines_one v F s (l ∷ ls) (m ∷ ms) p q d e f g same =
    let first = first_line v F s stage.Done stage.Done l m ls ms (lines_text ls ++ p) (lines_text ms ++ q) d e f g (sym (line_split l ls p) ∙ same ∙ line_split m ms q) in
    let rest = lines_one (version_with v l) F first.stage ls ms p q first.due first.due_too f.1 first.fits first.text in
    (λ i. first.same i ∷ rest.0 i, rest.1)

-- ---- the lines tell the answer

-- what the line of a split is on, and whether a line is one
abbrev split_of : SplitName → Line → SplitName
split_of other (line.Split e) = name.Edge e
split_of other (line.SplitEdge e) = name.Edge e
split_of other (line.SplitVertex p) = name.Vertex p
split_of other l = other

abbrev is_split : Line → Bool
is_split (line.Split e) = true
is_split (line.SplitEdge e) = true
is_split (line.SplitVertex p) = true
is_split l = false

-- the line of a split tells what it is on
split_told : (v : Version) (other on : SplitName) → (split_of other (split_line v on) ≡ on) × (is_split (split_line v on) ≡ true)
split_told v other on = grind arith

same_on : (v : Version) (on other : SplitName) → split_line v on ≡ split_line v other → on ≡ other
same_on v on other same = sym (split_told v on on).0 ∙ ap (split_of on) same ∙ (split_told v on other).0

-- it is no line of a leaf
leaf_apart : (v : Version) (n : ℕ) (on : SplitName) → line.Leaf n ≡ split_line v on → ⊥
leaf_apart v n on same = false≢true (ap is_split same ∙ (split_told v on on).1)

-- as many cuts before other lines
cuts_one : (cs ds : List Cut) (p q : List Line) → length cs ≡ length ds → map line.Cut cs ++ p ≡ map line.Cut ds ++ q → (cs ≡ ds) × (p ≡ q)
cuts_one [] [] p q size same = (refl, same)
cuts_one [] (d ∷ ds) p q size same = absurd (omega arith)
cuts_one (c ∷ cs) [] p q size same = absurd (omega arith)
cuts_one (c ∷ cs) (d ∷ ds) p q size same = search (cuts_one cs ds p q (omega arith) cc)

-- a tree before other lines
tree_one : (v : Version) (t u : Tree SplitName) (p q : List Line) → tree_lines v t ++ p ≡ tree_lines v u ++ q → (t ≡ u) × (p ≡ q)
tree_one v (Leaf cs) (Leaf ds) p q same = grind (arith, cuts_one)
tree_one v (Leaf cs) (Split on o i) p q same = absurd (leaf_apart v (length cs) on cc)
tree_one v (Split on o i) (Leaf ds) p q same = absurd (leaf_apart v (length ds) on cc)
tree_one v (Split on o i) (Split other o' i') p q same =
    grind (
      arith,
      same_on,
      tree_one v o o' (tree_lines v i ++ p) (tree_lines v i' ++ q) (sym (append_assoc (tree_lines v o) (tree_lines v i) p) ∙ (cc) ∙ append_assoc (tree_lines v o') (tree_lines v i') q),
      append_assoc,
      tree_one v i i' p q (tree_one v o o' (tree_lines v i ++ p) (tree_lines v i' ++ q) (sym (append_assoc (tree_lines v o) (tree_lines v i) p) ∙ (cc) ∙ append_assoc (tree_lines v o') (tree_lines v i') q)).1,
      Split,
    )

-- edges before the line behind them
edges_one : (ds es : List EdgeLabel) (p q : List Line) → map line.Edge ds ++ line.Tree ∷ p ≡ map line.Edge es ++ line.Tree ∷ q → (ds ≡ es) × (p ≡ q)
edges_one [] [] p q same = (refl, cc)
edges_one [] (e ∷ es) p q same = absurd cc
edges_one (d ∷ ds) [] p q same = absurd cc
edges_one (d ∷ ds) (e ∷ es) p q same = search (edges_one ds es p q cc)

-- No spelling is a proper front of another, and bytes spell one answer at most.
pub one_reading_lem : OneReading
one_reading_lem F a b p q x y f g e =
    let same = lines_one (first_version F) F stage.Title (answer_lines x) (answer_lines y) p q (run-answer x) (run-answer y) (answer_fits (first_version F) F x f.fits) (answer_fits (first_version F) F y g.fits)
    (sym (ap (λ s. s ++ p) f.spelled) ∙ e ∙ ap (λ s. s ++ q) g.spelled) in
    (f.spelled ∙ ap lines_text same.0 ∙ sym g.spelled, (grind (arith, edges_one, tree_one)))
