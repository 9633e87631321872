-- The lines of an answer in version 2 are what its lines become.
use Rattle.std.proofs.Common.{ℕ, ◌≡◌, List, [], ◌∷◌, ◌++◌, length, map, refl, sym, ap, ◌∙◌, arith, append_assoc, length-append}
use Rattle.std.proofs.lemmas.List.{append-nil, map-append}
use Rattle.std.proofs.lemmas.List.Concat.{flat_map-append}
use Rattle.text_in.specs.Words.{Lacks}
use Rattle.text_in.specs.Fronts.{front_unique, separator_missing}
use Rattle.net_graph.specs.declared.packing.Cut.{Cut}
use Rattle.answer_text.specs.declared.form.Form.{Form}
use Rattle.answer_text.specs.declared.form.Form.TheVariants as form
use Rattle.answer_text.specs.declared.label.EdgeLabel.{EdgeLabel}
use Rattle.cert_tree.specs.Tree.{Tree}
use Rattle.cert_tree.specs.Tree.Tree.{Leaf, Split}
use Rattle.answer_text.specs.declared.head.AnswerHead.{AnswerHead}
use Rattle.answer_text.specs.Forms.{IsVersionOf}
use Rattle.answer_text.specs.declared.split.SplitName.{SplitName}
use Rattle.answer_text.specs.declared.split.SplitName.TheVariants as name
use Rattle.answer_text.specs.declared.version.Version.{Version}
use Rattle.answer_text.specs.declared.version.Version.TheVariants as version
use Rattle.answer_text.specs.AnswerLine.{Line}
use Rattle.answer_text.specs.LineKinds as line
use Rattle.answer_text.specs.LineFits.{FitsLine, FitsLines, version_with}
use Rattle.answer_text.specs.Lines.{line_bytes, line_text, lines_text, split_line, tree_lines, proof_lines, network_lines, head_lines, body_lines, answer_lines}
use Rattle.answer_text.specs.Value.{WrittenAnswer, upgraded}
use Rattle.answer_upgrade.specs.Upgraded.{upgraded_line}

-- ---- the lines of an answer

-- cuts and edges stay
cuts_stay : (cuts : List Cut) → map upgraded_line (map line.Cut cuts) ≡ map line.Cut cuts
cuts_stay [] = refl
cuts_stay (c ∷ cuts) = ap (λ x. line.Cut c ∷ x) (cuts_stay cuts)

edges_stay : (edges : List EdgeLabel) → map upgraded_line (map line.Edge edges) ≡ map line.Edge edges
edges_stay [] = refl
edges_stay (e ∷ edges) = ap (λ x. line.Edge e ∷ x) (edges_stay edges)

-- a split becomes that of version 2
split_becomes : (v : Version) (on : SplitName) → upgraded_line (split_line v on) ≡ split_line version.Two on
split_becomes version.One (name.Edge e) = refl
split_becomes version.Two (name.Edge e) = refl
split_becomes version.Graph (name.Edge e) = refl
split_becomes v (name.Vertex p) = refl

tree_becomes : (v : Version) (t : Tree SplitName) → map upgraded_line (tree_lines v t) ≡ tree_lines version.Two t
tree_becomes v (Leaf cuts) = ap (λ x. line.Leaf (length cuts) ∷ x) (cuts_stay cuts)
tree_becomes v (Split on o i) =
    (λ k. split_becomes v on k ∷ map-append upgraded_line (tree_lines v o) (tree_lines v i) k)
    ∙ (λ k. split_line version.Two on ∷ (tree_becomes v o k ++ tree_becomes v i k))

proof_becomes : (v : Version) (t : Tree SplitName) → map upgraded_line (proof_lines v t) ≡ proof_lines version.Two t
proof_becomes v t =
    ap (λ x. line.Tree ∷ x) (map-append upgraded_line (tree_lines v t) (line.End ∷ []) ∙ ap (λ x. x ++ line.End ∷ []) (tree_becomes v t))

network_stays : (edges : List EdgeLabel) → map upgraded_line (network_lines edges) ≡ network_lines edges
network_stays edges = ap (λ x. line.Count (length edges) ∷ x) (edges_stay edges)

-- so does a head on a grid
head_becomes : (V : ℕ) (v : Version) (h : AnswerHead) → IsVersionOf (form.OnGrid V) v → map upgraded_line (head_lines v h) ≡ head_lines version.Two h
head_becomes V version.One h of = refl
head_becomes V version.Two h of = refl
head_becomes V version.Graph h of = absurd of

pub answer_becomes : (V : ℕ) (a : WrittenAnswer) → IsVersionOf (form.OnGrid V) a.version → map upgraded_line (answer_lines a) ≡ answer_lines (upgraded a)
answer_becomes V a of =
    grind (arith, map-append upgraded_line (head_lines a.version a.head) (body_lines a), head_becomes V a.version a.head of, map-append upgraded_line (network_lines a.edges) (proof_lines a.version a.tree), network_stays, proof_becomes)

-- ---- one line after another

-- the lines that were written and those that are left of a text
pub record Passed (F : Form) (ls : List Line) (rest : List ℕ) : Type 0 where
  pub done : List Line
  pub left : List Line
  pub version : Version
  pub parts : ls ≡ done ++ left
  pub fits : FitsLines version F left
  pub text : rest ≡ lines_text left

-- the next line of those that are left
pub record Next (F : Form) (line_read after : List ℕ) (left : List Line) : Type 0 where
  pub here : Line
  pub behind : List Line
  pub version : Version
  pub parts : left ≡ here ∷ behind
  pub fits : FitsLine version F here
  pub fits_behind : FitsLines version F behind
  pub told : line_read ≡ line_bytes here
  pub text : after ≡ lines_text behind

pub next_line : (v : Version) (F : Form) (left : List Line) (rest line_read after : List ℕ) → ((w : Version) (G : Form) (l : Line) → FitsLine w G l → Lacks (line_bytes l) 10)
    → FitsLines v F left → rest ≡ lines_text left → rest ≡ line_read ++ 10 ∷ after → Lacks line_read 10 → Next F line_read after left
next_line v F [] rest line_read after lack fits text parts lacks =
    let short = ap length (sym parts ∙ text) in absurd (omega (arith, length-append line_read (10 ∷ after)))
next_line v F (m ∷ ms) rest line_read after lack fits text parts lacks =
    let first = front_unique 10 line_read (line_bytes m) after (lines_text ms) lacks (lack (version_with v m) F m fits.0)
    (sym parts ∙ text ∙ append_assoc (line_bytes m) (10 ∷ []) (lines_text ms)) in
    record { here = m; behind = ms; version = version_with v m; parts = refl; fits = fits.0; fits_behind = fits.1; told = first.0; text = first.1 }

-- it is one line more
pub done_more : (done left behind : List Line) (here : Line) (ls : List Line) → ls ≡ done ++ left → left ≡ here ∷ behind → ls ≡ (done ++ here ∷ []) ++ behind
done_more done left behind here ls parts is = parts ∙ ap (λ x. done ++ x) is ∙ sym (append_assoc done (here ∷ []) behind)

pub text_more : (done : List Line) (here : Line) → lines_text (map upgraded_line done) ++ line_text (upgraded_line here) ≡ lines_text (map upgraded_line (done ++ here ∷ []))
text_more done here =
    grind (arith, append-nil (line_text (upgraded_line here)), flat_map-append line_text (map upgraded_line done) (upgraded_line here ∷ []), map-append upgraded_line done (here ∷ []))

-- where no line feed is left, no line is
pub none_left : (left : List Line) (rest : List ℕ) → rest ≡ lines_text left → Lacks rest 10 → left ≡ []
none_left [] rest text lacks = refl
none_left (m ∷ ms) rest text lacks =
    absurd (separator_missing 10 rest (line_bytes m) (lines_text ms) lacks (text ∙ append_assoc (line_bytes m) (10 ∷ []) (lines_text ms)))

pub all_done : (done left : List Line) (ls : List Line) → ls ≡ done ++ left → left ≡ [] → done ≡ ls
all_done done left ls parts none = sym (parts ∙ ap (λ x. done ++ x) none ∙ append-nil done)
