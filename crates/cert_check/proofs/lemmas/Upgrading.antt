-- An answer and the same answer in version 2: few bytes become few, and have the same verdict.
use Rattle.std.proofs.Common.{ℕ, ◌≡◌, ◌+◌, ◌*◌, ◌^◌, ◌≤◌, List, [], ◌∷◌, ◌++◌, length, length-append, refl, sym, ap, inl, inr, arith}
use Rattle.std.specs.Prelude.{codes}
use Rattle.points_in.specs.declared.point.Point.{Point}
use Rattle.hanan_grid.specs.Grid.{hanan_grid_of}
use Rattle.cert_tree.specs.Tree.{Tree}
use Rattle.cert_tree.specs.Tree.Tree.{Leaf, Split}
use Rattle.answer_text.specs.declared.form.Form.TheVariants as form
use Rattle.answer_text.specs.Forms.{IsVersionOf}
use Rattle.answer_text.specs.declared.split.SplitName.{SplitName}
use Rattle.answer_text.specs.declared.split.SplitName.TheVariants as name
use Rattle.answer_text.specs.declared.version.Version.{Version}
use Rattle.answer_text.specs.declared.version.Version.TheVariants as version
use Rattle.answer_text.specs.AnswerLine.{Line}
use Rattle.answer_text.specs.LineKinds as line
use Rattle.answer_text.specs.Value.{WrittenAnswer, upgraded}
use Rattle.answer_text.specs.Words.{edge_words}
use Rattle.answer_text.specs.Lines.{answer_lines, body_lines, head_lines, line_text, lines_text, network_lines, proof_lines, split_line, tree_lines}
use Rattle.answer_text.specs.Text.{answer_text}
use Rattle.answer_text.specs.Events.{events_of}
use Rattle.answer_text.specs.Spelling.{OneReading, SpellsAnswer}
use Rattle.cert_check.specs.Named.{Named, on_grid}
use Rattle.cert_check.specs.declared.verdict.Finished.{Finished}
use Rattle.cert_check.specs.Verdicts.{IsJudged, IsVerdict, IsVerdictIn, byte_limit}
use Rattle.cert_check.proofs.lemmas.Complete.{judged_whole}

-- ---- its text is not much longer

-- how many bytes lines have
bytes_in : List Line → ℕ
bytes_in ls = length (lines_text ls)

bytes_in-cons : (l : Line) (ls : List Line) → bytes_in (l ∷ ls) ≡ length (line_text l) + bytes_in ls
unfolding bytes_in
bytes_in-cons l ls = length-append (line_text l) (lines_text ls)

bytes_in-append : (ls ls' : List Line) → bytes_in (ls ++ ls') ≡ bytes_in ls + bytes_in ls'
unfolding bytes_in
bytes_in-append [] ls' = omega arith
bytes_in-append (l ∷ ls) ls' =
    grind (arith, length-append (line_text l) (lines_text (ls ++ ls')), length-append (line_text l) (lines_text ls), bytes_in-append ls ls')

-- a line of a split has five bytes more at most
split_line-2 : (v : Version) (on : SplitName) →
    length (line_text (split_line version.Two on)) ≤ 6 * length (line_text (split_line v on))
split_line-2 v (name.Vertex p) = omega arith
split_line-2 version.One (name.Edge e) =
    grind (arith, length-append (codes "split edge " ++ edge_words e) (10 ∷ []), length-append (codes "split edge ") (edge_words e), length-append (codes "split " ++ edge_words e) (10 ∷ []), length-append (codes "split ") (edge_words e))
split_line-2 version.Two (name.Edge e) = omega arith
split_line-2 version.Graph (name.Edge e) = omega arith

tree_lines-2 : (v : Version) (t : Tree SplitName) → bytes_in (tree_lines version.Two t) ≤ 6 * bytes_in (tree_lines v t)
tree_lines-2 v (Leaf cuts) = omega arith
tree_lines-2 v (Split on outside inside) =
    grind (
      arith,
      bytes_in-cons (split_line version.Two on) (tree_lines version.Two outside ++ tree_lines version.Two inside),
      bytes_in-append (tree_lines version.Two outside) (tree_lines version.Two inside),
      bytes_in-cons (split_line v on) (tree_lines v outside ++ tree_lines v inside),
      bytes_in-append (tree_lines v outside) (tree_lines v inside),
      split_line-2 v on,
      tree_lines-2 v outside,
      tree_lines-2 v inside,
    )

-- a title has as many bytes in each version of the texts on a grid
head_lines-2 : (v : Version) (a : WrittenAnswer) (V : ℕ) → IsVersionOf (form.OnGrid V) v →
    bytes_in (head_lines version.Two a.head) ≡ bytes_in (head_lines v a.head)
unfolding bytes_in
head_lines-2 version.One a V is = refl
head_lines-2 version.Two a V is = refl
head_lines-2 version.Graph a V is = absurd is

few_bytes-2 : (a : WrittenAnswer) (V : ℕ) → IsVersionOf (form.OnGrid V) a.version →
    bytes_in (answer_lines (upgraded a)) ≤ 6 * bytes_in (answer_lines a)
few_bytes-2 a V is =
    grind (
      arith,
      bytes_in-append (head_lines version.Two a.head) (body_lines (upgraded a)),
      bytes_in-append (network_lines a.edges) (proof_lines version.Two a.tree),
      bytes_in-append (head_lines a.version a.head) (body_lines a),
      bytes_in-append (network_lines a.edges) (proof_lines a.version a.tree),
      head_lines-2 a.version a V is,
      bytes_in-cons line.Tree (tree_lines version.Two a.tree ++ line.End ∷ []),
      bytes_in-append (tree_lines version.Two a.tree) (line.End ∷ []),
      bytes_in-cons line.Tree (tree_lines a.version a.tree ++ line.End ∷ []),
      bytes_in-append (tree_lines a.version a.tree) (line.End ∷ []),
      tree_lines-2 a.version a.tree,
    )

pub answer_text-2 : (a : WrittenAnswer) (V : ℕ) → IsVersionOf (form.OnGrid V) a.version →
    length (answer_text (upgraded a)) ≤ 6 * length (answer_text a)
unfolding bytes_in
answer_text-2 a V is = few_bytes-2 a V is

-- ---- its verdict

-- an answer that has a text has one in version 2, and its lines tell the same
pub record IsAlike : Type 0 where
  pub spells : (V : ℕ) (bytes : List ℕ) (a : WrittenAnswer) → SpellsAnswer (form.OnGrid V) bytes a →
      SpellsAnswer (form.OnGrid V) (answer_text (upgraded a)) (upgraded a)
  pub told : (V : ℕ) (bytes : List ℕ) (a : WrittenAnswer) → SpellsAnswer (form.OnGrid V) bytes a →
      events_of (upgraded a) ≡ events_of a

-- bytes that spell an answer are judged as another text whose lines tell the same
judged_as : OneReading → (N : Named) (bytes text : List ℕ) (a b : WrittenAnswer) (f : Finished) →
    SpellsAnswer N.form bytes a → SpellsAnswer N.form text b →
    events_of b ≡ events_of a → IsJudged N bytes f → IsJudged N text f
judged_as one N bytes text a b f spells spells' same v =
    grind (arith, judged_whole one N bytes a v.events v.behind f spells v.read v.judged)

-- so few of them have one verdict
pub verdict_as : OneReading → (N : Named) (bytes text : List ℕ) (a b : WrittenAnswer) (f : Finished) →
    SpellsAnswer N.form bytes a → SpellsAnswer N.form text b →
    events_of b ≡ events_of a → length bytes ≤ byte_limit → length text ≤ byte_limit → IsVerdictIn N bytes f →
    IsVerdictIn N text f
verdict_as one N bytes text a b f spells spells' same few few' (inl v) =
    inl (record { few = few'; judged = judged_as one N bytes text a b f spells spells' same v.judged })
verdict_as one N bytes text a b f spells spells' same few few' (inr v) = absurd (omega (arith, v.many, few))

pub upgraded_verdict : OneReading → IsAlike → (ps : List Point) (bytes : List ℕ) (a : WrittenAnswer) (f : Finished) →
    SpellsAnswer (form.OnGrid (hanan_grid_of ps).vertices) bytes a → length bytes ≤ 2 ^ 28 →
    (IsVerdict ps bytes f → IsVerdict ps (answer_text (upgraded a)) f)
    × (IsVerdict ps (answer_text (upgraded a)) f → IsVerdict ps bytes f)
upgraded_verdict one alike ps bytes a f spells few =
    let N = on_grid ps in
    let V = (hanan_grid_of ps).vertices in
    let text = answer_text (upgraded a) in
    let spells' = alike.spells V bytes a spells in
    let told = alike.told V bytes a spells in
    let size : length text ≤ 6 * length bytes =
    omega (arith, answer_text-2 a V spells.fits.version, ap length spells.spelled) in
    let few_bytes : length bytes ≤ byte_limit = omega (arith, few) in
    let few_text : length text ≤ byte_limit = omega (arith, few, size) in (
      verdict_as one N bytes text a (upgraded a) f spells spells' told few_bytes few_text,
      verdict_as one N text bytes (upgraded a) a f spells' spells (sym told) few_text few_bytes,
    )
