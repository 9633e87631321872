-- The same answer in version 2 has a text, and tells the same events in the same lines.
use Rattle.std.proofs.Common.{ℕ, suc, ◌≡◌, List, [], ◌∷◌, ◌++◌, length, map, sym, ap, ◌∙◌, append_assoc, Some, None, arith}
use Rattle.net_graph.specs.declared.packing.Cut.{Cut}
use Rattle.answer_text.specs.declared.form.Form.{Form}
use Rattle.answer_text.specs.declared.form.Form.TheVariants as form
use Rattle.answer_text.specs.declared.label.EdgeLabel.{EdgeLabel}
use Rattle.cert_tree.specs.Tree.{Tree}
use Rattle.cert_tree.specs.Tree.Tree.{Leaf, Split}
use Rattle.answer_text.specs.declared.head.AnswerHead.{AnswerHead}
use Rattle.answer_text.specs.declared.event.Event.TheVariants as event
use Rattle.answer_text.specs.declared.split.SplitName.{SplitName}
use Rattle.answer_text.specs.declared.split.SplitName.TheVariants as name
use Rattle.answer_text.specs.declared.version.Version.{Version}
use Rattle.answer_text.specs.declared.version.Version.TheVariants as version
use Rattle.answer_text.specs.AnswerLine.{Line}
use Rattle.answer_text.specs.LineKinds as line
use Rattle.answer_text.specs.Forms.{IsVersionOf}
use Rattle.answer_text.specs.Lines.{split_line, tree_lines, proof_lines, head_lines}
use Rattle.answer_text.specs.Events.{events_from, events_of, no_head}
use Rattle.answer_text.specs.Spelling.{FitsTree, SpellsAnswer}
use Rattle.answer_text.specs.Text.{answer_text}
use Rattle.answer_text.specs.Value.{WrittenAnswer, upgraded}

-- ---- it has a text

-- a tree that fits one version fits version 2
fits_two : (v : Version) (F : Form) (t : Tree SplitName) → FitsTree v F t → FitsTree version.Two F t
fits_two v F (Leaf cuts) f = f
fits_two v F (Split (name.Edge e) o i) f = (f.0, fits_two v F o f.1, fits_two v F i f.2)
fits_two v F (Split (name.Vertex p) o i) f = ((tt, f.0.1), fits_two v F o f.1, fits_two v F i f.2)

pub upgraded_spells : (V : ℕ) (bytes : List ℕ) (a : WrittenAnswer) → SpellsAnswer (form.OnGrid V) bytes a → SpellsAnswer (form.OnGrid V) (answer_text (upgraded a)) (upgraded a)
upgraded_spells V bytes a spells = search fits_two

-- ---- it tells the same

-- the line of a split in both versions
split_alike : (v : Version) (on : SplitName) (h : AnswerHead) (n : ℕ) (xs ys : List Line) → events_from h (suc n) xs ≡ events_from h (suc n) ys
    → events_from h n (split_line version.Two on ∷ xs) ≡ events_from h n (split_line v on ∷ ys)
split_alike v on h n xs ys same = grind arith

-- cuts and edges before lines that tell the same
cuts_alike : (cuts : List Cut) (h : AnswerHead) (n : ℕ) (xs ys : List Line) → ((m : ℕ) → events_from h m xs ≡ events_from h m ys)
    → events_from h n (map line.Cut cuts ++ xs) ≡ events_from h n (map line.Cut cuts ++ ys)
cuts_alike [] h n xs ys same = same n
cuts_alike (c ∷ cuts) h n xs ys same = ap (λ x. record { line = n; event = event.Cut c.weight; members = Some c.members } ∷ x) (cuts_alike cuts h (suc n) xs ys same)

edges_alike : (edges : List EdgeLabel) (h : AnswerHead) (n : ℕ) (xs ys : List Line) → ((m : ℕ) → events_from h m xs ≡ events_from h m ys)
    → events_from h n (map line.Edge edges ++ xs) ≡ events_from h n (map line.Edge edges ++ ys)
edges_alike [] h n xs ys same = same n
edges_alike (e ∷ edges) h n xs ys same = ap (λ x. record { line = n; event = event.Edge e; members = None } ∷ x) (edges_alike edges h (suc n) xs ys same)

-- a tree in both versions, before such lines
tree_alike : (v : Version) (t : Tree SplitName) (h : AnswerHead) (n : ℕ) (xs ys : List Line) → ((m : ℕ) → events_from h m xs ≡ events_from h m ys)
    → events_from h n (tree_lines version.Two t ++ xs) ≡ events_from h n (tree_lines v t ++ ys)
tree_alike v (Leaf cuts) h n xs ys same = ap (λ x. record { line = n; event = event.Leaf (length cuts); members = None } ∷ x) (cuts_alike cuts h (suc n) xs ys same)
tree_alike v (Split on o i) h n xs ys same =
    let two = tree_lines version.Two in
    let one = tree_lines v in
    split_alike v on h n ((two o ++ two i) ++ xs) ((one o ++ one i) ++ ys)
    (ap (events_from h (suc n)) (append_assoc (two o) (two i) xs)
    ∙ tree_alike v o h (suc n) (two i ++ xs) (one i ++ ys) (λ m. tree_alike v i h m xs ys same)
    ∙ sym (ap (events_from h (suc n)) (append_assoc (one o) (one i) ys)))

proof_alike : (v : Version) (t : Tree SplitName) (h : AnswerHead) (n : ℕ) → events_from h n (proof_lines version.Two t) ≡ events_from h n (proof_lines v t)
proof_alike v t h n = search tree_alike

-- a head in both versions, before such lines
head_alike : (V : ℕ) (v : Version) (h : AnswerHead) (xs ys : List Line) → IsVersionOf (form.OnGrid V) v → events_from h 7 xs ≡ events_from h 7 ys
    → events_from no_head 1 (head_lines version.Two h ++ xs) ≡ events_from no_head 1 (head_lines v h ++ ys)
head_alike V v h xs ys of same = grind arith

pub upgraded_told : (V : ℕ) (bytes : List ℕ) (a : WrittenAnswer) → SpellsAnswer (form.OnGrid V) bytes a → events_of (upgraded a) ≡ events_of a
upgraded_told V bytes a spells = search (head_alike, edges_alike, proof_alike)
