-- What the lines of an answer tell, one after another.
use Rattle.std.proofs.Common.{ℕ, suc, ◌≡◌, List, [], ◌∷◌, ◌++◌, length, map, Some, None, refl, ap, arith}
use Rattle.net_graph.specs.declared.packing.Cut.{Cut}
use Rattle.answer_text.specs.declared.label.EdgeLabel.{EdgeLabel}
use Rattle.cert_tree.specs.Tree.{Tree}
use Rattle.cert_tree.specs.Tree.Tree.{Leaf, Split}
use Rattle.answer_text.specs.declared.form.Form.{Form}
use Rattle.answer_text.specs.declared.form.Form.TheVariants as form
use Rattle.answer_text.specs.Forms.{IsVersionOf, silent_lines}
use Rattle.answer_text.specs.Spelling.{FitsAnswer, FitsNote}
use Rattle.answer_text.specs.declared.head.AnswerHead.{AnswerHead}
use Rattle.answer_text.specs.declared.split.SplitName.{SplitName}
use Rattle.answer_text.specs.declared.split.SplitName.TheVariants as name
use Rattle.answer_text.specs.declared.version.Version.{Version}
use Rattle.answer_text.specs.declared.version.Version.TheVariants as version
use Rattle.answer_text.specs.declared.event.Event.TheVariants as event
use Rattle.answer_text.specs.declared.event.AnswerEvent.{AnswerEvent}
use Rattle.answer_text.specs.AnswerLine.{Line}
use Rattle.answer_text.specs.LineKinds as line
use Rattle.answer_text.specs.Value.{WrittenAnswer}
use Rattle.answer_text.specs.Lines.{body_lines, head_lines, proof_lines, tree_lines}
use Rattle.answer_text.specs.Events.{Told, cut_told, events_from, events_of, head_with, line_told, no_head}

-- what the lines of the edges tell
abbrev pub edges_told : List EdgeLabel → List Told
edges_told edges = map (λ e. (event.Edge e, None)) edges

-- what the lines of a tree tell
abbrev pub tree_told : Tree SplitName → List Told
tree_told (Leaf cuts) = (event.Leaf (length cuts), None) ∷ map cut_told cuts
tree_told (Split on outside inside) = (event.Split on, None) ∷ (tree_told outside ++ tree_told inside)

-- what the lines behind the edges tell
abbrev pub proof_told : Tree SplitName → List Told
proof_told t = (event.Tree, None) ∷ (tree_told t ++ (event.End, None) ∷ [])

-- what all lines tell
abbrev pub answer_told : WrittenAnswer → List Told
answer_told a = (event.Head a.head, None) ∷ (event.EdgeCount (length a.edges), None)
    ∷ (edges_told a.edges ++ proof_told a.tree)

-- as events of lines from the line n on
abbrev pub numbered : ℕ → List Told → List AnswerEvent
numbered n [] = []
numbered n (t ∷ ts) = record { line = n; event = t.0; members = t.1 } ∷ numbered (suc n) ts

-- ---- lines of which each tells something

-- each line tells one of these, and nothing of the head
abbrev EachTells : AnswerHead → List Line → List Told → Type 0
EachTells h [] [] = Unit {0}
EachTells h [] (t ∷ ts) = ⊥
EachTells h (l ∷ ls) [] = ⊥
EachTells h (l ∷ ls) (t ∷ ts) = (line_told (head_with h l) l ≡ Some t) × (head_with h l ≡ h) × EachTells h ls ts

-- so these are their events
events_from-each : (h : AnswerHead) (n : ℕ) (ls : List Line) (ts : List Told) → EachTells h ls ts →
    events_from h n ls ≡ numbered n ts
events_from-each h n [] [] tells = refl
events_from-each h n [] (t ∷ ts) tells = absurd tells
events_from-each h n (l ∷ ls) [] tells = absurd tells
events_from-each h n (l ∷ ls) (t ∷ ts) (told, same, rest) = grind (arith, events_from-each h (suc n) ls ts rest)

EachTells-append : (h : AnswerHead) (ls ls' : List Line) (ts ts' : List Told) → EachTells h ls ts →
    EachTells h ls' ts' → EachTells h (ls ++ ls') (ts ++ ts')
EachTells-append h [] ls' [] ts' tells tells' = tells'
EachTells-append h [] ls' (t ∷ ts) ts' tells tells' = absurd tells
EachTells-append h (l ∷ ls) ls' [] ts' tells tells' = absurd tells
EachTells-append h (l ∷ ls) ls' (t ∷ ts) ts' (told, same, rest) tells' =
    (told, same, EachTells-append h ls ls' ts ts' rest tells')

-- ---- the parts of an answer

cuts_tell : (h : AnswerHead) (cuts : List Cut) → EachTells h (map line.Cut cuts) (map cut_told cuts)
cuts_tell h [] = tt
cuts_tell h (c ∷ cuts) = (refl, refl, cuts_tell h cuts)

edges_tell : (h : AnswerHead) (edges : List EdgeLabel) → EachTells h (map line.Edge edges) (edges_told edges)
edges_tell h [] = tt
edges_tell h (e ∷ edges) = (refl, refl, edges_tell h edges)

tree_tells : (h : AnswerHead) (v : Version) (t : Tree SplitName) → EachTells h (tree_lines v t) (tree_told t)
tree_tells h v (Leaf cuts) = (refl, refl, cuts_tell h cuts)
tree_tells h v (Split on outside inside) =
    grind (arith, EachTells-append h (tree_lines v outside) (tree_lines v inside) (tree_told outside) (tree_told inside) (tree_tells h v outside) (tree_tells h v inside))

proof_tells : (h : AnswerHead) (v : Version) (t : Tree SplitName) → EachTells h (proof_lines v t) (proof_told t)
proof_tells h v t =
    grind (arith, EachTells-append h (tree_lines v t) (line.End ∷ []) (tree_told t) ((event.End, None) ∷ []) (tree_tells h v t) (refl, refl, tt))

-- what the lines behind the head tell
abbrev body_told : WrittenAnswer → List Told
body_told a = (event.EdgeCount (length a.edges), None) ∷ (edges_told a.edges ++ proof_told a.tree)

body_tells : (h : AnswerHead) (a : WrittenAnswer) → EachTells h (body_lines a) (body_told a)
body_tells h a = grind (arith, EachTells-append, edges_tell, proof_tells)

-- the lines of a head, before lines of which each tells something, tell the head
head_told : (F : Form) (v : Version) (h : AnswerHead) (ls : List Line) (ts : List Told) → IsVersionOf F v →
    FitsNote F h → ((k : AnswerHead) (n : ℕ) → events_from k n ls ≡ numbered n ts) →
    events_from no_head 1 (head_lines v h ++ ls) ≡ numbered (suc (silent_lines F)) ((event.Head h, None) ∷ ts)
head_told (form.OnGrid V) version.One h ls ts of note rest =
    ap (λ es. record { line = 6; event = event.Head h; members = None } ∷ es) (rest h 7)
head_told (form.OnGrid V) version.Two h ls ts of note rest =
    ap (λ es. record { line = 6; event = event.Head h; members = None } ∷ es) (rest h 7)
head_told (form.OnGrid V) version.Graph h ls ts of note rest = absurd of
head_told (form.OfGraph E V) version.One h ls ts of note rest = absurd of
head_told (form.OfGraph E V) version.Two h ls ts of note rest = absurd of
head_told (form.OfGraph E V) version.Graph h ls ts of note rest = grind (arith, rest h 6)

-- the events of an answer that fits its form
pub events_of-told : (F : Form) (a : WrittenAnswer) → FitsAnswer F a →
    events_of a ≡ numbered (suc (silent_lines F)) (answer_told a)
events_of-told F a fits =
    head_told F a.version a.head (body_lines a) (body_told a) fits.version fits.note
    (λ k n. events_from-each k n (body_lines a) (body_told a) (body_tells k a))
