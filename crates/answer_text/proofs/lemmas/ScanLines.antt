-- What is due at a line's beginning are the lines that are due.
use Rattle.std.proofs.Common.{ℕ, suc, zero, ◌≡◌, ◌<◌, ◌^◌, Bool, true, false, List, [], ◌++◌, length, refl, sym, ap, ◌∙◌, arith, append_assoc, Some, inl, inr, ⊎_elim}
use Rattle.std.specs.Prelude.{codes}
use Rattle.std.specs.Fmt.{decimal}
use Rattle.std.proofs.lemmas.List.{append-nil}
use Rattle.answer_text.specs.AnswerLine.{Line}
use Rattle.answer_text.specs.LineKinds as line
use Rattle.answer_text.specs.declared.form.Form.{Form}
use Rattle.answer_text.specs.declared.form.Form.TheVariants as form
use Rattle.answer_text.specs.declared.line.Stage.{Stage}
use Rattle.answer_text.specs.declared.line.Stage.TheVariants as stage
use Rattle.answer_text.specs.declared.scan.Kept.{Kept}
use Rattle.answer_text.specs.declared.scan.Word.TheVariants as word
use Rattle.answer_text.specs.declared.scan.Field.TheVariants as field
use Rattle.answer_text.specs.declared.scan.Scan.TheVariants as scan
use Rattle.answer_text.specs.declared.version.Version.{Version}
use Rattle.answer_text.specs.declared.version.Version.TheVariants as version
use Rattle.answer_text.specs.Words.{concat_word, edge_words, vertex_words}
use Rattle.answer_text.specs.Forms.{SaysKind, most_edges, set_size}
use Rattle.answer_text.specs.Lines.{line_bytes, step}
use Rattle.answer_text.specs.LineFits.{FitsLine, IsLineRead, version_with}
use Rattle.answer_text.specs.Scanning.{name_line, WordLeft, ForkLeft, WordsLeft, Left, first_scan}
use Rattle.answer_text.proofs.lemmas.Steps.{step-done}
use Rattle.answer_text.proofs.lemmas.ValuesDue.{read_as, number_text, number_due, edge_text, edge_due, vertex_text, vertex_due, count_fits, count_inside, cut_text, edge_value, edge_fork, value_edge, fork_edge}

-- the line of a leaf is due where a node is
leaf_due : (v : Version) (F : Form) (k : Kept) (nodes : ℕ) (rest : List ℕ) (l : Line) → WordsLeft k word.Leaf 0 rest l → (s' : Stage) × IsLineRead v F (stage.Body 0 (suc nodes)) rest l s'
leaf_due v F k nodes rest l h =
    let n = h.2 in (
      stage.Body n.number nodes,
      read_as v F (stage.Body 0 (suc nodes)) (stage.Body n.number nodes) rest l (line.Leaf n.number) n.follows.1
          (record { told = h.1 ∙ ap (λ x. codes "leaf " ++ x) (number_text k field.Leaf h.0 l n n.follows.0); fits = n.inside.limit; due = refl }),
    )

-- so is that of a split on an edge or a vertex, where the text says which
split_due : (v : Version) (F : Form) (k : Kept) (nodes : ℕ) (rest : List ℕ) (l : Line) → SaysKind v → k.version ≡ v → k.stage ≡ stage.Body 0 (suc nodes)
    → (behind : List ℕ) × (rest ≡ codes "split " ++ behind) × ForkLeft k (scan.On F) behind l → (s' : Stage) × IsLineRead v F (stage.Body 0 (suc nodes)) rest l s'
split_due v F k nodes rest l says told is h = ⊎_elim
    (λ (on_edge : WordLeft k (word.Edge F) 0 h.0 l).
    let n = edge_text F k on_edge.0 l on_edge.2 in (
      stage.Body 0 (suc (suc nodes)),
      read_as v F (stage.Body 0 (suc nodes)) (stage.Body 0 (suc (suc nodes))) rest l (line.SplitEdge n.0) (n.3 ∙ ap (λ w. name_line w k.stage n.0) told ∙ (grind arith))
          (record { told = h.1 ∙ ap (λ x. codes "split " ++ x) (on_edge.1 ∙ ap (λ x. codes "edge " ++ x) n.2); fits = (says, n.1); due = refl }),
    ))
    (λ (on_vertex : WordLeft k (word.Vertex F) 0 h.0 l).
    let n = vertex_text F k on_vertex.0 l on_vertex.2 in (
      stage.Body 0 (suc (suc nodes)),
      read_as v F (stage.Body 0 (suc nodes)) (stage.Body 0 (suc (suc nodes))) rest l (line.SplitVertex n.0) n.3
          (record { told = h.1 ∙ ap (λ x. codes "split " ++ x) (on_vertex.1 ∙ ap (λ x. codes "vertex " ++ x) n.2); fits = (says, n.1); due = refl }),
    ))
    h.2

-- what is due at a line's beginning is a line that is due
pub start_due : (F : Form) (k : Kept) (v : Version) (s : Stage) (rest : List ℕ) (l : Line) → length k.members ≡ set_size F → k.version ≡ v → k.stage ≡ s → Left k (first_scan F v s) rest l
    → (s' : Stage) × IsLineRead v F s rest l s'
start_due (form.OnGrid V) k v stage.Title rest l size told is h = ⊎_elim
    (λ (one : (h.0 ≡ codes "1") × (l ≡ line.Title version.One)). (
      stage.Length,
      read_as v (form.OnGrid V) stage.Title stage.Length rest l (line.Title version.One) one.1
          (record { told = h.1 ∙ ap (λ x. codes "rst answer " ++ x) one.0; fits = (refl, tt); due = refl }),
    ))
    (λ (two : (h.0 ≡ codes "2") × (l ≡ line.Title version.Two)). (
      stage.Length,
      read_as v (form.OnGrid V) stage.Title stage.Length rest l (line.Title version.Two) two.1
          (record { told = h.1 ∙ ap (λ x. codes "rst answer " ++ x) two.0; fits = (refl, tt); due = refl }),
    ))
    h.2
start_due (form.OfGraph E V) k v stage.Title rest l size told is h = (
  stage.Length,
  read_as v (form.OfGraph E V) stage.Title stage.Length rest l (line.Title version.Graph) h.2.1
      (record { told = h.1 ∙ ap (λ x. codes "rst graph 1" ++ x) h.2.0 ∙ append-nil (codes "rst graph 1"); fits = (refl, tt); due = refl }),
)
start_due F k v stage.Length rest l size told is h =
    let n = h.2 in (
      stage.Bound,
      read_as v F stage.Length (stage.Bound) rest l (line.Length n.number) n.follows.1
          (record { told = h.1 ∙ ap (λ x. codes "length " ++ x) (number_text k field.Length h.0 l n n.follows.0); fits = n.inside.limit; due = refl }),
    )
start_due F k v stage.Bound rest l size told is h =
    let n = h.2 in (
      stage.Status,
      read_as v F stage.Bound (stage.Status) rest l (line.Bound n.number) n.follows.1
          (record { told = h.1 ∙ ap (λ x. codes "bound " ++ x) (number_text k field.Bound h.0 l n n.follows.0); fits = n.inside.limit; due = refl }),
    )
start_due F k v stage.Status rest l size told is h = ⊎_elim
    (λ (one : WordLeft k word.Optimal 0 h.0 l). (
      stage.Openings,
      read_as v F stage.Status stage.Openings rest l (line.Status true) one.2.1
          (record { told = h.1 ∙ ap (λ x. codes "status " ++ x) (one.1 ∙ ap (λ x. codes "optimal" ++ x) one.2.0); fits = tt; due = refl }),
    ))
    (λ (other : WordLeft k word.Stopped 0 h.0 l). (
      stage.Openings,
      read_as v F stage.Status stage.Openings rest l (line.Status false) other.2.1
          (record { told = h.1 ∙ ap (λ x. codes "status " ++ x) (other.1 ∙ ap (λ x. codes "stopped" ++ x) other.2.0); fits = tt; due = refl }),
    ))
    h.2
start_due (form.OnGrid V) k v stage.Openings rest l size told is h =
    let n = h.2 in (
      stage.Concat,
      read_as v (form.OnGrid V) stage.Openings (stage.Concat) rest l (line.Openings n.number) n.follows.1
          (record { told = h.1 ∙ ap (λ x. codes "openings " ++ x) (number_text k field.Openings h.0 l n n.follows.0); fits = (tt, n.inside.limit); due = refl }),
    )
start_due (form.OfGraph E V) k v stage.Openings rest l size told is h =
    let n = h.2 in (
      stage.Count,
      read_as v (form.OfGraph E V) stage.Openings (stage.Count) rest l (line.LastOpenings n.number) n.follows.1
          (record { told = h.1 ∙ ap (λ x. codes "openings " ++ x) (number_text k field.LastOpenings h.0 l n n.follows.0); fits = (tt, n.inside.limit); due = refl }),
    )
start_due F k v stage.Concat rest l size told is h = ⊎_elim
    (λ (one : WordLeft k word.Least 0 h.0 l).
    let n = one.2 in (
      stage.Count,
      read_as v F stage.Concat stage.Count rest l (line.Concat (record { least = true; total = n.number })) n.follows.1
          (record { told = h.1 ∙ ap (λ x. codes "concat " ++ x) (one.1 ∙ ap (λ x. codes "least " ++ x) (number_text k (field.Total true) one.0 l n n.follows.0)); fits = n.inside.limit; due = refl }),
    ))
    (λ (other : WordLeft k word.Spent 0 h.0 l).
    let n = other.2 in (
      stage.Count,
      read_as v F stage.Concat stage.Count rest l (line.Concat (record { least = false; total = n.number })) n.follows.1
          (record { told = h.1 ∙ ap (λ x. codes "concat " ++ x) (other.1 ∙ ap (λ x. codes "spent " ++ x) (number_text k (field.Total false) other.0 l n n.follows.0)); fits = n.inside.limit; due = refl }),
    ))
    h.2
start_due F k v stage.Count rest l size told is h =
    let n = h.2 in (
      stage.Edges n.number,
      read_as v F stage.Count (stage.Edges n.number) rest l (line.Count n.number) n.follows.1
          (record { told = h.1 ∙ ap (λ x. codes "edges " ++ x) (number_text k (field.Count (most_edges F)) h.0 l n n.follows.0); fits = count_fits F n.number n.inside; due = refl }),
    )
start_due F k v (stage.Edges zero) rest l size told is h = (
  stage.Body 0 1,
  read_as v F (stage.Edges zero) (stage.Body 0 1) rest l line.Tree h.2.1
      (record { told = h.1 ∙ ap (λ x. codes "tree" ++ x) h.2.0 ∙ append-nil (codes "tree"); fits = tt; due = refl }),
)
start_due F k v (stage.Edges (suc edges)) rest l size told is h =
    let n = edge_text F k rest l (edge_value F k rest l h) in (
      stage.Edges edges,
      read_as v F (stage.Edges (suc edges)) (stage.Edges edges) rest l (line.Edge n.0) (n.3 ∙ (λ i. name_line (told i) (is i) n.0))
          (record { told = n.2; fits = n.1; due = refl }),
    )
start_due F k v (stage.Body zero zero) rest l size told is h = (
  stage.Done,
  read_as v F (stage.Body zero zero) (stage.Done) rest l line.End h.2.1
      (record { told = h.1 ∙ ap (λ x. codes "end" ++ x) h.2.0 ∙ append-nil (codes "end"); fits = tt; due = refl }),
)
start_due F k version.One (stage.Body zero (suc nodes)) rest l size told is h = ⊎_elim
    (λ (one : WordsLeft k (word.Split version.One F) 0 rest l).
    let n = edge_text F k one.0 l (edge_fork F k one.0 l one.2) in (
      stage.Body 0 (suc (suc nodes)),
      read_as version.One F (stage.Body 0 (suc nodes)) (stage.Body 0 (suc (suc nodes))) rest l (line.Split n.0) (n.3 ∙ (λ i. name_line (told i) (is i) n.0))
          (record { told = one.1 ∙ ap (λ x. codes "split " ++ x) n.2; fits = (refl, n.1); due = refl }),
    ))
    (λ (other : WordsLeft k word.Leaf 0 rest l). leaf_due version.One F k nodes rest l other)
    h
start_due F k version.Two (stage.Body zero (suc nodes)) rest l size told is h = ⊎_elim
    (λ (one : WordsLeft k (word.Split version.Two F) 0 rest l). split_due version.Two F k nodes rest l tt told is one)
    (λ (other : WordsLeft k word.Leaf 0 rest l). leaf_due version.Two F k nodes rest l other)
    h
start_due F k version.Graph (stage.Body zero (suc nodes)) rest l size told is h = ⊎_elim
    (λ (one : WordsLeft k (word.Split version.Graph F) 0 rest l). split_due version.Graph F k nodes rest l tt told is one)
    (λ (other : WordsLeft k word.Leaf 0 rest l). leaf_due version.Graph F k nodes rest l other)
    h
start_due F k v (stage.Body (suc cuts) nodes) rest l size told is h =
    let c = cut_text (set_size F) k h.0 l size h.2 in (
      stage.Body cuts nodes,
      read_as v F (stage.Body (suc cuts) nodes) (stage.Body cuts nodes) rest l (line.Cut c.0) c.3
          (record { told = h.1 ∙ ap (λ x. codes "cut " ++ x) c.1; fits = c.2; due = refl }),
    )
start_due F k v stage.Done rest l size told is h = absurd h

-- the words of a note are due
note_due : (k : Kept) (least : Bool) (total : ℕ) (rest : List ℕ) → total < 2 ^ 128 → rest ≡ codes "concat " ++ concat_word least ++ codes " " ++ decimal total
    → Left k (scan.Word word.Concat 0) rest (line.Concat (record { least = least; total = total }))
note_due k least total rest fits told = grind (arith, number_due)

-- a line that is due is due at the beginning
line_start : (F : Form) (k : Kept) (v : Version) (s s' : Stage) (rest : List ℕ) (l : Line) → length k.members ≡ set_size F → k.version ≡ v → k.stage ≡ s → rest ≡ line_bytes l → FitsLine (version_with v l) F l
    → step s l ≡ Some s' → Left k (first_scan F v s) rest l
line_start (form.OnGrid V) k v stage.Title s' rest (line.Title version.One) size version_is is told fits due = (codes "1", told, inl (refl, refl))
line_start (form.OnGrid V) k v stage.Title s' rest (line.Title version.Two) size version_is is told fits due = (codes "2", told, inr (refl, refl))
line_start (form.OnGrid V) k v stage.Title s' rest (line.Title version.Graph) size version_is is told fits due = absurd fits.1
line_start (form.OfGraph E V) k v stage.Title s' rest (line.Title version.Graph) size version_is is told fits due = ([], told, (refl, refl))
line_start (form.OfGraph E V) k v stage.Title s' rest (line.Title version.One) size version_is is told fits due = absurd fits.1
line_start (form.OfGraph E V) k v stage.Title s' rest (line.Title version.Two) size version_is is told fits due = absurd fits.1
line_start F k v stage.Length s' rest (line.Length n) size version_is is told fits due = (decimal n, told, number_due k field.Length n (line.Length n) (record { least = omega arith; limit = fits }) (refl, refl))
line_start F k v stage.Bound s' rest (line.Bound n) size version_is is told fits due = (decimal n, told, number_due k field.Bound n (line.Bound n) (record { least = omega arith; limit = fits }) (refl, refl))
line_start F k v stage.Status s' rest (line.Status true) size version_is is told fits due = (codes "optimal", told, inl ([], refl, (refl, refl)))
line_start F k v stage.Status s' rest (line.Status false) size version_is is told fits due = (codes "stopped", told, inr ([], refl, (refl, refl)))
line_start (form.OnGrid V) k v stage.Openings s' rest (line.Openings n) size version_is is told fits due = (decimal n, told, number_due k field.Openings n (line.Openings n) (record { least = omega arith; limit = fits.1 }) (refl, refl))
line_start (form.OnGrid V) k v stage.Openings s' rest (line.LastOpenings n) size version_is is told fits due = absurd fits.0
line_start (form.OfGraph E V) k v stage.Openings s' rest (line.Openings n) size version_is is told fits due = absurd fits.0
line_start (form.OfGraph E V) k v stage.Openings s' rest (line.LastOpenings n) size version_is is told fits due = (decimal n, told, number_due k field.LastOpenings n (line.LastOpenings n) (record { least = omega arith; limit = fits.1 }) (refl, refl))
line_start F k v stage.Concat s' rest (line.Concat c) size version_is is told fits due = note_due k c.least c.total rest fits told
line_start F k v stage.Count s' rest (line.Count n) size version_is is told fits due = (decimal n, told, number_due k (field.Count (most_edges F)) n (line.Count n) (count_inside F n fits) (refl, refl))
line_start F k v (stage.Edges zero) s' rest line.Tree size version_is is told fits due = ([], told, (refl, refl))
line_start F k v (stage.Edges (suc edges)) s' rest (line.Edge e) size version_is is told fits due = value_edge F k rest (line.Edge e) (edge_due F k e rest (line.Edge e) fits told (λ i. name_line (sym version_is i) (sym is i) e))
line_start F k v (stage.Body zero zero) s' rest line.End size version_is is told fits due = ([], told, (refl, refl))
line_start F k version.One (stage.Body zero (suc nodes)) s' rest (line.Split e) size version_is is told fits due =
    inl (edge_words e, told, fork_edge F k (edge_words e) (line.Split e) (edge_due F k e (edge_words e) (line.Split e) fits.1 refl (λ i. name_line (sym version_is i) (sym is i) e)))
line_start F k version.Two (stage.Body zero (suc nodes)) s' rest (line.Split e) size version_is is told fits due = let none = fits.0 in absurd cc
line_start F k version.Graph (stage.Body zero (suc nodes)) s' rest (line.Split e) size version_is is told fits due = let none = fits.0 in absurd cc
line_start F k version.One (stage.Body zero (suc nodes)) s' rest (line.SplitEdge e) size version_is is told fits due = absurd fits.0
line_start F k version.Two (stage.Body zero (suc nodes)) s' rest (line.SplitEdge e) size version_is is told fits due =
    inl (codes "edge " ++ edge_words e, told, inl (edge_words e, refl, edge_due F k e (edge_words e) (line.SplitEdge e) fits.1 refl (λ i. name_line (sym version_is i) (sym is i) e)))
line_start F k version.Graph (stage.Body zero (suc nodes)) s' rest (line.SplitEdge e) size version_is is told fits due =
    inl (codes "edge " ++ edge_words e, told, inl (edge_words e, refl, edge_due F k e (edge_words e) (line.SplitEdge e) fits.1 refl (λ i. name_line (sym version_is i) (sym is i) e)))
line_start F k version.One (stage.Body zero (suc nodes)) s' rest (line.SplitVertex p) size version_is is told fits due = absurd fits.0
line_start F k version.Two (stage.Body zero (suc nodes)) s' rest (line.SplitVertex p) size version_is is told fits due =
    inl (codes "vertex " ++ vertex_words p, told, inr (vertex_words p, refl, vertex_due F k p fits.1))
line_start F k version.Graph (stage.Body zero (suc nodes)) s' rest (line.SplitVertex p) size version_is is told fits due =
    inl (codes "vertex " ++ vertex_words p, told, inr (vertex_words p, refl, vertex_due F k p fits.1))
line_start F k v (stage.Body zero (suc nodes)) s' rest (line.Leaf n) size version_is is told fits due =
    inr (decimal n, told, number_due k field.Leaf n (line.Leaf n) (record { least = omega arith; limit = fits }) (refl, refl))
line_start F k v (stage.Body (suc cuts) nodes) s' rest (line.Cut c) size version_is is told fits due =
    grind (arith, append_assoc)
line_start F k v stage.Done s' rest l size version_is is told fits due = let none = step-done l in absurd cc
line_start F k v s s' rest l size version_is is told fits due = absurd cc

pub start_left : (F : Form) (k : Kept) (v : Version) (s s' : Stage) (rest : List ℕ) (l : Line) → length k.members ≡ set_size F → k.version ≡ v → k.stage ≡ s → IsLineRead v F s rest l s' → Left k (first_scan F v s) rest l
start_left F k v s s' rest l size version_is is read = line_start F k v s s' rest l size version_is is read.told read.fits read.due
