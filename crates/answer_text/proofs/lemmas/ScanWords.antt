-- What is due of a word behind one more byte of it.
use Rattle.std.proofs.Common.{ℕ, ◌≡◌, ◌+◌, ◌<◌, ◌≤◌, List, [], ◌∷◌, ◌++◌, length, drop, get_or, sym, ap, ◌∙◌, arith, subst}
use Rattle.std.proofs.Math.Seq.{drop-cons}
use Rattle.std.proofs.lemmas.List.{drop_all}
use Rattle.answer_text.specs.AnswerLine.{Line}
use Rattle.answer_text.specs.declared.scan.Kept.{Kept}
use Rattle.answer_text.specs.declared.scan.Word.{Word}
use Rattle.answer_text.specs.declared.scan.Word.TheVariants as word
use Rattle.answer_text.specs.declared.scan.Scan.TheVariants as scan
use Rattle.answer_text.specs.declared.form.Form.{Form}
use Rattle.answer_text.specs.declared.version.Version.{Version}
use Rattle.answer_text.specs.Forms.{HasVertices, IsVersionOf}
use Rattle.answer_text.specs.Scanning.{word_bytes, behind_word, ForkLeft, Left, LeadsTo, IsOpen}

-- the byte at a place of a word and those behind it
word_split : (w : Word) (place b : ℕ) → place < length (word_bytes w) → get_or (word_bytes w) place 0 ≡ b → drop place (word_bytes w) ≡ b ∷ drop (place + 1) (word_bytes w)
word_split w place b inside is = grind (arith, drop-cons (word_bytes w) place 0 inside)

-- one byte of a word
pub leads-word : (k : Kept) (w : Word) (place b : ℕ) → place < length (word_bytes w) → get_or (word_bytes w) place 0 ≡ b → LeadsTo k (scan.Word w place) b k (scan.Word w (place + 1))
leads-word k w place b inside is = grind (arith, word_split)

-- ---- behind a word

-- what is due behind a word is no word
behind_left : (k : Kept) (w : Word) (rest : List ℕ) (l : Line) → (ForkLeft k (behind_word w) rest l → Left k (behind_word w) rest l) × (Left k (behind_word w) rest l → ForkLeft k (behind_word w) rest l)
behind_left k w rest l = grind arith

-- the last byte of a word
pub leads-last : (k : Kept) (w : Word) (place b : ℕ) → place < length (word_bytes w) → get_or (word_bytes w) place 0 ≡ b → length (word_bytes w) ≤ place + 1 → LeadsTo k (scan.Word w place) b k (behind_word w)
leads-last k w place b inside is last =
    let one = leads-word k w place b inside is in
    let none : drop (place + 1) (word_bytes w) ≡ [] = drop_all (place + 1) (word_bytes w) last in
    record {
      on = λ rest l h.
          let next = one.on rest l h in
          let all : next.0 ≡ rest = sym (next.1 ∙ ap (λ x. x ++ next.0) none) in
          (behind_left k w rest l).0 (subst (λ x. ForkLeft k (behind_word w) x l) all next.2);
      back = λ rest l h. one.back rest l (rest, sym (ap (λ x. x ++ rest) none), (behind_left k w rest l).1 h);
    }

-- a split's word, where a node is due in a text of the form
pub split_open : (F : Form) (v : Version) → IsVersionOf F v × HasVertices F → IsOpen (behind_word (word.Split v F))
split_open F v can = grind arith

-- a vertex's word, where there is one
pub vertex_open : (F : Form) → HasVertices F → IsOpen (behind_word (word.Vertex F))
vertex_open F some = grind arith
