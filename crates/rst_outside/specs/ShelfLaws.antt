-- What follows of the files that a shelf tells.
use Rattle.std.specs.Prelude.{ℕ, ◌≡◌, List, ◌++◌, length, take, drop, Option, None, Some}
use Rattle.std.proofs.Common.{ap, sym, ◌∙◌, append_assoc}
use Rattle.std.proofs.lemmas.List.{take-append-drop}
use Rattle.std.proofs.Math.Seq.{drop-append_seam}
use Rattle.rst_outside.specs.Shelf.{OfFile, Begins}

-- What follows of a fact of a file is a fact of it.
pub of_file_so : (files : Option (List (List ℕ × List ℕ))) (name : List ℕ) (P Q : List ℕ → Type 0) →
    ((file : List ℕ) → P file → Q file) → OfFile files name P → OfFile files name Q
of_file_so None name P Q so fact = tt
of_file_so (Some files) name P Q so (file, told, fact) = (file, told, so file fact)

-- Behind the first bytes of a file the next ones begin it too.
pub begins_more : (bytes file next : List ℕ) (n : ℕ) → next ≡ take n (drop (length bytes) file) → Begins bytes file →
    Begins (bytes ++ next) file
begins_more bytes file next n came (back, parts) =
    let rest : drop (length bytes) file ≡ back = ap (drop (length bytes)) parts ∙ drop-append_seam bytes back in
    let some : next ≡ take n back = came ∙ ap (take n) rest in (
      drop n back,
      parts ∙ ap (λ x. bytes ++ x) (sym (take-append-drop n back)) ∙ ap (λ x. bytes ++ (x ++ drop n back)) (sym some)
          ∙ sym (append_assoc bytes next (drop n back)),
    )
