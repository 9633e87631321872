-- How the reads of a source add up.
use Rattle.std.specs.Prelude.{ℕ, ◌≡◌, List, ◌++◌, Option, None, Some}
use Rattle.std.proofs.Common.{ap, sym, ◌∙◌, append_assoc, arith}
use Rattle.std.proofs.lemmas.List.{append-nil}
use Rattle.rst_outside.specs.Source.{Came, CameToTheEnd}

-- What came first and what came next came.
pub came_more : (before : Option (List ℕ)) (first : List ℕ) (mid : Option (List ℕ)) (next : List ℕ)
    (after : Option (List ℕ)) →
    Came before first mid → Came mid next after → Came before (first ++ next) after
came_more None first mid next after one two = rw one at two
came_more (Some rest) first mid next after one two =
    let (left, now, parts) = one in
    let (end, last, more) = rw now at two in
    (end, last, parts ∙ ap (λ x. first ++ x) more ∙ sym (append_assoc first next end))

-- Bytes that came up to the end are the whole rest that the source told.
pub all_of_the_rest : (rest bytes : List ℕ) (after : Option (List ℕ)) → CameToTheEnd (Some rest) bytes after →
    bytes ≡ rest
all_of_the_rest rest bytes after whole = grind (arith, append-nil bytes)
