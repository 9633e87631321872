-- How the pieces that a consumer is fed add up.
use Rattle.std.specs.Prelude.{ℕ, ◌≡◌, ◌-◌, List, ◌++◌, length, take, drop}
use Rattle.std.proofs.Common.{append_assoc, sym, ap, ◌∙◌}
use Rattle.std.proofs.lemmas.List.{take-append-drop, take_rest}
use Rattle.rst_outside.specs.Fed.{Fed}

-- What was fed first and what was fed next was fed.
pub fed_more : {T : Type 0} (stands : T → List ℕ → Type 0) (before : T) (first : List ℕ) (mid : T) (next : List ℕ)
    (after : T) →
    Fed stands before first mid → Fed stands mid next after → Fed stands before (first ++ next) after
fed_more stands before first mid next after one two front stood =
    rw (← append_assoc front first next) (two (front ++ first) (one front stood))

-- What was fed first and what is left are the same once a piece of the rest is fed.
pub moved_on : (front rest : List ℕ) (n : ℕ) →
    front ++ rest ≡ (front ++ take n rest) ++ take (length rest - n) (drop n rest)
moved_on front rest n =
    let whole = sym (take-append-drop n rest) in
    let parted = sym (append_assoc front (take n rest) (drop n rest)) in
    rw take_rest (ap (λ x. front ++ x) whole ∙ parted)
