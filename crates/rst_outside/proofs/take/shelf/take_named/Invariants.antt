use Rattle.std.specs.Prelude.{⊤}
use Rattle.std.proofs.Common.{◌≡◌, ◌≤◌, ◌-◌, vec_len}
use Rattle.rst_outside.specs.Shelf.{OfFile, Begins}
use Rattle.rst_outside.proofs.take.shelf.take_named.Given as goal

abbrev pub invariant-loop-bytes : goal.invariant-loop-bytes
invariant-loop-bytes g l =
    let files = (g.S.Shelf.state l.fn.shelf).files in
    record {
      begun : OfFile files l.name (λ file. ⊤) → OfFile files l.name (λ file. Begins l.bytes.items file);
      within : vec_len l.bytes ≤ l.limit;
      files : (g.S.Shelf.state l.shelf).files ≡ files;
      count : (g.S.Shelf.state l.fn.shelf).faults ≤ (g.S.Shelf.state l.shelf).faults;
    }

-- Each turn but the last brings bytes, and there are never more than are allowed.
abbrev pub decreases-loop-bytes : goal.decreases-loop-bytes
decreases-loop-bytes g l = l.limit - vec_len l.bytes
