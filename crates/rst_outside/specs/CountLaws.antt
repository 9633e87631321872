-- Laws of the counts of faults.
use Rattle.std.specs.Prelude.{ℕ, ◌≤◌}
use Rattle.std.proofs.Common.{inl, inr, arith}
use Rattle.rst_outside.specs.Counts.{Rose}

-- A count that rose after it stood at some number has risen since then.
pub rose_later : (before mid after : ℕ) → before ≤ mid → Rose mid after → Rose before after
rose_later before mid after kept (inl above) = inl (omega arith)
rose_later before mid after kept (inr end) = inr end
