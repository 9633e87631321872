-- What a read in memory copies.
use Rattle.std.proofs.Common.{◌≡◌, ℕ, ◌+◌, List, ◌++◌, take, drop, sym}
use Rattle.std.proofs.lemmas.List.{take-append-drop, drop-drop}

-- The bytes from a place on are the n that were copied from there, and what follows those.
pub copied_from : (bytes copied : List ℕ) (at n : ℕ) → copied ≡ take n (drop at bytes) → drop at bytes ≡ copied ++ drop (at + n) bytes
copied_from bytes copied at n same = rw (same, ← drop-drop n at bytes) (sym (take-append-drop n (drop at bytes)))
