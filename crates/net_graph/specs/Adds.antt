-- What a writer of a set of numbers puts into it.
use Rattle.std.specs.Prelude.{◌≡◌, ℕ, Bool, true, List, length, slice_get, Some, ◌⊎◌}

-- The numbers of which P holds were put into the set, and nothing else changed.
pub record Adds (P : ℕ → Type 0) (old new : List Bool) : Type 0 where
  pub size : length new ≡ length old
  pub kept : (e : ℕ) → slice_get old e ≡ Some true → slice_get new e ≡ Some true
  pub put : (e : ℕ) → P e → slice_get new e ≡ Some true
  pub only : (e : ℕ) → slice_get new e ≡ Some true → (slice_get old e ≡ Some true) ⊎ P e
