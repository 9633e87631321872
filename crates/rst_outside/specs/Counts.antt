-- Counts of faults, as every source, sink and shelf keeps one.
use Rattle.std.specs.Prelude.{ℕ, ◌≡◌, ◌+◌, ◌<◌, ◌-◌, ◌^◌, ◌⊎◌, min}

-- The count is above what it was, or it stands at its type's end, where it rises no further.
abbrev pub Rose : ℕ → ℕ → Type 0
Rose before now = (before < now) ⊎ (now ≡ 2 ^ 64 - 1)

-- One more, but at most 2^64-1.
abbrev pub next_count : ℕ → ℕ
next_count n = min (n + 1) (2 ^ 64 - 1)
