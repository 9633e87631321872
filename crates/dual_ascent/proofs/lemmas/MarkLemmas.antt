-- The marks of a set's members in a word: which vertices lie before the next mark and behind the last one.
use Rattle.std.proofs.Common.{ℕ, ◌≡◌, ◌+◌, ◌-◌, ◌/◌, ◌^◌, ◌<◌, ◌≤◌, Bool, true, false, eqb, List, length, ap, ◌∙◌, arith, w64}
use Rattle.std.specs.Int.{bit_at, trailing_zeros}
use Rattle.std.proofs.lemmas.Nat.Bits.{bit_at-zero, bit_at-trailing_zeros}
use Rattle.std.proofs.lemmas.List.{get_or_past}
use Rattle.net_graph.specs.Flags.{has}
use Rattle.net_graph.specs.MarkLaws.{next_mark-below, marks_behind-below, bit_at-behind}

-- the bits of the marks are the flags of the vertices from v on, up to an end; what they say past the size tells nothing
pub record MarksMembers (members : List Bool) (marks v end : ℕ) : Type 0 where
  pub within : v ≤ end
  pub below : marks < 2 ^ (end - v)
  pub flags : (i : ℕ) → v + i < end → v + i < length members → has members (v + i) ≡ eqb (bit_at marks i) 1

-- a vertex whose bit is 0 is no member
unmarked : (members : List Bool) (marks v end u : ℕ) → MarksMembers members marks v end → v ≤ u → u < end →
    bit_at marks (u - v) ≡ 0 → has members u ≡ false
unmarked members marks v end u is from below none = grind (arith, get_or_past)

-- ---- the next mark

-- it is below the end
pub mark_within : (members : List Bool) (marks v end : ℕ) → MarksMembers members marks v end → 0 < marks → marks < 2 ^ 64 →
    v + trailing_zeros w64 marks < end
mark_within members marks v end is some fits = next_mark-below marks v end is.within is.below some fits

-- .. and that of a member
pub mark_is_member : (members : List Bool) (marks v end : ℕ) → MarksMembers members marks v end → 0 < marks → marks < 2 ^ 64 →
    v + trailing_zeros w64 marks < length members → has members (v + trailing_zeros w64 marks) ≡ true
mark_is_member members marks v end is some fits below =
    grind (arith, bit_at-trailing_zeros w64 marks some fits, is.flags (trailing_zeros w64 marks) (mark_within members marks v end is some fits) below)

-- the vertices before it are no members
pub none_before : (members : List Bool) (marks v end : ℕ) → MarksMembers members marks v end → 0 < marks → marks < 2 ^ 64 →
    (u : ℕ) → v ≤ u → u < v + trailing_zeros w64 marks → has members u ≡ false
none_before members marks v end is some fits u from below =
    let lowest = bit_at-trailing_zeros w64 marks some fits in
    let inside = mark_within members marks v end is some fits in
    unmarked members marks v end u is from (omega arith) (lowest.2 (u - v) (omega arith))

-- the marks behind it
pub marks_behind : (members : List Bool) (marks v end gap : ℕ) → MarksMembers members marks v end → v + gap < end →
    MarksMembers members (marks / 2 ^ gap / 2) (v + gap + 1) end
marks_behind members marks v end gap is inside = grind (arith, marks_behind-below, bit_at-behind)

-- ---- behind the last mark

-- there are no members
pub none_behind : (members : List Bool) (marks v end : ℕ) → MarksMembers members marks v end → marks ≡ 0 →
    (u : ℕ) → v ≤ u → u < end → has members u ≡ false
none_behind members marks v end is none u from below =
    unmarked members marks v end u is from below (ap (λ m. bit_at m (u - v)) none ∙ bit_at-zero (u - v))
