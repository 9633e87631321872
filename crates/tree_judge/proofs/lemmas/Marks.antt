-- The marks of the edges that a set parts: which edges lie before the next mark and behind the last one.
use Rattle.std.proofs.Common.{ℕ, zero, suc, ◌≡◌, ◌+◌, ◌-◌, ◌*◌, ◌/◌, ◌^◌, ◌<◌, ◌≤◌, Bool, true, false, IsTrue, ◌↔◌, ◌⊎◌, List, slice_get, Some, refl, ap, sym, subst, ◌∙◌, arith, w64}
use Rattle.std.specs.Int.{bit_at, from_bool, trailing_zeros}
use Rattle.std.proofs.lemmas.Nat.Bits.{bit_at-zero, bit_at-trailing_zeros}
use Rattle.std.proofs.lemmas.Bool.{iff_false, false_from_ne_true}
use Rattle.std.proofs.lemmas.Option.{same_Some}
use Rattle.net_graph.specs.declared.edge.Edge.{Edge}
use Rattle.net_graph.specs.Graph.{Graph}
use Rattle.net_graph.specs.Packing.{enters}
use Rattle.std.proofs.lemmas.Nat.{pow-add}
use Rattle.net_graph.specs.MarkLaws.{bit_at-shr, next_mark-below, marks_behind-below, bit_at-behind}
use Rattle.tree_judge.specs.Borders.{IsWhole, MarksParted}

-- ---- the next mark

-- it is one of an edge of the strip
pub mark_within : (g : Graph) (members : List Bool) (marks n end : ℕ) → MarksParted g members marks n end → 0 < marks →
    marks < 2 ^ 64 →
    n + trailing_zeros w64 marks < end
mark_within g members marks n end is some fits = next_mark-below marks n end is.within is.below some fits

-- the edges before it are whole
pub whole_before : (g : Graph) (members : List Bool) (marks n end : ℕ) → MarksParted g members marks n end → 0 < marks →
    marks < 2 ^ 64 →
    (k : ℕ) → n ≤ k → k < n + trailing_zeros w64 marks → IsWhole g members k
whole_before g members marks n end is some fits k from below =
    let lowest = bit_at-trailing_zeros w64 marks some fits in
    let at : n + (k - n) ≡ k = omega arith in
    let inside = mark_within g members marks n end is some fits in
    subst (IsWhole g members) at (is.others (k - n) (omega arith) (lowest.2 (k - n) (omega arith)))

-- the marks behind it
pub marks_behind : (g : Graph) (members : List Bool) (marks n end gap : ℕ) → MarksParted g members marks n end →
    n + gap < end →
    MarksParted g members (marks / 2 ^ gap / 2) (n + gap + 1) end
marks_behind g members marks n end gap is inside =
    grind (arith, marks_behind-below marks n end gap is.below inside, bit_at-behind)

-- ---- behind the last mark

-- the edges are whole
pub whole_behind : (g : Graph) (members : List Bool) (marks n end : ℕ) → MarksParted g members marks n end → marks ≡ 0 →
    (k : ℕ) → n ≤ k → k < end → IsWhole g members k
whole_behind g members marks n end is none k from below = grind (arith, bit_at-zero (k - n))

-- ---- marks made from the last edge to the first

-- one edge more, whose bit is set unless it is whole
pub marks_more : (g : Graph) (members : List Bool) (marks bit n end : ℕ) → bit ≤ 1 →
    MarksParted g members marks (n + 1) end → (bit ≡ 0 → IsWhole g members n) →
    MarksParted g members (2 * marks + bit) n end
marks_more g members marks bit n end few is whole = record {
  within = omega (arith, is.within);
  below =
      let size : end - n ≡ end - (n + 1) + 1 = omega (arith, is.within) in
      let double : 2 ^ (end - n) ≡ 2 ^ (end - (n + 1)) * 2 ^ 1 = ap (λ k. 2 ^ k) size ∙ pow-add 2 (end - (n + 1)) 1 in
      omega (arith, double, is.below, few);
  others = bits;
}
  where
    bits : (i : ℕ) → n + i < end → bit_at (2 * marks + bit) i ≡ 0 → IsWhole g members (n + i)
    bits zero low none =
        let at : n + 0 ≡ n = omega arith in
        rw at (whole (omega (arith, none, few)))
    bits (suc i) low none =
        let half : (2 * marks + bit) / 2 ^ 1 ≡ marks = omega (arith, few) in
        let at : n + 1 + i ≡ n + suc i = omega arith in
        let next : 1 + i ≡ suc i = omega arith in
        subst (IsWhole g members) at
        (is.others i (omega (arith, low))
        (ap (λ m. bit_at m i) (sym half) ∙ bit_at-shr (2 * marks + bit) 1 i
        ∙ ap (bit_at (2 * marks + bit)) next ∙ none))

-- a bit that tells whether one of two facts holds
bit_off : (p : Bool) (bit : ℕ) → bit ≡ from_bool p → bit ≡ 0 → p ≡ false
bit_off true bit is none = absurd (omega (arith, is, none))
bit_off false bit is none = refl

pub bit_few : (p : Bool) (bit : ℕ) → bit ≡ from_bool p → bit ≤ 1
bit_few true bit is = omega (arith, is)
bit_few false bit is = omega (arith, is)

-- an edge is whole whose bit is 0, where the bit tells whether an arc of it enters the set
pub whole_unless : (g : Graph) (members : List Bool) (n : ℕ) (e : Edge) (p : Bool) (bit : ℕ) →
    slice_get g.edges n ≡ Some e → bit ≡ from_bool p →
    IsTrue p ↔ ((enters members e.a e.b ≡ true) ⊎ (enters members e.b e.a ≡ true)) → bit ≡ 0 → IsWhole g members n
whole_unless g members n e p bit at is parts none x at_x =
    grind (arith, same_Some e x (sym at ∙ at_x), iff_false parts (bit_off p bit is none), false_from_ne_true)
