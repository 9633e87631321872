-- What one turn of each loop keeps.
use Rattle.std.proofs.Common.{ℕ, ◌≡◌, ◌+◌, ◌-◌, ◌<◌, ◌≤◌, List, [], ◌∷◌, ◌++◌, length, Result, Ok, take, drop, get_or, append_assoc, add_comm, length-drop, arith, ap, sym, ◌∙◌}
use Rattle.std.specs.Prelude.{Contains}
use Rattle.std.proofs.lemmas.List.{append-nil, take_more, take_rest, length-take}
use Rattle.std.proofs.lemmas.Grind.{get_or_after_one}
use Rattle.points_in.specs.declared.point.Point.{Point}
use Rattle.points_in.specs.declared.points.Added.{Added}
use Rattle.points_in.specs.declared.points.Added.TheVariants.{New, Repeat}
use Rattle.points_in.specs.declared.points.AddFault.{AddFault}
use Rattle.points_in.specs.Terminals.{terminals_of}
use Rattle.points_in.specs.TerminalLaws.{terminals_of_repeat, terminals_of_new, length-terminals_of-le}
use Rattle.rand_pcg.specs.Lcg.{Lcg}
use Rattle.rand_pcg.specs.Pcg.{pcg32}
use Rattle.drawn_points.specs.Drawing.{point_of_words, next_points}
use Rattle.drawn_points.specs.DrawingLaws.{next_points-zero, next_points-suc}

-- the next point of the generator is the first of those that are left
pub drawn_one : (n i : ℕ) (items items' all : List Point) (generator generator' : Lcg) (p : Point) → i < n →
    items ++ next_points (n - i) generator ≡ all →
    p ≡ point_of_words (pcg32 generator).0 (pcg32 (pcg32 generator).1).0 →
    generator' ≡ (pcg32 (pcg32 generator).1).1 →
    items' ≡ items ++ p ∷ [] →
    items' ++ next_points (n - (i + 1)) generator' ≡ all
drawn_one n i items items' all generator generator' p left so_far point next more =
    grind (arith, next_points-suc (n - (i + 1)) generator, append_assoc items (p ∷ []) (next_points (n - (i + 1)) generator'))

-- all are drawn
pub drawn_all : (n i : ℕ) (items all : List Point) (generator : Lcg) → n ≤ i →
    items ++ next_points (n - i) generator ≡ all → items ≡ all
drawn_all n i items all generator done so_far = grind (arith, next_points-zero generator, append-nil items)

-- what a point's adding tells
pub record Adds (points points' : List Point) (p : Point) (result : Result Added AddFault) : Type 0 where
  pub new : result ≡ Ok New → points' ≡ points ++ p ∷ []
  pub new_point : result ≡ Ok New → ¬ Contains points p
  pub repeat : result ≡ Ok Repeat → Contains points p
  pub repeat_kept : result ≡ Ok Repeat → points' ≡ points

-- a point that was added, or that is a repeat, is taken into account
added_one : (before points points' : List Point) (p : Point) (added : Added) (result : Result Added AddFault) →
    points ≡ terminals_of before → result ≡ Ok added → Adds points points' p result → points' ≡ terminals_of (before ++ p ∷ [])
added_one before points points' p New result so_far is adds =
    grind (arith, adds.new_point is, adds.new is, terminals_of_new)
added_one before points points' p Repeat result so_far is adds =
    grind (arith, adds.repeat is, adds.repeat_kept is, terminals_of_repeat)

-- where a point stands behind the first one
behind_first : (ps : List Point) (i : ℕ) (d : Point) → get_or (take (length ps - 1) (drop 1 ps)) i d ≡ get_or ps (i + 1) d
behind_first ps i d =
    ap (λ rest. get_or rest i d) (take_rest ps 1) ∙ get_or_after_one ps i d ∙ ap (λ k. get_or ps k d) (add_comm 1 i)

within_behind : (ps : List Point) (i : ℕ) → i < length (take (length ps - 1) (drop 1 ps)) → i + 1 < length ps
within_behind ps i within = let shorter = ap length (take_rest ps 1) in omega (arith, shorter, within, length-drop 1 ps)

-- one point more behind the first one
pub added_next : (ps drawn points points' : List Point) (i : ℕ) (d : Point) (added : Added) (result : Result Added AddFault) →
    ps ≡ drawn → points ≡ terminals_of (take (i + 1) drawn) → i < length (take (length ps - 1) (drop 1 ps)) → result ≡ Ok added →
    Adds points points' (get_or (take (length ps - 1) (drop 1 ps)) i d) result → points' ≡ terminals_of (take (i + 1 + 1) drawn)
added_next ps drawn points points' i d added result same so_far within is adds =
    let p = get_or (take (length ps - 1) (drop 1 ps)) i d in
    let more : take (i + 1 + 1) ps ≡ take (i + 1) ps ++ p ∷ [] =
    take_more ps (i + 1) d (within_behind ps i within) ∙ ap (λ q. take (i + 1) ps ++ q ∷ []) (sym (behind_first ps i d)) in
    let begun : points ≡ terminals_of (take (i + 1) ps) = so_far ∙ ap (λ list. terminals_of (take (i + 1) list)) (sym same) in
    added_one (take (i + 1) ps) points points' p added result begun is adds ∙ ap terminals_of (sym more) ∙ ap (λ list. terminals_of (take (i + 1 + 1) list)) same

-- of at most 50 points there are never 50 distinct ones before the last
pub never_full : (ps drawn points : List Point) (i : ℕ) → ps ≡ drawn → length drawn ≤ 50 → points ≡ terminals_of (take (i + 1) drawn) →
    i < length (take (length ps - 1) (drop 1 ps)) → length points ≡ 50 → ⊥
never_full ps drawn points i same few so_far within full =
    absurd (omega (arith, within_behind ps i within, ap length same, few, full, ap length so_far, length-terminals_of-le (take (i + 1) drawn), length-take (i + 1) drawn))
