-- A walk that starts outside a set of vertices and ends inside it enters the set by an arc that leads away from the root.
use Rattle.std.proofs.Common.{ℕ, zero, suc, ◌≡◌, ⊎_elim, Bool, true, false, List, ap, ◌∙◌, eqb-true, arith}
use Rattle.std.proofs.lemmas.Bool.{or_left, or_right, and_from, both_ways, cases_Bool, not_from_false}
use Rattle.net_graph.specs.Flags.{has}
use Rattle.net_graph.specs.Graph.{Graph, root_of}
use Rattle.net_graph.specs.Network.{Links}
use Rattle.net_graph.specs.Packing.{enters}
use Rattle.duality.proofs.Hops.{is_within, is_away, last_step}

-- an edge of the set has an arc that leads away from the root and enters the members
pub record Entry (g : Graph) (set : List Bool) (hops : ℕ) (members : List Bool) : Type 0 where
  pub tail : ℕ
  pub head : ℕ
  pub link : Links g set tail head
  pub away : is_away g set hops tail head ≡ true
  pub entered : enters members tail head ≡ true

-- an entry stays one under a larger bound
Entry-more : (g : Graph) (set : List Bool) (hops : ℕ) (members : List Bool) → Entry g set hops members → Entry g set (suc hops) members
Entry-more g set hops members entry = grind (arith, or_left)

-- the last step enters the members where its tail is no member
Entry-from_last : (g : Graph) (set : List Bool) (hops : ℕ) (members : List Bool) (v w : ℕ) → Links g set v w →
    is_within g set hops v ≡ true → is_within g set hops w ≡ false → has members v ≡ false → has members w ≡ true →
    Entry g set (suc hops) members
Entry-from_last g set hops members v w link near far outside inside = grind (arith, or_right, and_from, not_from_false)

-- members without the root are entered before a walk of the set comes to one of them
pub Entry-from_within : (g : Graph) (set : List Bool) (hops : ℕ) (members : List Bool) (w : ℕ) → has members (root_of g) ≡ false →
    has members w ≡ true → is_within g set hops w ≡ true → Entry g set hops members
Entry-from_within g set zero members w rootless inside near =
    absurd (both_ways _ rootless (ap (has members) (eqb-true (root_of g) w near) ∙ inside))
Entry-from_within g set (suc hops) members w rootless inside near =
    let before = λ (v : ℕ) (member : has members v ≡ true) (sooner : is_within g set hops v ≡ true).
    Entry-more g set hops members (Entry-from_within g set hops members v rootless member sooner) in
    ⊎_elim
    (before w inside)
    (λ far. let (v, link, sooner) = last_step g set hops w near far in
    ⊎_elim
    (λ member. before v member sooner)
    (λ outside. Entry-from_last g set hops members v w link sooner far outside inside)
    (cases_Bool (has members v)))
    (cases_Bool (is_within g set hops w))
