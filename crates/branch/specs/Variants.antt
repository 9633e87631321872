-- Packings with the same loads that a leaf may have as well.
use Rattle.std.specs.Prelude.{ℕ, ◌≡◌, ◌+◌, ◌*◌, ◌<◌, Bool, true, false, List, [], ◌∷◌, ◌++◌}
use Rattle.std.specs.Prelude.{length, sum_by, replicate, Option, Some, None, ◌⊎◌}
use Rattle.net_graph.specs.declared.packing.Cut.{Cut}
use Rattle.net_graph.specs.Graph.{Graph}
use Rattle.net_graph.specs.Decision.{Decided}
use Rattle.dual_ascent.specs.Ascending.{BeginsWith}
use Rattle.dual_ascent.specs.Carried.{carried}
use Rattle.cert_tree.specs.declared.split.SplitOn.{SplitOn}
use Rattle.cert_tree.specs.Tree.{Tree}
use Rattle.cert_tree.specs.Tree.Tree.{Leaf, Split}
use Rattle.cert_tree.specs.Preorder.{packings_of}
use Rattle.branch.specs.declared.leaf.NewLeaf.{NewLeaf}

-- each cut as often as its weight says, each time with the weight 1: the loads and the value are the same
abbrev pub in_units : List Cut → List Cut
in_units [] = []
in_units (c ∷ cuts) = replicate c.weight (record { weight = 1; members = c.members }) ++ in_units cuts

-- a leaf may have this packing as well as its own: its own, or, where it began with no cut, its own in units
abbrev pub MayBe : Bool → List Cut → List Cut → Type 0
MayBe anew own other = (other ≡ own) ⊎ ((anew ≡ true) × (other ≡ in_units own))

-- A tree with the same splits, whose leaves may have their packings as well. The flags tell of the places of leaves in
-- preorder, counted from one on, whether they began with no cut.
abbrev pub IsVariantFrom : (ℕ → Bool) → ℕ → Tree SplitOn → Tree SplitOn → Type 0
IsVariantFrom anew from (Leaf own) (Leaf other) = MayBe (anew from) own other
IsVariantFrom anew from (Split on outside inside) (Split other_on other_outside other_inside) =
    (other_on ≡ on) × IsVariantFrom anew from outside other_outside
    × IsVariantFrom anew (from + length (packings_of outside)) inside other_inside
IsVariantFrom anew from (Leaf own) (Split on outside inside) = ⊥
IsVariantFrom anew from (Split on outside inside) (Leaf other) = ⊥

abbrev pub IsVariant : (ℕ → Bool) → Tree SplitOn → Tree SplitOn → Type 0
IsVariant anew tree other = IsVariantFrom anew 0 tree other

-- Cuts that are carried to a leaf may as well be none: they are none, or they come from a leaf that began with no cut,
-- and would in units be more than two for each edge.
abbrev pub MayBeNone : Graph → Bool → List Cut → Type 0
MayBeNone g anew cuts = (cuts ≡ []) ⊎ ((anew ≡ true) × (2 * length g.edges < sum_by (λ c. c.weight) cuts))

-- Cuts that are carried to a leaf may be left for what is offered there: they may as well be none, and something is.
abbrev pub MayBeginAnew : Graph → Bool → Option (List Cut) → List Cut → Type 0
MayBeginAnew g anew None cuts = ⊥
MayBeginAnew g anew (Some offered) cuts = MayBeNone g anew cuts

-- A new leaf of a decision begins as it may, where the leaf that it comes from has this packing: with what is carried
-- there; or, told so, with no cut, which may be where nothing is carried.
pub record MayBegin (g : Graph) (parent : List Cut) (d : Decided) (leaf : NewLeaf) : Type 0 where
  pub begins : leaf.note.is_anew ≡ false → BeginsWith leaf.packing (carried g d parent)
  pub none : leaf.note.is_anew ≡ true → carried g d parent ≡ []
