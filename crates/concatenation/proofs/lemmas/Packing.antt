-- What partitions take of the trees of a concatenation, by partitions and by trees.
use Rattle.std.proofs.Common.{ℕ, suc, ◌≡◌, ◌+◌, ◌*◌, ◌-◌, ◌≤◌, Bool, true, false, if◌then◌else◌, List, [], ◌∷◌, length, slice_get, Some, arith, refl, ap}
use Rattle.std.specs.Prelude.{All, slice_index}
use Rattle.std.proofs.Math.Nat.{mul-le-mul_left}
use Rattle.std.proofs.lemmas.List.Elements.{All-head, All-tail}
use Rattle.full_tree.specs.declared.code.Tree.{Tree}
use Rattle.concatenation.specs.declared.choice.Choice.{Choice}
use Rattle.concatenation.specs.declared.choice.Choice.TheVariants.{Open, Taken, LeftOut}
use Rattle.concatenation.specs.Concatenation.{IsConcatenation, total_of}
use Rattle.concatenation.specs.Choices.{is_taken, taken_of, Respects}
use Rattle.concatenation.specs.Partitions.{Layer, touched_count, load_of, bound_of, PacksLayers}
use Rattle.concatenation.specs.PartitionLaws.{PartitionBound}
use Rattle.concatenation.proofs.lemmas.Merging.{touches_of, part_count-le_touches}

-- what the trees of a set take of all amounts
abbrev loads_of : List Layer → List Tree → List Bool → ℕ
loads_of layers [] set = 0
loads_of layers (tree ∷ trees) [] = 0
loads_of layers (tree ∷ trees) (flag ∷ set) = (if flag then load_of layers tree else 0) + loads_of layers trees set

-- they take of each amount as often as they touch its parts
loads_of-cons : (layer : Layer) (layers : List Layer) (trees : List Tree) (set : List Bool) →
    loads_of (layer ∷ layers) trees set ≡ layer.amount * touches_of (slice_index layer.labels) trees set + loads_of layers trees set
loads_of-cons layer layers [] set = omega arith
loads_of-cons layer layers (tree ∷ trees) [] = omega arith
loads_of-cons layer layers (tree ∷ trees) (false ∷ set) = omega (arith, loads_of-cons layer layers trees set)
loads_of-cons layer layers (tree ∷ trees) (true ∷ set) = omega (arith, loads_of-cons layer layers trees set)

-- so the trees of a concatenation take at least what the partitions bound
bound_of-le_loads : (n : ℕ) (trees : List Tree) (set : List Bool) (layers : List Layer) → IsConcatenation n trees set →
    All (λ layer. length layer.labels ≡ n) layers → bound_of layers ≤ loads_of layers trees set
bound_of-le_loads n trees set [] joined sizes = omega arith
bound_of-le_loads n trees set (layer ∷ layers) joined sizes =
    let HasSize = λ (l : Layer). length l.labels ≡ n in
    let touches = part_count-le_touches n trees set layer.labels (All-head HasSize layer layers sizes) joined in
    omega (
      arith,
      mul-le-mul_left layer.amount touches,
      loads_of-cons layer layers trees set,
      bound_of-le_loads n trees set layers joined (All-tail HasSize layer layers sizes),
    )

-- a tree that lies in one part of each partition takes nothing
load_of-one_part : (layers : List Layer) (tree : Tree) → All (λ layer. touched_count layer.labels tree ≤ 1) layers →
    load_of layers tree ≡ 0
load_of-one_part [] tree one_part = refl
load_of-one_part (layer ∷ layers) tree one_part =
    let IsIn = λ (l : Layer). touched_count l.labels tree ≤ 1 in
    let first : touched_count layer.labels tree ≤ 1 = All-head IsIn layer layers one_part in
    let none : touched_count layer.labels tree - 1 ≡ 0 = omega arith in
    omega (
      arith,
      ap (λ touched. layer.amount * touched) none,
      load_of-one_part layers tree (All-tail IsIn layer layers one_part),
    )

-- what the choices say of a set that respects them, and what the partitions take of each of its trees
record IsCarried (scale : ℕ) (trees : List Tree) (choices : List Choice) (layers : List Layer) (set : List Bool) : Type 0 where
  size : length choices ≡ length trees
  set_size : length set ≡ length trees
  respects : Respects choices set
  taken : (k : ℕ) (tree : Tree) → slice_get choices k ≡ Some Taken → slice_get trees k ≡ Some tree → load_of layers tree ≡ 0
  loads : (k : ℕ) (tree : Tree) → slice_get choices k ≡ Some Open → slice_get trees k ≡ Some tree
      → load_of layers tree ≤ scale * tree.length

IsCarried-rest : {scale : ℕ} {tree : Tree} {trees : List Tree} {choice : Choice} {choices : List Choice} {layers : List Layer}
    {flag : Bool} {set : List Bool} → IsCarried scale (tree ∷ trees) (choice ∷ choices) layers (flag ∷ set) →
    IsCarried scale trees choices layers set
IsCarried-rest carried = record {
  size = omega arith;
  set_size = omega arith;
  respects = record {
    takes = λ k. carried.respects.takes (suc k);
    leaves = λ k. carried.respects.leaves (suc k);
  };
  taken = λ k. carried.taken (suc k);
  loads = λ k. carried.loads (suc k);
}

-- the first tree
first_carried : (scale : ℕ) (tree : Tree) (trees : List Tree) (choice : Choice) (choices : List Choice) (layers : List Layer)
    (flag : Bool) (set : List Bool) → IsCarried scale (tree ∷ trees) (choice ∷ choices) layers (flag ∷ set) →
    scale * (if is_taken choice then tree.length else 0) + (if flag then load_of layers tree else 0)
    ≤ scale * (if flag then tree.length else 0)
first_carried scale tree trees Open choices layers false set carried = omega arith
first_carried scale tree trees Open choices layers true set carried = omega (arith, carried.loads 0 tree refl refl)
first_carried scale tree trees Taken choices layers false set carried = let both = carried.respects.takes 0 refl in cc
first_carried scale tree trees Taken choices layers true set carried = omega (arith, carried.taken 0 tree refl refl)
first_carried scale tree trees LeftOut choices layers false set carried = omega arith
first_carried scale tree trees LeftOut choices layers true set carried = let both = carried.respects.leaves 0 refl in cc

-- and all trees
all_carried : (scale : ℕ) (trees : List Tree) (choices : List Choice) (layers : List Layer) (set : List Bool) →
    IsCarried scale trees choices layers set →
    scale * total_of trees (taken_of choices) + loads_of layers trees set ≤ scale * total_of trees set
all_carried scale [] choices layers set carried = omega arith
all_carried scale (tree ∷ trees) [] layers set carried = absurd (omega (arith, carried.size))
all_carried scale (tree ∷ trees) (choice ∷ choices) layers [] carried = absurd (omega (arith, carried.set_size))
all_carried scale (tree ∷ trees) (choice ∷ choices) layers (flag ∷ set) carried =
    omega (
      arith,
      first_carried scale tree trees choice choices layers flag set carried,
      all_carried scale trees choices layers set (IsCarried-rest carried),
    )

-- what a packing gives
IsCarried-from_packs : (n scale : ℕ) (trees : List Tree) (choices : List Choice) (layers : List Layer) (set : List Bool) →
    length choices ≡ length trees → PacksLayers n scale trees choices layers → IsConcatenation n trees set → Respects choices set →
    IsCarried scale trees choices layers set
IsCarried-from_packs n scale trees choices layers set size packs joined respects = record {
  size = size;
  set_size = joined.size;
  respects = respects;
  taken = λ k tree is_taken at. load_of-one_part layers tree (packs.taken k tree is_taken at);
  loads = packs.loads;
}

pub partition_bound_lem : PartitionBound
partition_bound_lem n scale trees choices layers set size packs joined respects =
    omega (
      arith,
      bound_of-le_loads n trees set layers joined packs.sizes,
      all_carried scale trees choices layers set
          (IsCarried-from_packs n scale trees choices layers set size packs joined respects),
    )
