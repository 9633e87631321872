-- A set is lifted edge by edge, from the last one on.
use Rattle.std.specs.Prelude.{ℕ, ◌≡◌, ◌+◌, ◌<◌, Bool, true, false, List, [], length, drop, slice_get, Some}
use Rattle.std.proofs.lemmas.List.{drop_more}
use Rattle.std.proofs.lemmas.Option.{get_or_from_slice_get}
use Rattle.net_graph.specs.Flags.{has}
use Rattle.graph_reduce.specs.State.{union}
use Rattle.graph_reduce.specs.Reduction.{union_of}

module _ (sets : List (List Bool)) (set forced so_far : List Bool) (k i : ℕ) (next : k + 1 ≡ i)
    (within : k < length sets) (below : k < length set)
    (is : so_far ≡ union_of (drop i sets) (drop i set) forced) where
  pub one_chosen : (x : List Bool) → slice_get sets k ≡ Some x → has set k ≡ true →
      union x so_far ≡ union_of (drop k sets) (drop k set) forced
  one_chosen x at chosen = rw (
    is,
    drop_more sets k [] within,
    drop_more set k false below,
    chosen,
    get_or_from_slice_get sets k x [] at,
    next,
  )

  pub one_passed : has set k ≡ false → so_far ≡ union_of (drop k sets) (drop k set) forced
  one_passed passed = rw (is, drop_more sets k [] within, drop_more set k false below, passed, next)
