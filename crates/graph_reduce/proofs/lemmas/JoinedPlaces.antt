-- The places of edges where two edges of a node are joined.
use Rattle.std.specs.Prelude.{ℕ, ◌≡◌, ◌⊎◌, false, List, slice_get, slice_set, Option, Some, None}
use Rattle.std.proofs.Common.{sym, ◌∙◌, arith}
use Rattle.std.proofs.lemmas.Option.{slice_get_within}
use Rattle.net_graph.specs.EntryLaws.{slice_get-set_same, slice_get-set_other}
use Rattle.graph_reduce.specs.State.{Bundle, State, HasEdge}
use Rattle.graph_reduce.specs.Rules.{JoinsEdges, joined}
use Rattle.graph_reduce.proofs.lemmas.Choices.{set_cases}

module _ (v : ℕ) (old new : State) (joins : JoinsEdges v old new) where
  abbrev pub one : Bundle
  one = joined joins.x joins.y joins.u joins.w

  abbrev pub mid : List (Option Bundle)
  mid = slice_set old.edges joins.earlier (Some one)

  abbrev pub left : List (Option Bundle)
  left = slice_set mid joins.later None

  abbrev pub after : State
  after = record old { nodes = slice_set old.nodes v false; edges = left }

  pub apart : joins.earlier ≡ joins.later → ⊥
  apart is = omega (arith, joins.order)

  mid_at : slice_get mid joins.earlier ≡ Some (Some one)
  mid_at = slice_get-set_same old.edges joins.earlier (Some one)
      (slice_get_within old.edges joins.earlier (Some joins.x) joins.earlier_at)

  pub one_at : slice_get left joins.earlier ≡ Some (Some one)
  one_at = slice_get-set_other mid joins.later joins.earlier None apart ∙ mid_at

  pub later_at : slice_get mid joins.later ≡ Some (Some joins.y)
  later_at = slice_get-set_other old.edges joins.earlier joins.later (Some one) (λ e. apart (sym e)) ∙ joins.later_at

  -- an edge that is left is the joined one, or was there before at another place
  pub found : (k : ℕ) (z : Bundle) → slice_get left k ≡ Some (Some z) →
      ((k ≡ joins.earlier) × (one ≡ z)) ⊎
      ((k ≡ joins.earlier → ⊥) × (k ≡ joins.later → ⊥) × (slice_get old.edges k ≡ Some (Some z)))
  found k z at = grind (arith, set_cases)

  -- .. and what was there at another place is left
  pub still : (k : ℕ) (z : Bundle) → (k ≡ joins.earlier → ⊥) → (k ≡ joins.later → ⊥) → HasEdge old k z →
      slice_get left k ≡ Some (Some z)
  still k z not_earlier not_later at = search slice_get-set_other
