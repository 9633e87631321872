-- What a search ended with, and the status of its bound and its length, are true.
use Rattle.std.proofs.lemmas.Bool.Decides.{eqb_tells}
use Rattle.std.specs.Prelude.{ℕ, ◌≡◌, Bool, List, ◌↔◌}
use Rattle.std.proofs.Common.{subst, arith}
use Rattle.net_graph.specs.Graph.{Graph}
use Rattle.net_graph.specs.Network.{length_of}
use Rattle.cert_tree.specs.declared.split.SplitOn.{SplitOn}
use Rattle.cert_tree.specs.Tree.{Tree}
use Rattle.cert_tree.specs.Preorder.{split_count}
use Rattle.branch.specs.declared.split_kind.SplitKind.{SplitKind}
use Rattle.branch.specs.Runs.{EndsOpenings}
use Rattle.tool_frame.specs.Statuses.{answer_code}
use Rattle.graph_search.specs.Searched.{IsSearched, bound_of, value_on}
use Rattle.graph_search.specs.Status.{status_of_bound}
use Rattle.graph_search.specs.StatusLaws.{value_below}
use Rattle.graph_search.specs.Truth.{EndsTruly}

pub ends_truly : (g : Graph) (asked : SplitKind) (openings first_length : ℕ) (network : List Bool)
    (tree : Tree SplitOn) (status : ℕ) →
    IsSearched g asked openings first_length network tree →
    status ≡ answer_code (status_of_bound (bound_of g network tree) (length_of g network)) →
    EndsTruly g openings first_length network tree status
ends_truly g asked openings first_length network tree status searched ends =
    let exact : (status ≡ 0) ↔ (bound_of g network tree ≡ length_of g network) =
    grind (arith, eqb_tells (bound_of g network tree) (length_of g network)) in record {
      bound = searched.bounds;
      agrees = exact;
      shortest = λ zero. (
        searched.network_of.joins,
        λ other joins.
            let bounds = searched.bounds other joins in
            let equal = exact.0 zero in omega (arith, bounds, equal),
      );
      stopped = λ three.
          let all : split_count tree ≡ openings =
          searched.stopped (value_below (value_on g tree) (length_of g network) status exact three) in
          (all, subst (λ (n : ℕ). EndsOpenings g first_length n network tree) all searched.run);
    }
