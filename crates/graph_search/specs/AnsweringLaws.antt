-- The answer that tells what a search found can be written, and its head tells the network and the tree.
use Rattle.std.proofs.Common.{ℕ, ◌≡◌, ◌≤◌, Bool, List, arith}
use Rattle.net_graph.specs.Graph.{Graph}
use Rattle.net_graph.specs.Network.{length_of}
use Rattle.net_graph.specs.Decision.{nothing_decided}
use Rattle.cert_tree.specs.declared.split.SplitOn.{SplitOn}
use Rattle.cert_tree.specs.Tree.{Tree}
use Rattle.branch.specs.declared.solved.Solved.{Solved}
use Rattle.branch.specs.declared.split_kind.SplitKind.{SplitKind}
use Rattle.branch.specs.RunLaws.{EndsRunOfOpenings-longer}
use Rattle.answer_text.specs.declared.head.ConcatNote.{ConcatNote}
use Rattle.answer_text.specs.Answers.{IsAnswerOn}
use Rattle.graph_search.specs.Searched.{IsSearched, IsTold, value_on}
use Rattle.graph_search.specs.Answering.{answer_with, head_with}
use Rattle.graph_search.specs.TreeLaws.{nodes_on, packings_on}

-- The answer can be written.
pub told_fits : (g : Graph) (asked : SplitKind) (openings first_length : ℕ) (note : ConcatNote) (s : Solved) →
    openings ≤ 255 → IsTold g asked openings first_length s → IsAnswerOn g (answer_with openings note s)
told_fits g asked openings first_length note s small is =
    grind (
      arith,
      nodes_on g (nothing_decided g) s.tree is.searched.valid,
      packings_on g (nothing_decided g) s.tree is.searched.valid is.searched.cuts,
    )

-- Its head tells the network, the tree and the note.
pub told_head : (g : Graph) (asked : SplitKind) (openings first_length : ℕ) (note : ConcatNote) (s : Solved) →
    IsTold g asked openings first_length s →
    (answer_with openings note s).head ≡ head_with openings (length_of g s.network) (value_on g s.tree) note
told_head g asked openings first_length note s is = grind arith

-- A search from a first length is one from each greater length.
pub searched_longer : (g : Graph) (asked : SplitKind) (openings first later : ℕ) (network : List Bool)
    (tree : Tree SplitOn) → first ≤ later → IsSearched g asked openings first network tree →
    IsSearched g asked openings later network tree
searched_longer g asked openings first later network tree longer searched =
    grind (
      arith,
      EndsRunOfOpenings-longer g first later network tree longer searched.run,
      EndsRunOfOpenings-longer g first later searched.by_kind.before searched.by_kind.before_tree longer
          searched.by_kind.run,
    )
