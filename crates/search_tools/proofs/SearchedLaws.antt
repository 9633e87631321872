-- What a search found that began with a network of trees is an answer for the trees.
use Rattle.std.proofs.Common.{ℕ, ◌≡◌, ◌<◌, ◌≤◌, ◌^◌, List, length, refl, subst, arith}
use Rattle.points_in.specs.declared.point.Point.{Point}
use Rattle.net_graph.specs.Network.{length_of}
use Rattle.hanan_grid.specs.Grid.{hanan_grid_of}
use Rattle.full_tree.specs.declared.code.Tree.{Tree as FullTree}
use Rattle.branch.specs.declared.solved.Solved.{Solved}
use Rattle.answer_text.specs.declared.form.Form.TheVariants as form
use Rattle.answer_text.specs.Spelling.{SpellsAnswer}
use Rattle.answer_text.specs.Text.{answer_text}
use Rattle.answer_text.specs.Answers.{value_of}
use Rattle.net_graph.specs.Graph.{Graph}
use Rattle.search_rules.specs.declared.options.SearchOptions.{SearchOptions}
use Rattle.search_rules.specs.declared.options.GraphOptions.{GraphOptions}
use Rattle.search_rules.specs.Options.{in_graph}
use Rattle.graph_search.specs.Kinds.{kind_of}
use Rattle.graph_search.specs.Searched.{IsTold}
use Rattle.graph_search.specs.Answering.{answer_with}
use Rattle.graph_search.specs.AnsweringLaws.{told_fits, told_head, searched_longer}
use Rattle.search_tools.specs.declared.network.Found.{Found}
use Rattle.search_tools.specs.Steps.{IsFor, IsMadeOf}

-- The answer of a search that began with a network which is made of the trees is one for the points and the trees.
pub is_for : (options : SearchOptions) (ps : List Point) (trees : List FullTree) (found : Found) (s : Solved) →
    options.openings ≤ 255 → IsMadeOf options.concat ps trees found →
    IsTold (hanan_grid_of ps) (kind_of options.split) options.openings (length_of (hanan_grid_of ps) found.network) s →
    (let value = value_of ps (answer_with options.openings found.note s) in
    SpellsAnswer (form.OnGrid (hanan_grid_of ps).vertices) (answer_text value) value) →
    length (answer_text (value_of ps (answer_with options.openings found.note s))) < 2 ^ 32 →
    IsFor options ps trees (record { instance = ps; answer = answer_with options.openings found.note s })
is_for options ps trees found s small made is spelled few =
    let g = hanan_grid_of ps in
    let asked = kind_of options.split in
    let first = length_of g found.network in
    let short = made.short in record {
      grid = refl;
      searched =
          searched_longer g asked options.openings first found.note.total s.network s.tree short is.searched;
      concat = made.concat;
      short = let less = is.no_longer in let length = is.length in omega arith;
      head = told_head g asked options.openings first found.note s is;
      fits = told_fits g asked options.openings first found.note s small is;
      spelled = spelled;
      few_bytes = few;
    }

-- A search by the choices for a graph makes as many openings as the choices allow, of the kind that they ask for.
pub told_by : (options : SearchOptions) (choices : GraphOptions) (g : Graph) (first_length : ℕ) (s : Solved) →
    choices ≡ in_graph options → IsTold g (kind_of choices.split) choices.openings first_length s →
    IsTold g (kind_of options.split) options.openings first_length s
told_by options choices g first_length s same told =
    subst (λ (c : GraphOptions). IsTold g (kind_of c.split) c.openings first_length s) same told
