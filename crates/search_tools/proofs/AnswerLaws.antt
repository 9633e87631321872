-- From the answer that was found to what is told of it.
use Rattle.std.proofs.Common.{ℕ, ◌≡◌, List, Ok, subst, sym, arith}
use Rattle.points_in.specs.declared.point.Point.{Point}
use Rattle.full_tree.specs.declared.code.Tree.{Tree as FullTree}
use Rattle.answer_text.specs.Text.{answer_text}
use Rattle.answer_text.specs.Value.{WrittenAnswer}
use Rattle.cert_check.specs.Accepted.{IsAccepted}
use Rattle.tree_inputs.specs.Generation.{most_members}
use Rattle.graph_search.specs.declared.solution.Solution.{Solution}
use Rattle.search_rules.specs.Options.{usual_options}
use Rattle.search_tools.specs.Permitted.{search_text}
use Rattle.search_tools.specs.Steps.{IsFor, SolvesPoints, solution_text}
use Rattle.search_tools.specs.SolutionLaws.{permitted_answer, told_value}
use Rattle.search_tools.specs.TrialLine.{trial_print}
use Rattle.search_tools.specs.Trial.{Tries, drawn_terminals, line_for}
use Rattle.search_tools.specs.TrialSteps.{IsSomeAnswer, line_of}

-- The text of an answer is accepted.
pub accepted_text : (s : Solution (List Point)) → IsSomeAnswer s → IsAccepted s.instance (solution_text s)
accepted_text s (options, ps, trees, is) =
    let text = search_text options.openings ps s.answer.network s.answer.tree s.answer.head.concat in
    let permitted = permitted_answer options ps trees s is in
    subst (λ (w : WrittenAnswer). IsAccepted s.instance (answer_text w)) (sym (told_value options ps trees s is))
    (subst (λ (qs : List Point). IsAccepted qs text) (sym is.grid) permitted.accepted)

-- what is told of an answer for the drawn points
told_line : (n seed : ℕ) (trees : List FullTree) (s : Solution (List Point)) → IsFor usual_options (drawn_terminals n seed) trees s →
    line_of n seed s ≡ line_for n seed s.answer.network s.answer.tree
told_line n seed trees s is = grind arith

-- What is told of an answer for the drawn points.
pub tried_answer : (n seed : ℕ) (s : Solution (List Point)) → SolvesPoints usual_options most_members (drawn_terminals n seed) (Ok s) →
    Tries n seed (Ok (trial_print (line_of n seed s)))
tried_answer n seed s (generated, kept, are, are_kept, is) =
    grind (arith, permitted_answer usual_options (drawn_terminals n seed) kept s is, told_line n seed kept s is)
