-- What was found of the drawn points is told.
use Rattle.std.proofs.Common.{Ok, List, subst, sym}
use Rattle.points_in.specs.declared.point.Point.{Point}
use Rattle.tree_inputs.specs.Generation.{most_members}
use Rattle.search_rules.specs.Options.{usual_options}
use Rattle.search_tools.specs.declared.trial_line.TrialLine.{TrialLine}
use Rattle.search_tools.specs.TrialLine.{trial_print}
use Rattle.search_tools.specs.Trial.{Tries}
use Rattle.search_tools.specs.Steps.{SolvesPoints}
use Rattle.search_tools.proofs.AnswerLaws.{tried_answer}
use Rattle.search_tools.proofs.trial_run.find.Goals as goal

pub returns : goal.returns
returns c =
    let solution = c.in_ok-solution.solution in
    subst (λ (line : TrialLine). Tries c.args.n c.args.seed (Ok (trial_print line))) (sym c.of.ensures)
    (tried_answer c.args.n c.args.seed solution
    (subst (λ (ps : List Point). SolvesPoints usual_options most_members ps (Ok solution)) c.in_ok-grid.ensures
    c.in_ok-solution.ensures))
