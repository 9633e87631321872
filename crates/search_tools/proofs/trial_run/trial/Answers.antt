-- What was found, and how the run then ended, are a run, whatever the input and the shelf are.
use Rattle.std.proofs.Common.{refl, codes}
use Rattle.tool_frame.specs.Outside.{outside}
use Rattle.tool_frame.specs.EndLaws.{ends_found}
use Rattle.tool_frame.specs.Leaves.{LeavesAll}
use Rattle.tree_inputs.specs.GenerationFaults.{generation_fault_text, generation_fault_status}
use Rattle.search_tools.specs.TrialLine.{trial_text, trial_status}
use Rattle.search_tools.specs.Trial.{Tries}
use Rattle.search_tools.proofs.trial_run.trial.Goals as goal

pub returns : goal.returns
returns g c = λ input shelf.
    ends_found trial_text trial_status generation_fault_status generation_fault_text (codes "trial")
    (λ _ _. Tries c.args.n c.args.seed) LeavesAll
    (outside input (g.O.Sink.state c.args.out.now) (g.R.Sink.state c.args.err.now) shelf)
    (outside input (g.O.Sink.state c.end_found.new.out) (g.R.Sink.state c.end_found.new.err) shelf)
    c.end_found.result c.find-found.result c.find-found.ensures
    (record { input = refl; shelf = refl })
    c.end_found.ensures
