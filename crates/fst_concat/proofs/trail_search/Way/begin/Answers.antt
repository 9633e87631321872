-- At first nothing is decided, and nothing was left open.
use Rattle.fst_concat.proofs.lemmas.Levels.{all_cons}
use Rattle.fst_concat.proofs.lemmas.Steps.{CompletesAll-start}
use Rattle.std.proofs.lemmas.List.{length-replicate}
use Rattle.std.proofs.Common.{◌≡◌, List, [], ◌∷◌, ap, ◌∙◌, arith}
use Rattle.concatenation.specs.declared.choice.Choice.{Choice}
use Rattle.concatenation.specs.Trails.{no_choices}
use Rattle.fst_concat.proofs.trail_search.Way.begin.Goals as goal

pub returns : goal.returns
returns c =
    let one : c.push.new.self.items ≡ no_choices c.args.trees.now ∷ [] =
    c.in_ok-push.ensures.items ∙ rw c.new-pending.ensures.items (ap (λ (choices : List Choice). choices ∷ []) (c.from_vec.ensures ∙ c.in_ok-choices.ensures.items_if_clones_equal (λ choice same. same))) in
    record { under_way = λ n allowed total. (grind (arith, CompletesAll-start, all_cons, length-replicate)) }
