use Rattle.graph_reduce.proofs.lemmas.Clearing.{clear_later}
use Rattle.std.specs.Prelude.{◌≡◌, nat_lt, if◌then◌else◌}
use Rattle.std.proofs.Common.{◌∙◌, ap, arith}
use Rattle.graph_reduce.specs.Rules.{without_edge}
use Rattle.graph_reduce.proofs.lemmas.Longer.{Pair, longer_chosen, later_chosen, leads_dropped, clear_dropped}
use Rattle.graph_reduce.proofs.tidy.drop_longer.Goals as goal
use Rattle.graph_reduce.proofs.tidy.drop_longer.Goals.{After-drop_edge, then-y-x, else-y-x}

-- the two edges
pair : (c : After-drop_edge) → Pair c.args.work.now c.args.place c.args.later c.in-Some-Some.x c.in-Some-Some.y
pair c = record { first = c.in-Some-Some.ensures; second = c.in-Some-Some.ensures' }

-- the place of the longer
chosen : (c : After-drop_edge) → c.if-y-x.drop_edge ≡
    (if nat_lt c.in-Some-Some.y.length c.in-Some-Some.x.length then c.args.place else c.args.later)
chosen c = elim c.if-y-x.branch [
  | then-y-x w ↦ w.drop_edge-is
      ∙ longer_chosen c.in-Some-Some.y.length c.in-Some-Some.x.length c.args.place c.args.later w.if-y-x.true
  | else-y-x w ↦ w.drop_edge-is
      ∙ later_chosen c.in-Some-Some.y.length c.in-Some-Some.x.length c.args.place c.args.later w.if-y-x.false
]

pub returns-after-y-x-clause-leads : goal.returns-after-y-x-clause-leads
returns-after-y-x-clause-leads c = leads_dropped c.args.work.now c.args.place c.args.later c.in-Some-Some.x
    c.in-Some-Some.y (pair c) c.requires.order c.requires.clear c.if-have_same_ends.ensures.same c.drop_edge.new.self
    (c.drop_edge.ensures ∙ ap (without_edge c.args.work.now) (chosen c))

pub returns-after-y-x-clause-clear : goal.returns-after-y-x-clause-clear
returns-after-y-x-clause-clear c = clear_dropped c.args.work.now c.args.place c.args.later c.in-Some-Some.x
    c.in-Some-Some.y c.requires.clear c.drop_edge.new.self
    (c.drop_edge.ensures ∙ ap (without_edge c.args.work.now) (chosen c))

pub returns-else-have_same_ends-clause-clear : goal.returns-else-have_same_ends-clause-clear
returns-else-have_same_ends-clause-clear c = grind (arith, clear_later)
