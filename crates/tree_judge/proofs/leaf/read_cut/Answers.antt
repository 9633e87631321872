use Rattle.std.proofs.Common.{Option, Some, None, IfNone, IfSome, arith}
use Rattle.tree_judge.specs.Cuts.{cut_of}
use Rattle.tree_judge.proofs.lemmas.Leaves.{PacksCut-kept}
use Rattle.tree_judge.proofs.leaf.read_cut.Goals as goal

-- what follows from what clauses say where there is no value, and where there is one
IfNone-then : {X : Type 0} (r : Option X) {P Q : Type 0} → IfNone r P → (P → Q) → IfNone r Q
IfNone-then None p then = then p
IfNone-then (Some x) p then = tt

IfSome-then : {X : Type 0} (r : Option X) {P Q : X → Type 0} → IfSome r P → ((x : X) → P x → Q x) → IfSome r Q
IfSome-then None p then = tt
IfSome-then (Some x) p then = then x p

pub returns-in-Some-clause-fault : goal.returns-in-Some-clause-fault
returns-in-Some-clause-fault g c cuts leaf = c.in-Some.ensures.fault cuts c.args.weight

pub returns-clause-passes : goal.returns-clause-passes
returns-clause-passes g c =
    IfNone-then c.load_arcs.result c.load_arcs.ensures.leaf
    (λ more cuts leaf. (
      PacksCut-kept c.args.g.now cuts (cut_of c.args.weight c.args.members.now) c.args.way.now.decided
          c.load_arcs.new.loads c.in_default.ensures.passes (more cuts leaf),
      more cuts leaf,
    ))

pub returns-clause-fault : goal.returns-clause-fault
returns-clause-fault g c = grind (arith, IfSome-then)
