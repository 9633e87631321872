-- Steps that pass, one after another, in two parts.
use Rattle.std.proofs.Common.{List, [], ◌∷◌, ◌++◌, refl, subst}
use Rattle.net_graph.specs.Graph.{Graph}
use Rattle.tree_judge.specs.Judged.{SoFar}
use Rattle.tree_judge.specs.Runs.{Runs, StepTold}

-- two runs, one after the other
pub Runs-append : (g : Graph) (s s' : SoFar) (xs ys : List StepTold) → Runs g s (xs ++ ys) s' →
    (m : SoFar) × Runs g s xs m × Runs g m ys s'
Runs-append g s s' [] ys runs = (s, refl, runs)
Runs-append g s s' (x ∷ xs) ys (m, passes, runs) =
    let rest = Runs-append g m s' xs ys runs in
    (rest.0, (m, passes, rest.1), rest.2)

-- .. make one
pub Runs-join : (g : Graph) (s m s' : SoFar) (xs ys : List StepTold) → Runs g s xs m → Runs g m ys s' →
    Runs g s (xs ++ ys) s'
Runs-join g s m s' [] ys first second = subst (λ x. Runs g x ys s') first second
Runs-join g s m s' (x ∷ xs) ys (n, passes, runs) second = (n, passes, Runs-join g n m s' xs ys runs second)
