use Rattle.std.proofs.Common.{◌≡◌, ◌∙◌, ◌+◌, ◌<◌, List, [], ◌∷◌, ◌++◌, length, take, slice_get, Some, get_or, ap, sym, arith, append-nil}
use Rattle.std.proofs.lemmas.List.{take_all, take_more, length-take-le}
use Rattle.std.proofs.lemmas.Option.{same_Some, slice_get-get_or}
use Rattle.net_graph.specs.declared.edge.Edge.{Edge}
use Rattle.net_graph.specs.declared.state.EdgeState.{EdgeState}
use Rattle.net_graph.specs.declared.state.EdgeState.TheVariants.{Inside}
use Rattle.net_graph.specs.Decision.{states_of}
use Rattle.dual_ascent.specs.Carried.{inside_edges}
use Rattle.dual_ascent.proofs.lemmas.CarriedLemmas.{inside_one, inside_edges-push, inside_edges-at_ends}
use Rattle.dual_ascent.proofs.carried.list_inside.Goals as goal
use Rattle.dual_ascent.proofs.carried.list_inside.Goals.{in-Inside+in_ok-push, in_default}

pub loop-n-preserved : goal.loop-n-preserved
loop-n-preserved c =
    let edges = c.args.g.now.edges in
    let states : List EdgeState = states_of c.args.g.now c.args.d.now in
    let n = c.loop-n.n in
    let none : Edge = record { a = 0; b = 0; length = 0 } in
    let e : Edge = get_or edges n none in
    let within : n < length edges = omega (arith, c.edge_count-n-end.ensures.count) in
    let at : slice_get edges n ≡ Some e = slice_get-get_or edges n none within in
    let size : length (take n edges) ≡ n = length-take-le n edges (omega arith) in
    let state : slice_get states (length (take n edges)) ≡ Some c.state.result = ap (slice_get states) size ∙ c.state.ensures in
    let more : inside_edges (take (n + 1) edges) states ≡ inside_edges (take n edges) states ++ inside_one e c.state.result =
    ap (λ es. inside_edges es states) (take_more edges n none within) ∙ inside_edges-push (take n edges) states e c.state.result state in
    elim c.match-state.branch [
      | in-Inside+in_ok-push w ↦
          let is : c.state.result ≡ Inside = w.in-Inside.is in
          let edge : w.edge.result ≡ e = same_Some w.edge.result e (sym w.edge.ensures.edge ∙ at) in
          ap (λ l. l.items) w.list-is ∙ w.in_ok-push.ensures.items ∙ ap (λ x. c.loop-n.list.items ++ x ∷ []) edge ∙ ap (λ xs. xs ++ e ∷ []) c.loop-n.invariant
          ∙ ap (λ s. inside_edges (take n edges) states ++ inside_one e s) (sym is) ∙ sym more
      | in_default w ↦
          ap (λ l. l.items) w.list-is ∙ c.loop-n.invariant ∙ sym (append-nil (inside_edges (take n edges) states))
          ∙ ap (λ xs. inside_edges (take n edges) states ++ xs) (sym (grind arith)) ∙ sym more
    ]

pub returns : goal.returns
returns c = grind (arith, take_all, inside_edges-at_ends c.args.g.now.edges c.args.d.now.edges c.args.d.now.vertices)
