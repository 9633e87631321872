use Rattle.std.specs.Prelude.{◌≡◌, ◌+◌, ◌++◌, ◌∷◌, [], length, map, take, if◌then◌else◌}
use Rattle.std.specs.List.{range_with_len}
use Rattle.std.proofs.Common.{sym, ap, ◌∙◌, arith}
use Rattle.std.proofs.lemmas.List.{append-nil}
use Rattle.std.proofs.lemmas.List.FromFn.{map-range_with_len_more}
use Rattle.net_graph.specs.Members.{members_of}
use Rattle.net_graph.specs.MembersLaws.{members_of-more}
use Rattle.graph_reduce.specs.Reduction.{number_among}
use Rattle.graph_reduce.proofs.lemmas.LeftLists.{number_is, number_least}
use Rattle.graph_reduce.proofs.left.Numbering.of.Goals as goal
use Rattle.graph_reduce.proofs.left.Numbering.of.Goals.{then-has+in_ok-push-2, else-has}

pub overflow_cast-len-in-loop-v : goal.overflow_cast-len-in-loop-v
overflow_cast-len-in-loop-v c =
    grind (arith, number_is c.args.nodes.now c.loop-v.v, number_least c.args.nodes.now c.loop-v.v)

pub loop-v-preserved : goal.loop-v-preserved
loop-v-preserved c =
    let v = c.loop-v.v in
    let number : c.len-in-loop-v.result ≡ number_among c.args.nodes.now v = c.len-in-loop-v.ensures
    ∙ c.loop-v.origins.ok.0 ∙ ap length c.loop-v.invariant.origins ∙ number_is c.args.nodes.now v in
    let more = members_of-more c.args.nodes.now v (omega (arith, c.len-v-end.ensures, c.loop-v-test.true)) in
    let zero_more : 0 + v ≡ v = omega arith in
    record {
      origins = elim c.if-has.branch [
        | then-has+in_ok-push-2 w ↦ ap (λ o. o.items) w.origins-is ∙ w.in_ok-push-2.ensures.items
            ∙ ap (λ xs. xs ++ v ∷ []) c.loop-v.invariant.origins
            ∙ sym (more ∙ ap (λ b. members_of (take v c.args.nodes.now) ++ (if b then v ∷ [] else []))
            (sym c.has.ensures.within ∙ w.if-has.true))
        | else-has w ↦ ap (λ o. o.items) w.origins-is ∙ c.loop-v.invariant.origins
            ∙ sym (more ∙ ap (λ b. members_of (take v c.args.nodes.now) ++ (if b then v ∷ [] else []))
            (sym c.has.ensures.within ∙ w.if-has.false) ∙ append-nil (members_of (take v c.args.nodes.now)))
      ];
      numbers = c.in_ok-push.ensures.items ∙ ap (λ xs. xs ++ c.len-in-loop-v.result ∷ []) c.loop-v.invariant.numbers
          ∙ ap (λ n. map (number_among c.args.nodes.now) (range_with_len 0 v) ++ n ∷ []) number
          ∙ sym (map-range_with_len_more (number_among c.args.nodes.now) 0 v v zero_more);
    }
