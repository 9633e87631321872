use Rattle.std.proofs.Common.{ℕ, ◌+◌, arith, sym, ◌∙◌, subst, length, length-append, ◌∷◌, []}
use Rattle.std.specs.BTreeMap.{BTreeMap}
use Rattle.full_tree.specs.declared.code.Tree.{Tree}
use Rattle.fst_gen.specs.Store.{Stores}
use Rattle.fst_gen.specs.Kinds.{GrownBelow}
use Rattle.fst_gen.proofs.lemmas.Steps.{HasPrefix-ends, HasPrefix-grown, GrownBelow-given_up, GrownBelow-step, IsPrefix-of}
use Rattle.fst_gen.proofs.growth.+grow.Goals as goal
use Rattle.fst_gen.proofs.growth.+grow.Goals.{in-Some+in_ok-grow-in-Some+in-Heap-1, in-Some+in_ok-grow-in-Some+in-Inline-1, in-None}

pub returns-then-len-most : goal.returns-then-len-most
returns-then-len-most t c = HasPrefix-ends c.args.grid.now c.args.most c.args.prefix.now.root c.args.prefix.now.toward c.args.prefix.now.drops c.args.trees.now c.end_all.new.trees
    (omega (arith, c.len.ensures.value)) c.in_ok-end_all.ensures

pub grow-requires : goal.grow-requires
grow-requires t c =
    grind (arith, length-append c.args.prefix.now.drops (c.loop-drop.drop ∷ []), IsPrefix-of c.as_slice.result.now c.args.grid.now c.in-Some.longer (sym (c.as_slice.ensures ∙ c.points.ensures)) c.in-Some.ensures.some.is_prefix)

pub loop-drop-preserved : goal.loop-drop-preserved
loop-drop-preserved t c = elim c.match-with_drop.branch [
  | in-Some+in_ok-grow-in-Some+in-Heap-1 w ↦ subst (λ (ts : BTreeMap ℕ Tree). Stores c.args.grid.now c.args.most (GrownBelow c.args.prefix.now.root c.args.prefix.now.toward c.args.prefix.now.drops (length c.args.grid.now) (c.loop-drop.drop + 1)) c.args.trees.now ts) (sym w.trees-is) (GrownBelow-step c.args.grid.now c.args.most c.args.prefix.now.root c.args.prefix.now.toward c.args.prefix.now.drops w.in-Some.longer (length c.args.grid.now) c.loop-drop.drop
      c.args.trees.now c.loop-drop.trees _ w.in-Some.ensures.some.root w.in-Some.ensures.some.toward w.in-Some.ensures.some.drops
      c.loop-drop.invariant w.in_ok-grow-in-Some.ensures)
  | in-Some+in_ok-grow-in-Some+in-Inline-1 w ↦ subst (λ (ts : BTreeMap ℕ Tree). Stores c.args.grid.now c.args.most (GrownBelow c.args.prefix.now.root c.args.prefix.now.toward c.args.prefix.now.drops (length c.args.grid.now) (c.loop-drop.drop + 1)) c.args.trees.now ts) (sym w.trees-is) (GrownBelow-step c.args.grid.now c.args.most c.args.prefix.now.root c.args.prefix.now.toward c.args.prefix.now.drops w.in-Some.longer (length c.args.grid.now) c.loop-drop.drop
      c.args.trees.now c.loop-drop.trees _ w.in-Some.ensures.some.root w.in-Some.ensures.some.toward w.in-Some.ensures.some.drops
      c.loop-drop.invariant w.in_ok-grow-in-Some.ensures)
  | in-None w ↦ subst (λ (ts : BTreeMap ℕ Tree). Stores c.args.grid.now c.args.most (GrownBelow c.args.prefix.now.root c.args.prefix.now.toward c.args.prefix.now.drops (length c.args.grid.now) (c.loop-drop.drop + 1)) c.args.trees.now ts) (sym w.trees-is) (GrownBelow-given_up c.args.grid.now c.args.most c.args.prefix.now.root c.args.prefix.now.toward c.args.prefix.now.drops c.as_slice.result.now (length c.args.grid.now) c.loop-drop.drop
      c.args.trees.now c.loop-drop.trees (c.as_slice.ensures ∙ c.points.ensures) w.in-None.ensures.none c.loop-drop.invariant)
]

pub returns : goal.returns
returns t c = HasPrefix-grown c.args.grid.now c.args.most c.args.prefix.now.root c.args.prefix.now.toward c.args.prefix.now.drops c.loop-drop.drop c.args.trees.now c.loop-drop.trees
    (omega (arith, c.count-drop-end.ensures)) c.loop-drop.invariant
