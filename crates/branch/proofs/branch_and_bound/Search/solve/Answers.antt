-- Each turn makes a split, and where none is made the answer is optimal.
use Rattle.std.proofs.Common.{ℕ, ◌≡◌, ◌+◌, ap, subst, sym, ◌∙◌, arith}
use Rattle.cert_tree.specs.Preorder.{split_count}
use Rattle.cert_tree.specs.declared.split.SplitOn.{SplitOn}
use Rattle.cert_tree.specs.Tree.{Tree}
use Rattle.branch.specs.Kinds.{AreOfKind}
use Rattle.branch.proofs.lemmas.SolvingLemmas.{took_none, took_split, solved_of, below_length}
use Rattle.branch.proofs.lemmas.LeadsLemmas.{leads_more, leads_of_kind}
use Rattle.branch.proofs.lemmas.EnoughLemmas.{enough_optimal}
use Rattle.branch.proofs.branch_and_bound.Search.solve.Goals as goal

pub loop-made-init : goal.loop-made-init
loop-made-init _ c = grind arith

pub loop-made-preserved : goal.loop-made-preserved
loop-made-preserved _ c =
    let opens = took_split c.loop-made.self c.split_one.new.self c.in_ok-split_one.field-0 c.in_ok-split_one.ensures.step c.in-Split.is in
    let before = c.loop-made.invariant in
    record {
      graph = opens.graph ∙ before.graph;
      first_length = opens.first_length ∙ before.first_length;
      count = opens.splits ∙ ap (λ (n : ℕ). n + 1) before.count;
      kind = opens.kind ∙ before.kind;
      leads = leads_more _ _ _ _ c.loop-made.self c.split_one.new.self before.kind before.graph before.leads opens;
    }

pub returns-in-Settled-clause-solved : goal.returns-in-Settled-clause-solved
returns-in-Settled-clause-solved _ c =
    grind (arith, took_none c.loop-made.self c.split_one.new.self c.in_ok-split_one.field-0 c.in_ok-split_one.ensures.step c.in-Settled.is, solved_of)

pub returns-in-Settled-clause-few : goal.returns-in-Settled-clause-few
returns-in-Settled-clause-few _ c =
    grind (arith, took_none c.loop-made.self c.split_one.new.self c.in_ok-split_one.field-0 c.in_ok-split_one.ensures.step c.in-Settled.is)

pub returns-in-Settled-clause-stopped : goal.returns-in-Settled-clause-stopped
returns-in-Settled-clause-stopped _ c =
    grind arith

pub returns-in-Settled-clause-below : goal.returns-in-Settled-clause-below
returns-in-Settled-clause-below _ c =
    grind arith

pub returns-in-Settled-clause-enough : goal.returns-in-Settled-clause-enough
returns-in-Settled-clause-enough _ c =
    grind arith

pub returns-clause-solved : goal.returns-clause-solved
returns-clause-solved _ c = grind (arith, solved_of)

pub returns-clause-few : goal.returns-clause-few
returns-clause-few _ c = grind arith

pub returns-clause-stopped : goal.returns-clause-stopped
returns-clause-stopped _ c = grind arith

pub returns-clause-below : goal.returns-clause-below
returns-clause-below _ c = grind (arith, below_length, solved_of)

pub returns-clause-enough : goal.returns-clause-enough
returns-clause-enough _ c = λ of_kind enough.
    let before = c.loop-made.invariant in
    let count : split_count c.finish-2.result.tree ≡ c.loop-made._made =
    ap (λ (t : Tree SplitOn). split_count t) c.finish-2.ensures.tree ∙ before.count in
    enough_optimal _ _ _ c.args.allowed c.finish-2.result (solved_of c.loop-made.self _ _ c.finish-2.result before.graph before.first_length c.finish-2.ensures.solved)
    (subst (AreOfKind _) (sym c.finish-2.ensures.tree) (leads_of_kind _ _ _ _ before.leads.0 _ _ before.leads.1 of_kind)) (λ stopped. omega arith) enough

pub returns-in-Settled-clause-plain : goal.returns-in-Settled-clause-plain
returns-in-Settled-clause-plain _ c =
    grind (arith, took_none c.loop-made.self c.split_one.new.self c.in_ok-split_one.field-0 c.in_ok-split_one.ensures.step c.in-Settled.is)

pub returns-clause-plain : goal.returns-clause-plain
returns-clause-plain _ c = grind arith
