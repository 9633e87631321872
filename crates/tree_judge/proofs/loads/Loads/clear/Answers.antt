use Rattle.std.proofs.Common.{ℕ, ◌≡◌, length, ◌∙◌, arith, length-set}
use Rattle.tree_judge.specs.ArcLoads.{both_loads}
use Rattle.tree_judge.proofs.lemmas.ArcLoads.{AreLoads-empty, below_still, listed_still, none_listed, zeros}
use Rattle.tree_judge.proofs.loads.Loads.clear.Goals as goal

pub set-requires : goal.set-requires
set-requires c =
    grind (arith, below_still c.loop-n.self-inside.listed.items c.pop.new.self.items c.in-Some.n (length c.args.self.now.there) c.in-Some.ensures.items c.loop-n.invariant.within)

pub set-requires-in-Some : goal.set-requires-in-Some
set-requires-in-Some c =
    grind (arith, below_still c.loop-n.self-inside.listed.items c.pop.new.self.items c.in-Some.n (length c.args.self.now.there) c.in-Some.ensures.items c.loop-n.invariant.within)

pub loop-n-preserved : goal.loop-n-preserved
loop-n-preserved c =
    let there = c.loop-n.self-inside.there in
    let back = c.loop-n.self-inside.back in
    let n : ℕ = c.in-Some.n in
    let (within, rest) = below_still c.loop-n.self-inside.listed.items c.pop.new.self.items n
    (length c.args.self.now.there) c.in-Some.ensures.items c.loop-n.invariant.within in
    rw (c.set.ensures, c.set-in-Some.ensures) record {
      there = length-set there n 0 ∙ c.loop-n.invariant.there;
      back = length-set back n 0 ∙ c.loop-n.invariant.back;
      room = c.pop.ensures.capacity ∙ c.loop-n.invariant.room;
      within = rest;
      listed = listed_still there back c.loop-n.self-inside.listed.items c.pop.new.self.items n c.in-Some.ensures.items
          (omega (arith, within, c.loop-n.invariant.there)) (omega (arith, within, c.loop-n.invariant.back))
          c.loop-n.invariant.listed;
    }

-- no edge is listed any more
empty : (c : goal.In_default) → (n : ℕ) → both_loads c.loop-n.self-inside.there c.loop-n.self-inside.back n ≡ 0
empty c = grind (arith, none_listed)

pub invariant_of-self : goal.invariant_of-self
invariant_of-self c = grind (arith, AreLoads-empty, empty c)

pub returns : goal.returns
returns c = grind (arith, zeros, empty)
