-- A code in form names at least two places, each once.
use Rattle.std.proofs.Common.{ℕ, ◌<◌, ◌≤◌, List, All, length, length-append, arith}
use Rattle.std.proofs.lemmas.List.Elements.{All-contains, All-contains_itself}
use Rattle.full_tree.specs.declared.code.TreeCode.{TreeCode}
use Rattle.full_tree.specs.declared.code.TreeCode.TheVariants.{Long, Cross}
use Rattle.full_tree.specs.Code.{named_places, ascending_places}
use Rattle.full_tree.specs.MembersLaws.{length-ascending_places, Contains-from_ascending_places}
use Rattle.fst_concat.proofs.laws.trees_in_form_have_members.Goals as goal

some_named : (code : TreeCode) → 2 ≤ length (named_places code)
some_named (Long root toward drops side tip) = simp length-append (omega arith)
some_named (Cross west south east north) = omega arith

below_ascending : (n : ℕ) (ps : List ℕ) → All (λ i. i < n) ps → All (λ i. i < n) (ascending_places ps)
below_ascending n ps below = λ k d within.
    All-contains (λ i. i < n) ps _ below (Contains-from_ascending_places ps _ (All-contains_itself (ascending_places ps) k d within))

pub returns : goal.returns
returns c = λ ps tree form. record {
  few = form.members;
  some = omega (arith, some_named tree.code, length-ascending_places (named_places tree.code) form.members.distinct);
  below = below_ascending (length ps) (named_places tree.code) form.terminals;
}
